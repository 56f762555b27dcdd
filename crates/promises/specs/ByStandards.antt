-- What the tests of coordinates and of captions answer, by the standards themselves (`Standards` of `theorems`): the values that IEEE 754
-- has for the bits, and the grammar of RFC 3629.
use Rattle.refusal.specs.Refusal.{Answer}
use Rattle.std.specs.Prelude.{ℕ, ◌*◌, ◌≡◌, Bool, List, map}
use Rattle.std.specs.Borrow.{Bor}
use Rattle.fields.specs.Fields.{part}
use Rattle.utf8.specs.Utf8.{Octets}
use Rattle.coordinates.specs.Coordinates.{patterns}
use Rattle.theorems.specs.Standards.{value_of, values_test, Decides, LongestFront}
use Rattle.utf8.proofs.is_utf8.Reads as IsUtf8Call
use Rattle.utf8.proofs.valid_front.Reads as ValidFrontCall
use Rattle.playout.proofs.lambspool_is_utf8.Reads as HostUtf8Call
use Rattle.coordinates.proofs.check_bits.Reads as CheckBitsCall
use Rattle.coordinates.proofs.check_coordinates.Reads as CheckCoordinatesCall

pub record ByStandards : Type 0 where
  -- is_utf8(bytes), and the C host's
  pub is_utf8_decides : (κs : _) (bytes : Bor (List ℕ)) (r : Bool) → IsUtf8Call.Learnt κs (bytes, tt) r (bytes, tt) → Decides r (Octets bytes.now)
  pub host_utf8_decides : (κs : _) (bytes : Bor (List ℕ)) (r : Bool) → HostUtf8Call.Learnt κs (bytes, tt) r (bytes, tt) → Decides r (Octets bytes.now)
  -- valid_front(bytes)
  pub valid_front_longest : (κs : _) (bytes : Bor (List ℕ)) (r : ℕ) → ValidFrontCall.Learnt κs (bytes, tt) r (bytes, tt) → LongestFront bytes.now r
  -- check_bits(bits, cosine)
  pub check_bits_by_values : (κs : _) (bits : Bor (List ℕ)) (cosine : Bool) (r : Answer (Unit {0}))
      → CheckBitsCall.Learnt κs (bits, (cosine, tt)) r (bits, (cosine, tt)) → r ≡ (values_test cosine (map value_of bits.now))
  -- check_coordinates(bytes, at, d, cosine)
  pub check_coordinates_by_values : (κs : _) (bytes : Bor (List ℕ)) (at d : ℕ) (cosine : Bool) (r : Answer (Unit {0}))
      → CheckCoordinatesCall.Learnt κs (bytes, (at, (d, (cosine, tt)))) r (bytes, (at, (d, (cosine, tt))))
      → r ≡ (values_test cosine (map value_of (patterns d (part bytes.now at (4 * d)))))
