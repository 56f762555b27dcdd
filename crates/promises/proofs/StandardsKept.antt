-- What `specs/ByStandards.antt` says: each answer is its definition's, and that is the standard's.
use Prim.Native.Nat.{ℕ, ◌*◌}
use mathlib.Core.Path.{◌≡◌, sym, ap, ◌∙◌, subst}
use mathlib.Core.Bool.{Bool}
use mathlib.Core.List.{List}
use Rattle.fields.specs.Fields.{part}
use Rattle.utf8.specs.Utf8.{Octets, is_utf8}
use Rattle.coordinates.specs.Coordinates.{patterns}
use Rattle.theorems.specs.Standards.{Decides, LongestFront}
use Rattle.theorems.proofs.StandardsMet.{standards}
use Rattle.promises.specs.ByStandards.{ByStandards}

decides : (s : List ℕ) (r : Bool) → r ≡ is_utf8 s → Decides r (Octets s)
decides s r e = subst (λ (x : Bool). Decides x (Octets s)) (sym e) (standards.utf8_octets s)

pub by_standards : ByStandards
by_standards =
    record {
      is_utf8_decides = λ κs bytes r e. decides bytes.now r e;
      host_utf8_decides = λ κs bytes r e. decides bytes.now r e;
      valid_front_longest = λ κs bytes r e. subst (LongestFront bytes.now) (sym e) (standards.front_longest bytes.now);
      check_bits_by_values = λ κs bits cosine r e. e ∙ standards.vector_by_values cosine bits.now;
      check_coordinates_by_values = λ κs bytes at d cosine r e. e ∙ standards.vector_by_values cosine (patterns d (part bytes.now at (4 * d)));
    }
