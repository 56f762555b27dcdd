-- The envelope that stands at a byte of the log: what it says of a payload, and that a frame is read by it.
use Rattle.std.specs.Prelude.{Option, Some, None, Ok, Err}
use mathlib.Core.Path.{◌≡◌, refl}
use mathlib.Core.Bool.{Bool, true, false, cond}
use mathlib.Core.List.{List}
use Prim.Native.Nat.{ℕ, ◌+◌, ◌-◌}
use native.Mathlib.Omega.{arith}
use borrow.Author.Tests.{ltb-false, ne_eqb}
use lib.Dec.{ltb}
use lib.ListN.{length}
use Rattle.crc32.specs.Crc.{crc_of}
use Rattle.fields.specs.Fields.{part, num}
use Rattle.config.specs.declared.Config.{Config}
use Rattle.layout.specs.Layout.{frame_head, frame_length}
use Rattle.refusal.specs.Refusal.{Answer, ◌>>=◌}
use Rattle.refusal.specs.declared.Refusal.TheVariants.{WrongLengthCrc}
use Rattle.meaning.specs.Log.{too_little, frame_read, frame_at, with_length, length_at, payload_at}
use Rattle.meaning.proofs.FrameRead.{length_read}
use Rattle.frames.specs.Envelope.{payload_in, envelope_at, frame_within, PayloadThere}

pub length_crc_wrong : (log : List ℕ) (at : ℕ) → (crc_of (part log at 4) ≡ num log (at + 4) 4 → ⊥) → length_at log at ≡ Err WrongLengthCrc
unfolding length_at
length_crc_wrong log at n = simp (ne_eqb _ _ n)

-- a payload's envelope: the payload and its CRC are all there
pub payload_there : (log : List ℕ) (at n : ℕ) → envelope_at log at ≡ Ok (Some n) → PayloadThere log at n
unfolding envelope_at
payload_there log at n e = first (ltb (length log - at) frame_head) e
  where
    last : (m : ℕ) → length_at log at ≡ Ok m → (t : Bool) → ltb (length log - at) (frame_length m) ≡ t
        → ◌≡◌ {A = Answer (Option ℕ)} (Ok (cond t None (Some m))) (Ok (Some n)) → PayloadThere log at n
    last m h true k e = absurd (let z : ◌≡◌ {A = ℕ} 0 1 = cc in omega arith)
    last m h false k e =
        let is : m ≡ n = cc in
        let b = length_read log at m h in
        let least = b.least in
        let most = b.most in
        let left = ltb-false (length log - at) (frame_length m) k in
        record { low = omega arith; high = omega arith; there = omega arith }

    second : (r : Answer ℕ) → length_at log at ≡ r → (r >>= λ m. Ok (payload_in (length log - at) m)) ≡ Ok (Some n) → PayloadThere log at n
    second (Ok m) h e = last m h (ltb (length log - at) (frame_length m)) refl e
    second (Err why) h e = absurd (let z : ◌≡◌ {A = ℕ} 0 1 = cc in omega arith)

    first : (t : Bool) → cond t (Ok None) (length_at log at >>= λ m. Ok (payload_in (length log - at) m)) ≡ Ok (Some n) → PayloadThere log at n
    first true e = absurd (let z : ◌≡◌ {A = ℕ} 0 1 = cc in omega arith)
    first false e = second (length_at log at) refl e

-- a frame is read by its envelope
pub frame_within_lem : (c : Config) (log : List ℕ) (previous at : ℕ) → frame_at c log previous at ≡ frame_within c log previous at (envelope_at log at)
unfolding frame_at envelope_at
frame_within_lem c log previous at = first (ltb (length log - at) frame_head) (length_at log at)
  where
    last : (n : ℕ) (t : Bool) → cond t too_little (frame_read (at + frame_length n) (payload_at c log previous at n))
        ≡ frame_within c log previous at (Ok (cond t None (Some n)))
    last n true = refl
    last n false = refl

    first : (t : Bool) (r : Answer ℕ)
        → cond t too_little (with_length c log previous at r)
        ≡ frame_within c log previous at (cond t (Ok None) (r >>= λ n. Ok (payload_in (length log - at) n)))
    first true r = refl
    first false (Ok n) = last n (ltb (length log - at) (frame_length n))
    first false (Err why) = refl
