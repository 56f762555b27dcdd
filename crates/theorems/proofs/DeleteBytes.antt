-- The playout host's delete frame: 29 bytes, what the encoder writes of one delete, and appended to a log it is that delete.
use Rattle.std.specs.Prelude.{Ok}
use Prim.Native.Nat.{ℕ, zero, suc, ◌≤◌, ◌<◌, ◌^◌}
use mathlib.Core.Path.{◌≡◌, refl, ap, ◌∙◌}
use mathlib.Core.Bool.{Bool, false}
use mathlib.Core.List.{List, [], ◌∷◌, ◌++◌}
use native.Mathlib.Nat.{mul-zero}
use native.Mathlib.Omega.{arith}
use lib.Dec.{ltb, eqb, eqb-suc-zero}
use lib.ListN.{length, take, length-append}
use Rattle.fields.specs.Fields.{Bytes, bytes}
use Rattle.fields.proofs.Numbers.{length_bytes}
use Rattle.config.specs.Limits.{max_frame}
use Rattle.config.specs.Settings.{validate}
use Rattle.config.specs.declared.Config.{Config}
use Rattle.rows.specs.Rows.{operation_of}
use Rattle.rows.proofs.RowLaws.{operation_of_parts}
use Rattle.refusal.specs.declared.Refusal.TheVariants.{WrongLength, WrongSequence, OutputTooShort}
use Rattle.layout.specs.Layout.{frame_length}
use Rattle.meaning.specs.Replay.{remove, Frame, tail}
use Rattle.rows.specs.declared.Row.{Row}
use Rattle.meaning.specs.Log.{frames_of}
use Rattle.meaning.specs.Encoder.{asked_from, put_count, encode_delete, encode_all, sealed, words_checked, encode_operations, encode_valid, encode, delete_frame}
use Rattle.layout.specs.declared.Shape.TheVariants.{Single}
use Rattle.theorems.specs.FrameLists.{last_sequence}
use Rattle.theorems.proofs.FrameBack.{Framed, frame_bytes_lem}
use Rattle.theorems.specs.FrameRows.{Follows}
use Rattle.theorems.specs.Requested.{meant, operation_meant, requested}
use Rattle.theorems.proofs.Appended.{any_frame_appended}
use borrow.Author.Tests.{le-ltb}
use Rattle.refusal.proofs.Results.{pass}
use Rattle.meaning.proofs.Lengths.{length_frame}

pub length_delete_payload : (sequence id : ℕ) → length (2 ∷ (bytes 8 sequence ++ bytes 8 id)) ≡ 17
length_delete_payload sequence id = omega (arith, length-append (bytes 8 sequence) (bytes 8 id), length_bytes 8 sequence, length_bytes 8 id)

pub length_delete : (sequence id : ℕ) → length (delete_frame sequence id) ≡ 29
length_delete sequence id = omega (arith, length_frame (2 ∷ (bytes 8 sequence ++ bytes 8 id)), length_delete_payload sequence id)

pub delete_framed : (c : Config) (sequence id : ℕ) → 0 < sequence → sequence < 256 ^ 8 → id < 256 ^ 8 → Framed c Single sequence (remove id ∷ [])
delete_framed c sequence id p q r =
    let n = length_delete_payload sequence id in
    record { positive = p; sequence_fits = q; count = refl; loggable = (r, tt); short = omega arith }

pub delete_bytes : (sequence id : ℕ) → Bytes (delete_frame sequence id)
delete_bytes sequence id = frame_bytes_lem Single sequence (remove id ∷ []) (tt, tt)

pub delete_appended : (c : Config) (sequence id : ℕ) → 0 < sequence → sequence < 256 ^ 8 → id < 256 ^ 8
    → (log : List ℕ) (fs : List (Frame Row)) → frames_of c log ≡ record { frames = fs; ended = tail (length log) } → Follows (last_sequence 0 fs) sequence
    → frames_of c (log ++ delete_frame sequence id)
    ≡ record {
      frames = fs ++ (record { start = length log; sequence = sequence; shape = Single; operations = remove id ∷ [] } ∷ []);
      ended = tail (length (log ++ delete_frame sequence id));
    }
delete_appended c sequence id p q r log fs e follows = any_frame_appended Single c sequence (remove id ∷ []) (delete_framed c sequence id p q r) log fs e follows

-- it is what the encoder writes of one delete
no_put : (id : ℕ) → (operation_of id 0).put ≡ false
no_put id = ap (λ x. x.put) (operation_of_parts id 0)

pub delete_encodes : (c : Config) (sequence id : ℕ) (captions : List ℕ) (room : ℕ) → validate c ≡ Ok tt → 0 < sequence → 29 ≤ room
    → encode Single c sequence (id ∷ 0 ∷ []) [] captions room ≡ Ok (delete_frame sequence id)
unfolding encode encode_valid words_checked encode_operations encode_all encode_delete sealed put_count asked_from
delete_encodes c sequence id captions room v p r =
    let payload : List ℕ = 2 ∷ (bytes 8 sequence ++ bytes 8 id) in
    let n : length payload ≡ 17 = length_delete_payload sequence id in
    let few : length payload ≤ max_frame = omega arith in
    let fits : frame_length (length payload) ≤ room = omega arith in
    rw (v, no_put id, mul-zero c.dimensions)
    (pass WrongSequence (eqb sequence 0) _ (positive sequence p)
    ∙ pass WrongLength (ltb max_frame (length payload)) _ (le-ltb max_frame (length payload) few)
    ∙ pass OutputTooShort (ltb room (frame_length (length payload))) _ (le-ltb room (frame_length (length payload)) fits))
  where
    positive : (n : ℕ) → 0 < n → eqb n 0 ≡ false
    positive zero h = absurd (omega arith)
    positive (suc n) h = eqb-suc-zero n

pub delete_requested : (c : Config) (id : ℕ) (coords captions : List ℕ) → requested c (id ∷ 0 ∷ []) coords captions ≡ remove id ∷ []
unfolding meant asked_from
delete_requested c id coords captions =
    ap (λ (b : Bool). operation_meant b (take c.dimensions coords) captions (record { id = id; word = 0 }) ∷ []) (no_put id)
