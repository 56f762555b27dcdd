-- A frame around its payload, as it is written: the stores that seal it.
use mathlib.Core.Path.{◌≡◌, sym, ap, ap₂, ◌∙◌}
use mathlib.Core.List.{List, [], ◌∷◌, ◌++◌, append_assoc}
use Prim.Native.Nat.{ℕ, ◌+◌, ◌%◌, ◌≤◌, ◌<◌}
use native.Mathlib.Omega.{arith}
use lib.ListN.{length, take, drop, length-append}
use lib.Seq.{take_at}
use Rattle.crc32.specs.Crc.{crc_of}
use Rattle.fields.specs.Fields.{part, bytes}
use Rattle.fields.specs.Placed.{placed}
use Rattle.fields.proofs.Parts.{length_part}
use Rattle.fields.proofs.Numbers.{length_bytes}
use Rattle.fields.proofs.PlacedLaws.{placed_front, placed_keep, placed_over, part_placed, then_placed}
use Rattle.meaning.specs.Encoder.{frame_bytes}
use Rattle.meaning.proofs.Lengths.{length_frame}

-- a byte as a field writer writes it
pub one_byte : (v : ℕ) → v < 256 → bytes 1 v ≡ v ∷ []
unfolding bytes
one_byte v h = let e : v % 256 ≡ v = omega arith in ap (λ (b : ℕ). b ∷ []) e

-- its length, the CRC of that, the payload, its CRC
frame_parts : (payload : List ℕ) (n : ℕ) → length payload ≡ n
    → bytes 4 n ++ bytes 4 (crc_of (bytes 4 n)) ++ payload ++ bytes 4 (crc_of payload) ≡ frame_bytes payload
unfolding frame_bytes
frame_parts payload n h =
    append_assoc (bytes 4 n ++ bytes 4 (crc_of (bytes 4 n))) payload (bytes 4 (crc_of payload))
    ∙ append_assoc (bytes 4 n) (bytes 4 (crc_of (bytes 4 n))) (payload ++ bytes 4 (crc_of payload))
    ∙ ap (λ (k : ℕ). bytes 4 k ++ (bytes 4 (crc_of (bytes 4 k)) ++ (payload ++ bytes 4 (crc_of payload)))) (sym h)

-- three stores seal the payload that stands at 8
pub seal_stores : (o one two three : List ℕ) (n first whole : ℕ) → n + 12 ≤ length o
    → one ≡ placed 0 (bytes 4 n) o → first ≡ crc_of (take 4 one) → two ≡ placed 4 (bytes 4 first) one
    → whole ≡ crc_of (part o 8 n) → three ≡ placed (n + 8) (bytes 4 whole) two → three ≡ placed 0 (frame_bytes (part o 8 n)) o
seal_stores o one two three n first whole h e1 first_is e2 whole_is e3 =
    let A = bytes 4 n in
    let B = bytes 4 first in
    let payload = part o 8 n in
    let A4 = length_bytes 4 n in
    let eight : 8 ≡ 0 + length (A ++ B) = omega (arith, length-append A B, length_bytes 4 first) in
    let crc_is : first ≡ crc_of A = first_is ∙ ap crc_of (ap (take 4) (e1 ∙ placed_front A o) ∙ take_at A (drop (length A) o) 4 A4) in
    let two_is : two ≡ placed 0 (A ++ B ++ payload) o =
    then_placed 0 A B o one two 4 (omega arith) e1 (omega arith) e2 ∙ placed_keep 0 (A ++ B) o n (omega arith)
    ∙ ap (λ (k : ℕ). placed 0 (A ++ B ++ part o k n) o) (sym eight) in
    let size : length payload ≡ n = length_part o 8 n (omega arith) in
    let end : n + 8 ≡ 0 + length (A ++ B ++ payload) = omega (arith, length-append (A ++ B) payload) in
    then_placed 0 (A ++ B ++ payload) (bytes 4 whole) o two three (n + 8) (omega arith) two_is end e3
    ∙ ap (λ (l : List ℕ). placed 0 l o)
    (ap₂ (λ (x y : ℕ). A ++ bytes 4 x ++ payload ++ bytes 4 y) crc_is whole_is ∙ frame_parts payload n size)

-- a payload placed behind 8, and the seal around it
pub sealed_payload : (o B one two : List ℕ) (n : ℕ) → length B ≡ n → n + 12 ≤ length o → one ≡ placed 8 B o
    → two ≡ placed 0 (frame_bytes (part one 8 n)) one → two ≡ placed 0 (frame_bytes B) o
sealed_payload o B one two n size h e s =
    let is : part one 8 n ≡ B = ap₂ (λ (l : List ℕ) (k : ℕ). part l 8 k) e (sym size) ∙ part_placed 8 B o (omega arith) in
    s ∙ ap₂ (λ (p l : List ℕ). placed 0 (frame_bytes p) l) is e ∙ placed_over 8 B (frame_bytes B) o (omega arith) (omega (arith, length_frame B))
