-- How long what is written is: a record, a header, a frame; and how many operations are asked for.
use Prim.Native.Nat.{ℕ, zero, suc, ◌*◌}
use native.Mathlib.Omega.{arith}
use mathlib.Core.Path.{◌≡◌, refl, ap}
use mathlib.Core.List.{List}
use lib.ListN.{length, length-append}
use Rattle.fields.proofs.Numbers.{length_bytes}
use Rattle.config.specs.declared.Config.{Config}
use Rattle.layout.specs.Layout.{header_length, record_length, frame_length}
use Rattle.layout.specs.declared.Version.TheVariants.{Two}
use Rattle.meaning.specs.Records.{Record}
use Rattle.meaning.specs.File.{record_bytes, header_bytes}
use Rattle.meaning.specs.Encoder.{asked_from, frame_bytes}

pub length_record : (d : ℕ) (r : Record) → length r.vector ≡ 4 * d → length (record_bytes r) ≡ record_length d (length r.caption)
length_record d r h = simp (length-append, length_bytes, h) (omega arith)

pub length_header : (c : Config) (sequence count : ℕ) → length (header_bytes c sequence count) ≡ header_length Two
unfolding header_bytes
length_header c sequence count = simp (length-append, length_bytes)

pub length_frame : (payload : List ℕ) → length (frame_bytes payload) ≡ frame_length (length payload)
unfolding frame_bytes
length_frame payload = simp (length-append, length_bytes) (omega arith)

pub length_asked : (n k : ℕ) (words : List ℕ) → length (asked_from n k words) ≡ n
unfolding asked_from
length_asked zero k words = refl
length_asked (suc n) k words = ap suc (length_asked n (suc k) words)
