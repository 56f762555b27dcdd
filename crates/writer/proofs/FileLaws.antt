-- The file by the parts that the writer puts: its magic, its header and its records, and how long they are.
use Prim.Native.Nat.{ℕ}
use native.Mathlib.Omega.{arith}
use mathlib.Core.Path.{◌≡◌, refl, sym, ap, ◌∙◌}
use mathlib.Core.Bool.{false}
use mathlib.Core.List.{List, ◌++◌, map, append_assoc}
use lib.ListN.{length, length-append, length-map}
use Rattle.crc32.specs.Crc.{crc_of}
use Rattle.fields.specs.Fields.{bytes}
use Rattle.fields.proofs.Numbers.{length_bytes}
use Rattle.config.specs.declared.Config.{Config}
use Rattle.layout.specs.Layout.{magic, magic_number, header_length}
use Rattle.layout.specs.declared.Extent.{Extent}
use Rattle.layout.specs.declared.Version.TheVariants.{Two}
use Rattle.rows.specs.declared.Row.{Row}
use Rattle.meaning.specs.Records.{seen}
use Rattle.meaning.specs.File.{header_bytes, file_of}
use Rattle.meaning.specs.Writer.{any_misfit, written, file_length}
use Rattle.writer.specs.RowsWritten.{rows_bytes, settings_bytes}
use Rattle.writer.proofs.WrittenLaws.{length_rows_bytes}

pub magic_bytes : bytes 8 magic_number ≡ magic
unfolding bytes
magic_bytes = refl

pub length_settings : (c : Config) → length (settings_bytes c) ≡ 28
length_settings c = simp (length-append, length_bytes)

pub header_parts : (c : Config) (sequence count : ℕ)
    → ((settings_bytes c ++ bytes 8 c.seed) ++ bytes 8 sequence) ++ bytes 8 count ≡ header_bytes c sequence count
unfolding header_bytes
header_parts c sequence count = simp append_assoc

pub length_header : (c : Config) (sequence count : ℕ) → length (header_bytes c sequence count) ≡ header_length Two
unfolding header_bytes
length_header c sequence count = simp (length-append, length_bytes)

module _ (extent : Extent) (c : Config) (sequence : ℕ) (snapshot log : List ℕ) (rows : List Row) where
  -- a header, the rows' bytes and the CRC of both are the file
  pub file_parts : (count : ℕ) → count ≡ length (written extent rows)
      → let body = header_bytes c sequence count ++ rows_bytes extent c.dimensions snapshot log rows in
      body ++ bytes 4 (crc_of body) ≡ file_of c sequence (map (seen c.dimensions snapshot log) (written extent rows))
  unfolding file_of
  file_parts count e =
      ap (λ (k : ℕ). (header_bytes c sequence k ++ rows_bytes extent c.dimensions snapshot log rows) ++ bytes 4 (crc_of (header_bytes c sequence k ++ rows_bytes extent c.dimensions snapshot log rows)))
      (e ∙ sym (length-map (written extent rows) (seen c.dimensions snapshot log)))

  pub length_file : any_misfit c snapshot log rows ≡ false
      → length (file_of c sequence (map (seen c.dimensions snapshot log) (written extent rows))) ≡ file_length c.dimensions (written extent rows)
  length_file e =
      sym (ap length (file_parts (length (written extent rows)) refl))
      ∙ simp (length-append, length_bytes, length_header, length_rows_bytes extent c snapshot log rows e) (omega arith)
