-- `write_file` puts the header, the records and the CRC of both one behind the other.
use Prim.Native.Nat.{ℕ, ◌+◌, ◌≤◌}
use native.Mathlib.Omega.{arith}
use mathlib.Core.Path.{◌≡◌, refl, sym, ap, ap₂, ◌∙◌}
use mathlib.Core.List.{List, ◌++◌}
use lib.ListN.{length, take}
use Rattle.crc32.specs.Crc.{crc_of}
use Rattle.fields.specs.Fields.{bytes}
use Rattle.fields.specs.Placed.{placed}
use Rattle.fields.proofs.PlacedLaws.{take_placed}
use Rattle.layout.specs.Layout.{header_length}
use Rattle.layout.specs.declared.Version.TheVariants.{Two}
use Rattle.meaning.specs.Tables.{rows_in}
use Rattle.meaning.specs.File.{header_bytes}
use Rattle.writer.specs.RowsWritten.{rows_bytes}
use Rattle.writer.proofs.Stands.{then_part, then_field}
use Rattle.writer.proofs.WrittenLaws.{length_rows_bytes}
use Rattle.writer.proofs.FileLaws.{length_header, file_parts}
use Rattle.writer.proofs.write_file.Goals as goal

pub returns : goal.returns
returns c =
    let a = c.args in
    let o = a.out.now in
    let rows = rows_in a.count a.rows.now in
    let records = rows_bytes a.extent a.config.dimensions a.snapshot.now a.log.now rows in
    let body = header_bytes a.config a.sequence a.totals.records ++ records in
    let long : length records ≡ a.totals.bytes = length_rows_bytes a.extent a.config a.snapshot.now a.log.now rows c.requires.tested.fit ∙ sym c.requires.totals_of.bytes_are in
    let h : 0 ≤ length o = omega arith in
    let q2 = then_part 0 o h _ (record { long = length_header a.config a.sequence a.totals.records; same = c.write_header.ensures }) long refl c.write_records-crc.ensures.out_after in
    let n : header_length Two + length records ≡ 0 + length body = omega (arith, q2.long, long) in
    let front : take (header_length Two + length records) c.write_records-crc.new.out ≡ body = ap₂ take n q2.same ∙ take_placed 0 body o h in
    let crc : c.write_records-crc.result ≡ crc_of body = c.write_records-crc.ensures.value ∙ ap crc_of front in
    let q3 = then_field 0 o h 4 c.write_records-crc.result q2 (omega arith) c.put_u32.ensures in
    q3.same ∙ ap (λ (v : ℕ). placed 0 (body ++ bytes 4 v) o) crc
    ∙ ap (λ (l : List ℕ). placed 0 l o) (file_parts a.extent a.config a.sequence a.snapshot.now a.log.now rows a.totals.records c.requires.totals_of.records_are)
