-- `read_records` answers `records_at`, with the CRC. The invariant: the rows read so far stand in the table, and with those still to be read they are
-- the whole run; the sum is that of the bytes that went in.
use Prim.Native.Nat.{ℕ, ◌*◌}
use native.Mathlib.Omega.{arith}
use mathlib.Core.List.{List, ◌++◌}
use mathlib.Core.Path.{◌≡◌, sym, ap, ap₂, ◌∙◌}
use lib.ListN.{take, drop}
use Rattle.meaning.specs.Tables.{row_words}
use Rattle.meaning.specs.Snapshot.{ReadRows}
use Rattle.crc32.specs.Crc.{crc_of}
use Rattle.rows.specs.declared.Row.{Row}
use Rattle.refusal.proofs.Inverses.{handed_on}
use Rattle.refusal.proofs.Results.{answer_injective, refused_no_answer}
use Rattle.snapshot.specs.Told.{records_told}
use Rattle.snapshot.proofs.Inverses.{record_is}
use Rattle.snapshot.proofs.Reading.{reading_more, reading_all, reading_refused}
use Rattle.snapshot.proofs.read_records.Goals as goal

pub returns-in_err-row : goal.returns-in_err-row
returns-in_err-row c =
    let a = c.args in
    let l = c.loop-i in
    let e = reading_refused a.config a.s.now a.end a.first a.count a.rows.now l.rows l.at l.size l.i l.invariant.0 c.loop-i-test.true _ (record_is _ c.read_record.ensures c.in_err-row.was) in
    record {
      value = handed_on _ _ c.from_residual.ensures ∙ sym (ap (records_told a.config.dimensions (crc_of (take a.end a.s.now))) e);
      rows_after = λ x k. absurd (refused_no_answer _ x (sym e ∙ k));
    }

pub loop-i-preserved : goal.loop-i-preserved
loop-i-preserved c =
    let a = c.args in
    let l = c.loop-i in
    let set = c.set_row in
    let sum = c.ahead-sum.ensures in
    let is_found = record_is _ c.read_record.ensures c.in_ok-row.was in (
      rw c.record_length-size.ensures
          (reading_more a.config a.s.now a.end a.first a.count a.rows.now l.rows l.at l.size l.i l.invariant.0 c.loop-i-test.true c.requires.count_in_bounds
          _ is_found set.new.rows set.auto.rows set.ensures),
      sum.sums_2,
      sum.upto_le_end_2,
    )

pub returns : goal.returns
returns c =
    let a = c.args in
    let l = c.loop-i in
    let k = l.invariant.0 in
    let all = reading_all a.config a.s.now a.end a.first a.count a.rows.now l.rows l.at l.size l.i k c.loop-i-test.false in
    let last : l.i ≡ a.count = omega (arith, k.few) in
    record {
      value = cc (k.total_is, c.finish.ensures, ap (records_told a.config.dimensions (crc_of (take a.end a.s.now))) all);
      rows_after = λ x e. k.words ∙ ap₂ (λ (rs : List Row) (n : ℕ). row_words rs ++ drop (2 * n) a.rows.now) (ap (λ (x : ReadRows). x.rows) (answer_injective _ x (sym all ∙ e))) last;
    }
