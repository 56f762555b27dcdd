-- By the tag's bit.
use mathlib.Core.Path.{sym, ap, subst, ◌∙◌}
use borrow.Author.Tests.{eq-eqb}
use Rattle.fields.proofs.Numbers.{length_bytes}
use Rattle.rows.specs.Rows.{OperationFits}
use Rattle.rows.proofs.RowLaws.{operation_of_fits}
use Rattle.refusal.specs.Refusal.{size_told}
use Rattle.meaning.specs.Encoder.{encode_delete}
use Rattle.encoder.specs.Requests.{tagged_length}
use Rattle.encoder.proofs.OperationLaws.{put_read, delete_read}
use Rattle.encoder.proofs.check_operation.Goals as goal

pub check_put-requires-clause-operation_fits : goal.check_put-requires-clause-operation_fits
check_put-requires-clause-operation_fits c =
    let is = c.requires.o_value in
    subst OperationFits (sym is) (operation_of_fits c.args.o.id.0 c.args.word)

pub returns-then-o : goal.returns-then-o
returns-then-o c =
    let a = c.args in
    c.check_put.ensures ∙ ap (size_told tagged_length) (sym (put_read a.config a.coordinates.now a.captions.now a.o a.word c.requires.o_value c.if-o.true))

pub returns : goal.returns
unfolding encode_delete
returns c =
    let a = c.args in
    sym (ap (size_told tagged_length) (delete_read a.config a.coordinates.now a.captions.now a.o a.word c.requires.o_value c.if-o.false) ∙ simp (eq-eqb _ _ c.if-word-ne0.false, length_bytes))
