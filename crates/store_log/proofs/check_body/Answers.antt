-- `check_body` answers where `operations_of` ends, by each shape.
use mathlib.Core.Path.{sym, ap, ◌∙◌}
use Rattle.layout.specs.declared.Shape.{Shape}
use Rattle.meaning.specs.Log.{operations_of}
use Rattle.store_log.specs.Told.{nexts_told}
use Rattle.store_log.proofs.FrameLaws.{single_ends}
use Rattle.store_log.proofs.check_body.Goals as goal

pub returns-in-Single : goal.returns-in-Single
returns-in-Single c =
    let a = c.args in
    c.operation_end.ensures ∙ sym (single_ends a.config a.log.now a.end a.opcode a.at)
    ∙ sym (ap (λ (s : Shape). nexts_told (operations_of s a.config a.log.now a.end a.opcode a.at)) c.in-Single.is)
