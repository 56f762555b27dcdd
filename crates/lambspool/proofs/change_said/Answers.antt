-- A put's places fit, since it ends behind its caption.
use mathlib.Core.Path.{subst}
use native.Mathlib.Omega.{arith}
use Rattle.store_log.specs.declared.Operation.{Operation}
use Rattle.lambspool.specs.Fits.{ChangeFits}
use Rattle.lambspool.proofs.change_said.Goals as goal

pub caption_offset-requires : goal.caption_offset-requires
caption_offset-requires c = (subst (λ (o : Operation). ChangeFits c.args.d o c.args.read.next) c.in-Put.is c.requires).0

pub overflow_add-result : goal.overflow_add-result
overflow_add-result c =
    let h = subst (λ (o : Operation). ChangeFits c.args.d o c.args.read.next) c.in-Put.is c.requires in
    let inside = h.1 in
    let offset = c.caption_offset.ensures in
    omega arith
