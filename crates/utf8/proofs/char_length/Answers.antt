-- `char_length`: the leading ones of the first byte tell its range (`Leads`), and with it which rule can fit.
use mathlib.Core.Path.{sym}
use native.Mathlib.Omega.{arith}
use lib.ListN.{get_or}
use Rattle.utf8.proofs.Leads.{leads, ones_other}
use Rattle.utf8.proofs.Shapes.{one, shape_at, lead_not}
use Rattle.utf8.proofs.char_length.Goals as goal

pub returns-in-0 : goal.returns-in-0
returns-in-0 c =
    let lead = leads (get_or c.args.s.now c.args.at 0) (omega arith) in
    sym (shape_at c.args.s.now c.args.at c.requires (one (lead.none c.in-0.is).at_most))

pub returns-in_default : goal.returns-in_default
returns-in_default c =
    lead_not c.args.s.now c.args.at
    (ones_other (get_or c.args.s.now c.args.at 0) (omega arith) (λ e. omega arith) (λ e. omega arith) (λ e. omega arith) (λ e. omega arith))

pub two-requires : goal.two-requires
two-requires c = record { at_in_bounds = c.requires; range = (leads (get_or c.args.s.now c.args.at 0) (omega arith)).two c.in-2.is }

pub three-requires : goal.three-requires
three-requires c = record { at_in_bounds = c.requires; range = (leads (get_or c.args.s.now c.args.at 0) (omega arith)).three c.in-3.is }

pub four-requires : goal.four-requires
four-requires c = record { at_in_bounds = c.requires; range = (leads (get_or c.args.s.now c.args.at 0) (omega arith)).four c.in-4.is }
