-- `state_line` names the state, and a live node's caption.
-- the line of either state
use Prim.Native.Nat.{ℕ}
use mathlib.Core.Path.{sym, ap}
use mathlib.Core.List.{List}
use mathlib.Core.Bool.{Bool}
use Rattle.listing_text.specs.Listing.{fitted}
use Rattle.listing_text.proofs.LineLaws.{tells}
use Rattle.listing_text.specs.Lines.{line_of, state_text}
use Rattle.listing_text.proofs.state_line.Goals as goal

pub returns-then-row : goal.returns-then-row
returns-then-row c =
    let line : Bool → List ℕ =
    λ deleted. line_of c.args.node.0 c.args.row.id.0 (state_text deleted c.args.caption.now) in
    record {
      value = (tells c.args.out.now _ (fitted c.args.out.now (line c.args.row.deleted)) _ _ (c.line_of.ensures.value, c.line_of.ensures.out_after) (ap (λ (b : Bool). fitted c.args.out.now (line b)) (sym c.if-row.true))).0;
      out_after = (tells c.args.out.now _ (fitted c.args.out.now (line c.args.row.deleted)) _ _ (c.line_of.ensures.value, c.line_of.ensures.out_after) (ap (λ (b : Bool). fitted c.args.out.now (line b)) (sym c.if-row.true))).1;
    }

pub returns : goal.returns
returns c =
    let line : Bool → List ℕ =
    λ deleted. line_of c.args.node.0 c.args.row.id.0 (state_text deleted c.args.caption.now) in
    record {
      value = (tells c.args.out.now _ (fitted c.args.out.now (line c.args.row.deleted)) _ _ (c.line_of-2.ensures.value, c.line_of-2.ensures.out_after) (ap (λ (b : Bool). fitted c.args.out.now (line b)) (sym c.if-row.false))).0;
      out_after = (tells c.args.out.now _ (fitted c.args.out.now (line c.args.row.deleted)) _ _ (c.line_of-2.ensures.value, c.line_of-2.ensures.out_after) (ap (λ (b : Bool). fitted c.args.out.now (line b)) (sym c.if-row.false))).1;
    }
