-- `put_state` puts three numbers with their words one behind the other.
use Prim.Native.Nat.{◌+◌, ◌≤◌}
use native.Mathlib.Omega.{arith}
use lib.ListN.{length}
use Rattle.listing_text.specs.Lines.{ascii, named}
use Rattle.listing_text.proofs.LineLaws.{length_three}
use Rattle.listing_text.proofs.PutLaws.{three_puts}
use Rattle.listing_text.proofs.put_state.Goals as goal

pub put_named-b-requires : goal.put_named-b-requires
put_named-b-requires c =
    let room : c.args.at + (length (named (ascii "seq ") c.args.h.sequence) + (length (named (ascii " records ") c.args.h.records) + length (named (ascii " active ") c.args.h.active))) ≤ length c.args.out.now =
    omega (arith, c.requires, length_three (named (ascii "seq ") c.args.h.sequence) (named (ascii " records ") c.args.h.records) (named (ascii " active ") c.args.h.active)) in
    omega (arith, room, c.put_named-a.ensures.value)

pub put_named-requires : goal.put_named-requires
put_named-requires c =
    let room : c.args.at + (length (named (ascii "seq ") c.args.h.sequence) + (length (named (ascii " records ") c.args.h.records) + length (named (ascii " active ") c.args.h.active))) ≤ length c.args.out.now =
    omega (arith, c.requires, length_three (named (ascii "seq ") c.args.h.sequence) (named (ascii " records ") c.args.h.records) (named (ascii " active ") c.args.h.active)) in
    omega (arith, room, c.put_named-a.ensures.value, c.put_named-b.ensures.value)

pub returns : goal.returns
returns c =
    let room : c.args.at + (length (named (ascii "seq ") c.args.h.sequence) + (length (named (ascii " records ") c.args.h.records) + length (named (ascii " active ") c.args.h.active))) ≤ length c.args.out.now =
    omega (arith, c.requires, length_three (named (ascii "seq ") c.args.h.sequence) (named (ascii " records ") c.args.h.records) (named (ascii " active ") c.args.h.active)) in
    record {
      value = (three_puts c.args.at c.args.out.now (omega (arith, room)) (named (ascii "seq ") c.args.h.sequence) (named (ascii " records ") c.args.h.records) (named (ascii " active ") c.args.h.active) (c.put_named-a.ensures.value, c.put_named-a.ensures.out_after) (c.put_named-b.ensures.value, c.put_named-b.ensures.out_after) (c.put_named.ensures.value, c.put_named.ensures.out_after)).0;
      out_after = (three_puts c.args.at c.args.out.now (omega (arith, room)) (named (ascii "seq ") c.args.h.sequence) (named (ascii " records ") c.args.h.records) (named (ascii " active ") c.args.h.active) (c.put_named-a.ensures.value, c.put_named-a.ensures.out_after) (c.put_named-b.ensures.value, c.put_named-b.ensures.out_after) (c.put_named.ensures.value, c.put_named.ensures.out_after)).1;
    }
