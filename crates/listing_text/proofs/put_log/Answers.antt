-- `put_log` puts four numbers with their words one behind the other.
use Prim.Native.Nat.{◌+◌, ◌≤◌}
use native.Mathlib.Omega.{arith}
use lib.ListN.{length}
use Rattle.listing_text.specs.Lines.{ascii, named}
use Rattle.listing_text.proofs.LineLaws.{length_four}
use Rattle.listing_text.proofs.PutLaws.{four_puts}
use Rattle.listing_text.proofs.put_log.Goals as goal

pub put_named-b-requires : goal.put_named-b-requires
put_named-b-requires c =
    let room : c.args.at + (length (named (ascii " replayed ") c.args.h.replayed) + (length (named (ascii " skipped ") c.args.h.skipped) + (length (named (ascii " keep ") c.args.h.keep) + length (named (ascii " tail ") c.args.h.tail)))) ≤ length c.args.out.now =
    omega (arith, c.requires, length_four (named (ascii " replayed ") c.args.h.replayed) (named (ascii " skipped ") c.args.h.skipped) (named (ascii " keep ") c.args.h.keep) (named (ascii " tail ") c.args.h.tail)) in
    omega (arith, room, c.put_named-a.ensures.value)

pub put_named-c-requires : goal.put_named-c-requires
put_named-c-requires c =
    let room : c.args.at + (length (named (ascii " replayed ") c.args.h.replayed) + (length (named (ascii " skipped ") c.args.h.skipped) + (length (named (ascii " keep ") c.args.h.keep) + length (named (ascii " tail ") c.args.h.tail)))) ≤ length c.args.out.now =
    omega (arith, c.requires, length_four (named (ascii " replayed ") c.args.h.replayed) (named (ascii " skipped ") c.args.h.skipped) (named (ascii " keep ") c.args.h.keep) (named (ascii " tail ") c.args.h.tail)) in
    omega (arith, room, c.put_named-a.ensures.value, c.put_named-b.ensures.value)

pub put_named-requires : goal.put_named-requires
put_named-requires c =
    let room : c.args.at + (length (named (ascii " replayed ") c.args.h.replayed) + (length (named (ascii " skipped ") c.args.h.skipped) + (length (named (ascii " keep ") c.args.h.keep) + length (named (ascii " tail ") c.args.h.tail)))) ≤ length c.args.out.now =
    omega (arith, c.requires, length_four (named (ascii " replayed ") c.args.h.replayed) (named (ascii " skipped ") c.args.h.skipped) (named (ascii " keep ") c.args.h.keep) (named (ascii " tail ") c.args.h.tail)) in
    omega (arith, room, c.put_named-a.ensures.value, c.put_named-b.ensures.value, c.put_named-c.ensures.value)

pub returns : goal.returns
returns c =
    let room : c.args.at + (length (named (ascii " replayed ") c.args.h.replayed) + (length (named (ascii " skipped ") c.args.h.skipped) + (length (named (ascii " keep ") c.args.h.keep) + length (named (ascii " tail ") c.args.h.tail)))) ≤ length c.args.out.now =
    omega (arith, c.requires, length_four (named (ascii " replayed ") c.args.h.replayed) (named (ascii " skipped ") c.args.h.skipped) (named (ascii " keep ") c.args.h.keep) (named (ascii " tail ") c.args.h.tail)) in
    record {
      value = (four_puts c.args.at c.args.out.now (omega (arith, room)) (named (ascii " replayed ") c.args.h.replayed) (named (ascii " skipped ") c.args.h.skipped) (named (ascii " keep ") c.args.h.keep) (named (ascii " tail ") c.args.h.tail) (c.put_named-a.ensures.value, c.put_named-a.ensures.out_after) (c.put_named-b.ensures.value, c.put_named-b.ensures.out_after) (c.put_named-c.ensures.value, c.put_named-c.ensures.out_after) (c.put_named.ensures.value, c.put_named.ensures.out_after)).0;
      out_after = (four_puts c.args.at c.args.out.now (omega (arith, room)) (named (ascii " replayed ") c.args.h.replayed) (named (ascii " skipped ") c.args.h.skipped) (named (ascii " keep ") c.args.h.keep) (named (ascii " tail ") c.args.h.tail) (c.put_named-a.ensures.value, c.put_named-a.ensures.out_after) (c.put_named-b.ensures.value, c.put_named-b.ensures.out_after) (c.put_named-c.ensures.value, c.put_named-c.ensures.out_after) (c.put_named.ensures.value, c.put_named.ensures.out_after)).1;
    }
