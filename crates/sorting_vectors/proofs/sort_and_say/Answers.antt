-- What is sorted still has rows.
use Rattle.std.proofs.Common.{arith, ◌≤◌, length}
use Rattle.sorting.proofs.CallerLaws.{sorted_in_rows}
use Rattle.sorting_vectors.proofs.sort_and_say.Goals as goal

pub say_sorted-requires-clause-first_in_rows : goal.say_sorted-requires-clause-first_in_rows
say_sorted-requires-clause-first_in_rows g c =
    let p = c.sort_by_id in
    let room : c.args.n ≤ length p.new.active = omega arith in
    sorted_in_rows c.args.rows.now c.args.n c.args.active.now p.new.active p.ensures room c.requires.first_in_rows
