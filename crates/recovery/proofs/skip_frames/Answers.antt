-- `skip_frames`: the invariant says that the whole log is the run from here. The measure is how many bytes are left.
use Prim.Native.Nat.{◌+◌, ◌<◌}
use mathlib.Core.Path.{sym, ◌∙◌}
use lib.ListN.{length}
use native.Mathlib.Omega.{arith}
use borrow.Author.Rules.{rules}
use Rattle.meaning.proofs.FrameRead.{frame_too_little}
use Rattle.recovery.specs.Run.{skipped_only}
use Rattle.recovery.proofs.RunLaws.{told_whole, told_little, told_wrong, read_facts, run_tail, run_bad, run_skips, run_whole}
use Rattle.recovery.proofs.skip_frames.Goals as goal

pub loop-at-init : goal.loop-at-init
loop-at-init c =
    let a = c.args in
    record { inside = search rules; few = search rules; same = λ bounds rows. run_whole a.config a.log.now bounds a.sequence rows }

pub returns-then-follows : goal.returns-then-follows
returns-then-follows c = let i = c.loop-at.invariant in λ bounds rows. (i.inside, (i.few, i.same bounds rows))

pub returns-in-Ok-None : goal.returns-in-Ok-None
returns-in-Ok-None c =
    let a = c.args in
    let l = c.loop-at in
    let log = a.log.now in
    let e = told_little a.config log l.previous l.at (rw c.in-Ok-None.field-0-is at (sym c.in-Ok-None.is ∙ c.read_frame.ensures)) in
    λ bounds rows.
    (l.invariant.inside, l.invariant.same bounds rows ∙ run_tail a.config log bounds a.sequence l.previous l.at (skipped_only a.sequence rows l.skipped) e)

pub returns-then-sequence-frame : goal.returns-then-sequence-frame
returns-then-sequence-frame c =
    let i = c.loop-at.invariant in
    λ bounds rows. (i.inside, (i.few, i.same bounds rows))

pub loop-at-smaller : goal.loop-at-smaller
loop-at-smaller c =
    let a = c.args in
    let l = c.loop-at in
    let facts = read_facts a.config a.log.now l.previous l.at _ (told_whole a.config a.log.now l.previous l.at c.in-Ok-Some.frame (rw c.in-Ok-Some.field-0-is at (sym c.in-Ok-Some.is ∙ c.read_frame.ensures))) in
    let far = facts.far in
    let inside = facts.inside in
    omega arith

pub loop-at-preserved : goal.loop-at-preserved
loop-at-preserved c =
    let a = c.args in
    let l = c.loop-at in
    let r = told_whole a.config a.log.now l.previous l.at c.in-Ok-Some.frame (rw c.in-Ok-Some.field-0-is at (sym c.in-Ok-Some.is ∙ c.read_frame.ensures)) in
    let facts = read_facts a.config a.log.now l.previous l.at _ r in
    let far = facts.far in
    let few = l.invariant.few in
    record {
      inside = facts.inside;
      few = omega arith;
      same = λ bounds rows. l.invariant.same bounds rows ∙ run_skips a.config a.log.now bounds a.sequence l.previous l.at rows l.skipped _ r c.if-sequence-frame.false;
    }

pub returns-in-Err : goal.returns-in-Err
returns-in-Err c =
    let a = c.args in
    let l = c.loop-at in
    let log = a.log.now in
    let e = told_wrong a.config log l.previous l.at _ (sym c.in-Err.is ∙ c.read_frame.ensures) in
    λ bounds rows. l.invariant.same bounds rows ∙ run_bad a.config log bounds a.sequence l.previous l.at (skipped_only a.sequence rows l.skipped) _ e

pub returns : goal.returns
returns c =
    let a = c.args in
    let l = c.loop-at in
    let log = a.log.now in
    let short : length log < l.at + 8 = c.loop-at-test.false in
    let e = frame_too_little a.config log l.previous l.at short in
    λ bounds rows.
    (l.invariant.inside, l.invariant.same bounds rows ∙ run_tail a.config log bounds a.sequence l.previous l.at (skipped_only a.sequence rows l.skipped) e)
