-- `tree::clear` meets its contract.
-- Assumes nothing.
use Prim.Native.Nat.{ℕ, ◌+◌, ◌*◌, ◌<◌}
use native.Mathlib.Omega.{arith}
use mathlib.Core.Path.{◌≡◌, sym, ap, ◌∙◌, subst}
use mathlib.Core.List.{List}
use lib.ListN.{length, get_or}
use lib.Seq.{get_or-set_same, get_or-set_other}
use Rattle.digital_tree.proofs.PutLaws.{Same, yes, no, same}
use Rattle.links.specs.Links.{plain_word}
use Rattle.links.proofs.WordLaws.{plain_plain}
use Rattle.links.proofs.PlainLaws.{plain_all}
use Rattle.tree.proofs.SkipLaws.{out_words, out_rows}
use Rattle.tree.proofs.clear.Goals as goal

-- the words passed, with one more
one_more : (words : List ℕ) (i : ℕ) → 2 * i + 1 < length words → ((k : ℕ) → k < i → plain_word (get_or words (2 * k + 1) 0) ≡ get_or words (2 * k + 1) 0)
    → (k : ℕ) → k < i + 1 → plain_word (get_or (out_words words i) (2 * k + 1) 0) ≡ get_or (out_words words i) (2 * k + 1) 0
one_more words i h all k l = go (same k i)
  where
    go : Same k i → plain_word (get_or (out_words words i) (2 * k + 1) 0) ≡ get_or (out_words words i) (2 * k + 1) 0
    go (yes e) =
        let s : get_or (out_words words i) (2 * i + 1) 0 ≡ plain_word (get_or words (2 * i + 1) 0) = get_or-set_same words (2 * i + 1) _ 0 h in
        subst (λ (x : ℕ). plain_word (get_or (out_words words i) (2 * x + 1) 0) ≡ get_or (out_words words i) (2 * x + 1) 0) (sym e)
        (ap plain_word s ∙ plain_plain _ ∙ sym s)
    go (no e) =
        let s : get_or (out_words words i) (2 * k + 1) 0 ≡ get_or words (2 * k + 1) 0 = get_or-set_other words (2 * i + 1) (2 * k + 1) _ 0 (λ q. e (omega arith)) in
        ap plain_word s ∙ all k (omega arith) ∙ sym s

pub loop-i-preserved : goal.loop-i-preserved
loop-i-preserved c =
    let l = c.loop-i in
    rw c.plain.ensures (out_rows l.words l.i ∙ l.invariant.0, one_more l.words l.i (omega arith) l.invariant.1)

pub returns : goal.returns
returns c =
    let l = c.loop-i in
    let n = c.loop-i-test.false in
    sym (plain_all l.words (λ k h. l.invariant.1 k (omega arith))) ∙ l.invariant.0
