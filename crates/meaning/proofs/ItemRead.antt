-- What an answer of `item_at` says, and what makes it answer.
use Rattle.std.specs.Prelude.{Ok}
use Prim.Native.Nat.{ℕ, ◌+◌, ◌*◌, ◌≤◌}
use native.Mathlib.Omega.{arith}
use mathlib.Core.Path.{◌≡◌, sym, ap, ap₂, subst, ◌∙◌}
use mathlib.Core.Bool.{true, not}
use mathlib.Core.List.{List}
use lib.Dec.{ltb}
use Rattle.utf8.specs.Utf8.{is_utf8}
use Rattle.fields.specs.Fields.{part, num}
use Rattle.config.specs.Settings.{caption_limit}
use Rattle.config.specs.declared.Config.{Config}
use Rattle.refusal.specs.declared.Refusal.{Refusal}
use Rattle.refusal.specs.declared.Refusal.TheVariants.{PastTheEnd, CaptionTooLong, NotUtf8}
use Rattle.layout.specs.Layout.{caption_offset, item_length}
use Rattle.meaning.specs.Item.{coordinates, caption_at, item_at}
use borrow.Author.Tests.{ltb-false, le-ltb, not-false}
use Rattle.refusal.proofs.Results.{answer_injective, passed, went, pass, go_on}

-- an item at `at` before `end` whose caption has n bytes
pub record ItemHere (c : Config) (s : List ℕ) (end at n : ℕ) : Type 0 where
  pub caption_is : n ≡ num s (at + 4 * c.dimensions) 4
  pub inside : at + item_length c.dimensions n ≤ end
  pub short : n ≤ caption_limit c
  pub vector_good : coordinates c (part s at (4 * c.dimensions)) ≡ Ok tt
  pub caption_good : is_utf8 (part s (at + caption_offset c.dimensions) n) ≡ true

pub item_read : (short : Refusal) (c : Config) (s : List ℕ) (end at n : ℕ) → item_at short c s end at ≡ Ok n → ItemHere c s end at n
unfolding item_at caption_at
item_read short c s end at n e =
    let d = 4 * c.dimensions in
    let k = num s (at + d) 4 in
    let s1 = went short (ltb end (at + d)) _ n e in
    let s2 = passed (coordinates c (part s at d)) _ n s1.then in
    let s3 = went PastTheEnd (ltb end (at + d + 4)) _ n s2.then in
    let s4 = went CaptionTooLong (ltb (caption_limit c) k) _ n s3.then in
    let s5 = went PastTheEnd (ltb end (at + d + 4 + k)) _ n s4.then in
    let s6 = went NotUtf8 (not (is_utf8 (part s (at + d + 4) k))) _ n s5.then in
    let is : k ≡ n = answer_injective k n s6.then in
    let place : at + d + 4 ≡ at + caption_offset c.dimensions = omega arith in
    let room : at + d + 4 + k ≤ end = ltb-false end (at + d + 4 + k) s5.test_false in
    let good : is_utf8 (part s (at + d + 4) k) ≡ true = not-false (is_utf8 (part s (at + d + 4) k)) s6.test_false in
    record {
      caption_is = sym is;
      inside = omega arith;
      short = subst (λ (x : ℕ). x ≤ caption_limit c) is (ltb-false (caption_limit c) k s4.test_false);
      vector_good = s2.first;
      caption_good = sym (ap₂ (λ (x y : ℕ). is_utf8 (part s x y)) place is) ∙ good;
    }

pub item_reads : (short : Refusal) (c : Config) (s : List ℕ) (end at n : ℕ) → ItemHere c s end at n → item_at short c s end at ≡ Ok n
unfolding item_at caption_at
item_reads short c s end at n i =
    let d = 4 * c.dimensions in
    let k = num s (at + d) 4 in
    let is : n ≡ k = i.caption_is in
    let room : at + item_length c.dimensions n ≤ end = i.inside in
    let place : at + d + 4 ≡ at + caption_offset c.dimensions = omega arith in
    let few : n ≤ caption_limit c = i.short in
    let h5 : at + d + 4 + k ≤ end = omega arith in
    let h4 : k ≤ caption_limit c = omega arith in
    let h3 : at + d + 4 ≤ end = omega arith in
    let h1 : at + d ≤ end = omega arith in
    pass short (ltb end (at + d)) _ (le-ltb end (at + d) h1)
    ∙ go_on (coordinates c (part s at d)) _ tt i.vector_good
    ∙ pass PastTheEnd (ltb end (at + d + 4)) _ (le-ltb end (at + d + 4) h3)
    ∙ pass CaptionTooLong (ltb (caption_limit c) k) _ (le-ltb (caption_limit c) k h4)
    ∙ pass PastTheEnd (ltb end (at + d + 4 + k)) _ (le-ltb end (at + d + 4 + k) h5)
    ∙ pass NotUtf8 (not (is_utf8 (part s (at + d + 4) k))) _
    (ap not (ap₂ (λ (x y : ℕ). is_utf8 (part s x y)) place (sym is) ∙ i.caption_good))
    ∙ ap (λ (x : ℕ). Ok x) (sym is)
