-- The sorted front: a row that extends it, and a search in it by halving.
use Prim.Native.Nat.{ℕ, suc, ◌+◌, ◌*◌, ◌-◌, ◌<◌, ◌≤◌}
use native.Mathlib.Omega.{arith}
use mathlib.Core.Bool.{Bool, true, false}
use mathlib.Core.List.{List}
use mathlib.Core.Path.{◌≡◌, refl, sym, ap, ◌∙◌, subst}
use lib.Dec.{ltb}
use lib.ListN.{length, get_or, set}
use borrow.Author.Tests.{ltb-true, ltb-false}
use Rattle.config.specs.Limits.{max_records}
use Rattle.digital_tree.specs.Look.{mixed_id, Shape}
use Rattle.digital_tree.proofs.PutLaws.{Same, yes, no, same}
use Rattle.tree.specs.declared.Tree.{Tree}
use Rattle.links.specs.Links.{deleted_unit, plain_word, plain_rows, link_in, put_at}
use Rattle.tree.specs.Grown.{id_of, Live, Absent, Once, Rising, Bound, link_of, Grown, Added}
use Rattle.links.proofs.WordLaws.{plain_live}
use Rattle.links.proofs.PlainLaws.{length_plain, plain_set_id, plain_set_word}
use Rattle.links.proofs.LinkLaws.{link_top}
use Rattle.tree.proofs.TreeLinks.{inside_zero, link_in_lem, Place, place, inside, outside}
use Rattle.tree.proofs.RowLaws.{put_id_old, put_id_new, put_word_new, live_old, length_put}

pub plain_put : (words : List ℕ) (n id word : ℕ) → plain_rows (put_at words n id word) ≡ put_at (plain_rows words) n id (plain_word word)
unfolding put_at
plain_put words n id word =
    plain_set_word (set words (2 * n) id) n word ∙ ap (λ (l : List ℕ). set l (2 * n + 1) (plain_word word)) (plain_set_id words n id)

-- a tree with no link
bare : (ids link : ℕ → ℕ) (low high : ℕ) → ((z : ℕ) → link z ≡ 0) → Shape mixed_id ids link low high (λ u. 65)
bare ids link low high none =
    record {
      top = refl;
      owners = λ z h. (let e = none z in absurd (omega arith));
      over = λ z h. (let e = none z in absurd (omega arith));
      within = λ z. (let e = none z in omega arith);
      falls = λ z h. (let e = none z in absurd (omega arith));
      bits = λ z h. (let e = none z in absurd (omega arith));
    }

module _ (t : Tree) (words entries : List ℕ) (g : Grown t words entries) (t' : Tree) (words' : List ℕ) (id word : ℕ)
    (written : words' ≡ put_at words t.count id word)
    (root_kept : t'.root ≡ t.root) (counted : t'.count ≡ suc t.count) (front : t'.sorted ≡ suc t.count)
    (whole : t.sorted ≡ t.count) (few : t.count < max_records) (room : 2 * t.count + 2 ≤ length words) (entries_room : t.count < length entries)
    (over : 0 < t.count → id_of (plain_rows words) t.count < id) (absent : word < deleted_unit → Absent (plain_rows words) t.count id) where
  rows_are : plain_rows words' ≡ put_at (plain_rows words) t.count id (plain_word word)
  rows_are = ap plain_rows written ∙ plain_put words t.count id word

  no_root : t.root ≡ 0
  no_root = go (same (link_of t words entries 0) 0)
    where
      e : link_of t words entries 0 ≡ t.root
      e = link_in_lem t words entries 0 (inside_zero t.sorted t.count) ∙ link_top t.root words entries

      go : Same (link_of t words entries 0) 0 → t.root ≡ 0
      go (yes k) = sym e ∙ k
      go (no k) =
          let a = g.shape.over 0 (omega arith) in
          let b = g.shape.within 0 in
          absurd (omega arith)

  no_link : (z : ℕ) → link_of t' words' entries z ≡ 0
  no_link z = go (place t' words' entries z) (same z 0)
    where
      go : Place t' words' entries z → Same z 0 → link_of t' words' entries z ≡ 0
      go (outside k e) s = e
      go (inside i) (yes k) =
          link_in_lem t' words' entries z i ∙ ap (link_in t'.root words' entries) k ∙ link_top t'.root words' entries ∙ root_kept ∙ no_root
      go (inside i) (no k) =
          let a = i.above (omega arith) in
          let b = i.below in
          absurd (omega arith)

  new_id : id_of (plain_rows words') (suc t.count) ≡ id
  new_id =
      let l = length_plain words in
      ap (λ (r : List ℕ). id_of r (suc t.count)) rows_are ∙ put_id_new (plain_rows words) t.count id (plain_word word) (omega arith)

  old_id : (u : ℕ) → 0 < u → u ≤ t.count → id_of (plain_rows words') u ≡ id_of (plain_rows words) u
  old_id u p h = ap (λ (r : List ℕ). id_of r u) rows_are ∙ put_id_old (plain_rows words) t.count id (plain_word word) u p h

  old_live : (u : ℕ) → 0 < u → u ≤ t.count → Live (plain_rows words') u → Live (plain_rows words) u
  old_live u a h l = live_old (plain_rows words) t.count id (plain_word word) u a h (subst (λ (r : List ℕ). Live r u) rows_are l)

  new_live : Live (plain_rows words') (suc t.count) → word < deleted_unit
  new_live l =
      let k = length_plain words in
      let e : get_or (plain_rows words') (2 * suc t.count - 1) 0 ≡ plain_word word
      = ap (λ (r : List ℕ). get_or r (2 * suc t.count - 1) 0) rows_are ∙ put_word_new (plain_rows words) t.count id (plain_word word) (omega arith) in
      plain_live word (subst (λ (x : ℕ). x < deleted_unit) e l)

  up_to_last : (u : ℕ) → 0 < u → u ≤ t.count → id_of (plain_rows words) u < id
  up_to_last u p h = go (same u t.count)
    where
      go : Same u t.count → id_of (plain_rows words) u < id
      go (yes e) = subst (λ (x : ℕ). id_of (plain_rows words) x < id) (sym e) (over (omega arith))
      go (no e) =
          let a = g.rising u t.count p (omega arith) (omega arith) in
          let b = over (omega arith) in
          omega arith

  rising : Rising (plain_rows words') t'.sorted
  rising u v a b c = go (same v (suc t.count))
    where
      x : id_of (plain_rows words') u ≡ id_of (plain_rows words) u
      x = old_id u a (omega arith)

      go : Same v (suc t.count) → id_of (plain_rows words') u < id_of (plain_rows words') v
      go (yes e) =
          let k : id_of (plain_rows words') v ≡ id = ap (id_of (plain_rows words')) e ∙ new_id in
          let h = up_to_last u a (omega arith) in
          omega (arith, x)
      go (no e) =
          let k = old_id v (omega arith) (omega arith) in
          let h = g.rising u v a b (omega arith) in
          omega (arith, x)

  once : Once (plain_rows words') t'.count
  once u v a b c l m e = let r = rising u v a b (omega arith) in omega arith

  pub extended : Added t words entries t' words' entries id word
  extended =
      let l : length words' ≡ length words = ap length written ∙ length_put words t.count id word in
      record {
        grown = record {
          words_lent = omega arith;
          entries_lent = omega arith;
          few = omega arith;
          front = omega arith;
          rising = rising;
          once = once;
          level = λ u. 65;
          shape = bare (id_of (plain_rows words')) (link_of t' words' entries) t'.sorted t'.count no_link;
          complete = λ u a b d. absurd (omega arith);
        };
        rows = rows_are;
        counted = omega arith;
      }

-- the tree of no rows
abbrev pub empty_tree : Tree
empty_tree = record { root = 0; sorted = 0; count = 0 }

pub empty_grown : (words entries : List ℕ) → Grown empty_tree words entries
empty_grown words entries =
    record {
      words_lent = omega arith;
      entries_lent = omega arith;
      few = omega arith;
      front = omega arith;
      rising = λ u v a b c. absurd (omega arith);
      once = λ u v a b c l m e. omega arith;
      level = λ u. 65;
      shape = bare (id_of (plain_rows words)) (link_of empty_tree words entries) 0 0 (λ z. no_link z (place empty_tree words entries z) (same z 0));
      complete = λ u a b d. absurd (omega arith);
    }
  where
    no_link : (z : ℕ) → Place empty_tree words entries z → Same z 0 → link_of empty_tree words entries z ≡ 0
    no_link z (outside k e) s = e
    no_link z (inside i) (yes k) = link_in_lem empty_tree words entries z i ∙ ap (link_in 0 words entries) k ∙ link_top 0 words entries
    no_link z (inside i) (no k) =
        let a = i.above (omega arith) in
        let b = i.below in
        absurd (omega arith)

module _ (rows : List ℕ) (n id : ℕ) (rising : Rising rows n) where
  pub bound_low : (v : ℕ) → v ≤ n → id_of rows v < id → (u : ℕ) → 0 < u → u ≤ v → id_of rows u < id
  bound_low v h l u p q = go (same u v)
    where
      go : Same u v → id_of rows u < id
      go (yes e) = subst (λ (x : ℕ). id_of rows x < id) (sym e) l
      go (no e) = let a = rising u v p (omega arith) h in omega arith

  pub bound_high : (v : ℕ) → 0 < v → id ≤ id_of rows v → (u : ℕ) → v ≤ u → u ≤ n → id ≤ id_of rows u
  bound_high v h l u p q = go (same u v)
    where
      go : Same u v → id ≤ id_of rows u
      go (yes e) = subst (λ (x : ℕ). id ≤ id_of rows x) (sym e) l
      go (no e) = let a = rising v u h (omega arith) q in omega arith

  -- only the row at the bound can be the one
  pub front_absent : (k : ℕ) → Bound rows n id k → (suc k ≤ n → Live rows (suc k) → id_of rows (suc k) ≡ id → ⊥) → Absent rows n id
  front_absent k b h u p q l e = go (same u (suc k))
    where
      go : Same u (suc k) → ⊥
      go (yes s) =
          h (omega arith) (subst (λ (x : ℕ). Live rows x) s l) (ap (id_of rows) (sym s) ∙ e)
      go (no s) = side (ltb u (suc k)) refl
        where
          side : (c : Bool) → ltb u (suc k) ≡ c → ⊥
          side true o =
              let a = ltb-true u (suc k) o in
              let w = b.below u p (omega arith) in
              omega arith
          side false o =
              let a = ltb-false u (suc k) o in
              let w = b.from (suc k) (omega arith) (omega arith) in
              let r = rising (suc k) u (omega arith) (omega arith) q in
              omega arith
