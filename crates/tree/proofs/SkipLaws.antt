-- A deleted row that no link leads to: the tree is the same with a row more.
use Prim.Native.Nat.{ℕ, suc, ◌+◌, ◌*◌, ◌-◌, ◌/◌, ◌%◌, ◌<◌, ◌≤◌}
use native.Mathlib.Omega.{arith}
use mathlib.Core.List.{List}
use mathlib.Core.Path.{◌≡◌, sym, ap, ap₂, ◌∙◌, subst, fun_ext}
use lib.ListN.{length, get_or, set, length-set}
use lib.Seq.{get_or-set_same, get_or-set_other}
use Rattle.config.specs.Limits.{max_records}
use Rattle.digital_tree.specs.Look.{mixed_id, look, Shape}
use Rattle.digital_tree.proofs.PutLaws.{Same, yes, no, same}
use Rattle.tree.specs.declared.Tree.{Tree}
use Rattle.links.specs.Links.{deleted_unit, left_of, right_of, plain_word, plain_rows, link_in}
use Rattle.tree.specs.Grown.{id_of, Live, link_of, cell_of, Grown}
use Rattle.links.proofs.WordLaws.{plain_plain, no_left, no_right}
use Rattle.links.proofs.PlainLaws.{same_rows}
use Rattle.links.proofs.LinkLaws.{link_left, link_right}
use Rattle.tree.proofs.TreeLinks.{link_in_lem, Place, place, inside, outside, not_one, links_same}
use Rattle.tree.proofs.FindLaws.{next_live}

-- the words and the entries once the row is left out
abbrev pub out_words : List ℕ → ℕ → List ℕ
out_words words n = set words (2 * n + 1) (plain_word (get_or words (2 * n + 1) 0))

abbrev pub out_entries : List ℕ → ℕ → List ℕ
out_entries entries n = set entries n 0

pub out_rows : (words : List ℕ) (n : ℕ) → plain_rows (out_words words n) ≡ plain_rows words
out_rows words n =
    let e : 2 * n + 1 ≡ 2 * suc n - 1 = omega arith in
    ap (λ (i : ℕ). plain_rows (set words i (plain_word (get_or words i 0)))) e ∙ same_rows words (suc n) _ (omega arith) (plain_plain _)

module _ (t : Tree) (words entries : List ℕ) (g : Grown t words entries) (t' : Tree)
    (root_kept : t'.root ≡ t.root) (counted : t'.count ≡ suc t.count) (front : t'.sorted ≡ t.sorted)
    (few : t.count < max_records) (room : 2 * t.count + 2 ≤ length words) (entries_room : t.count < length entries)
    (dead : deleted_unit ≤ get_or words (2 * t.count + 1) 0) where
  words' : List ℕ
  words' = out_words words t.count

  entries' : List ℕ
  entries' = out_entries entries t.count

  same_links : (z : ℕ) → (z ≡ 1 → ⊥) → z / 2 ≤ t.count → link_in t'.root words' entries' z ≡ link_in t.root words entries z
  unfolding words' entries'
  same_links z k h =
      ap (λ (r : ℕ). link_in r (out_words words t.count) (out_entries entries t.count) z) root_kept
      ∙ links_same t.root t.count words entries (out_words words t.count) (out_entries entries t.count)
      (λ o p q. get_or-set_other words (2 * t.count + 1) (2 * o - 1) _ 0 (λ e. omega arith))
      (λ o p q. get_or-set_other entries t.count (o - 1) 0 0 (λ e. omega arith)) z k h

  no_links : (b : ℕ) → b < 2 → link_in t'.root words' entries' (2 * suc t.count + b) ≡ 0
  unfolding words' entries'
  no_links b h = go (same b 0)
    where
      o : ℕ
      o = suc t.count

      entry : get_or (out_entries entries t.count) (suc t.count - 1) 0 ≡ 0
      entry =
          let e : suc t.count - 1 ≡ t.count = omega arith in
          ap (λ (i : ℕ). get_or (out_entries entries t.count) i 0) e ∙ get_or-set_same entries t.count 0 0 entries_room

      word : get_or (out_words words t.count) (2 * suc t.count - 1) 0 ≡ plain_word (get_or words (2 * t.count + 1) 0)
      word =
          let e : 2 * suc t.count - 1 ≡ 2 * t.count + 1 = omega arith in
          ap (λ (i : ℕ). get_or (out_words words t.count) i 0) e ∙ get_or-set_same words (2 * t.count + 1) _ 0 (omega arith)

      go : Same b 0 → link_in t'.root (out_words words t.count) (out_entries entries t.count) (2 * suc t.count + b) ≡ 0
      go (yes e) =
          let c : 2 * suc t.count + b ≡ 2 * suc t.count = omega arith in
          ap (link_in t'.root (out_words words t.count) (out_entries entries t.count)) c
          ∙ link_left t'.root (out_words words t.count) (out_entries entries t.count) (suc t.count) (omega arith)
          ∙ ap₂ left_of word entry
          ∙ no_left _
      go (no e) =
          let c : 2 * suc t.count + b ≡ 2 * suc t.count + 1 = omega arith in
          ap (link_in t'.root (out_words words t.count) (out_entries entries t.count)) c
          ∙ link_right t'.root (out_words words t.count) (out_entries entries t.count) (suc t.count) (omega arith)
          ∙ ap right_of entry
          ∙ no_right

  link_kept : (z : ℕ) → link_of t' words' entries' z ≡ link_of t words entries z
  link_kept z = go (place t words entries z) (place t' words' entries' z) (same (z / 2) (suc t.count))
    where
      go : Place t words entries z → Place t' words' entries' z → Same (z / 2) (suc t.count) → link_of t' words' entries' z ≡ link_of t words entries z
      go (inside i) q s =
          let a = i.below in
          link_in_lem t' words' entries' z (record { below = omega arith; above = λ h. (let b = i.above h in omega arith) })
          ∙ same_links z (not_one t.sorted t.count z i) i.below
          ∙ sym (link_in_lem t words entries z i)
      go (outside k e) (outside l f) s = f ∙ sym e
      go (outside k e) (inside i) (yes s) =
          let c : z ≡ 2 * suc t.count + z % 2 = omega arith in
          link_in_lem t' words' entries' z i ∙ ap (link_in t'.root words' entries') c ∙ no_links (z % 2) (omega arith) ∙ sym e
      go (outside k e) (inside i) (no s) =
          absurd (k (record { below = (let a = i.below in omega arith); above = λ h. (let b = i.above h in omega arith) }))

  links_kept : link_of t' words' entries' ≡ link_of t words entries
  links_kept = fun_ext link_kept

  rows_kept : plain_rows words' ≡ plain_rows words
  unfolding words'
  rows_kept = out_rows words t.count

  cell_kept : (id : ℕ) → cell_of t' words' entries' id ≡ cell_of t words entries id
  unfolding cell_of
  cell_kept id = ap₂ (λ (r : List ℕ) (l : ℕ → ℕ). look mixed_id (id_of r) l 64 0 id) rows_kept links_kept

  not_live : Live (plain_rows words) (suc t.count) → ⊥
  not_live l = let h = next_live words t.count l in omega arith

  live_old : (u : ℕ) → u ≤ t'.count → Live (plain_rows words) u → u ≤ t.count
  live_old u h l = go (same u (suc t.count))
    where
      go : Same u (suc t.count) → u ≤ t.count
      go (yes e) = absurd (not_live (subst (λ (x : ℕ). Live (plain_rows words) x) e l))
      go (no e) = omega arith

  wider : Shape mixed_id (id_of (plain_rows words)) (link_of t words entries) t'.sorted t'.count g.level
  wider =
      let s = g.shape in
      record {
        top = s.top;
        owners = λ z p. (let a = s.owners z p in omega arith);
        over = λ z p. (let a = s.over z p in omega arith);
        within = λ z. (let a = s.within z in omega arith);
        falls = s.falls;
        bits = s.bits;
      }

  pub left_out : Grown t' (out_words words t.count) (out_entries entries t.count)
  unfolding words' entries'
  left_out =
      let a = length-set words (2 * t.count + 1) (plain_word (get_or words (2 * t.count + 1) 0)) in
      let b = length-set entries t.count 0 in
      let back : (u : ℕ) → Live (plain_rows (out_words words t.count)) u → Live (plain_rows words) u = λ u l. subst (λ (r : List ℕ). Live r u) rows_kept l in
      let ids : (u : ℕ) → id_of (plain_rows (out_words words t.count)) u ≡ id_of (plain_rows words) u = λ u. ap (λ (r : List ℕ). id_of r u) rows_kept in
      record {
        words_lent = omega arith;
        entries_lent = omega arith;
        few = omega arith;
        front = (let f = g.front in omega arith);
        rising = λ u v p q r. (let x = ids u in let y = ids v in let h = g.rising u v p q (omega arith) in omega arith);
        once = λ u v p q r l m e.
            g.once u v p q (live_old v r (back v m)) (back u l) (back v m) (sym (ids u) ∙ e ∙ ids v);
        level = g.level;
        shape =
            subst (λ (r : List ℕ). Shape mixed_id (id_of r) (link_of t' words' entries') t'.sorted t'.count g.level) (sym rows_kept)
            (subst (λ (l : ℕ → ℕ). Shape mixed_id (id_of (plain_rows words)) l t'.sorted t'.count g.level) (sym links_kept) wider);
        complete = λ u p q l.
            link_kept _
            ∙ ap (link_of t words entries) (cell_kept _ ∙ ap (cell_of t words entries) (ids u))
            ∙ g.complete u (omega arith) (live_old u q (back u l)) (back u l);
      }
