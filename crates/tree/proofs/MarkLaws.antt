-- A row marked deleted stays where it is: no way changes, and fewer rows are live.
use Prim.Native.Nat.{ℕ, ◌*◌, ◌-◌, ◌<◌, ◌≤◌}
use native.Mathlib.Omega.{arith}
use mathlib.Core.Bool.{cond}
use mathlib.Core.List.{List}
use mathlib.Core.Path.{◌≡◌, sym, ap, ap₂, ◌∙◌, subst, fun_ext}
use lib.Dec.{eqb}
use lib.ListN.{length, get_or, set, length-set}
use lib.Seq.{get_or-set_same}
use Rattle.digital_tree.specs.Look.{mixed_id, look, Shape}
use Rattle.digital_tree.proofs.PutLaws.{Same, yes, no, same}
use Rattle.tree.specs.declared.Tree.{Tree}
use Rattle.links.specs.Links.{left_of, deleted_word, plain_rows, link_in, marked, caption_length, caption_freed}
use Rattle.tree.specs.Grown.{id_of, Live, Absent, in_tree, link_of, cell_of, Grown, Marked}
use Rattle.links.proofs.WordLaws.{plain_deleted, left_deleted, caption_plain}
use Rattle.links.proofs.PlainLaws.{length_plain, set_word_of_link, word_of_link}
use Rattle.links.proofs.LinkLaws.{Cell, cell, top, unused, left, right, link_left, link_right}
use Rattle.tree.proofs.RowLaws.{marked_none, marked_at, marked_id, marked_other, live_before, marked_absent}

module _ (words : List ℕ) (u : ℕ) (fits : 2 * u ≤ length words) where
  length_marked : length (marked words u) ≡ length words
  length_marked = go (same u 0)
    where
      go : Same u 0 → length (marked words u) ≡ length words
      go (yes e) = ap length (marked_none words u e)
      go (no e) = ap length (marked_at words u (omega arith)) ∙ length-set words (2 * u - 1) (deleted_word (get_or words (2 * u - 1) 0))

  rows_marked : plain_rows (marked words u) ≡ marked (plain_rows words) u
  rows_marked = go (same u 0)
    where
      go : Same u 0 → plain_rows (marked words u) ≡ marked (plain_rows words) u
      go (yes e) = ap plain_rows (marked_none words u e) ∙ sym (marked_none (plain_rows words) u e)
      go (no e) =
          let p : 0 < u = omega arith in
          let w : ℕ = get_or words (2 * u - 1) 0 in
          ap plain_rows (marked_at words u p)
          ∙ set_word_of_link words u (deleted_word w) p
          ∙ ap (λ (x : ℕ). set (plain_rows words) (2 * u - 1) x) (plain_deleted w ∙ ap deleted_word (sym (word_of_link words u p)))
          ∙ sym (marked_at (plain_rows words) u p)

  left_same : (e o : ℕ) → 0 < o → left_of (get_or (marked words u) (2 * o - 1) 0) e ≡ left_of (get_or words (2 * o - 1) 0) e
  left_same e o p = go (same o u)
    where
      go : Same o u → left_of (get_or (marked words u) (2 * o - 1) 0) e ≡ left_of (get_or words (2 * o - 1) 0) e
      go (no n) = ap (λ (x : ℕ). left_of x e) (marked_other words u o n p)
      go (yes s) =
          let q : 0 < u = omega arith in
          let w : ℕ = get_or words (2 * u - 1) 0 in
          let k : get_or (marked words u) (2 * u - 1) 0 ≡ deleted_word w
          = ap (λ (l : List ℕ). get_or l (2 * u - 1) 0) (marked_at words u q) ∙ get_or-set_same words (2 * u - 1) (deleted_word w) 0 (omega arith) in
          ap (λ (x : ℕ). left_of (get_or (marked words u) (2 * x - 1) 0) e) s
          ∙ ap (λ (x : ℕ). left_of x e) k
          ∙ left_deleted w e
          ∙ ap (λ (x : ℕ). left_of (get_or words (2 * x - 1) 0) e) (sym s)

  link_same : (root : ℕ) (entries : List ℕ) (z : ℕ) → link_in root (marked words u) entries z ≡ link_in root words entries z
  unfolding link_in
  link_same root entries z = go (cell z)
    where
      go : Cell z → link_in root (marked words u) entries z ≡ link_in root words entries z
      go (top e) = ap (link_in root (marked words u) entries) e ∙ sym (ap (link_in root words entries) e)
      go (unused e) = ap (link_in root (marked words u) entries) e ∙ sym (ap (link_in root words entries) e)
      go (left o p e) =
          ap (link_in root (marked words u) entries) e
          ∙ link_left root (marked words u) entries o p
          ∙ left_same (get_or entries (o - 1) 0) o p
          ∙ sym (ap (link_in root words entries) e ∙ link_left root words entries o p)
      go (right o p e) =
          ap (link_in root (marked words u) entries) e
          ∙ link_right root (marked words u) entries o p
          ∙ sym (ap (link_in root words entries) e ∙ link_right root words entries o p)

  links_kept : (t : Tree) (entries : List ℕ) → link_of t (marked words u) entries ≡ link_of t words entries
  unfolding link_of
  links_kept t entries = fun_ext (λ z. ap (λ (x : ℕ). cond (in_tree t z) x 0) (link_same t.root entries z))

  ids_kept : id_of (plain_rows (marked words u)) ≡ id_of (plain_rows words)
  ids_kept = fun_ext (λ v. ap (λ (r : List ℕ). id_of r v) rows_marked ∙ marked_id (plain_rows words) u v)

  cells_kept : (t : Tree) (entries : List ℕ) (id : ℕ) → cell_of t (marked words u) entries id ≡ cell_of t words entries id
  unfolding cell_of
  cells_kept t entries id = ap₂ (λ (i l : ℕ → ℕ). look mixed_id i l 64 0 id) ids_kept (links_kept t entries)

  was_live : (v : ℕ) → 0 < v → Live (plain_rows (marked words u)) v → Live (plain_rows words) v
  was_live v p l =
      let k = length_plain words in
      live_before (plain_rows words) u v p (omega arith) (subst (λ (r : List ℕ). Live r v) rows_marked l)

  same_id : (v : ℕ) → id_of (plain_rows (marked words u)) v ≡ id_of (plain_rows words) v
  same_id v = ap (λ (i : ℕ → ℕ). i v) ids_kept

  grown_kept : (t : Tree) (entries : List ℕ) → Grown t words entries → Grown t (marked words u) entries
  grown_kept t entries g =
      let len = length_marked in
      record {
        words_lent = (let a = g.words_lent in omega arith);
        entries_lent = g.entries_lent;
        few = g.few;
        front = g.front;
        rising = λ a b p q r. (let x = same_id a in let y = same_id b in let h = g.rising a b p q r in omega arith);
        once = λ a b p q r l m e. g.once a b p q r (was_live a p l) (was_live b (omega arith) m) (sym (same_id a) ∙ e ∙ same_id b);
        level = g.level;
        shape =
            subst (λ (i : ℕ → ℕ). Shape mixed_id i (link_of t (marked words u) entries) t.sorted t.count g.level) (sym ids_kept)
            (subst (λ (l : ℕ → ℕ). Shape mixed_id (id_of (plain_rows words)) l t.sorted t.count g.level) (sym (links_kept t entries)) g.shape);
        complete = λ a p q l.
            ap (λ (f : ℕ → ℕ). f (cell_of t (marked words u) entries (id_of (plain_rows (marked words u)) a))) (links_kept t entries)
            ∙ ap (link_of t words entries) (cells_kept t entries _ ∙ ap (cell_of t words entries) (same_id a))
            ∙ g.complete a p q (was_live a (omega arith) l);
      }

  freed_same : caption_freed (plain_rows words) u ≡ caption_freed words u
  unfolding caption_freed
  freed_same = go (same u 0)
    where
      go : Same u 0 → cond (eqb u 0) 0 (caption_length (get_or (plain_rows words) (2 * u - 1) 0)) ≡ cond (eqb u 0) 0 (caption_length (get_or words (2 * u - 1) 0))
      go (yes e) = ap (λ (x : ℕ). cond (eqb x 0) 0 (caption_length (get_or (plain_rows words) (2 * x - 1) 0))) e ∙ sym (ap (λ (x : ℕ). cond (eqb x 0) 0 (caption_length (get_or words (2 * x - 1) 0))) e)
      go (no e) = ap (λ (x : ℕ). cond (eqb u 0) 0 x) (ap caption_length (word_of_link words u (omega arith)) ∙ caption_plain _)

  pub marks : Marked words (marked words u) u (caption_freed words u)
  marks =
      record {
        rows = rows_marked;
        freed = sym freed_same;
        grown = grown_kept;
        cells = cells_kept;
        absent = λ n id once finds.
            (let k = length_plain words in
            subst (λ (r : List ℕ). Absent r n id) (sym rows_marked) (marked_absent (plain_rows words) n id u (omega arith) once finds));
      }
