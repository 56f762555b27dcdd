-- A row put into a cell of the tree: what was a table with its tree is one with a row more.
use Prim.Native.Nat.{ℕ, suc, ◌+◌, ◌*◌, ◌-◌, ◌/◌, ◌^◌, ◌<◌, ◌≤◌}
use native.Mathlib.Omega.{arith}
use mathlib.Core.Bool.{Bool, cond}
use mathlib.Core.List.{List}
use mathlib.Core.Path.{◌≡◌, refl, sym, ap, ◌∙◌, subst}
use lib.Dec.{eqb}
use lib.ListN.{length, get_or}
use borrow.Author.Tests.{eq-eqb, ne_eqb}
use Rattle.config.specs.Limits.{max_records}
use Rattle.digital_tree.specs.Look.{mixed_id, look, Shape, Inside}
use Rattle.digital_tree.proofs.MixLaws.{mixed_one_to_one, mixed_below}
use Rattle.digital_tree.proofs.ShapeLaws.{Ends, on_start, ends, look_inside, cells_inside}
use Rattle.digital_tree.proofs.PutLaws.{Put, Same, yes, no, same, itself, own, keep, level_with, put_shape}
use Rattle.tree.specs.declared.Tree.{Tree}
use Rattle.links.specs.Links.{plain_word, plain_rows, link_in}
use Rattle.tree.specs.Grown.{id_of, Live, Absent, Once, Rising, link_of, cell_of, Grown, Added, Spliced}
use Rattle.links.proofs.PlainLaws.{length_plain, id_of_link}
use Rattle.tree.proofs.TreeLinks.{inside_zero, link_in_lem, link_out, Place, place, inside, outside, not_one}
use Rattle.tree.proofs.RowLaws.{put_id, put_id_new, live_old}

-- every element is a word of 64 bits
abbrev pub Words : List ℕ → Type 0
Words words = (i : ℕ) → get_or words i 0 < 2 ^ 64

module _ (t : Tree) (words entries : List ℕ) (g : Grown t words entries) (bounded : Words words) where
  -- the cell where the way of an ID ends is in the tree, and empty or with a node of this ID
  pub cell_inside : (id : ℕ) → Inside t.sorted t.count (cell_of t words entries id)
  unfolding cell_of
  cell_inside id = look_inside mixed_id (id_of (plain_rows words)) (link_of t words entries) t.sorted t.count g.level g.shape 64 0 id (inside_zero t.sorted t.count)

  one_id : (id u : ℕ) → id < 2 ^ 64 → mixed_id (id_of (plain_rows words) u) ≡ mixed_id id → id_of (plain_rows words) u ≡ id
  one_id id u h e = mixed_one_to_one (id_of (plain_rows words) u) id (subst (λ (x : ℕ). x < 2 ^ 64) (sym (id_of_link words u)) (bounded (2 * u - 2))) h e

  pub cell_ends : (id : ℕ) → id < 2 ^ 64 → Ends mixed_id (id_of (plain_rows words)) (link_of t words entries) g.level (cell_of t words entries id) id
  unfolding cell_of
  cell_ends id h =
      ends mixed_id (id_of (plain_rows words)) (link_of t words entries) t.sorted t.count g.level g.shape 64 0 id (λ u. one_id id u h)
      (on_start mixed_id (id_of (plain_rows words)) g.level id g.shape.top mixed_below)

module _ (t : Tree) (words entries : List ℕ) (g : Grown t words entries) (bounded : Words words)
    (t' : Tree) (words' entries' : List ℕ) (y id word : ℕ)
    (counted : t'.count ≡ suc t.count) (front : t'.sorted ≡ t.sorted)
    (some : 0 < t.count) (few : t.count < max_records) (room : 2 * t.count + 2 ≤ length words)
    (words_kept : length words' ≡ length words) (entries_room : t.count < length entries) (entries_kept : length entries' ≡ length entries)
    (id_fits : id < 2 ^ 64) (stops : y ≡ cell_of t words entries id) (absent : Absent (plain_rows words) t.count id)
    (s : Spliced t words entries t'.root words' entries' y id word) where
  inside_y : Inside t.sorted t.count y
  inside_y = subst (λ (x : ℕ). Inside t.sorted t.count x) (sym stops) (cell_inside t words entries g bounded id)

  ends_y : Ends mixed_id (id_of (plain_rows words)) (link_of t words entries) g.level y id
  ends_y = subst (λ (x : ℕ). Ends mixed_id (id_of (plain_rows words)) (link_of t words entries) g.level x id) (sym stops) (cell_ends t words entries g bounded id id_fits)

  wider : (z : ℕ) → Inside t.sorted t.count z → Inside t'.sorted t'.count z
  wider z i =
      let a = i.below in
      record { below = omega arith; above = λ h. (let b = i.above h in omega arith) }

  own_cells : (b : ℕ) → b < 2 → Inside t'.sorted t'.count (2 * suc t.count + b)
  own_cells b h =
      let f = g.front in
      record { below = omega arith; above = λ k. omega arith }

  old_link : link_of t words entries y ≡ link_in t.root words entries y
  old_link = link_in_lem t words entries y inside_y

  children : (b : ℕ) → b < 2 → link_of t' words' entries' (2 * suc t.count + b) ≡ cond (eqb (link_of t words entries y) 0) 0 (link_in t.root words entries (2 * link_of t words entries y + b))
  children b h =
      link_in_lem t' words' entries' _ (own_cells b h)
      ∙ s.children b h
      ∙ ap (λ (u : ℕ). cond (eqb u 0) 0 (link_in t.root words entries (2 * u + b))) (sym old_link)

  other_links : (z : ℕ) → (z ≡ y → ⊥) → (z / 2 ≡ suc t.count → ⊥) → link_of t' words' entries' z ≡ link_of t words entries z
  other_links z a b = go (place t words entries z)
    where
      go : Place t words entries z → link_of t' words' entries' z ≡ link_of t words entries z
      go (inside i) =
          link_in_lem t' words' entries' z (wider z i)
          ∙ s.others z a (not_one t.sorted t.count z i) i.below
          ∙ sym (link_in_lem t words entries z i)
      go (outside k e) =
          link_out t' words' entries' z
          (λ i. k (record { below = (let c = i.below in omega arith); above = λ h. (let d = i.above h in omega arith) }))
          ∙ sym e

  new_id : id_of (plain_rows words') (suc t.count) ≡ id
  new_id =
      let l = length_plain words in
      ap (λ (r : List ℕ). id_of r (suc t.count)) s.rows ∙ put_id_new (plain_rows words) t.count id (plain_word word) (omega arith)

  old_id : (u : ℕ) → (u ≡ suc t.count → ⊥) → id_of (plain_rows words') u ≡ id_of (plain_rows words) u
  old_id u h = ap (λ (r : List ℕ). id_of r u) s.rows ∙ put_id (plain_rows words) t.count id (plain_word word) u h some

  old_live : (u : ℕ) → 0 < u → u ≤ t.count → Live (plain_rows words') u → Live (plain_rows words) u
  old_live u a h l = live_old (plain_rows words) t.count id (plain_word word) u a h (subst (λ (r : List ℕ). Live r u) s.rows l)

  put : Put (id_of (plain_rows words)) (link_of t words entries) (id_of (plain_rows words')) (link_of t' words' entries') (suc t.count) y id
  put =
      record {
        new = λ z. (let w = g.shape.within z in omega arith);
        owner = (let w = inside_y.below in omega arith);
        cell = link_in_lem t' words' entries' y (wider y inside_y) ∙ s.there;
        none = λ b h e. children b h ∙ ap (λ (c : Bool). cond c 0 (link_in t.root words entries (2 * link_of t words entries y + b))) (eq-eqb _ _ e);
        taken = λ b h q.
            children b h
            ∙ ap (λ (c : Bool). cond c 0 (link_in t.root words entries (2 * link_of t words entries y + b))) (ne_eqb (link_of t words entries y) 0 (λ e. omega arith))
            ∙ sym (link_in_lem t words entries _ (cells_inside mixed_id (id_of (plain_rows words)) (link_of t words entries) t.sorted t.count g.level g.shape y b q h));
        others = other_links;
        id_new = new_id;
        ids = old_id;
      }

  shape : Shape mixed_id (id_of (plain_rows words')) (link_of t' words' entries') t.sorted (suc t.count) (level_with g.level (suc t.count) ends_y.left)
  shape = put_shape mixed_id (id_of (plain_rows words)) (link_of t words entries) (id_of (plain_rows words')) (link_of t' words' entries') t.sorted t.count y id g.level put g.shape ends_y g.front

  complete : (u : ℕ) → t'.sorted < u → u ≤ t'.count → Live (plain_rows words') u → link_of t' words' entries' (cell_of t' words' entries' (id_of (plain_rows words') u)) ≡ u
  unfolding cell_of
  complete u a h l = go (same u (suc t.count))
    where
      go : Same u (suc t.count) → link_of t' words' entries' (look mixed_id (id_of (plain_rows words')) (link_of t' words' entries') 64 0 (id_of (plain_rows words') u)) ≡ u
      go (yes e) =
          ap (λ (x : ℕ). link_of t' words' entries' (look mixed_id (id_of (plain_rows words')) (link_of t' words' entries') 64 0 x)) (ap (id_of (plain_rows words')) e ∙ new_id)
          ∙ ap (link_of t' words' entries')
          (own mixed_id (id_of (plain_rows words)) (link_of t words entries) (id_of (plain_rows words')) (link_of t' words' entries') (suc t.count) y id put ends_y.stops 64 0 (λ k. omega arith) (sym stops))
          ∙ put.cell
          ∙ sym e
      go (no k) =
          let c : 0 < u = omega arith in
          let d : u ≤ t.count = omega arith in
          let m : Live (plain_rows words) u = old_live u c d l in
          ap (λ (x : ℕ). link_of t' words' entries' (look mixed_id (id_of (plain_rows words')) (link_of t' words' entries') 64 0 x)) (old_id u k)
          ∙ keep mixed_id (id_of (plain_rows words)) (link_of t words entries) (id_of (plain_rows words')) (link_of t' words' entries') (suc t.count) y id put ends_y.stops 64 0 0
          (id_of (plain_rows words) u) u (λ e. absent u c d m e) (itself (λ k. omega arith)) c refl (g.complete u (omega arith) d m)

  rising : Rising (plain_rows words') t'.sorted
  rising u v a b c =
      let f = g.front in
      let r = g.rising u v a b (omega arith) in
      let x = old_id u (λ e. omega arith) in
      let y' = old_id v (λ e. omega arith) in
      omega arith

  once : Once (plain_rows words') t'.count
  once u v a b c l m e = go (same v (suc t.count))
    where
      x : id_of (plain_rows words') u ≡ id_of (plain_rows words) u
      x = old_id u (λ k. omega arith)

      go : Same v (suc t.count) → ⊥
      go (yes k) = absent u a (omega arith) (old_live u a (omega arith) l) (sym x ∙ e ∙ ap (id_of (plain_rows words')) k ∙ new_id)
      go (no k) =
          g.once u v a b (omega arith) (old_live u a (omega arith) l) (old_live v (omega arith) (omega arith) m) (sym x ∙ e ∙ old_id v k)

  pub inserted : Added t words entries t' words' entries' id word
  inserted =
      record {
        grown = record {
          words_lent = omega arith;
          entries_lent = omega arith;
          few = omega arith;
          front = (let f = g.front in omega arith);
          rising = rising;
          once = once;
          level = level_with g.level (suc t.count) ends_y.left;
          shape = subst (λ (k : ℕ). Shape mixed_id (id_of (plain_rows words')) (link_of t' words' entries') t'.sorted k (level_with g.level (suc t.count) ends_y.left)) (sym counted)
              (subst (λ (k : ℕ). Shape mixed_id (id_of (plain_rows words')) (link_of t' words' entries') k (suc t.count) (level_with g.level (suc t.count) ends_y.left)) (sym front) shape);
          complete = complete;
        };
        rows = s.rows;
        counted = omega arith;
      }
