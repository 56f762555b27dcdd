-- A node more: it takes over the links of the node in the cell where the way of its ID ends, if there is one, and the cell gets its link.
-- Its own way ends there, the ways of other IDs end where they did, and the tree keeps its shape.
use Prim.Native.Nat.{ℕ, zero, suc, ◌+◌, ◌*◌, ◌/◌, ◌%◌, ◌^◌, ◌<◌, ◌≤◌}
use native.Mathlib.Omega.{arith}
use native.Mathlib.Nat.{mod-lt}
use mathlib.Core.Bool.{Bool, true, false, cond}
use mathlib.Core.Logic.{◌⊎◌, inl, inr, ⊎_elim}
use mathlib.Core.Path.{◌≡◌, refl, sym, ap, ap₂, ◌∙◌, subst}
use lib.Dec.{eqb, lit<}
use borrow.Author.Tests.{eqb-true, eqb-false, eq-eqb, ne_eqb}
use Rattle.digital_tree.specs.Look.{bit_at, look, Shape}
use Rattle.digital_tree.proofs.LookLaws.{Turn, empty, here, down, turn, look_empty, look_here, look_down}
use Rattle.digital_tree.proofs.ShapeLaws.{Ends}

-- link m, with this ID, put into cell y
pub record Put (id_of link id_of' link' : ℕ → ℕ) (m y id : ℕ) : Type 0 where
  pub new : (z : ℕ) → link z < m
  pub owner : y / 2 < m
  pub cell : link' y ≡ m
  pub none : (b : ℕ) → b < 2 → link y ≡ 0 → link' (2 * m + b) ≡ 0
  pub taken : (b : ℕ) → b < 2 → 0 < link y → link' (2 * m + b) ≡ link (2 * link y + b)
  pub others : (z : ℕ) → (z ≡ y → ⊥) → (z / 2 ≡ m → ⊥) → link' z ≡ link z
  pub id_new : id_of' m ≡ id
  pub ids : (u : ℕ) → (u ≡ m → ⊥) → id_of' u ≡ id_of u

pub data Same (a b : ℕ) : Type 0 where
  yes : a ≡ b → Same a b
  no : (a ≡ b → ⊥) → Same a b

pub same : (a b : ℕ) → Same a b
same a b = go (eqb a b) refl
  where
    go : (t : Bool) → eqb a b ≡ t → Same a b
    go true e = yes (eqb-true a b e)
    go false e = no (eqb-false a b e)

module _ (key id_of link id_of' link' : ℕ → ℕ) (m y id : ℕ) (put : Put id_of link id_of' link' m y id) where
  -- a cell of the new tree stands for itself, or the new node's for the replaced one's
  pub data Stands (z : ℕ) : ℕ → Type 0 where
    itself : (z / 2 ≡ m → ⊥) → Stands z z
    taken_over : {b : ℕ} → 0 < link y → b < 2 → z ≡ 2 * link y + b → Stands z (2 * m + b)

  -- such a cell holds what the other held, unless it is the cell of the new node
  stands_link : (z z' : ℕ) → Stands z z' → ((z ≡ y) × (link' z' ≡ m)) ⊎ (link' z' ≡ link z)
  stands_link z z' (itself n) = go (same z y)
    where
      go : Same z y → ((z ≡ y) × (link' z ≡ m)) ⊎ (link' z ≡ link z)
      go (yes q) = inl (q, ap link' q ∙ put.cell)
      go (no q) = inr (put.others z q n)
  stands_link z z' (taken_over {b} p h e) = inr (put.taken b h p ∙ ap link (sym e))

  module _ (stops : (link y ≡ 0) ⊎ (id_of (link y) ≡ id)) where
    -- the way of the new node's ID
    pub own : (f z : ℕ) → (z / 2 ≡ m → ⊥) → look key id_of link f z id ≡ y → look key id_of' link' f z id ≡ y
    unfolding look
    own zero z n e = e
    own (suc f) z n e = go (turn id_of link z id) (same z y) (λ x k. own f x k)
      where
        at_cell : z ≡ y → look key id_of' link' (suc f) z id ≡ y
        at_cell q = look_here key id_of' link' (suc f) z id (ap id_of' (ap link' q ∙ put.cell) ∙ put.id_new) ∙ q

        go : Turn id_of link z id → Same z y → ((x : ℕ) → (x / 2 ≡ m → ⊥) → look key id_of link f x id ≡ y → look key id_of' link' f x id ≡ y)
            → look key id_of' link' (suc f) z id ≡ y
        go t (yes q) more = at_cell q
        go (empty r) (no q) more = absurd (q (sym (look_empty key id_of link (suc f) z id r) ∙ e))
        go (here r) (no q) more = absurd (q (sym (look_here key id_of link (suc f) z id r) ∙ e))
        go (down p d) (no q) more =
            let l : link' z ≡ link z = put.others z q n in
            let h = put.new z in
            let i : id_of' (link' z) ≡ id_of (link z) = ap id_of' l ∙ put.ids (link z) (λ a. omega arith) in
            let x : ℕ = 2 * link z + bit_at (key id) f in
            let k : ℕ = key id / 2 ^ f in
            let o : x / 2 ≡ m → ⊥ = λ a. (let w : (2 * link z + k % 2) / 2 ≡ m = a in omega arith) in
            look_down key id_of' link' f z id (omega arith) (λ a. d (sym i ∙ a))
            ∙ ap (λ (u : ℕ). look key id_of' link' f (2 * u + bit_at (key id) f) id) l
            ∙ more x o (sym (look_down key id_of link f z id p d) ∙ e)

    not_there : (id' u : ℕ) → (id' ≡ id → ⊥) → 0 < u → id_of u ≡ id' → link y ≡ u → ⊥
    not_there id' u n p i e = ⊎_elim (λ a. omega arith) (λ a. n (sym i ∙ ap id_of (sym e) ∙ a)) stops

    -- the way of another ID that ended with a node of this ID
    pub keep : (f z z' id' u : ℕ) → (id' ≡ id → ⊥) → Stands z z' → 0 < u → id_of u ≡ id' → link (look key id_of link f z id') ≡ u → link' (look key id_of' link' f z' id') ≡ u
    unfolding look
    keep zero z z' id' u n s p i e =
        ⊎_elim (λ a. absurd (not_there id' u n p i (ap link (sym a.0) ∙ e))) (λ a. a ∙ e) (stands_link z z' s)
    keep (suc f) z z' id' u n s p i e = go (turn id_of link z id') (stands_link z z' s) (λ x x' t h. keep f x x' id' u n t p i h)
      where
        old : id_of' (link z) ≡ id_of (link z)
        old = let h = put.new z in put.ids (link z) (λ a. omega arith)

        small : bit_at (key id') f < 2
        small = mod-lt (key id' / 2 ^ f) (lit< tt)

        go : Turn id_of link z id' → ((z ≡ y) × (link' z' ≡ m)) ⊎ (link' z' ≡ link z)
            → ((x x' : ℕ) → Stands x x' → link (look key id_of link f x id') ≡ u → link' (look key id_of' link' f x' id') ≡ u)
            → link' (look key id_of' link' (suc f) z' id') ≡ u
        go (empty r) t more =
            let k : link z ≡ u = ap link (sym (look_empty key id_of link (suc f) z id' r)) ∙ e in
            absurd (omega arith)
        go (here r) (inl a) more =
            let k : link z ≡ u = ap link (sym (look_here key id_of link (suc f) z id' r)) ∙ e in
            absurd (not_there id' u n p i (ap link (sym a.0) ∙ k))
        go (here r) (inr a) more =
            let k : link z ≡ u = ap link (sym (look_here key id_of link (suc f) z id' r)) ∙ e in
            let h : id_of' (link' z') ≡ id' = ap id_of' a ∙ old ∙ r in
            ap link' (look_here key id_of' link' (suc f) z' id' h) ∙ a ∙ k
        go (down q d) (inl a) more =
            let c : 0 < m = let w = put.new z in omega arith in
            let h : id_of' (link' z') ≡ id = ap id_of' a.1 ∙ put.id_new in
            let w : look key id_of' link' (suc f) z' id' ≡ look key id_of' link' f (2 * m + bit_at (key id') f) id'
            = look_down key id_of' link' f z' id' (subst (λ (v : ℕ). 0 < v) (sym a.1) c) (λ k. n (sym k ∙ h))
            ∙ ap (λ (v : ℕ). look key id_of' link' f (2 * v + bit_at (key id') f) id') a.1 in
            let l : 0 < link y = subst (λ (v : ℕ). 0 < link v) a.0 q in
            ap link' w
            ∙ more (2 * link z + bit_at (key id') f) (2 * m + bit_at (key id') f)
            (taken_over l small (ap (λ (v : ℕ). 2 * link v + bit_at (key id') f) a.0))
            (ap link (sym (look_down key id_of link f z id' q d)) ∙ e)
        go (down q d) (inr a) more =
            let h : id_of' (link' z') ≡ id_of (link z) = ap id_of' a ∙ old in
            let w : look key id_of' link' (suc f) z' id' ≡ look key id_of' link' f (2 * link z + bit_at (key id') f) id'
            = look_down key id_of' link' f z' id' (subst (λ (v : ℕ). 0 < v) (sym a) q) (λ k. d (sym h ∙ k))
            ∙ ap (λ (v : ℕ). look key id_of' link' f (2 * v + bit_at (key id') f) id') a in
            let g = put.new z in
            let k : ℕ = key id' / 2 ^ f in
            let o : (2 * link z + bit_at (key id') f) / 2 ≡ m → ⊥ = λ x. (let v : (2 * link z + k % 2) / 2 ≡ m = x in omega arith) in
            ap link' w
            ∙ more (2 * link z + bit_at (key id') f) (2 * link z + bit_at (key id') f) (itself o)
            (ap link (sym (look_down key id_of link f z id' q d)) ∙ e)

-- the levels with one node more
abbrev pub level_with : (ℕ → ℕ) → ℕ → ℕ → ℕ → ℕ
level_with level m g u = cond (eqb u m) g (level u)

module _ (key id_of link id_of' link' : ℕ → ℕ) (low high y id : ℕ) (level : ℕ → ℕ) (put : Put id_of link id_of' link' (suc high) y id)
    (shape : Shape key id_of link low high level) (ends : Ends key id_of link level y id) (room : low ≤ high) where
  level' : ℕ → ℕ
  level' = level_with level (suc high) ends.left

  level_new : level' (suc high) ≡ ends.left
  unfolding level'
  level_new = simp (eq-eqb (suc high) (suc high) refl)

  level_old : (u : ℕ) → u ≤ high → level' u ≡ level u
  unfolding level'
  level_old u h = simp (ne_eqb u (suc high) (λ e. omega arith))

  id_old : (u : ℕ) → u ≤ high → id_of' u ≡ id_of u
  id_old u h = put.ids u (λ e. omega arith)

  -- what a link must be to the link above
  record Below (u v b : ℕ) : Type 0 where
    fall : suc (level' v) ≡ level' u
    bit : key (id_of' v) / 2 ^ level' v ≡ 2 * (key (id_of' u) / 2 ^ level' u) + b

  from : (u v b k l i j : ℕ) → level' u ≡ k → level' v ≡ l → id_of' u ≡ i → id_of' v ≡ j → suc l ≡ k → key j / 2 ^ l ≡ 2 * (key i / 2 ^ k) + b → Below u v b
  from u v b k l i j a c d e f g =
      record {
        fall = ap suc c ∙ f ∙ sym a;
        bit = ap₂ (λ (x n : ℕ). key x / 2 ^ n) e c ∙ g ∙ sym (ap₂ (λ (x n : ℕ). 2 * (key x / 2 ^ n) + b) d a);
      }

  new_below : Below (y / 2) (suc high) (y % 2)
  new_below =
      let o = put.owner in
      let w : y / 2 ≤ high = omega arith in
      from (y / 2) (suc high) (y % 2) (suc ends.left) ends.left (id_of (y / 2)) id (level_old (y / 2) w ∙ ends.on.height) level_new (id_old (y / 2) w) put.id_new refl ends.on.same

  old_below : (z : ℕ) → 0 < link z → Below (z / 2) (link z) (z % 2)
  old_below z p =
      let h = shape.owners z p in
      let w = shape.within z in
      from (z / 2) (link z) (z % 2) _ _ _ _ (level_old _ h) (level_old _ w) (id_old _ h) (id_old _ w) (shape.falls z p) (shape.bits z p)

  taken_below : (b : ℕ) → b < 2 → 0 < link y → 0 < link (2 * link y + b) → Below (suc high) (link (2 * link y + b)) b
  taken_below b h p q =
      let z : ℕ = 2 * link y + b in
      let w = shape.within z in
      let o : link y ≡ (2 * link y + b) / 2 = omega arith in
      let r : b ≡ (2 * link y + b) % 2 = omega arith in
      let g : level (link y) ≡ ends.left = (let a = shape.falls y p in let c = ends.on.height in omega arith) in
      let i : id_of (link y) ≡ id = ⊎_elim (λ e. absurd (omega arith)) (λ e. e) ends.stops in
      from (suc high) (link z) b (level (link y)) (level (link z)) (id_of (link y)) (id_of (link z))
      (level_new ∙ sym g) (level_old _ w) (put.id_new ∙ sym i) (id_old _ w)
      (shape.falls z q ∙ ap level (sym o))
      (shape.bits z q ∙ ap₂ (λ (u c : ℕ). 2 * (key (id_of u) / 2 ^ level u) + c) (sym o) (sym r))

  -- a link of the new tree: the new node's, one that it took over, or an old one
  record Link (z : ℕ) : Type 0 where
    owned : z / 2 ≤ suc high
    over_low : low < link' z
    up_to : link' z ≤ suc high
    below : Below (z / 2) (link' z) (z % 2)

  link_of_lem : (z v : ℕ) → link' z ≡ v → z / 2 ≤ suc high → low < v → v ≤ suc high → Below (z / 2) v (z % 2) → Link z
  link_of_lem z v e a b c d =
      record {
        owned = a;
        over_low = subst (λ (x : ℕ). low < x) (sym e) b;
        up_to = subst (λ (x : ℕ). x ≤ suc high) (sym e) c;
        below = subst (λ (x : ℕ). Below (z / 2) x (z % 2)) (sym e) d;
      }

  put_link : (z : ℕ) → 0 < link' z → Link z
  put_link z p = go (same z y) (same (z / 2) (suc high)) (same (link y) 0)
    where
      go : Same z y → Same (z / 2) (suc high) → Same (link y) 0 → Link z
      go (yes a) s t =
          let o = put.owner in
          subst (λ (x : ℕ). Link x) (sym a) (link_of_lem y (suc high) put.cell (omega arith) (omega arith) (omega arith) new_below)
      go (no a) (yes b) (yes e) =
          let w : z ≡ 2 * suc high + z % 2 = omega arith in
          let k : link' z ≡ 0 = ap link' w ∙ put.none (z % 2) (omega arith) e in
          absurd (omega arith)
      go (no a) (yes b) (no e) =
          let w : z ≡ 2 * suc high + z % 2 = omega arith in
          let l : 0 < link y = omega arith in
          let k : link' z ≡ link (2 * link y + z % 2) = ap link' w ∙ put.taken (z % 2) (omega arith) l in
          let q : 0 < link (2 * link y + z % 2) = subst (λ (x : ℕ). 0 < x) k p in
          let h = shape.within (2 * link y + z % 2) in
          link_of_lem z _ k (omega arith) (shape.over _ q) (omega arith)
          (subst (λ (u : ℕ). Below u (link (2 * link y + z % 2)) (z % 2)) (sym b) (taken_below (z % 2) (omega arith) l q))
      go (no a) (no b) t =
          let k : link' z ≡ link z = put.others z a b in
          let q : 0 < link z = subst (λ (x : ℕ). 0 < x) k p in
          let h = shape.within z in
          let o = shape.owners z q in
          link_of_lem z _ k (omega arith) (shape.over z q) (omega arith) (old_below z q)

  pub put_shape : Shape key id_of' link' low (suc high) (level_with level (suc high) ends.left)
  unfolding level'
  put_shape =
      record {
        top = level_old 0 (omega arith) ∙ shape.top;
        owners = λ z p. (put_link z p).owned;
        over = λ z p. (put_link z p).over_low;
        within = within;
        falls = λ z p. (put_link z p).below.fall;
        bits = λ z p. (put_link z p).below.bit;
      }
    where
      within : (z : ℕ) → link' z ≤ suc high
      within z = go (same (link' z) 0)
        where
          go : Same (link' z) 0 → link' z ≤ suc high
          go (yes e) = omega arith
          go (no e) = (put_link z (omega arith)).up_to
