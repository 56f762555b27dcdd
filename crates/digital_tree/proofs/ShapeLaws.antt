-- Where the way of an ID ends in a tree of the right shape: in an empty cell, or with a node of this ID, after at most 64 links.
use Prim.Native.Nat.{ℕ, zero, suc, ◌+◌, ◌*◌, ◌/◌, ◌%◌, ◌^◌, ◌<◌}
use native.Mathlib.Nat.{pow-suc, div-div-eq-div-mul, div-one, div-eq_of_lt, mod-lt}
use native.Mathlib.Omega.{arith}
use mathlib.Core.Logic.{◌⊎◌, inl, inr}
use mathlib.Core.Path.{◌≡◌, sym, ap, ◌∙◌, subst}
use lib.Dec.{lit<}
use Rattle.digital_tree.specs.Look.{bit_at, look, Inside, Shape}
use Rattle.digital_tree.proofs.LookLaws.{Turn, empty, here, down, turn, look_empty, look_here, look_down}

half : (k f : ℕ) → k / 2 ^ suc f ≡ k / 2 ^ f / 2
half k f = ap (λ (n : ℕ). k / n) (pow-suc 2 f) ∙ sym (div-div-eq-div-mul k (2 ^ f) 2)

-- a cell on the way of an ID, with f bits to go: the bits so far are those of the link above and the branch
pub record On (key id_of level : ℕ → ℕ) (z f id : ℕ) : Type 0 where
  pub height : level (z / 2) ≡ suc f
  pub same : key id / 2 ^ f ≡ 2 * (key (id_of (z / 2)) / 2 ^ suc f) + z % 2

pub record Ends (key id_of link level : ℕ → ℕ) (z id : ℕ) : Type 0 where
  pub left : ℕ
  pub on : On key id_of level z left id
  pub stops : (link z ≡ 0) ⊎ (id_of (link z) ≡ id)

module _ (key id_of link : ℕ → ℕ) (low high : ℕ) (level : ℕ → ℕ) (shape : Shape key id_of link low high level) where
  level_here : (z f id : ℕ) → On key id_of level z f id → 0 < link z → level (link z) ≡ f
  level_here z f id o p = let a = shape.falls z p in let b = o.height in omega arith

  same_bits : (z f id : ℕ) → On key id_of level z f id → 0 < link z → key (id_of (link z)) / 2 ^ f ≡ key id / 2 ^ f
  same_bits z f id o p =
      ap (λ (n : ℕ). key (id_of (link z)) / 2 ^ n) (sym (level_here z f id o p))
      ∙ shape.bits z p
      ∙ ap (λ (n : ℕ). 2 * (key (id_of (z / 2)) / 2 ^ n) + z % 2) o.height
      ∙ sym o.same

  on_down : (z f id : ℕ) → On key id_of level z (suc f) id → 0 < link z → On key id_of level (2 * link z + bit_at (key id) f) f id
  on_down z f id o p =
      let q : ℕ = key id / 2 ^ f in
      let e : link z ≡ (2 * link z + q % 2) / 2 = omega arith in
      let s : key (id_of (link z)) / 2 ^ suc f ≡ key id / 2 ^ suc f = same_bits z (suc f) id o p in
      let t : key (id_of (link z)) / 2 ^ suc f ≡ q / 2 = s ∙ half (key id) f in
      let r : q ≡ 2 * (key (id_of (link z)) / 2 ^ suc f) + (2 * link z + q % 2) % 2 = omega arith in
      record {
        height = ap level (sym e) ∙ level_here z (suc f) id o p;
        same = r ∙ ap (λ (n : ℕ). 2 * (key (id_of n) / 2 ^ suc f) + (2 * link z + q % 2) % 2) e;
      }

  stay : (f z y id : ℕ) → On key id_of level z f id → (link z ≡ 0) ⊎ (id_of (link z) ≡ id) → y ≡ z → Ends key id_of link level y id
  stay f z y id o s e = subst (λ (x : ℕ). Ends key id_of link level x id) (sym e) (record { left = f; on = o; stops = s })

  pub ends : (f z id : ℕ) → ((u : ℕ) → key (id_of u) ≡ key id → id_of u ≡ id) → On key id_of level z f id → Ends key id_of link level (look key id_of link f z id) id
  ends zero z id one o = go (turn id_of link z id)
    where
      go : Turn id_of link z id → Ends key id_of link level (look key id_of link 0 z id) id
      go (empty e) = stay 0 z _ id o (inl e) (look_empty key id_of link 0 z id e)
      go (here e) = stay 0 z _ id o (inr e) (look_here key id_of link 0 z id e)
      go (down p n) = absurd (n (one (link z) (sym (div-one _) ∙ same_bits z 0 id o p ∙ div-one _)))
  ends (suc f) z id one o = go (turn id_of link z id) (λ y q. ends f y id one q)
    where
      go : Turn id_of link z id → ((y : ℕ) → On key id_of level y f id → Ends key id_of link level (look key id_of link f y id) id)
          → Ends key id_of link level (look key id_of link (suc f) z id) id
      go (empty e) more = stay (suc f) z _ id o (inl e) (look_empty key id_of link (suc f) z id e)
      go (here e) more = stay (suc f) z _ id o (inr e) (look_here key id_of link (suc f) z id e)
      go (down p n) more =
          subst (λ (x : ℕ). Ends key id_of link level x id) (sym (look_down key id_of link f z id p n))
          (more (2 * link z + bit_at (key id) f) (on_down z f id o p))

  -- the cells of a link
  pub cells_inside : (z b : ℕ) → 0 < link z → b < 2 → Inside low high (2 * link z + b)
  cells_inside z b p h =
      let a = shape.over z p in
      let w = shape.within z in
      record { below = omega arith; above = λ q. omega arith }

  pub look_inside : (f z id : ℕ) → Inside low high z → Inside low high (look key id_of link f z id)
  unfolding look
  look_inside zero z id i = i
  look_inside (suc f) z id i = go (turn id_of link z id) (λ y j. look_inside f y id j)
    where
      go : Turn id_of link z id → ((y : ℕ) → Inside low high y → Inside low high (look key id_of link f y id)) → Inside low high (look key id_of link (suc f) z id)
      go (empty e) more = subst (λ (x : ℕ). Inside low high x) (sym (look_empty key id_of link (suc f) z id e)) i
      go (here e) more = subst (λ (x : ℕ). Inside low high x) (sym (look_here key id_of link (suc f) z id e)) i
      go (down p n) more =
          subst (λ (x : ℕ). Inside low high x) (sym (look_down key id_of link f z id p n))
          (more (2 * link z + bit_at (key id) f) (cells_inside z (bit_at (key id) f) p (mod-lt (key id / 2 ^ f) (lit< tt))))

-- the way of every ID begins in cell 0
pub on_start : (key id_of level : ℕ → ℕ) (id : ℕ) → level 0 ≡ 65 → ((x : ℕ) → key x < 2 ^ 64) → On key id_of level 0 64 id
on_start key id_of level id t h =
    let a : key id / 2 ^ 64 ≡ 0 = div-eq_of_lt (h id) in
    let l : key (id_of 0) < 2 ^ 65 = let b = h (id_of 0) in omega arith in
    let b : key (id_of 0) / 2 ^ 65 ≡ 0 = div-eq_of_lt l in
    record { height = t; same = a ∙ sym (ap (λ (n : ℕ). 2 * n + 0) b) }
