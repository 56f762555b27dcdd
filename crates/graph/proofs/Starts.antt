-- The table of starts: the loop that fills it, and that it is laid as the tests of 49 and 50 want it.
use Prim.Native.Nat.{ℕ, zero, suc, ◌+◌, ◌-◌, ◌≤◌, ◌<◌}
use mathlib.Core.Path.{◌≡◌, refl, sym, ap, ap₂, subst, ◌∙◌}
use mathlib.Core.Bool.{Bool, true, false}
use mathlib.Core.List.{List, [], ◌∷◌, ◌++◌}
use native.Mathlib.Numerals.{add-one}
use native.Mathlib.Omega.{arith}
use borrow.Author.Tests.{ltb-true, ltb-false}
use lib.Dec.{ltb}
use lib.ListN.{length, get_or, take, drop, set, replicate, length-set, length-append, get_or-append}
use lib.Seq.{take_all, get_or-append-add, take-append_seam}
use Rattle.graph.specs.Graph.{Graph, links_of, levels_of, neighbours_of}
use Rattle.graph.specs.Layout.{first_node, node_length, graph_length, starts_from}
use Rattle.graph.specs.Cache.{links_at}
use Rattle.graph.specs.Decoded.{graph_at, Laid}
use Rattle.graph.proofs.Decode.{length_graph, length_links}

pub length_starts : (at : ℕ) (g : Graph) → length (starts_from at g) ≡ length g
length_starts at [] = refl
length_starts at (links ∷ g) = ap suc (length_starts (at + node_length links) g)

-- one store more, in front of what was lent
set_more : (i v : ℕ) (all lent : List ℕ) → i < length all → i < length lent → get_or all i 0 ≡ v → set (take i all ++ drop i lent) i v ≡ take (i + 1) all ++ drop (i + 1) lent
set_more i v all lent h k e = go i all lent h k e ∙ ap (λ (n : ℕ). take n all ++ drop n lent) (sym (add-one i))
  where
    go : (i : ℕ) (all lent : List ℕ) → i < length all → i < length lent → get_or all i 0 ≡ v → set (take i all ++ drop i lent) i v ≡ take (suc i) all ++ drop (suc i) lent
    go i [] lent h k e = absurd (omega arith)
    go i (x ∷ all) [] h k e = absurd (omega arith)
    go zero (x ∷ all) (y ∷ lent) h k e = ap (λ (z : ℕ). z ∷ lent) (sym e)
    go (suc i) (x ∷ all) (y ∷ lent) h k e = ap (λ (l : List ℕ). x ∷ l) (go i all lent (omega arith) (omega arith) e)

drop_more : (i : ℕ) (all rest : List ℕ) (v : ℕ) → drop i all ≡ v ∷ rest → (get_or all i 0 ≡ v) × (drop (i + 1) all ≡ rest)
drop_more i all rest v e = let r = go i all e in (r.0, ap (λ (n : ℕ). drop n all) (add-one i) ∙ r.1)
  where
    go : (i : ℕ) (all : List ℕ) → drop i all ≡ v ∷ rest → (get_or all i 0 ≡ v) × (drop (suc i) all ≡ rest)
    go zero [] e = absurd (let z : ◌≡◌ {A = ℕ} 0 1 = cc in omega arith)
    go (suc i) [] e = absurd (let z : ◌≡◌ {A = ℕ} 0 1 = cc in omega arith)
    go zero (x ∷ all) e = let a : x ≡ v = cc in let b : all ≡ rest = cc in (a, b)
    go (suc i) (x ∷ all) e = go i all e

graph_turn : (count i : ℕ) (s : List ℕ) (at : ℕ) → i < count → graph_at (count - i) s at ≡ links_at s at ∷ graph_at (count - (i + 1)) s (at + node_length (links_at s at))
graph_turn count i s at h = let e : count - i ≡ suc (count - (i + 1)) = omega arith in ap (λ (n : ℕ). graph_at n s at) e

abbrev pub starts_of : ℕ → List ℕ → List ℕ
starts_of count s = starts_from first_node (graph_at count s first_node)

-- ---- filling
pub record Filling (s : List ℕ) (count : ℕ) (lent starts : List ℕ) (at i : ℕ) : Type 0 where
  pub same : length starts ≡ length lent
  pub ends : at + graph_length (graph_at (count - i) s at) ≡ first_node + graph_length (graph_at count s first_node)
  pub rest : drop i (starts_from first_node (graph_at count s first_node)) ≡ starts_from at (graph_at (count - i) s at)
  pub filled : starts ≡ take i (starts_from first_node (graph_at count s first_node)) ++ drop i lent

module _ (s : List ℕ) (count : ℕ) (lent : List ℕ) where
  module _ (starts : List ℕ) (at i : ℕ) (f : Filling s count lent starts at i) (h : i < count) where
    pub filling_more : count ≤ length lent → (next : ℕ) → next ≡ at + node_length (links_at s at) → Filling s count lent (set starts i at) next (i + 1)
    filling_more l next n =
        let turn = graph_turn count i s at h in
        let d = drop_more i (starts_of count s) (starts_from (at + node_length (links_at s at)) (graph_at (count - (i + 1)) s (at + node_length (links_at s at)))) at (f.rest ∙ ap (starts_from at) turn) in
        let size = ap graph_length turn in
        let k = f.ends in
        let moved = ap (graph_at (count - (i + 1)) s) n in
        let moved-size = ap graph_length moved in
        let long = length_starts first_node (graph_at count s first_node) ∙ length_graph count s first_node in
        record {
          same = length-set starts i at ∙ f.same;
          ends = omega arith;
          rest = d.1 ∙ sym (ap₂ starts_from n moved);
          filled = ap (λ (x : List ℕ). set x i at) f.filled ∙ set_more i at (starts_of count s) lent (omega arith) (omega arith) d.0;
        }

  pub filling_done : (starts : List ℕ) (at i : ℕ) → Filling s count lent starts at i → i ≤ count → count ≤ i
      → starts ≡ starts_from first_node (graph_at count s first_node) ++ drop count lent
  filling_done starts at i f few h =
      let e : i ≡ count = omega arith in
      let long = length_starts first_node (graph_at count s first_node) ∙ length_graph count s first_node in
      f.filled
      ∙ ap (λ (n : ℕ). take n (starts_of count s) ++ drop n lent) e
      ∙ ap (λ (l : List ℕ). l ++ drop count lent) (take_all count (starts_of count s) (omega arith))

-- with zeros behind
pub then_zeros : (count n : ℕ) (s after : List ℕ)
    → take count (starts_from first_node (graph_at count s first_node) ++ after) ++ replicate n 0 ≡ starts_from first_node (graph_at count s first_node) ++ replicate n 0
then_zeros count n s after =
    let long = length_starts first_node (graph_at count s first_node) ∙ length_graph count s first_node in
    ap (λ (l : List ℕ). l ++ replicate n 0)
    (ap (λ (k : ℕ). take k (starts_of count s ++ after)) (sym long) ∙ take-append_seam (starts_of count s) after)

-- ---- laid
starts_begin : (n : ℕ) (s : List ℕ) (at k : ℕ) → k < n → links_at s (get_or (starts_from at (graph_at n s at)) k 0) ≡ get_or (graph_at n s at) k []
starts_begin zero s at k h = absurd (omega arith)
starts_begin (suc n) s at zero h = refl
starts_begin (suc n) s at (suc k) h = starts_begin n s (at + node_length (links_at s at)) k (omega arith)

starts_fit : (g : Graph) (at k : ℕ) → k < length g → get_or (starts_from at g) k 0 + node_length (get_or g k []) ≤ at + graph_length g
starts_fit [] at k h = absurd (omega arith)
starts_fit (links ∷ g) at zero h = omega arith
starts_fit (links ∷ g) at (suc k) h = let i = starts_fit g (at + node_length links) k (omega arith) in omega arith

zeros_at : (n k : ℕ) → ◌≡◌ {A = ℕ} (get_or (replicate n 0) k 0) 0
zeros_at zero k = refl
zeros_at (suc n) zero = refl
zeros_at (suc n) (suc k) = zeros_at n k

module _ (s : List ℕ) (count n : ℕ) (fits : first_node + graph_length (graph_at count s first_node) < length s)
    (tall : (k : ℕ) → k < count → 1 ≤ levels_of (graph_at count s first_node) k)
    (near : (k level i : ℕ) → k < count → get_or (neighbours_of (graph_at count s first_node) k level) i 0 < count) where
  start_is : (k : ℕ) → k < count → get_or (starts_of count s ++ replicate n 0) k 0 ≡ get_or (starts_of count s) k 0
  start_is k h =
      let long = length_starts first_node (graph_at count s first_node) ∙ length_graph count s first_node in
      get_or-append (starts_of count s) (replicate n 0) 0 k (omega arith)

  begins_at : (k : ℕ) → k < count → links_at s (get_or (starts_of count s ++ replicate n 0) k 0) ≡ links_of (graph_at count s first_node) k
  begins_at k h = ap (links_at s) (start_is k h) ∙ starts_begin count s first_node k h

  fits_at : (k : ℕ) → k < count → get_or (starts_of count s ++ replicate n 0) k 0 + node_length (links_at s (get_or (starts_of count s ++ replicate n 0) k 0)) ≤ length s
  fits_at k h =
      let long = length_graph count s first_node in
      let f = starts_fit (graph_at count s first_node) first_node k (omega arith) in
      let b = ap node_length (begins_at k h) in
      let i = start_is k h in
      omega arith

  inside_at : (k : ℕ) → get_or (starts_of count s ++ replicate n 0) k 0 < length s
  inside_at k = by (ltb k count) refl
    where
      by : (t : Bool) → ltb k count ≡ t → get_or (starts_of count s ++ replicate n 0) k 0 < length s
      by true e = let f = fits_at k (ltb-true _ _ e) in omega arith
      by false e =
          let h : count ≤ k = ltb-false _ _ e in
          let long = length_starts first_node (graph_at count s first_node) ∙ length_graph count s first_node in
          let p : k ≡ length (starts_of count s) + (k - count) = omega arith in
          let z : get_or (starts_of count s ++ replicate n 0) k 0 ≡ 0 =
          ap (λ (j : ℕ). get_or (starts_of count s ++ replicate n 0) j 0) p ∙ get_or-append-add (starts_of count s) (replicate n 0) (k - count) 0 ∙ zeros_at n (k - count) in
          omega arith

  pub laid_of : Laid s (starts_of count s ++ replicate n 0) count
  laid_of =
      let long = length_starts first_node (graph_at count s first_node) ∙ length_graph count s first_node in
      let both = length-append (starts_of count s) (replicate n 0) in
      record {
        lent = omega arith;
        inside = inside_at;
        begins = begins_at;
        fits = fits_at;
        tall =
            λ k h.
            subst (λ (m : ℕ). 1 ≤ m) (sym (ap length (begins_at k h)) ∙ length_links s (get_or (starts_of count s ++ replicate n 0) k 0)) (tall k h);
        near = near;
      }
