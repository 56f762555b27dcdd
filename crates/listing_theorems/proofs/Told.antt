-- Texts that are the same are the same line by line: each line ends at its first newline, its numbers at a space.
use Prim.Native.Nat.{ℕ, suc, ◌<◌}
use native.Mathlib.Omega.{arith}
use mathlib.Core.Path.{◌≡◌, refl, sym, ap, ap₂, ◌∙◌}
use mathlib.Core.Bool.{Bool, true, false, cond}
use mathlib.Core.List.{List, [], ◌∷◌, ◌++◌, map, append_assoc}
use lib.Dec.{T, eqb}
use lib.ListN.{length, length-append}
use borrow.Author.Tests.{eqb-false}
use Rattle.meaning.specs.Every.{Every}
use Rattle.meaning.specs.Records.{Record}
use Rattle.meaning.proofs.EveryLaws.{every_append}
use Rattle.listing_text.specs.Decimal.{decimal}
use Rattle.listing_text.specs.Lines.{ascii, newline, named, state_counts, log_counts, first_line, caption_text, state_text, node_line}
use Rattle.listing_text.specs.Listing.{node_lines}
use Rattle.listing_text.specs.declared.Heading.{Heading}
use Rattle.listing_text.proofs.LineLaws.{length_line}
use Rattle.listing_theorems.specs.ListingTells.{Without, Shown, shown, OneLine}
use Rattle.listing_theorems.proofs.Digits.{decimal_without, decimal_tells}

-- ---- lists that are parted at the first x
abbrev first : List ℕ → ℕ
first [] = 0
first (x ∷ l) = x

abbrev rest : List ℕ → List ℕ
rest [] = []
rest (x ∷ l) = l

record Parted (a b u v : List ℕ) : Type 0 where
  pub fronts : a ≡ b
  pub rests : u ≡ v

part : (x : ℕ) (a b u v : List ℕ) → Without x a → Without x b → a ++ x ∷ u ≡ b ++ x ∷ v → Parted a b u v
part x [] [] u v p q e = record { fronts = refl; rests = ap rest e }
part x [] (y ∷ b) u v p q e = absurd (q.0 (sym (ap first e)))
part x (y ∷ a) [] u v p q e = absurd (p.0 (ap first e))
part x (y ∷ a) (z ∷ b) u v p q e =
    let s = part x a b u v p.1 q.1 (ap rest e) in
    record { fronts = ap₂ ◌∷◌ (ap first e) s.fronts; rests = s.rests }

-- words without x, by a test that computes
abbrev lacks : ℕ → List ℕ → Bool
lacks x [] = true
lacks x (y ∷ l) = cond (eqb y x) false (lacks x l)

words_without : (x : ℕ) (l : List ℕ) → T (lacks x l) → Without x l
words_without x [] t = tt
words_without x (y ∷ l) t = by (eqb y x) refl t (words_without x l)
  where
    by : (b : Bool) → eqb y x ≡ b → T (cond b false (lacks x l)) → (T (lacks x l) → Without x l) → Without x (y ∷ l)
    by true e t more = absurd t
    by false e t more = (eqb-false y x e, more t)

named_without : (words : List ℕ) (n : ℕ) → T (lacks 10 words) → Without 10 (named words n)
named_without words n t = every_append (λ (y : ℕ). y ≡ 10 → ⊥) words (decimal n) (words_without 10 words t) (decimal_without 10 n (omega arith))

before_without : (words : List ℕ) (n : ℕ) (l : List ℕ) → T (lacks 10 words) → Without 10 l → Without 10 (named words n ++ l)
before_without words n l t p = every_append (λ (y : ℕ). y ≡ 10 → ⊥) (named words n) l (named_without words n t) p

-- ---- the first line
counts_without : (h : Heading) → Without 10 (state_counts h ++ log_counts h)
counts_without h =
    let c = named (ascii " active ") h.active in
    let b = named (ascii " records ") h.records ++ c in
    let g = named (ascii " tail ") h.tail in
    let f = named (ascii " keep ") h.keep ++ g in
    let e = named (ascii " skipped ") h.skipped ++ f in
    every_append (λ (y : ℕ). y ≡ 10 → ⊥) (state_counts h) (log_counts h)
    (before_without (ascii "seq ") h.sequence b tt (before_without (ascii " records ") h.records c tt (named_without (ascii " active ") h.active tt)))
    (before_without (ascii " replayed ") h.replayed e tt (before_without (ascii " skipped ") h.skipped f tt
    (before_without (ascii " keep ") h.keep g tt (named_without (ascii " tail ") h.tail tt))))

first_is : (h : Heading) (l : List ℕ) → first_line h ++ l ≡ (state_counts h ++ log_counts h) ++ 10 ∷ l
first_is h l =
    append_assoc (state_counts h) (log_counts h ++ newline) l ∙ ap (λ (k : List ℕ). state_counts h ++ k) (append_assoc (log_counts h) newline l)
    ∙ sym (append_assoc (state_counts h) (log_counts h) (10 ∷ l))

pub behind_first : (h g : Heading) (l m : List ℕ) → first_line h ++ l ≡ first_line g ++ m → l ≡ m
behind_first h g l m e =
    (part 10 (state_counts h ++ log_counts h) (state_counts g ++ log_counts g) l m (counts_without h) (counts_without g) (sym (first_is h l) ∙ e ∙ first_is g m)).rests

-- ---- a node's line
abbrev behind_id : Bool → List ℕ → List ℕ → List ℕ
behind_id deleted caption l = state_text deleted caption ++ newline ++ l

line_is : (n : ℕ) (r : Record) (l : List ℕ) → node_line n r ++ l ≡ decimal n ++ 32 ∷ (decimal r.id ++ behind_id r.deleted r.caption l)
line_is n r l =
    append_assoc (decimal n) _ l ∙ ap (λ (k : List ℕ). decimal n ++ 32 ∷ k) (append_assoc (decimal r.id) (state_text r.deleted r.caption ++ newline) l)

abbrev shown_as : ℕ → Bool → List ℕ → Shown
shown_as id deleted caption = record { id = id; deleted = deleted; caption = cond deleted [] (caption_text caption) }

record Same (r s : Shown) (l m : List ℕ) : Type 0 where
  pub shown_same : r ≡ s
  pub rest_same : l ≡ m

id_told : (i j : ℕ) (l m : List ℕ) → decimal i ++ 32 ∷ l ≡ decimal j ++ 32 ∷ m → Parted (decimal i) (decimal j) l m
id_told i j l m e = part 32 (decimal i) (decimal j) l m (decimal_without 32 i (omega arith)) (decimal_without 32 j (omega arith)) e

state_told : (i j : ℕ) (a b : Bool) (t t' l m : List ℕ) → Without 10 (shown_as i a t).caption → Without 10 (shown_as j b t').caption
    → decimal i ++ behind_id a t l ≡ decimal j ++ behind_id b t' m → Same (shown_as i a t) (shown_as j b t') l m
state_told i j true true t t' l m p q e =
    let s = id_told i j _ _ e in
    record { shown_same = ap (λ (k : ℕ). shown_as k true []) (decimal_tells i j s.fronts); rest_same = ap (λ (k : List ℕ). rest (rest (rest (rest (rest k))))) s.rests }
state_told i j true false t t' l m p q e = let s = id_told i j _ _ e in absurd (let z : ◌≡◌ {A = ℕ} 103 108 = ap first s.rests in omega arith)
state_told i j false true t t' l m p q e = let s = id_told i j _ _ e in absurd (let z : ◌≡◌ {A = ℕ} 108 103 = ap first s.rests in omega arith)
state_told i j false false t t' l m p q e =
    let s = id_told i j _ _ e in
    let c = sym (append_assoc (caption_text t) newline l) ∙ ap (λ (k : List ℕ). rest (rest (rest (rest (rest k))))) s.rests ∙ append_assoc (caption_text t') newline m in
    let d = part 10 (caption_text t) (caption_text t') l m p q c in
    record {
      shown_same = ap₂ (λ (k : ℕ) (x : List ℕ). record { id = k; deleted = false; caption = x }) (decimal_tells i j s.fronts) d.fronts;
      rest_same = d.rests;
    }

line_told : (n : ℕ) (r s : Record) (l m : List ℕ) → OneLine r → OneLine s → node_line n r ++ l ≡ node_line n s ++ m → Same (shown r) (shown s) l m
line_told n r s l m p q e =
    let d = id_told n n _ _ (sym (line_is n r l) ∙ e ∙ line_is n s m) in
    state_told r.id s.id r.deleted s.deleted r.caption s.caption l m p q d.rests

-- a line is never nothing
line_there : (n : ℕ) (r : Record) (l : List ℕ) → 0 < length (node_line n r ++ l)
line_there n r l = omega (arith, length-append (node_line n r) l, length_line n r.id (state_text r.deleted r.caption))

pub lines_told : (n : ℕ) (rs ss : List Record) → Every OneLine rs → Every OneLine ss → node_lines n rs ≡ node_lines n ss → map shown rs ≡ map shown ss
unfolding node_lines
lines_told n [] [] p q e = refl
lines_told n [] (s ∷ ss) p q e = absurd (omega (arith, ap length e, line_there n s (node_lines (suc n) ss)))
lines_told n (r ∷ rs) [] p q e = absurd (omega (arith, ap length e, line_there n r (node_lines (suc n) rs)))
lines_told n (r ∷ rs) (s ∷ ss) p q e =
    let w = line_told n r s (node_lines (suc n) rs) (node_lines (suc n) ss) p.0 q.0 e in
    ap₂ ◌∷◌ w.shown_same (lines_told (suc n) rs ss p.1 q.1 w.rest_same)
