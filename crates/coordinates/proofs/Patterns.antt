-- Laws of the patterns that bytes hold: their number, each one's place, and that written patterns are read again and read ones written again.
-- Laws of the outcome: what good and the two refusals say of each coordinate.
-- Assumes nothing.
use Rattle.std.specs.Prelude.{Err}
use mathlib.Core.Path.{◌≡◌, refl, sym, ap, ap₂, ◌∙◌}
use mathlib.Core.Bool.{Bool, true, false, ◌&&◌, cond}
use mathlib.Core.List.{List, [], ◌∷◌, ◌++◌, append_assoc}
use Prim.Native.Nat.{ℕ, zero, suc, ◌+◌, ◌-◌, ◌*◌, ◌≤◌, ◌<◌}
use native.Mathlib.Nat.{not-suc-le-zero, le_of_suc-le-suc, le_refl}
use native.Mathlib.Omega.{arith}
use lib.ListN.{length, get_or, take, drop, length-append, length-drop}
use lib.Seq.{take-append-le, drop_at}
use Rattle.fields.specs.Fields.{part, le, num, bytes, Bytes}
use Rattle.fields.proofs.Parts.{drop_take, part_take, part_drop, part_split}
use Rattle.fields.proofs.Numbers.{length_bytes, num_bytes, bytes_num, Bytes-nil, Bytes-append, Bytes-bytes, Bytes-drop}
use Rattle.coordinates.specs.Coordinates.{is_finite_bits, is_zero_bits, every_finite, every_zero, vector_of, patterns, coordinate_bytes}
use Rattle.refusal.specs.Refusal.{Answer, passes}
use Rattle.refusal.specs.declared.Refusal.TheVariants.{NotFinite, VectorAllZero}

pub length_patterns : (d : ℕ) (s : List ℕ) → length (patterns d s) ≡ d
unfolding patterns
length_patterns zero s = refl
length_patterns (suc d) s = ap suc (length_patterns d (drop 4 s))

-- nothing past the first 4 * d bytes counts
pub patterns_take : (d n : ℕ) (s : List ℕ) → 4 * d ≤ n → patterns d (take n s) ≡ patterns d s
unfolding patterns
patterns_take zero n s h = refl
patterns_take (suc d) n s h =
    let e : n ≡ 4 + (n - 4) = omega arith in
    let r : drop 4 (take n s) ≡ take (n - 4) (drop 4 s) = ap (λ (m : ℕ). drop 4 (take m s)) e ∙ drop_take s 4 (n - 4) in
    ap₂ ◌∷◌ (ap le (part_take s n 0 4 (omega arith))) (ap (patterns d) r ∙ patterns_take d (n - 4) (drop 4 s) (omega arith))

pub patterns_append : (d : ℕ) (a b : List ℕ) → 4 * d ≤ length a → patterns d (a ++ b) ≡ patterns d a
patterns_append d a b h =
    sym (patterns_take d (4 * d) (a ++ b) (le_refl (4 * d)))
    ∙ ap (patterns d) (take-append-le (4 * d) a b h) ∙ patterns_take d (4 * d) a (le_refl (4 * d))

pub get_d_patterns : (d i : ℕ) (s : List ℕ) → i < d → get_or (patterns d s) i 0 ≡ num s (4 * i) 4
unfolding patterns
get_d_patterns zero i s h = absurd (not-suc-le-zero h)
get_d_patterns (suc d) zero s h = refl
get_d_patterns (suc d) (suc i) s h =
    let e : 4 + 4 * i ≡ 4 * suc i = omega arith in
    get_d_patterns d i (drop 4 s) (le_of_suc-le-suc h) ∙ ap le (part_drop s 4 (4 * i) 4) ∙ ap (λ (at : ℕ). num s at 4) e

-- ---- written and read again
pub length_coordinate_bytes : (bs : List ℕ) → length (coordinate_bytes bs) ≡ 4 * length bs
unfolding coordinate_bytes
length_coordinate_bytes [] = refl
length_coordinate_bytes (b ∷ bs) =
    length-append (bytes 4 b) (coordinate_bytes bs) ∙ omega (arith, length_bytes 4 b, length_coordinate_bytes bs)

pub Bytes-coordinate_bytes : (bs : List ℕ) → Bytes (coordinate_bytes bs)
unfolding coordinate_bytes
Bytes-coordinate_bytes [] = Bytes-nil
Bytes-coordinate_bytes (b ∷ bs) = Bytes-append (bytes 4 b) (coordinate_bytes bs) (Bytes-bytes 4 b) (Bytes-coordinate_bytes bs)

pub patterns_coordinate_bytes : (bs rest : List ℕ) → ((k : ℕ) → get_or bs k 0 < 4294967296) → patterns (length bs) (coordinate_bytes bs ++ rest) ≡ bs
unfolding patterns coordinate_bytes
patterns_coordinate_bytes [] rest h = refl
patterns_coordinate_bytes (b ∷ bs) rest h =
    let e : bytes 4 b ++ coordinate_bytes bs ++ rest ≡ bytes 4 b ++ (coordinate_bytes bs ++ rest) = append_assoc (bytes 4 b) (coordinate_bytes bs) rest in
    ap (λ (l : List ℕ). num l 0 4 ∷ patterns (length bs) (drop 4 l)) e
    ∙ ap₂ ◌∷◌ (num_bytes 4 b (coordinate_bytes bs ++ rest) (h 0))
    (ap (patterns (length bs)) (drop_at (bytes 4 b) (coordinate_bytes bs ++ rest) 4 (length_bytes 4 b)) ∙ patterns_coordinate_bytes bs rest (λ k. h (suc k)))

pub coordinate_bytes_patterns : (d : ℕ) (s : List ℕ) → Bytes s → 4 * d ≤ length s → coordinate_bytes (patterns d s) ≡ part s 0 (4 * d)
unfolding patterns coordinate_bytes
coordinate_bytes_patterns zero s r h = refl
coordinate_bytes_patterns (suc d) s r h =
    let e : 4 + 4 * d ≡ 4 * suc d = omega arith in
    ap₂ ◌++◌ (bytes_num s 0 4 r (omega arith)) (coordinate_bytes_patterns d (drop 4 s) (Bytes-drop 4 s r) (omega (arith, length-drop 4 s)))
    ∙ sym (part_split s 0 4 (4 * d)) ∙ ap (part s 0) e

-- ---- the outcome
and_left : (a b : Bool) → a && b ≡ true → a ≡ true
and_left true b e = refl
and_left false b e = e

and_right : (a b : Bool) → a && b ≡ true → b ≡ true
and_right true b e = e
and_right false b e = absurd (let z : ◌≡◌ {A = ℕ} 0 1 = cc in omega arith)

pub every_finite_lem : (bs : List ℕ) → every_finite bs ≡ true → (k : ℕ) → k < length bs → is_finite_bits (get_or bs k 0) ≡ true
unfolding every_finite
every_finite_lem [] e k h = absurd (not-suc-le-zero h)
every_finite_lem (b ∷ bs) e zero h = and_left (is_finite_bits b) (every_finite bs) e
every_finite_lem (b ∷ bs) e (suc k) h = every_finite_lem bs (and_right (is_finite_bits b) (every_finite bs) e) k (le_of_suc-le-suc h)

pub every_zero_lem : (bs : List ℕ) → every_zero bs ≡ true → (k : ℕ) → k < length bs → is_zero_bits (get_or bs k 0) ≡ true
unfolding every_zero
every_zero_lem [] e k h = absurd (not-suc-le-zero h)
every_zero_lem (b ∷ bs) e zero h = and_left (is_zero_bits b) (every_zero bs) e
every_zero_lem (b ∷ bs) e (suc k) h = every_zero_lem bs (and_right (is_zero_bits b) (every_zero bs) e) k (le_of_suc-le-suc h)

pub finite_every : (bs : List ℕ) → ((k : ℕ) → k < length bs → is_finite_bits (get_or bs k 0) ≡ true) → every_finite bs ≡ true
unfolding every_finite
finite_every [] h = refl
finite_every (b ∷ bs) h = ap₂ ◌&&◌ (h 0 (omega arith)) (finite_every bs (λ k l. h (suc k) (omega arith)))

pub zero_every : (bs : List ℕ) → ((k : ℕ) → k < length bs → is_zero_bits (get_or bs k 0) ≡ true) → every_zero bs ≡ true
unfolding every_zero
zero_every [] h = refl
zero_every (b ∷ bs) h = ap₂ ◌&&◌ (h 0 (omega arith)) (zero_every bs (λ k l. h (suc k) (omega arith)))

-- 12 comes first; 13 only under cosine
pub vector_not_finite : (cosine : Bool) (bs : List ℕ) → every_finite bs ≡ false → vector_of cosine bs ≡ (Err NotFinite)
unfolding vector_of
vector_not_finite cosine bs e = simp e

pub vector_all_zero : (bs : List ℕ) → every_finite bs ≡ true → every_zero bs ≡ true → vector_of true bs ≡ (Err VectorAllZero)
unfolding vector_of
vector_all_zero bs e z = simp (e, z)

pub vector_some : (cosine : Bool) (bs : List ℕ) → every_finite bs ≡ true → every_zero bs ≡ false → vector_of cosine bs ≡ passes
unfolding vector_of
vector_some true bs e z = simp (e, z)
vector_some false bs e z = simp e

pub vector_plain : (bs : List ℕ) → every_finite bs ≡ true → vector_of false bs ≡ passes
unfolding vector_of
vector_plain bs e = simp e

pub vector_good : (cosine : Bool) (bs : List ℕ) → vector_of cosine bs ≡ passes → every_finite bs ≡ true
unfolding vector_of
vector_good cosine bs g = go (every_finite bs) (cond (cosine && every_zero bs) (Err VectorAllZero) passes) g
  where
    go : (f : Bool) (v : Answer (Unit {0})) → cond f v (Err NotFinite) ≡ passes → f ≡ true
    go true v g = refl
    go false v g = absurd (let z : ◌≡◌ {A = ℕ} 0 1 = cc in omega arith)
