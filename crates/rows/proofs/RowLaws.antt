-- Rows and operations by plain arithmetic, as the code has them; then a word and what it packs determine each other, and a table after a row is put.
use Prim.Native.Nat.{ℕ, zero, suc, ◌+◌, ◌*◌, ◌/◌, ◌%◌, ◌^◌, ◌<◌}
use mathlib.Core.Path.{◌≡◌, refl, ap, ap₂, ◌∙◌}
use mathlib.Core.Bool.{Bool, true, false}
use mathlib.Core.List.{List}
use native.Mathlib.Nat.{div-one, mod-lt}
use native.Mathlib.Omega.{arith}
use lib.Dec.{eqb, lit<}
use lib.ListN.{length, get_or, set, length-set}
use lib.Seq.{get_or-set_same, get_or-set_other}
use Rattle.rows.specs.Packed.{total, packed, fields, Fitting, none, more}
use Rattle.rows.specs.Rows.{row_widths, operation_widths, bit, row_values, row_from, row_word, row_of, RowFits, row_at, set_row, operation_values, operation_from, operation_word, operation_of, OperationFits}
use Rattle.rows.specs.declared.Row.{Row}
use Rattle.rows.specs.declared.Operation.{Operation}
use Rattle.rows.proofs.PackedLaws.{packed_below, fields_of_packed, packed_of_fields}

-- ---- plain arithmetic

pub row_word_sum : (r : Row) → row_word r ≡ bit r.deleted * 9223372036854775808 + bit r.from_log * 4611686018427387904 + r.caption_length * 140737488355328 + r.at
unfolding row_word row_values packed total
row_word_sum r = omega arith

pub row_of_parts : (id w : ℕ)
    → row_of id w
    ≡ record { id = record { 0 = id }; deleted = eqb (w / 9223372036854775808 % 2) 1; from_log = eqb (w / 4611686018427387904 % 2) 1; caption_length = w / 140737488355328 % 32768; at = w % 140737488355328 }
unfolding row_of row_from fields total
row_of_parts id w = simp div-one

pub operation_word_sum : (o : Operation) → operation_word o ≡ bit o.put * 9223372036854775808 + o.caption_length * 281474976710656 + o.at
unfolding operation_word operation_values packed total
operation_word_sum o = omega arith

pub operation_of_parts : (id w : ℕ)
    → operation_of id w ≡ record { id = record { 0 = id }; put = eqb (w / 9223372036854775808 % 2) 1; caption_length = w / 281474976710656 % 32768; at = w % 281474976710656 }
unfolding operation_of operation_from fields total
operation_of_parts id w = simp div-one

-- ---- a bit and its truth

bit_below : (b : Bool) → bit b < 2 ^ 1
bit_below true = lit< tt
bit_below false = lit< tt

eqb_of_bit : (b : Bool) → eqb (bit b) 1 ≡ b
eqb_of_bit true = refl
eqb_of_bit false = refl

bit_of_eqb : (n : ℕ) → bit (eqb (n % 2) 1) ≡ n % 2
bit_of_eqb n = by (n % 2) (mod-lt n (lit< tt))
  where
    by : (k : ℕ) → k < 2 → bit (eqb k 1) ≡ k
    by zero h = refl
    by (suc zero) h = refl
    by (suc (suc k)) h = absurd (omega arith)

-- ---- a row and its word

pub row_fitting : (r : Row) → RowFits r → Fitting row_widths (row_values r)
unfolding row_values
row_fitting r f = more (bit_below r.deleted) (more (bit_below r.from_log) (more f.caption_fits (more f.at_fits none)))

pub row_word_below : (r : Row) → RowFits r → row_word r < 2 ^ 64
unfolding row_word total
row_word_below r f = packed_below (row_fitting r f)

pub row_of_word : (r : Row) → RowFits r → row_of r.id.0 (row_word r) ≡ r
unfolding row_of row_word row_from row_values
row_of_word r f = ap (row_from r.id.0) (fields_of_packed (row_fitting r f)) ∙ simp eqb_of_bit

pub word_of_row : (id w : ℕ) → w < 2 ^ 64 → row_word (row_of id w) ≡ w
unfolding row_of row_word row_from row_values fields total
word_of_row id w h = ap (packed row_widths) (simp bit_of_eqb) ∙ packed_of_fields row_widths h

-- whatever the word, what it is read as fits
pub row_of_fits : (id w : ℕ) → RowFits (row_of id w)
unfolding row_of row_from fields total
row_of_fits id w = record { caption_fits = mod-lt _ (lit< tt); at_fits = mod-lt _ (lit< tt) }

-- ---- an operation and its word

pub operation_fitting : (o : Operation) → OperationFits o → Fitting operation_widths (operation_values o)
unfolding operation_values
operation_fitting o f = more (bit_below o.put) (more f.caption_fits (more f.at_fits none))

pub operation_word_below : (o : Operation) → OperationFits o → operation_word o < 2 ^ 64
unfolding operation_word total
operation_word_below o f = packed_below (operation_fitting o f)

pub operation_of_word : (o : Operation) → OperationFits o → operation_of o.id.0 (operation_word o) ≡ o
unfolding operation_of operation_word operation_from operation_values
operation_of_word o f = ap (operation_from o.id.0) (fields_of_packed (operation_fitting o f)) ∙ simp eqb_of_bit

pub word_of_operation : (id w : ℕ) → w < 2 ^ 64 → operation_word (operation_of id w) ≡ w
unfolding operation_of operation_word operation_from operation_values fields total
word_of_operation id w h = ap (packed operation_widths) (simp bit_of_eqb) ∙ packed_of_fields operation_widths h

pub operation_of_fits : (id w : ℕ) → OperationFits (operation_of id w)
unfolding operation_of operation_from fields total
operation_of_fits id w = record { caption_fits = mod-lt _ (lit< tt); at_fits = mod-lt _ (lit< tt) }

-- ---- a table

pub length_set_row : (rows : List ℕ) (i : ℕ) (r : Row) → length (set_row rows i r) ≡ length rows
unfolding set_row
length_set_row rows i r = simp length-set

pub row_at_set_row_same : (rows : List ℕ) (i : ℕ) (r : Row) → 2 * i + 1 < length rows → RowFits r → row_at (set_row rows i r) i ≡ r
unfolding row_at set_row
row_at_set_row_same rows i r h f =
    let one = set rows (2 * i) r.id.0 in
    let eId : get_or (set one (2 * i + 1) (row_word r)) (2 * i) 0 ≡ r.id.0 =
    get_or-set_other one (2 * i + 1) (2 * i) (row_word r) 0 (λ e. omega arith) ∙ get_or-set_same rows (2 * i) r.id.0 0 (omega arith) in
    let eWord : get_or (set one (2 * i + 1) (row_word r)) (2 * i + 1) 0 ≡ row_word r =
    get_or-set_same one (2 * i + 1) (row_word r) 0 (simp length-set (omega arith)) in
    ap₂ row_of eId eWord ∙ row_of_word r f

pub row_at_set_row_other : (rows : List ℕ) (i j : ℕ) (r : Row) → (j ≡ i → ⊥) → row_at (set_row rows i r) j ≡ row_at rows j
unfolding row_at set_row
row_at_set_row_other rows i j r n =
    ap₂ row_of (same (2 * j) (λ e. n (omega arith)) (λ e. omega arith)) (same (2 * j + 1) (λ e. omega arith) (λ e. n (omega arith)))
  where
    same : (k : ℕ) → (k ≡ 2 * i → ⊥) → (k ≡ 2 * i + 1 → ⊥) → get_or (set (set rows (2 * i) r.id.0) (2 * i + 1) (row_word r)) k 0 ≡ get_or rows k 0
    same k p q = get_or-set_other (set rows (2 * i) r.id.0) (2 * i + 1) k (row_word r) 0 q ∙ get_or-set_other rows (2 * i) k r.id.0 0 p

-- ---- P12: deleted 0, source 1, caption length 2, offset 64

pub p12 : (id : ℕ) → row_word (record { id = record { 0 = id }; deleted = false; from_log = true; caption_length = 2; at = 64 }) ≡ 4611967493404098624
unfolding row_word row_values packed total
p12 id = refl
