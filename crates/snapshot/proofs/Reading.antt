-- The loop over the records: what was read so far stands before what is still to be read.
use Rattle.std.specs.Prelude.{Ok, Err}
use Prim.Native.Nat.{ℕ, zero, suc, ◌+◌, ◌*◌, ◌-◌, ◌<◌, ◌≤◌}
use native.Mathlib.Omega.{arith}
use mathlib.Core.Path.{◌≡◌, refl, sym, ap, ◌∙◌}
use mathlib.Core.List.{List, [], ◌∷◌, ◌++◌, append_assoc, append-nil}
use lib.ListN.{length, drop, length-append}
use Rattle.config.specs.declared.Config.{Config}
use Rattle.rows.specs.Rows.{set_row}
use Rattle.rows.specs.declared.Row.{Row}
use Rattle.refusal.specs.Refusal.{Answer, ◌>>=◌}
use Rattle.refusal.specs.declared.Refusal.{Refusal}
use Rattle.refusal.proofs.Results.{go_on, give_up}
use Rattle.layout.specs.Layout.{record_length}
use Rattle.meaning.specs.Replay.{size}
use Rattle.meaning.specs.Records.{row_kind}
use Rattle.meaning.specs.Snapshot.{ReadRow, record_at, ReadRows, records_at}
use Rattle.meaning.specs.Tables.{row_words}
use Rattle.meaning.proofs.Marking.{size_push}
use Rattle.meaning.proofs.RowWords.{set_row_next}
use Rattle.snapshot.proofs.RecordLaws.{record_within}

-- rows put before those of a result
abbrev pub onto : List Row → Answer ReadRows → Answer ReadRows
onto done r = r >>= (λ x. Ok (record { rows = done ++ x.rows; next = x.next }))

-- a record, then the rest
abbrev with_rest : Row → Answer ReadRows → Answer ReadRows
with_rest y r = r >>= (λ rest. Ok (record { rows = y ∷ rest.rows; next = rest.next }))

onto_none : (r : Answer ReadRows) → r ≡ onto [] r
onto_none (Ok x) = refl
onto_none (Err why) = refl

onto_more : (done : List Row) (y : Row) (r : Answer ReadRows) → onto done (with_rest y r) ≡ onto (done ++ (y ∷ [])) r
onto_more done y (Ok x) = ap (λ (l : List Row). Ok (record { rows = l; next = x.next })) (sym (append_assoc done (y ∷ []) x.rows))
onto_more done y (Err why) = refl

-- ---- a turn
module _ (c : Config) (s : List ℕ) (end : ℕ) where
  records_over : (n at : ℕ) → n ≤ 0 → records_at n c s end at ≡ Ok (record { rows = []; next = at })
  unfolding records_at
  records_over zero at h = refl
  records_over (suc n) at h = absurd (omega arith)

  records_turn : (n at : ℕ) → 0 < n
      → records_at n c s end at ≡ record_at c s end at >>= (λ y. with_rest y.row (records_at (n - 1) c s end y.next))
  unfolding records_at
  records_turn zero at h = absurd (omega arith)
  records_turn (suc n) at h =
      let k : n ≡ suc n - 1 = omega arith in
      ap (λ (m : ℕ). record_at c s end at >>= (λ y. with_rest y.row (records_at m c s end y.next))) k

-- ---- the state of the loop: `i` records are read, from `first` up to `at`
pub record Reading (c : Config) (s : List ℕ) (end first count : ℕ) (rows₀ rows : List ℕ) (at total i : ℕ) : Type 0 where
  pub few : i ≤ count
  pub inside : at ≤ end
  pub sized : first + total ≤ at
  pub same_length : length rows ≡ length rows₀
  pub done : List Row
  pub counted : length done ≡ i
  pub total_is : total ≡ size (row_kind c.dimensions) done
  pub words : rows ≡ row_words done ++ drop (2 * i) rows₀
  pub whole : records_at count c s end first ≡ onto done (records_at (count - i) c s end at)

module _ (c : Config) (s : List ℕ) (end first count : ℕ) (rows₀ : List ℕ) where
  pub reading_none : first ≤ end → Reading c s end first count rows₀ rows₀ first 0 0
  unfolding size row_words
  reading_none h =
      record {
        few = omega arith;
        inside = h;
        sized = omega arith;
        same_length = refl;
        done = [];
        counted = refl;
        total_is = refl;
        words = refl;
        whole = onto_none (records_at count c s end first) ∙ ap (λ (m : ℕ). onto [] (records_at m c s end first)) (omega arith);
      }

  -- the next record is accepted
  pub reading_more : (rows : List ℕ) (at total i : ℕ) → Reading c s end first count rows₀ rows at total i → i < count → 2 * count ≤ length rows₀
      → (y : ReadRow) → record_at c s end at ≡ Ok y → (rows' : List ℕ) → length rows' ≡ length rows → rows' ≡ set_row rows i y.row
      → Reading c s end first count rows₀ rows' y.next (total + record_length c.dimensions y.row.caption_length) (i + 1)
  reading_more rows at total i k h room y e rows' n is =
      let w = record_within c s end at y e in
      let sized = k.sized in
      let within = w.size_within in
      let counted = k.counted in
      let r = y.row in
      let d = c.dimensions in
      let m : count - i - 1 ≡ count - (i + 1) = omega arith in
      let turn : records_at (count - i) c s end at ≡ with_rest r (records_at (count - (i + 1)) c s end y.next) =
      records_turn c s end (count - i) at (omega arith)
      ∙ go_on (record_at c s end at) (λ z. with_rest z.row (records_at (count - i - 1) c s end z.next)) y e
      ∙ ap (λ (j : ℕ). with_rest r (records_at j c s end y.next)) m in
      record {
        few = omega arith;
        inside = w.next_inside;
        sized = omega arith;
        same_length = n ∙ k.same_length;
        done = k.done ++ (r ∷ []);
        counted = length-append k.done (r ∷ []) ∙ ap (λ (j : ℕ). j + 1) counted;
        total_is = ap (λ (j : ℕ). j + record_length d r.caption_length) k.total_is ∙ sym (size_push (row_kind d) k.done r);
        words = is ∙ ap (λ (l : List ℕ). set_row l i r) k.words ∙ set_row_next k.done r rows₀ i counted (omega arith);
        whole = k.whole ∙ ap (onto k.done) turn ∙ onto_more k.done r (records_at (count - (i + 1)) c s end y.next);
      }

  -- all records are read
  pub reading_all : (rows : List ℕ) (at total i : ℕ) (k : Reading c s end first count rows₀ rows at total i) → count ≤ i
      → records_at count c s end first ≡ Ok (record { rows = k.done; next = at })
  reading_all rows at total i k h =
      k.whole
      ∙ ap (onto k.done) (records_over c s end (count - i) at (omega arith))
      ∙ ap (λ (l : List Row). Ok (record { rows = l; next = at })) (append-nil k.done)

  -- the next record is refused
  pub reading_refused : (rows : List ℕ) (at total i : ℕ) → Reading c s end first count rows₀ rows at total i → i < count
      → (why : Refusal) → record_at c s end at ≡ Err why → records_at count c s end first ≡ Err why
  reading_refused rows at total i k h why e =
      k.whole ∙ ap (onto k.done) (records_turn c s end (count - i) at (omega arith) ∙ give_up (record_at c s end at) _ why e)
