-- A record and the caption length that its row gives it. Every row, sourced or not, replays as its weighed record does,
-- so two tables whose weighed records are equal replay alike.
use Prim.Native.Nat.{ℕ}
use mathlib.Core.Path.{◌≡◌, refl, sym, ap, ap₂}
use mathlib.Core.List.{List, [], ◌∷◌, map}
use lib.ListN.{length}
use Rattle.config.specs.declared.Config.{Config}
use Rattle.meaning.specs.Replay.{Kind, Operation, put, remove, Frame, End, tail, bad}
use Rattle.meaning.specs.Records.{Record, delete_record, row_kind, seen}
use Rattle.rows.specs.declared.Row.{Row}
use Rattle.layout.specs.Layout.{record_length}
use Rattle.meaning.specs.Every.{Every}
use Rattle.theorems.proofs.Carry.{Carries, carry_frame, carry_end}
use Rattle.theorems.specs.FrameRows.{carry_operation, Puts}
use Rattle.theorems.proofs.Kept.{EveryOperation}
use Rattle.theorems.specs.Storable.{Sourced}
use Rattle.theorems.proofs.Seen.{seen_caption_length}

pub record Weighed : Type 0 where
  pub value : Record
  pub caption : ℕ

abbrev pub weighed_kind : ℕ → Kind Weighed
weighed_kind d =
    record {
      id_of = λ w. w.value.id;
      deleted = λ w. w.value.deleted;
      size_of = λ w. record_length d w.caption;
      delete = λ w. record { value = delete_record w.value; caption = 0 };
    }

abbrev pub weighed : ℕ → List ℕ → List ℕ → Row → Weighed
weighed d snapshot log r = record { value = seen d snapshot log r; caption = r.caption_length }

pub weighed_carries : (d : ℕ) (snapshot log : List ℕ) → Carries (row_kind d) (weighed_kind d) (weighed d snapshot log)
weighed_carries d snapshot log = record { ids = λ r. refl; deleteds = λ r. refl; sizes = λ r. refl; deletes = λ r. refl }

-- a record weighs what its caption does
abbrev pub weigh : Record → Weighed
weigh r = record { value = r; caption = length r.caption }

pub weighed_sourced : (c : Config) (snapshot log : List ℕ) (rows : List Row) → Every (Sourced c snapshot log) rows
    → map (weighed c.dimensions snapshot log) rows ≡ map weigh (map (seen c.dimensions snapshot log) rows)
weighed_sourced c snapshot log [] h = refl
weighed_sourced c snapshot log (r ∷ rs) h =
    let e : weighed c.dimensions snapshot log r ≡ weigh (seen c.dimensions snapshot log r)
    = ap (λ (n : ℕ). record { value = seen c.dimensions snapshot log r; caption = n }) (sym (seen_caption_length c.dimensions snapshot log r h.0.inside)) in
    ap₂ ◌∷◌ e (weighed_sourced c snapshot log rs h.1)

pub weighed_values : (d : ℕ) (snapshot log : List ℕ) (rows : List Row) → map (λ (w : Weighed). w.value) (map (weighed d snapshot log) rows) ≡ map (seen d snapshot log) rows
weighed_values d snapshot log [] = refl
weighed_values d snapshot log (r ∷ rs) = ap (λ (l : List Record). seen d snapshot log r ∷ l) (weighed_values d snapshot log rs)

-- two maps that agree on every row that is put carry frames alike
module _ {A B : Type 0} (h g : A → B) (p : ℕ → ℕ) where
  operations_alike : (os : List (Operation A)) → Every (Puts (λ r. h r ≡ g r)) os → map (carry_operation h) os ≡ map (carry_operation g) os
  operations_alike [] e = refl
  operations_alike (put r ∷ os) e = ap₂ ◌∷◌ (ap put e.0) (operations_alike os e.1)
  operations_alike (remove id ∷ os) e = ap (λ (l : List (Operation B)). remove id ∷ l) (operations_alike os e.1)

  pub frames_alike : (fs : List (Frame A)) → EveryOperation (Puts (λ r. h r ≡ g r)) fs → map (carry_frame h p) fs ≡ map (carry_frame g p) fs
  frames_alike [] e = refl
  frames_alike (f ∷ fs) e =
      ap₂ ◌∷◌ (ap (λ (os : List (Operation B)). record { start = p f.start; sequence = f.sequence; shape = f.shape; operations = os }) (operations_alike f.operations e.0))
      (frames_alike fs e.1)

-- a map of rows after another, log places moved by the first
module _ {A B C : Type 0} (g : A → C) (h : B → C) (l : A → B) (p : ℕ → ℕ) where
  operations_composed : (os : List (Operation A)) → Every (Puts (λ r. g r ≡ h (l r))) os
      → map (carry_operation g) os ≡ map (carry_operation h) (map (carry_operation l) os)
  operations_composed [] e = refl
  operations_composed (put r ∷ os) e = ap₂ ◌∷◌ (ap put e.0) (operations_composed os e.1)
  operations_composed (remove id ∷ os) e = ap (λ (x : List (Operation C)). remove id ∷ x) (operations_composed os e.1)

  pub frames_composed : (fs : List (Frame A)) → EveryOperation (Puts (λ r. g r ≡ h (l r))) fs
      → map (carry_frame g p) fs ≡ map (carry_frame h (λ n. n)) (map (carry_frame l p) fs)
  frames_composed [] e = refl
  frames_composed (f ∷ fs) e =
      ap₂ ◌∷◌ (ap (λ (os : List (Operation C)). record { start = p f.start; sequence = f.sequence; shape = f.shape; operations = os }) (operations_composed f.operations e.0))
      (frames_composed fs e.1)

pub ends_composed : (p : ℕ → ℕ) (e : End) → carry_end p e ≡ carry_end (λ n. n) (carry_end p e)
ends_composed p (tail at) = refl
ends_composed p (bad why at) = refl
