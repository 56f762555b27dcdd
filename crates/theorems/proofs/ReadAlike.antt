-- The captions of deleted records do not count: two accepted snapshots that differ in nothing else are read alike.
use Rattle.std.specs.Prelude.{Ok}
use Prim.Native.Nat.{ℕ, ◌+◌, ◌<◌, ◌^◌}
use mathlib.Core.Path.{◌≡◌, refl, sym, ap, ap₂, subst, subst₂, ◌∙◌}
use mathlib.Core.Bool.{Bool, true, false, cond}
use mathlib.Core.List.{List, [], ◌∷◌, map}
use native.Mathlib.Omega.{arith}
use lib.ListN.{length, length-map}
use Rattle.config.specs.declared.Config.{Config}
use Rattle.meaning.specs.Records.{Record, seen}
use Rattle.rows.specs.declared.Row.{Row}
use Rattle.meaning.specs.Snapshot.{version_of, Snapshot, read_snapshot}
use Rattle.layout.specs.declared.Version.{Version}
use Rattle.layout.specs.declared.Version.TheVariants.{Two}
use Rattle.layout.specs.Layout.{header_length}
use Rattle.meaning.specs.File.{record_bytes, file_of}
use Rattle.meaning.specs.Every.{Every}
use Rattle.theorems.proofs.RecordBack.{all_shaped, length_rows, records_seen}
use Rattle.theorems.specs.AnyFile.{Shaped, HeaderFits, file_with}
use Rattle.theorems.specs.FileRows.{as_read, file_rows}
use Rattle.theorems.proofs.FileBack.{file_with_two, records_here, snapshot_of, file_read}
use Rattle.theorems.proofs.RawFile.{RawFile, raw_seen, raw_file}
use Rattle.theorems.specs.DeletedCaptions.{DifferInDeleted, placeless}
use Rattle.fields.specs.Fields.{num, Bytes}
use Rattle.refusal.proofs.Results.{answer_injective}

-- the row that a record has, without a place
abbrev pub placeless_row : Record → Row
placeless_row r = record { id = record { 0 = r.id }; deleted = r.deleted; from_log = false; caption_length = length r.caption; at = 0 }

rows_of : (at : ℕ) (rs : List Record) → map placeless (file_rows at rs) ≡ map placeless_row (map as_read rs)
unfolding file_rows
rows_of at [] = refl
rows_of at (r ∷ rs) = ap (λ (l : List Row). placeless_row (as_read r) ∷ l) (rows_of (at + length (record_bytes r)) rs)

pub record ReadAlike (s s' : List ℕ) (x y : Snapshot) : Type 0 where
  pub same_config : x.config ≡ y.config
  pub same_sequence : x.sequence ≡ y.sequence
  pub same_count : length x.rows ≡ length y.rows
  pub same_rows : map placeless x.rows ≡ map placeless y.rows
  pub same_records : (log : List ℕ) → map (seen x.config.dimensions s log) x.rows ≡ map (seen y.config.dimensions s' log) y.rows

alike : (v : Version) (c : Config) (q : ℕ) (rs rs' : List Record) → Every (Shaped c.dimensions) rs → Every (Shaped c.dimensions) rs'
    → map as_read rs ≡ map as_read rs' → ReadAlike (file_with v c q rs) (file_with v c q rs') (snapshot_of v c q rs) (snapshot_of v c q rs')
alike v c q rs rs' k k' same =
    let at = header_length v in
    record {
      same_config = refl;
      same_sequence = refl;
      same_count = length_rows at rs ∙ sym (length-map rs as_read) ∙ ap length same ∙ length-map rs' as_read ∙ sym (length_rows at rs');
      same_rows = rows_of at rs ∙ ap (map placeless_row) same ∙ sym (rows_of at rs');
      same_records = λ log. records_seen c.dimensions (file_with v c q rs) log at rs _ (records_here v c q rs) k ∙ same ∙ sym (records_seen c.dimensions (file_with v c q rs') log at rs' _ (records_here v c q rs') k');
    }

pub deleted_captions : (lent lent' : ℕ) (s s' : List ℕ) (x y : Snapshot) → DifferInDeleted s s'
    → read_snapshot lent s ≡ Ok x → read_snapshot lent' s' ≡ Ok y → ReadAlike s s' x y
deleted_captions lent lent' s s' x y k e e' =
    let v = k.version in
    let c = k.config in
    let q = k.sequence in
    let rs = k.records in
    let rs' = k.records' in
    let n : length rs ≡ length rs' = sym (length-map rs as_read) ∙ ap length k.same ∙ length-map rs' as_read in
    let fits' : HeaderFits v c q (length rs') = subst (HeaderFits v c q) n k.fits in
    let ex : x ≡ snapshot_of v c q rs = file_read lent v c q rs x k.fits k.shaped (ap (read_snapshot lent) (sym k.is) ∙ e) in
    let ey : y ≡ snapshot_of v c q rs' = file_read lent' v c q rs' y fits' k.shaped' (ap (read_snapshot lent') (sym k.is') ∙ e') in
    let a = alike v c q rs rs' k.shaped k.shaped' k.same in
    let a1 = subst₂ (λ (l m : List ℕ). ReadAlike l m (snapshot_of v c q rs) (snapshot_of v c q rs')) (sym k.is) (sym k.is') a in
    subst₂ (ReadAlike s s') (sym ex) (sym ey) a1

-- ---- the file written from an accepted version 2 snapshot is such a one
as_read_twice : (rs : List Record) → map as_read rs ≡ map as_read (map as_read rs)
as_read_twice [] = refl
as_read_twice (r ∷ rs) = ap₂ (λ (l : List ℕ) (m : List Record). record { id = r.id; deleted = r.deleted; vector = r.vector; caption = l } ∷ m) (go r.deleted) (as_read_twice rs)
  where
    go : (t : Bool) → cond t [] r.caption ≡ cond t [] (cond t [] r.caption)
    go true = refl
    go false = refl

as_read_shaped : (d : ℕ) (rs : List Record) → Every (Shaped d) rs → Every (Shaped d) (map as_read rs)
as_read_shaped d [] k = tt
as_read_shaped d (r ∷ rs) k =
    (record { id_fits = k.0.id_fits; vector_length = k.0.vector_length; caption_fits = go r.deleted }, as_read_shaped d rs k.1)
  where
    go : (t : Bool) → length (cond t [] r.caption) < 256 ^ 4
    go true = omega arith
    go false = k.0.caption_fits

rewritten_raw : (lent : ℕ) (s : List ℕ) (x : Snapshot) (log : List ℕ) → read_snapshot lent s ≡ Ok x → (k : RawFile s x) → k.version ≡ Two
    → DifferInDeleted s (file_of x.config x.sequence (map (seen x.config.dimensions s log) x.rows))
rewritten_raw lent s x log e k two_is =
    let c = x.config in
    let q = x.sequence in
    let d = c.dimensions in
    let rs = k.records in
    let shaped = all_shaped c rs k.readable in
    let seen_are : map (seen d s log) x.rows ≡ map as_read rs = raw_seen lent s x log e k in
    record {
      version = Two;
      config = c;
      sequence = q;
      records = rs;
      records' = map as_read rs;
      is = k.is ∙ ap (λ (v : Version). file_with v c q rs) two_is;
      is' = ap (file_of c q) seen_are ∙ sym (file_with_two c q (map as_read rs));
      fits = subst (λ (v : Version). HeaderFits v c q (length rs)) two_is k.fits;
      shaped = shaped;
      shaped' = as_read_shaped d rs shaped;
      same = as_read_twice rs;
    }

pub rewritten : (lent : ℕ) (s : List ℕ) (x : Snapshot) (log : List ℕ) → Bytes s → read_snapshot lent s ≡ Ok x → num s 8 4 ≡ 2
    → DifferInDeleted s (file_of x.config x.sequence (map (seen x.config.dimensions s log) x.rows))
rewritten lent s x log b e two = let k = raw_file lent s x b e in rewritten_raw lent s x log e k (answer_injective k.version Two (sym k.version_is ∙ ap version_of two))
