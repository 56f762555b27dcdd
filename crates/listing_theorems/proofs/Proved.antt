-- The calls make the listing, and its text tells the store.
use Prim.Native.Nat.{ℕ, ◌≤◌}
use native.Mathlib.Omega.{arith}
use mathlib.Core.Path.{◌≡◌, sym, ap, subst, ◌∙◌}
use mathlib.Core.List.{List, [], ◌++◌, map}
use lib.ListN.{length}
use Rattle.fields.specs.Fields.{Bytes}
use Rattle.config.specs.Settings.{Bounded}
use Rattle.config.specs.declared.Config.{Config}
use Rattle.config.proofs.Laws.{bounded_of_valid}
use Rattle.rows.specs.Lent.{rows_lent}
use Rattle.rows.specs.declared.Row.{Row}
use Rattle.meaning.specs.Every.{Every}
use Rattle.meaning.specs.Records.{seen}
use Rattle.meaning.specs.Recovery.{Recovered, recovered, record_count, rows_of, records_of}
use Rattle.meaning.specs.Calls.{recover_call, recover_tables, recovery_told}
use Rattle.meaning.specs.Tables.{rows_in}
use Rattle.theorems.specs.Storable.{Sourced}
use Rattle.theorems.proofs.Recovering.{Accepted, accepted}
use Rattle.theorems.proofs.AtTheCut.{Standing, standing}
use Rattle.theorems.proofs.SnapshotFit.{snapshot_fits}
use Rattle.theorems.proofs.TableRows.{rows_of_table}
use Rattle.theorems.proofs.Written.{recovered_packs, room_there}
use Rattle.listing_text.specs.Lines.{first_line}
use Rattle.listing_text.specs.Listing.{heading_of, node_lines, listing_text, node_line_call}
use Rattle.listing_text.specs.Files.{longest_line}
use Rattle.listing_theorems.specs.ListingCalled.{called_from, ListingCalled}
use Rattle.listing_theorems.specs.ListingTells.{ListingTells}
use Rattle.listing_theorems.proofs.Called.{lines_called}
use Rattle.listing_theorems.proofs.Told.{behind_first, lines_told}

module _ (words active snapshot log : List ℕ) (r : Recovered) (bs : Bytes snapshot) (bl : Bytes log) (given : recover_call words active snapshot log ≡ recovered r) where
  a : Accepted (rows_lent words active) snapshot log r
  a = accepted (rows_lent words active) snapshot log r given

  stands : Standing (rows_lent words active) a.read.config snapshot log r.state
  stands = standing (rows_lent words active) snapshot log r bs bl a

  abbrev table : List ℕ
  table = (recover_tables words active (recovered r)).rows

  rows_back : rows_in (length (rows_of r)) table ≡ rows_of r
  rows_back = rows_of_table (length words) (rows_of r) (recovered_packs (rows_lent words active) snapshot log r bs bl given)

  bounded : Bounded r.config
  bounded = subst Bounded (sym a.same_config) (bounded_of_valid a.read.config (snapshot_fits (rows_lent words active) snapshot a.read bs a.reads).valid)

  sourced : Every (Sourced r.config snapshot log) (rows_in (length (rows_of r)) table)
  sourced = subst (Every (Sourced r.config snapshot log)) (sym rows_back) (subst (λ (c : Config). Every (Sourced c snapshot log) (rows_of r)) (sym a.same_config) stands.sourced)

  called : (outs : ℕ → List ℕ) → ((n : ℕ) → longest_line ≤ length (outs n))
      → first_line (heading_of (recovery_told log r)) ++ called_from (λ n. node_line_call r.config.dimensions table (record_count r) n snapshot log (outs n)) (record_count r) 0
      ≡ listing_text snapshot log (recovered r)
  called outs room =
      ap (λ (l : List ℕ). first_line (heading_of (recovery_told log r)) ++ l)
      (lines_called r.config bounded table (record_count r) (room_there words active snapshot log [] r bs bl given) snapshot log outs room (record_count r) 0 (omega arith) sourced
      ∙ ap (λ (rows : List Row). node_lines 0 (map (seen r.config.dimensions snapshot log) rows)) rows_back)

pub listing_called : ListingCalled
listing_called = record { listing_called = λ words active snapshot log r bs bl given. called words active snapshot log r bs bl given }

pub listing_tells : ListingTells
listing_tells =
    record {
      listing_tells = λ snapshot log snapshot' log' r r' p q e.
          lines_told 0 (records_of snapshot log r) (records_of snapshot' log' r') p q
          (behind_first (heading_of (recovery_told log r)) (heading_of (recovery_told log' r')) _ _ e);
    }
