-- The magic as a number, and what an accepted header says.
use Rattle.std.specs.Prelude.{Ok}
use Prim.Native.Nat.{ℕ, ◌≤◌}
use mathlib.Core.Path.{◌≡◌, refl, sym, subst}
use mathlib.Core.List.{List}
use lib.ListN.{length}
use Rattle.fields.specs.Fields.{le}
use Rattle.config.specs.Limits.{min_snapshot_bytes, max_snapshot_bytes, max_records, max_dimensions}
use Rattle.config.proofs.Laws.{bounded_of_valid}
use Rattle.layout.specs.Layout.{magic}
use Rattle.meaning.specs.Snapshot.{header_config, body_length, Header, read_header}
use Rattle.meaning.proofs.HeaderRead.{header_read}

pub magic_number_lem : le magic ≡ 3554275031595042134
unfolding le
magic_number_lem = refl

pub record HeaderWithin (s : List ℕ) (h : Header) : Type 0 where
  pub long_enough : min_snapshot_bytes ≤ length s
  pub short_enough : length s ≤ max_snapshot_bytes
  pub d_high : h.config.dimensions ≤ max_dimensions
  pub first_inside : h.first ≤ body_length s
  pub few : h.count ≤ max_records

pub header_within : (s : List ℕ) (h : Header) → read_header s ≡ Ok h → HeaderWithin s h
header_within s h e =
    let r = header_read s h e in
    let f = r.facts in
    subst (HeaderWithin s) (sym r.is)
    (record {
      long_enough = f.long_enough;
      short_enough = f.short_enough;
      d_high = (bounded_of_valid (header_config r.version s r.metric) f.valid).d_high;
      first_inside = f.whole;
      few = f.few;
    })
