-- The header's tests: what leads through them, and what is known once they are passed.
use Rattle.std.specs.Prelude.{Option, Some, None, Ok}
use Prim.Native.Nat.{ℕ, ◌-◌, ◌/◌, ◌≤◌}
use mathlib.Core.Path.{◌≡◌, refl, sym, subst, ◌∙◌}
use mathlib.Core.Bool.{Bool, true, false, not, cond}
use mathlib.Core.List.{List}
use native.Mathlib.Omega.{arith}
use borrow.Author.Tests.{le-ltb, eq-eqb, eqb-true, ltb-false, leb-false, not-false}
use lib.Dec.{ltb, leb, eqb}
use lib.ListN.{length}
use Rattle.fields.specs.Fields.{num, le}
use Rattle.rng.specs.Rng.{rng_state}
use Rattle.layout.specs.Layout.{crc_length}
use Rattle.config.specs.Limits.{min_cache_bytes, max_cache_bytes, max_records}
use Rattle.config.specs.Settings.{validate, Bounded}
use Rattle.config.specs.declared.Config.{Config}
use Rattle.config.proofs.Laws.{bounded_of_valid}
use Rattle.refusal.specs.Refusal.{◌>>=◌, refuse, passes}
use Rattle.refusal.specs.declared.Refusal.TheVariants.{LengthOutOfBounds, StaleCache, WrongNodeCount, WrongEntry, MissingEntry, WrongRngState, CountOverBytes, TooFewStarts}
use Rattle.refusal.proofs.Results.{went, passed, not_refused, answer_injective, refused_no_answer}
use Rattle.graph.specs.Graph.{no_entry, entry_of}
use Rattle.graph.specs.Layout.{cache_magic, cache_magic_number, version, version_place, snapshot_crc_place, sequence_place, nodes_place, entry_place, rng_place, first_node}
use Rattle.graph.specs.Cache.{head_test, room_test, read_header}
use Rattle.graph.specs.Decoded.{EntryIn}
use Rattle.rows.specs.declared.Node.{Node}
use Rattle.graph.specs.declared.CacheHeader.{CacheHeader}

-- ---- 1, 40, 41
pub magic_is : le cache_magic ≡ cache_magic_number
unfolding le
magic_is = refl

pub head_good : (crc sequence count : ℕ) (s : List ℕ) → min_cache_bytes ≤ length s → length s ≤ max_cache_bytes → num s 0 8 ≡ cache_magic_number
    → num s version_place 4 ≡ version → num s snapshot_crc_place 4 ≡ crc → num s sequence_place 8 ≡ sequence → num s nodes_place 8 ≡ count → count ≤ max_records
    → head_test crc sequence count s ≡ passes
unfolding head_test
head_good crc sequence count s a b m v c q n h =
    simp (le-ltb _ _ a, le-ltb _ _ b, eq-eqb (num s 0 8) (le cache_magic) (m ∙ sym magic_is), eq-eqb _ _ v, eq-eqb _ _ c, eq-eqb _ _ q, eq-eqb _ _ n, le-ltb _ _ h)

-- what the head's tests say of its fields
pub record HeadPassed (crc sequence count : ℕ) (s : List ℕ) : Type 0 where
  pub long : min_cache_bytes ≤ length s
  pub short : length s ≤ max_cache_bytes
  pub is_magic : num s 0 8 ≡ le cache_magic
  pub is_version : num s version_place 4 ≡ version
  pub is_crc : num s snapshot_crc_place 4 ≡ crc
  pub is_sequence : num s sequence_place 8 ≡ sequence
  pub is_count : num s nodes_place 8 ≡ count
  pub few : count ≤ max_records

pub head_passed : (crc sequence count : ℕ) (s : List ℕ) → head_test crc sequence count s ≡ passes → HeadPassed crc sequence count s
unfolding head_test
head_passed crc sequence count s e =
    let a = went LengthOutOfBounds (ltb (length s) min_cache_bytes) _ tt e in
    let b = went LengthOutOfBounds (ltb max_cache_bytes (length s)) _ tt a.then in
    let m = went StaleCache (not (eqb (num s 0 8) (le cache_magic))) _ tt b.then in
    let v = went StaleCache (not (eqb (num s version_place 4) version)) _ tt m.then in
    let c = went StaleCache (not (eqb (num s snapshot_crc_place 4) crc)) _ tt v.then in
    let q = went StaleCache (not (eqb (num s sequence_place 8) sequence)) _ tt c.then in
    let n = went WrongNodeCount (not (eqb (num s nodes_place 8) count)) _ tt q.then in
    let f = not_refused WrongNodeCount (ltb max_records count) n.then in
    record {
      long = ltb-false _ _ a.test_false;
      short = ltb-false _ _ b.test_false;
      is_magic = eqb-true _ _ (not-false _ m.test_false);
      is_version = eqb-true _ _ (not-false _ v.test_false);
      is_crc = eqb-true _ _ (not-false _ c.test_false);
      is_sequence = eqb-true _ _ (not-false _ q.test_false);
      is_count = eqb-true _ _ (not-false _ n.test_false);
      few = ltb-false _ _ f;
    }

-- ---- 42, 43
pub entry_in : (count n : ℕ) (entry : Option Node) → entry_of count n ≡ Ok entry → EntryIn count entry
unfolding entry_of
entry_in count n entry e = go (eqb n no_entry) entry e
  where
    some : (t : Bool) (entry : Option Node) → leb count n ≡ t → (refuse WrongEntry t >>= λ _. Ok (Some (record { 0 = n }))) ≡ Ok entry → EntryIn count entry
    some true entry q e = absurd (refused_no_answer WrongEntry entry e)
    some false entry q e = subst (EntryIn count) (answer_injective _ entry e) (leb-false _ _ q)

    go : (t : Bool) (entry : Option Node)
        → cond t (refuse MissingEntry (ltb 0 count) >>= λ _. Ok None) (refuse WrongEntry (leb count n) >>= λ _. Ok (Some (record { 0 = n }))) ≡ Ok entry
        → EntryIn count entry
    go true (Some k) e = absurd (none (ltb 0 count) k e)
      where
        none : (u : Bool) (k : Node) → (refuse MissingEntry u >>= λ _. Ok None) ≡ Ok (Some k) → ⊥
        none true k e = refused_no_answer MissingEntry (Some k) e
        none false k e = let z : ◌≡◌ {A = ℕ} 0 1 = cc in omega arith
    go true None e = tt
    go false entry e = some (leb count n) entry refl e

-- ---- 44, 45, 51
pub record RoomPassed (s : List ℕ) (count lent : ℕ) : Type 0 where
  pub enough : count ≤ lent

pub room_passed : (seed count lent : ℕ) (s : List ℕ) → room_test seed count lent s ≡ passes → RoomPassed s count lent
unfolding room_test
room_passed seed count lent s e =
    let a = went WrongRngState (not (eqb (num s rng_place 8) (rng_state seed count))) _ tt e in
    let b = went CountOverBytes (ltb ((length s - crc_length - first_node) / 5) count) _ tt a.then in
    record { enough = ltb-false _ _ (not_refused TooFewStarts (ltb lent count) b.then) }

-- ---- the header
pub header_good : (config : Config) (crc sequence count lent : ℕ) (s : List ℕ) → validate config ≡ passes → head_test crc sequence count s ≡ passes
    → (entry : Option Node) → entry_of count (num s entry_place 8) ≡ Ok entry → room_test config.seed count lent s ≡ passes
    → read_header config crc sequence count lent s ≡ Ok (record { entry = entry; rng_state = num s rng_place 8 })
unfolding read_header
header_good config crc sequence count lent s a b entry c e = simp (a, b, c, e)

-- what is known of a header that was read
pub record HeaderRead (config : Config) (crc sequence count lent : ℕ) (s : List ℕ) (h : CacheHeader) : Type 0 where
  pub settings : Bounded config
  pub head : HeadPassed crc sequence count s
  pub entered : EntryIn count h.entry
  pub enough : count ≤ lent

pub header_read : (config : Config) (crc sequence count lent : ℕ) (s : List ℕ) (h : CacheHeader)
    → read_header config crc sequence count lent s ≡ Ok h → HeaderRead config crc sequence count lent s h
unfolding read_header
header_read config crc sequence count lent s h e =
    let a = passed (validate config) _ h e in
    let b = passed (head_test crc sequence count s) _ h a.then in
    let c = passed (entry_of count (num s entry_place 8)) _ h b.then in
    let d = passed (room_test config.seed count lent s) _ h c.then in
    let i : record { entry = c.value; rng_state = num s rng_place 8 } ≡ h = answer_injective _ h d.then in
    record {
      settings = bounded_of_valid config a.first;
      head = head_passed crc sequence count s b.first;
      entered = subst (λ (x : CacheHeader). EntryIn count x.entry) i (entry_in count (num s entry_place 8) c.value c.first);
      enough = (room_passed config.seed count lent s d.first).enough;
    }
