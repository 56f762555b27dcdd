-- What `specs/WrongRecoveries.antt` says, by the stores of document 01's sums at the edges: P5 and the worked example.
use Rattle.std.specs.Prelude.{Ok}
use Prim.Native.Nat.{ℕ, suc, zero, ◌-◌, ◌<◌, ◌^◌}
use native.Mathlib.Omega.{arith}
use mathlib.Core.Path.{◌≡◌, refl, sym, ap, ap₂, ◌∙◌, subst}
use mathlib.Core.Bool.{Bool, true, false, cond, true≢false}
use mathlib.Core.List.{List, [], ◌∷◌}
use lib.Dec.{ltb}
use lib.ListN.{length, take, get_or, replicate}
use borrow.Author.Tests.{ltb-true}
use Rattle.refusal.proofs.Results.{answer_injective}
use Rattle.fields.specs.Fields.{Bytes}
use Rattle.fields.proofs.Numbers.{Bytes-nil, Bytes-cons, Bytes-take}
use Rattle.config.specs.Settings.{settings}
use Rattle.config.specs.declared.Metric.TheVariants.{SquaredL2}
use Rattle.rows.specs.Lent.{rows_lent}
use Rattle.rows.specs.declared.Row.{Row}
use Rattle.meaning.specs.Every.{Every}
use Rattle.meaning.specs.Replay.{Frame}
use Rattle.meaning.specs.Snapshot.{Snapshot}
use Rattle.meaning.specs.Log.{frames_of}
use Rattle.meaning.specs.Recovery.{Recovered, recovered, recover, rows_of}
use Rattle.meaning.specs.Records.{Record}
use Rattle.meaning.specs.Tables.{row_words, rows_from, live_from, filled}
use Rattle.sorting.specs.Sorting.{insert_node, sorted_nodes}
use Rattle.meaning.specs.Calls.{recover_call, recover_tables, recovery_told}
use Rattle.theorems.specs.Cut.{Cut, place, there}
use Rattle.theorems.specs.EachFrameOnce.{up_to, above}
use Rattle.theorems.specs.Sums.{example_snapshot, example_log, snapshot4, log45, example_recovered}
use Rattle.theorems.proofs.SumsComputed.{example_cut, sums}
use Rattle.theorems.proofs.InWords.{front_recovers}
use Rattle.recovery.specs.Told.{Recovery, info_of, recovery_answer}
use Rattle.recovery.specs.declared.RecoveryInfo.{RecoveryInfo}
use Rattle.promises.specs.Recover.{RecoverMeets, Recovers}
use Rattle.promises.specs.WrongRecoveries.{AnyRecovery, Keeps, RefusesAll, OneConstant, SameRecords, SameRows, WritesNoRow, WritesNoEntry, FirstFrameOnly, FirstReplayedOnly, CountsTheFrames, WrongRecoveries}
use Rattle.promises.proofs.TakenOnceShown.{recovered_once}

-- ---- the stores are bytes
all_bytes : List ℕ → Bool
all_bytes [] = true
all_bytes (b ∷ s) = cond (ltb b 256) (all_bytes s) false

of_bytes : (s : List ℕ) → all_bytes s ≡ true → Bytes s
unfolding all_bytes
of_bytes [] e = Bytes-nil
of_bytes (b ∷ s) e = go (ltb b 256) refl e (of_bytes s)
  where
    go : (t : Bool) → ltb b 256 ≡ t → cond t (all_bytes s) false ≡ true → (all_bytes s ≡ true → Bytes s) → Bytes (b ∷ s)
    go true h e rest = Bytes-cons b s (ltb-true b 256 h) (rest e)
    go false h e rest = absurd (true≢false (sym e))

bytes_snapshot4 : Bytes snapshot4
unfolding all_bytes
bytes_snapshot4 = of_bytes snapshot4 refl

bytes_log45 : Bytes log45
unfolding all_bytes
bytes_log45 = of_bytes log45 refl

bytes_example_snapshot : Bytes example_snapshot
unfolding all_bytes
bytes_example_snapshot = of_bytes example_snapshot refl

bytes_example_log : Bytes example_log
unfolding all_bytes
bytes_example_log = of_bytes example_log refl

-- ---- tables of zeros
zeros_fit : (bound n : ℕ) → 0 < bound → Every (λ x. x < bound) (replicate n 0)
zeros_fit bound zero h = tt
zeros_fit bound (suc n) h = (h, zeros_fit bound n h)

zero_first : (n : ℕ) → ◌≡◌ {A = ℕ} (get_or (replicate n 0) 0 0) 0
zero_first zero = refl
zero_first (suc n) = refl

-- ---- P5: skipped 1, replayed 1
abbrev recovered5 : Recovered
recovered5 = record { config = settings 1 16 200 42 SquaredL2; crc = 3239177500; state = record { records = record { id = record { 0 = 7 }; deleted = false; from_log = true; caption_length = 2; at = 64 } ∷ []; sequence = 5; replayed = 1; skipped = 1 }; keep = 78 }

module _ (f : AnyRecovery) (keeps : Keeps f) where
  -- one row lent, with an entry that is not 0
  abbrev rows5 : List ℕ
  rows5 = 0 ∷ 0 ∷ []

  abbrev active5 : List ℕ
  active5 = 9 ∷ []

  call5 : RecoverMeets snapshot4 log45 rows5 active5 (f.answers snapshot4 log45 rows5 active5) (f.rows_after snapshot4 log45 rows5 active5) (f.active_after snapshot4 log45 rows5 active5)
  call5 = keeps snapshot4 log45 rows5 active5 bytes_snapshot4 bytes_log45 (omega arith, (omega arith, tt)) (omega arith, tt)

  answer5 : f.answers snapshot4 log45 rows5 active5 ≡ Ok (info_of (recovery_told log45 recovered5))
  answer5 = call5.result_is ∙ ap (recovery_answer log45) sums.p5

  refuses_all : RefusesAll f → ⊥
  refuses_all wrong = wrong snapshot4 log45 rows5 active5 (info_of (recovery_told log45 recovered5)) answer5

  writes_no_row : WritesNoRow f → ⊥
  unfolding row_words
  writes_no_row wrong =
      let after : rows5 ≡ (recover_tables rows5 active5 (recovered recovered5)).rows
      = sym (wrong snapshot4 log45 rows5 active5) ∙ call5.rows_are ∙ ap (λ x. (recover_tables rows5 active5 x).rows) sums.p5 in
      let first : ◌≡◌ {A = ℕ} 0 7 = ap (λ (l : List ℕ). get_or l 0 0) after in
      omega arith

  writes_no_entry : WritesNoEntry f → ⊥
  unfolding row_words live_from insert_node sorted_nodes
  writes_no_entry wrong =
      let after : active5 ≡ (recover_tables rows5 active5 (recovered recovered5)).active
      = sym (wrong snapshot4 log45 rows5 active5) ∙ call5.active_is ∙ ap (λ x. (recover_tables rows5 active5 x).active) sums.p5 in
      let first : ◌≡◌ {A = ℕ} 9 0 = ap (λ (l : List ℕ). get_or l 0 0) after in
      omega arith

  -- ---- the worked example: two frames, and a cut between them
  abbrev rows : List ℕ
  rows = replicate 8192 0

  abbrev active : List ℕ
  active = replicate 4096 0

  lent_is : rows_lent rows active ≡ 4096
  lent_is = refl

  call : (log : List ℕ) → Bytes log
      → RecoverMeets example_snapshot log rows active (f.answers example_snapshot log rows active) (f.rows_after example_snapshot log rows active) (f.active_after example_snapshot log rows active)
  call log bl = keeps example_snapshot log rows active bytes_example_snapshot bl (zeros_fit (2 ^ 64) 8192 (omega arith)) (zeros_fit (2 ^ 32) 4096 (omega arith))

  at_lent : (log : List ℕ) → recover_call rows active example_snapshot log ≡ recover 4096 example_snapshot log
  at_lent log = ap (λ (n : ℕ). recover n example_snapshot log) lent_is

  answer_example : f.answers example_snapshot example_log rows active ≡ Ok (info_of (recovery_told example_log example_recovered))
  answer_example = (call example_log bytes_example_log).result_is ∙ ap (recovery_answer example_log) (at_lent example_log ∙ sums.example)

  one_constant : OneConstant f → ⊥
  one_constant same =
      let sequences : ◌≡◌ {A = ℕ} 5 2
      = ap (λ (i : RecoveryInfo). i.sequence) (same snapshot4 log45 rows5 active5 example_snapshot example_log rows active
      (info_of (recovery_told log45 recovered5)) (info_of (recovery_told example_log example_recovered)) answer5 answer_example) in
      omega arith

  -- one record and two
  same_records : SameRecords f → ⊥
  unfolding rows_from
  same_records same =
      let counts : ◌≡◌ {A = ℕ} 1 2
      = ap (λ (l : List Record). length l) (same snapshot4 log45 rows5 active5 example_snapshot example_log rows active
      (info_of (recovery_told log45 recovered5)) (info_of (recovery_told example_log example_recovered)) answer5 answer_example) in
      omega arith

  -- the third row word: the second node's ID, or nothing
  third : (log : List ℕ) → Bytes log → (r : Recovered) → recover 4096 example_snapshot log ≡ recovered r
      → get_or (f.rows_after example_snapshot log rows active) 2 0 ≡ get_or (filled (length rows) (row_words (rows_of r))) 2 0
  third log bl r e = ap (λ (l : List ℕ). get_or l 2 0) ((call log bl).rows_are ∙ ap (λ x. (recover_tables rows active x).rows) (at_lent log ∙ e))

  abbrev front : List ℕ
  front = take (place example_cut) example_log

  bytes_front : Bytes front
  bytes_front = Bytes-take (place example_cut) example_log bytes_example_log

  -- the whole log and its front leave other rows
  other_rows : f.rows_after example_snapshot example_log rows active ≡ f.rows_after example_snapshot front rows active → ⊥
  unfolding row_words example_cut
  other_rows same =
      let both = third example_log bytes_example_log example_recovered sums.example in
      let one = third front bytes_front (there example_cut) (front_recovers example_cut) in
      let seven : ◌≡◌ {A = ℕ} 7 0 = sym both ∙ ap (λ (l : List ℕ). get_or l 2 0) same ∙ one ∙ zero_first (length rows - 2) in
      omega arith

  same_rows : SameRows f → ⊥
  same_rows same =
      other_rows
      (same example_snapshot example_log example_snapshot front rows active (info_of (recovery_told example_log example_recovered)) (info_of (recovery_told front (there example_cut))) answer_example
      ((call front bytes_front).result_is ∙ ap (recovery_answer front) (at_lent front ∙ front_recovers example_cut)))

  first_frame_only : FirstFrameOnly f → ⊥
  unfolding example_cut
  first_frame_only only =
      other_rows
      (subst (λ (n : ℕ). (cut : Cut n example_snapshot example_log) → length cut.front ≡ 1
      → f.rows_after example_snapshot example_log rows active ≡ f.rows_after example_snapshot (take (place cut) example_log) rows active)
      lent_is (only example_snapshot example_log rows active) example_cut refl)

  first_replayed_only : FirstReplayedOnly f → ⊥
  unfolding example_cut
  first_replayed_only only =
      other_rows
      (subst (λ (n : ℕ). (cut : Cut n example_snapshot example_log) → cut.state.replayed ≡ 1
      → f.rows_after example_snapshot example_log rows active ≡ f.rows_after example_snapshot (take (place cut) example_log) rows active)
      lent_is (only example_snapshot example_log rows active) example_cut refl)

  counts_the_frames : CountsTheFrames f
  counts_the_frames snapshot log rows active bs bl w v i told S reads =
      let lent = rows_lent rows active in
      let m = keeps snapshot log rows active bs bl w v in
      let words = f.rows_after snapshot log rows active in
      let recovers : Recovers lent snapshot log (Ok i) words
      = subst (λ (r : Recovery). Recovers lent snapshot log r words) told
      (record { rows = rows; active = active; as_many = refl; active' = f.active_after snapshot log rows active; meets = m }) in
      let t = recovered_once.recovered_once lent snapshot log bs bl i words recovers in
      let same = answer_injective t.read S (sym t.reads ∙ reads) in
      let frames_are : t.frames ≡ (frames_of S.config log).frames
      = sym (ap (λ x. x.frames) t.frames_are) ∙ ap (λ (x : Snapshot). (frames_of x.config log).frames) same in (
        t.replayed ∙ ap₂ (λ (q : ℕ) (fs : List (Frame Row)). length (above q fs)) (ap (λ (x : Snapshot). x.sequence) same) frames_are,
        t.skipped ∙ ap₂ (λ (q : ℕ) (fs : List (Frame Row)). length (up_to q fs)) (ap (λ (x : Snapshot). x.sequence) same) frames_are,
      )

pub wrong_recoveries : WrongRecoveries
wrong_recoveries =
    record {
      refuses_all = refuses_all;
      one_constant = one_constant;
      same_records = same_records;
      same_rows = same_rows;
      writes_no_row = writes_no_row;
      writes_no_entry = writes_no_entry;
      first_frame_only = first_frame_only;
      first_replayed_only = first_replayed_only;
      counts_the_frames = counts_the_frames;
    }
