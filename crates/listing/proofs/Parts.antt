-- The two parts of the room that are recovered are the files that were found there.
use Rattle.std.proofs.Common.{arith, ℕ, ◌+◌, ◌-◌, ◌≡◌, ap₂, subst, List, take, drop}
use Rattle.rows.specs.Lent.{rows_lent}
use Rattle.meaning.specs.Calls.{recover_call, recover_tables}
use Rattle.recovery.specs.Told.{recovery_answer, Recovery}
use Rattle.listing_text.specs.Files.{listing_rows}
use Rattle.listing.specs.declared.Found.{Found}
use Rattle.listing.specs.Shown.{log_at, file_in, Recovers}

-- n bytes from byte k on
abbrev part : ℕ → ℕ → List ℕ → List ℕ
part n k room = take n (drop k room)

pub in_room : (room : List ℕ) (s l : Found) (m n : ℕ) (answer : Recovery) (words : List ℕ) → m ≡ s.bytes → 0 ≡ s.at → n ≡ l.bytes → log_at ≡ l.at
    → Recovers (part m 0 room) (part n log_at room) answer words → Recovers (file_in s room) (file_in l room) answer words
in_room room s l m n answer words e f g h r =
    subst (λ (x : List ℕ). Recovers x (file_in l room) answer words) (ap₂ (λ (i j : ℕ). part i j room) e f)
    (subst (λ (x : List ℕ). Recovers (part m 0 room) x answer words) (ap₂ (λ (i j : ℕ). part i j room) g h) r)

-- `recover`, handed what was found in the room, recovers the two files.
pub recovers_in_room : (room : List ℕ) (s l : Found) (rows active : List ℕ) (answer : Recovery) (words : List ℕ) → 0 ≡ s.at → log_at ≡ l.at → rows_lent rows active ≡ listing_rows
    → answer ≡ recovery_answer (part (log_at + l.bytes - log_at) log_at room) (recover_call rows active (part (s.bytes - 0) 0 room) (part (log_at + l.bytes - log_at) log_at room))
    → words ≡ (recover_tables rows active (recover_call rows active (part (s.bytes - 0) 0 room) (part (log_at + l.bytes - log_at) log_at room))).rows
    → Recovers (file_in s room) (file_in l room) answer words
recovers_in_room room s l rows active answer words hs hl lent told left =
    in_room room s l (s.bytes - 0) (log_at + l.bytes - log_at) answer words (omega arith) hs (omega arith) hl
    (record { rows = rows; active = active; as_many = lent; answer_is = told; words_are = left })
