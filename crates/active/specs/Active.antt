-- What finishing a table answers, and what the lent row words and entries hold after.
use Rattle.std.specs.Prelude.{ℕ, ◌*◌, ◌-◌, cond, List, ◌++◌, length, take, replicate, Ok}
use Rattle.refusal.specs.Refusal.{Answer, ◌>>=◌, refuse}
use Rattle.refusal.specs.declared.Refusal.TheVariants.{ActiveTwice}
use Rattle.rows.specs.declared.Row.{Row}
use Rattle.meaning.specs.Recovery.{live_count}
use Rattle.meaning.specs.Snapshot.{live_twice}
use Rattle.meaning.specs.Tables.{rows_in, active_nodes, filled}

-- how many of the rows are active; 18 where an ID is live twice
abbrev pub activated : List Row → Answer ℕ
activated rows = refuse ActiveTwice (live_twice rows) >>= (λ _. Ok (live_count rows))

-- the first of a table's words, and zeros from `at` on
abbrev pub zeros_from : ℕ → List ℕ → List ℕ
zeros_from at words = take at words ++ replicate (length words - at) 0

-- the first rows and zeros behind them, or zeros throughout
abbrev pub left_rows : ℕ → List ℕ → List ℕ
left_rows count words = cond (live_twice (rows_in count words)) (replicate (length words) 0) (zeros_from (2 * count) words)

-- their active nodes and zeros behind them, or zeros throughout
abbrev pub left_entries : ℕ → List ℕ → List ℕ → List ℕ
left_entries count words entries =
    cond (live_twice (rows_in count words)) (replicate (length entries) 0) (filled (length entries) (active_nodes (rows_in count words)))
