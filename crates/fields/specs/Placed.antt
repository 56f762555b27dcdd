-- What a writer leaves in a lent output.
use Rattle.std.specs.Prelude.{ℕ, ◌+◌, List, ◌++◌, length, take, drop}

-- an output with these bytes put in at `at`, and no other byte changed
unfoldable pub placed : ℕ → List ℕ → List ℕ → List ℕ
placed at bytes out = take at out ++ (bytes ++ drop (at + length bytes) out)
