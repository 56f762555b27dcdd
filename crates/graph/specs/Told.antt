-- How the code's answers tell what the definitions give.
use Rattle.graph.specs.declared.CacheInfo.{CacheInfo}
use Rattle.std.specs.Prelude.{ℕ, ◌+◌, ◌-◌, List, ◌++◌, length, replicate, Ok, Err}
use Rattle.refusal.specs.Refusal.{Answer, told, size_told}
use Rattle.graph.specs.Layout.{first_node, starts_from}
use Rattle.graph.specs.Cache.{Read, Cache}
use Rattle.graph.specs.declared.CachePart.{CachePart}

-- of something read, where what follows begins
abbrev pub next_told : {A : Type 0} → Answer (Read A) → Answer ℕ
next_told = size_told (λ r. r.next)

-- of something read, that it was
abbrev pub pass_told : {A : Type 0} → Answer A → Answer (Unit {0})
pass_told = told (λ a. Ok tt) (λ why. Err why)

-- the node count, the entry or none, the RNG state
abbrev pub cache_told : Answer Cache → Answer CacheInfo
cache_told = told (λ c. Ok (record { nodes = length c.graph; entry = c.header.entry; rng_state = c.header.rng_state })) (λ why. Err why)

-- each node's byte offset, and zeros after; refused, all are zero
abbrev pub starts_after : ℕ → Answer Cache → List ℕ
starts_after lent (Ok c) = starts_from first_node c.graph ++ replicate (lent - length c.graph) 0
starts_after lent (Err why) = replicate lent 0

-- where a part begins, as a pointer: the block that the cache lies in, and its first byte there
abbrev pub part_start : {A : Type 0} → A × ℕ → CachePart → A × ℕ
part_start cache p = (cache.0, p.at + cache.1)
