-- The cache's calls. Of each: `…Meets` is what its contract says of a result and of what was lent, in the contract's own words; `…_contract`: what a caller
-- learns from the contract in the source is this; `…_one_answer`: nothing is left to choose. A view is a slice: its bytes, and the place of the first (`ref_ptr`).
use Rattle.graph.specs.declared.CacheInfo.{CacheInfo}
use Rattle.std.specs.Prelude.{ℕ, ◌≡◌, List, length}
use Rattle.std.specs.Borrow.{Bor, MutBor}
use Rattle.config.specs.declared.Config.{Config}
use Rattle.rows.specs.declared.Node.{Node}
use Rattle.refusal.specs.Refusal.{number_told, Answer}
use Rattle.graph.specs.Cache.{read_cache}
use Rattle.graph.specs.Neighbours.{neighbours, part_given, part_of}
use Rattle.graph.specs.Told.{cache_told, starts_after, part_start}
use Rattle.graph.specs.declared.CachePart.{CachePart}
use Rattle.graph.proofs.read_cache.Reads as ReadCacheCall
use Rattle.graph.proofs.neighbours.Reads as NeighboursCall
use Rattle.graph.proofs.neighbours_number.Reads as NeighboursNumberCall
use Rattle.graph.proofs.neighbours_part.Reads as NeighboursPartCall

-- read_cache(bytes, config, crc, sequence, count, starts): the answer, and the starts after
pub record ReadCacheMeets (bytes : List ℕ) (config : Config) (crc sequence count : ℕ) (starts : List ℕ) (r : Answer CacheInfo) (starts' : List ℕ) : Type 0 where
  pub result_is : r ≡ cache_told (read_cache config crc sequence count (length starts) bytes)
  pub starts_are : starts' ≡ starts_after (length starts) (read_cache config crc sequence count (length starts) bytes)

-- neighbours(cache, starts, count, node, level): the bytes of the part, and the place of the first
pub record NeighboursMeets (cache : Bor (List ℕ)) (starts : List ℕ) (count : ℕ) (node : Node) (level : ℕ) (r : Bor (List ℕ)) : Type 0 where
  pub bytes_are : r.now ≡ part_of cache.now (part_given (neighbours cache.now starts count node.0 level))
  pub start_is : r.ref_ptr ≡ part_start cache.ref_ptr (part_given (neighbours cache.now starts count node.0 level))

-- neighbours_number(cache, starts, count, node, level)
pub record NeighboursNumberMeets (cache starts : List ℕ) (count : ℕ) (node : Node) (level r : ℕ) : Type 0 where
  pub result_is : r ≡ number_told (neighbours cache starts count node.0 level)

-- neighbours_part(cache, starts, count, node, level)
pub record NeighboursPartMeets (cache starts : List ℕ) (count : ℕ) (node : Node) (level : ℕ) (r : Answer CachePart) : Type 0 where
  pub result_is : r ≡ neighbours cache starts count node.0 level

pub record CacheCalls : Type 0 where
  pub read_cache_contract : (κs : _) (bytes : Bor (List ℕ)) (config : Config) (crc sequence count : ℕ) (starts : MutBor (List ℕ)) (r : Answer CacheInfo) (starts' : MutBor (List ℕ))
      → ReadCacheCall.Learnt κs (bytes, (config, (crc, (sequence, (count, (starts, tt)))))) r (bytes, (config, (crc, (sequence, (count, (starts', tt))))))
      → ReadCacheMeets bytes.now config crc sequence count starts.now r starts'.now
  pub read_cache_one_answer : (bytes : List ℕ) (config : Config) (crc sequence count : ℕ) (starts : List ℕ) (r s : Answer CacheInfo) (starts' starts'' : List ℕ)
      → ReadCacheMeets bytes config crc sequence count starts r starts' → ReadCacheMeets bytes config crc sequence count starts s starts''
      → (r ≡ s) × (starts' ≡ starts'')
  pub neighbours_contract : (κs : _) (cache starts : Bor (List ℕ)) (count : ℕ) (node : Node) (level : ℕ) (r : Bor (List ℕ))
      → NeighboursCall.Learnt κs (cache, (starts, (count, (node, (level, tt))))) r (cache, (starts, (count, (node, (level, tt)))))
      → NeighboursMeets cache starts.now count node level r
  pub neighbours_one_answer : (cache : Bor (List ℕ)) (starts : List ℕ) (count : ℕ) (node : Node) (level : ℕ) (r r' : Bor (List ℕ))
      → NeighboursMeets cache starts count node level r → NeighboursMeets cache starts count node level r' → (r.ref_ptr ≡ r'.ref_ptr) × (r.now ≡ r'.now)
  pub neighbours_number_contract : (κs : _) (cache starts : Bor (List ℕ)) (count : ℕ) (node : Node) (level r : ℕ)
      → NeighboursNumberCall.Learnt κs (cache, (starts, (count, (node, (level, tt))))) r (cache, (starts, (count, (node, (level, tt)))))
      → NeighboursNumberMeets cache.now starts.now count node level r
  pub neighbours_number_one_answer : (cache starts : List ℕ) (count : ℕ) (node : Node) (level r r' : ℕ)
      → NeighboursNumberMeets cache starts count node level r → NeighboursNumberMeets cache starts count node level r' → r ≡ r'
  pub neighbours_part_contract : (κs : _) (cache starts : Bor (List ℕ)) (count : ℕ) (node : Node) (level : ℕ) (r : Answer CachePart)
      → NeighboursPartCall.Learnt κs (cache, (starts, (count, (node, (level, tt))))) r (cache, (starts, (count, (node, (level, tt)))))
      → NeighboursPartMeets cache.now starts.now count node level r
  pub neighbours_part_one_answer : (cache starts : List ℕ) (count : ℕ) (node : Node) (level : ℕ) (r r' : Answer CachePart)
      → NeighboursPartMeets cache starts count node level r → NeighboursPartMeets cache starts count node level r' → r ≡ r'
