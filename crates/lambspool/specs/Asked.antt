-- What an entry is asked: settings come as the numbers d, M, ef, seed and metric. A metric's number that is none is refused by 5, before all else.
use Rattle.std.specs.Prelude.{ℕ, cond, List, length, eqb, Ok, Err}
use Rattle.refusal.specs.Refusal.{Answer, ◌>>=◌, told}
use Rattle.refusal.specs.declared.Refusal.TheVariants.{RequestMalformed}
use Rattle.config.specs.Settings.{metric_of, settings, validate}
use Rattle.config.specs.declared.Config.{Config}
use Rattle.layout.specs.declared.Extent.{Extent}
use Rattle.layout.specs.declared.Shape.{Shape}
use Rattle.layout.specs.declared.Shape.TheVariants.{Single, Batch}
use Rattle.meaning.specs.Log.{ReadOperation, ReadFrame, wrong}
use Rattle.meaning.specs.Calls.{frame_call, operation_call, write_call, encode_call}
use Rattle.graph.specs.Cache.{Cache, read_cache}
use Rattle.lambspool.specs.Said.{kind_number}

unfoldable pub settings_of : ℕ → ℕ → ℕ → ℕ → ℕ → Answer Config
settings_of d m ef seed metric = metric_of metric >>= λ known. Ok (settings d m ef seed known)

-- what stands at a byte of a log
abbrev pub frame_asked : ℕ → ℕ → ℕ → ℕ → ℕ → List ℕ → ℕ → ℕ → ReadFrame
frame_asked d m ef seed metric log previous at = told (λ c. frame_call c log previous at) wrong (settings_of d m ef seed metric)

-- an operation of a frame of this kind; a number that is no kind is refused by 33, behind 6, 7, 8
abbrev pub operation_of : Config → List ℕ → ℕ → ℕ → ℕ → Answer ReadOperation
operation_of c log kind end at =
    cond (eqb kind (kind_number Single)) (operation_call c log Single end at)
    (cond (eqb kind (kind_number Batch)) (operation_call c log Batch end at)
    (validate c >>= λ _. Err RequestMalformed))

abbrev pub operation_asked : ℕ → ℕ → ℕ → ℕ → ℕ → List ℕ → ℕ → ℕ → ℕ → Answer ReadOperation
operation_asked d m ef seed metric log kind end at = settings_of d m ef seed metric >>= λ c. operation_of c log kind end at

-- a cache, with the starts that are lent
abbrev pub cache_asked : ℕ → ℕ → ℕ → ℕ → ℕ → ℕ → ℕ → ℕ → List ℕ → List ℕ → Answer Cache
cache_asked d m ef seed metric crc sequence count starts cache =
    settings_of d m ef seed metric >>= λ c. read_cache c crc sequence count (length starts) cache

abbrev pub write_asked : Extent → ℕ → ℕ → ℕ → ℕ → ℕ → ℕ → List ℕ → ℕ → List ℕ → List ℕ → List ℕ → Answer (List ℕ)
write_asked extent d m ef seed metric sequence words count snapshot log out =
    settings_of d m ef seed metric >>= λ c. write_call extent c sequence words count snapshot log out

abbrev pub encode_asked : Shape → ℕ → ℕ → ℕ → ℕ → ℕ → ℕ → List ℕ → List ℕ → List ℕ → List ℕ → Answer (List ℕ)
encode_asked shape d m ef seed metric sequence words coords captions out =
    settings_of d m ef seed metric >>= λ c. encode_call shape c sequence words coords captions out
