-- Why something is refused, by document 01's number; and an answer that may be a refusal.
use Rattle.std.specs.Prelude.{ℕ, Bool, true, false, List, length, Result, Ok, Err}
use Rattle.refusal.specs.declared.Refusal.{Refusal}
use Rattle.refusal.specs.declared.Refusal.TheVariants.{LengthOutOfBounds, WrongMagic, WrongVersion, PastTheEnd, WrongMetric, WrongDimensions, WrongM, WrongEf, WrongCount, WrongFlag, VectorPastTheEnd, NotFinite, VectorAllZero, CaptionTooLong, NotUtf8, BytesLeftOver, WrongFileCrc, ActiveTwice, TooFewRows, LogTooLong, WrongLengthCrc, WrongLength, WrongPayloadCrc, WrongSequence, WrongBatchCount, UnknownOperation, GapAfterSnapshot, StorageLimits, InactiveDelete, NoSuchNode, RowDoesNotFit, OutputTooShort, RequestMalformed, TooLarge, FileUnreadable, StaleCache, WrongNodeCount, WrongEntry, MissingEntry, WrongRngState, CountOverBytes, WrongLevels, WrongDegree, WrongNeighbour, EdgeToMissingLevel, EntryBelowHighest, TooFewStarts}

abbrev pub number : Refusal → ℕ
number LengthOutOfBounds = 1
number WrongMagic = 2
number WrongVersion = 3
number PastTheEnd = 4
number WrongMetric = 5
number WrongDimensions = 6
number WrongM = 7
number WrongEf = 8
number WrongCount = 9
number WrongFlag = 10
number VectorPastTheEnd = 11
number NotFinite = 12
number VectorAllZero = 13
number CaptionTooLong = 14
number NotUtf8 = 15
number BytesLeftOver = 16
number WrongFileCrc = 17
number ActiveTwice = 18
number TooFewRows = 19
number LogTooLong = 20
number WrongLengthCrc = 21
number WrongLength = 22
number WrongPayloadCrc = 23
number WrongSequence = 24
number WrongBatchCount = 25
number UnknownOperation = 26
number GapAfterSnapshot = 27
number StorageLimits = 28
number InactiveDelete = 29
number NoSuchNode = 30
number RowDoesNotFit = 31
number OutputTooShort = 32
number RequestMalformed = 33
number TooLarge = 34
number FileUnreadable = 35
number StaleCache = 40
number WrongNodeCount = 41
number WrongEntry = 42
number MissingEntry = 43
number WrongRngState = 44
number CountOverBytes = 45
number WrongLevels = 46
number WrongDegree = 47
number WrongNeighbour = 48
number EdgeToMissingLevel = 49
number EntryBelowHighest = 50
number TooFewStarts = 51

-- an answer, or why there is none
abbrev pub Answer : Type 0 → Type 0
Answer A = Result A Refusal

infixl 20 ◌>>=◌
-- go on with an answer; a refusal ends it
abbrev pub ◌>>=◌ : {A B : Type 0} → Answer A → (A → Answer B) → Answer B
◌>>=◌ (Ok a) next = next a
◌>>=◌ (Err why) next = Err why

-- refuse where the test holds
abbrev pub refuse : Refusal → Bool → Answer (Unit {0})
refuse why true = Err why
refuse why false = Ok tt

-- a test that is passed
abbrev pub passes : Answer (Unit {0})
passes = Ok tt

-- document 01's number, and 0 where nothing is refused
abbrev pub number_told : {A : Type 0} → Answer A → ℕ
number_told (Ok a) = 0
number_told (Err why) = number why

-- how an answer is told: `good` of what it is, `bad` of why there is none
abbrev pub told : {A B : Type 0} → (A → B) → (Refusal → B) → Answer A → B
told good bad (Ok a) = good a
told good bad (Err why) = bad why

-- an answer, by its size
abbrev pub size_told : {A : Type 0} → (A → ℕ) → Answer A → Answer ℕ
size_told size = told (λ a. Ok (size a)) (λ why. Err why)

-- bytes, by how many they are
abbrev pub written_told : Answer (List ℕ) → Answer ℕ
written_told = told (λ bytes. Ok (length bytes)) (λ why. Err why)
