-- UTF-8 as RFC 3629, section 4, gives it: its grammar, in its names and order, and the same as tests that can be computed, which the contracts
-- cite. `proofs/Laws.antt` shows that the two agree, on lists of any numbers.
use Rattle.std.specs.Prelude.{Bool, true, false, cond, ◌&&◌, ◌||◌, List, [], ◌∷◌, ◌++◌, ℕ, zero, suc, ◌+◌, ◌≤◌, leb, eqb, length, drop}

-- ---- the grammar

-- %xLOW-HIGH
pub record Range (low high b : ℕ) : Type 0 where
  pub at_least : low ≤ b
  pub at_most : b ≤ high

-- UTF8-tail = %x80-BF
abbrev pub Tail : ℕ → Type 0
Tail b = Range 0x80 0xBF b

-- UTF8-1 = %x00-7F
pub data Utf8-1 : List ℕ → Type 0 where
  from_00 : {a : ℕ} → Range 0x00 0x7F a → Utf8-1 (a ∷ [])

-- UTF8-2 = %xC2-DF UTF8-tail
pub data Utf8-2 : List ℕ → Type 0 where
  from_C2 : {a b : ℕ} → Range 0xC2 0xDF a → Tail b → Utf8-2 (a ∷ b ∷ [])

-- UTF8-3 = %xE0 %xA0-BF UTF8-tail / %xE1-EC 2( UTF8-tail ) / %xED %x80-9F UTF8-tail / %xEE-EF 2( UTF8-tail )
pub data Utf8-3 : List ℕ → Type 0 where
  from_E0 : {a b c : ℕ} → Range 0xE0 0xE0 a → Range 0xA0 0xBF b → Tail c → Utf8-3 (a ∷ b ∷ c ∷ [])
  from_E1 : {a b c : ℕ} → Range 0xE1 0xEC a → Tail b → Tail c → Utf8-3 (a ∷ b ∷ c ∷ [])
  from_ED : {a b c : ℕ} → Range 0xED 0xED a → Range 0x80 0x9F b → Tail c → Utf8-3 (a ∷ b ∷ c ∷ [])
  from_EE : {a b c : ℕ} → Range 0xEE 0xEF a → Tail b → Tail c → Utf8-3 (a ∷ b ∷ c ∷ [])

-- UTF8-4 = %xF0 %x90-BF 2( UTF8-tail ) / %xF1-F3 3( UTF8-tail ) / %xF4 %x80-8F 2( UTF8-tail )
pub data Utf8-4 : List ℕ → Type 0 where
  from_F0 : {a b c d : ℕ} → Range 0xF0 0xF0 a → Range 0x90 0xBF b → Tail c → Tail d → Utf8-4 (a ∷ b ∷ c ∷ d ∷ [])
  from_F1 : {a b c d : ℕ} → Range 0xF1 0xF3 a → Tail b → Tail c → Tail d → Utf8-4 (a ∷ b ∷ c ∷ d ∷ [])
  from_F4 : {a b c d : ℕ} → Range 0xF4 0xF4 a → Range 0x80 0x8F b → Tail c → Tail d → Utf8-4 (a ∷ b ∷ c ∷ d ∷ [])

-- UTF8-char = UTF8-1 / UTF8-2 / UTF8-3 / UTF8-4
pub data Char : List ℕ → Type 0 where
  utf8_1 : {c : List ℕ} → Utf8-1 c → Char c
  utf8_2 : {c : List ℕ} → Utf8-2 c → Char c
  utf8_3 : {c : List ℕ} → Utf8-3 c → Char c
  utf8_4 : {c : List ℕ} → Utf8-4 c → Char c

-- UTF8-octets = *( UTF8-char )
pub data Octets : List ℕ → Type 0 where
  none : Octets []
  more : {c s : List ℕ} → Char c → Octets s → Octets (c ++ s)

-- ---- the same as tests of the front of a list

-- an octet of %xLOW-HIGH, and then what `next` tests
abbrev pub octet : ℕ → ℕ → (List ℕ → Bool) → List ℕ → Bool
octet low high next [] = false
octet low high next (b ∷ s) = leb low b && (leb b high && next s)

abbrev pub tails : ℕ → List ℕ → Bool
tails zero s = true
tails (suc n) s = octet 0x80 0xBF (tails n) s

abbrev pub starts1 : List ℕ → Bool
starts1 s = octet 0x00 0x7F (tails 0) s

abbrev pub starts2 : List ℕ → Bool
starts2 s = octet 0xC2 0xDF (tails 1) s

abbrev pub starts3 : List ℕ → Bool
starts3 s =
    octet 0xE0 0xE0 (octet 0xA0 0xBF (tails 1)) s
    || (octet 0xE1 0xEC (tails 2) s || (octet 0xED 0xED (octet 0x80 0x9F (tails 1)) s || octet 0xEE 0xEF (tails 2) s))

abbrev pub starts4 : List ℕ → Bool
starts4 s =
    octet 0xF0 0xF0 (octet 0x90 0xBF (tails 2)) s
    || (octet 0xF1 0xF3 (tails 3) s || octet 0xF4 0xF4 (octet 0x80 0x8F (tails 2)) s)

-- the length that the first rule that fits gives, 0 if none does
abbrev pub first_of : Bool → Bool → Bool → Bool → ℕ
first_of one two three four = cond one 1 (cond two 2 (cond three 3 (cond four 4 0)))

-- the length of the character at the front, 0 if none starts there
unfoldable pub char_length : List ℕ → ℕ
char_length s = first_of (starts1 s) (starts2 s) (starts3 s) (starts4 s)

-- what a character of n octets at the front leads to: `rest` is the valid front of what follows it
abbrev pub onward : ℕ → (ℕ → ℕ) → ℕ
onward zero rest = 0
onward (suc n) rest = suc n + rest (suc n)

-- `turns` characters at most; a list has no more characters than octets
unfoldable pub front_in : ℕ → List ℕ → ℕ
front_in zero s = 0
front_in (suc turns) s = onward (char_length s) (λ n. front_in turns (drop n s))

-- the length of the longest front that is whole characters
unfoldable pub valid_front : List ℕ → ℕ
valid_front s = front_in (length s) s

unfoldable pub is_utf8 : List ℕ → Bool
is_utf8 s = eqb (valid_front s) (length s)
