-- Links and fields of one word and one entry.
use Prim.Native.Nat.{ℕ, ◌+◌, ◌*◌, ◌/◌, ◌%◌, ◌<◌, ◌≤◌}
use native.Mathlib.Omega.{arith}
use mathlib.Core.Path.{◌≡◌, refl, sym, ap, ◌∙◌}
use Rattle.links.specs.Links.{links, low_links, spare, above_spare, caption_unit, source_unit, deleted_unit, plain_word, left_of, right_of, word_with_left, entry_with_left, entry_with_right, deleted_word, caption_length}

module _ (w e u : ℕ) (h : u < links) where
  spare_bits : word_with_left w u / spare % 4 ≡ u / low_links
  unfolding word_with_left
  spare_bits = omega arith

  entry_bits : entry_with_left e u / links ≡ u % low_links
  unfolding entry_with_left
  entry_bits = omega arith

  pub left_set : left_of (word_with_left w u) (entry_with_left e u) ≡ u
  unfolding left_of
  left_set = let a = spare_bits in let b = entry_bits in omega arith

  pub right_after_left : right_of (entry_with_left e u) ≡ right_of e
  unfolding right_of entry_with_left
  right_after_left = omega arith

  pub right_set : right_of (entry_with_right e u) ≡ u
  unfolding right_of entry_with_right
  right_set = omega arith

  pub left_after_right : left_of w (entry_with_right e u) ≡ left_of w e
  unfolding left_of entry_with_right
  left_after_right = omega arith

  pub plain_with_left : plain_word (word_with_left w u) ≡ plain_word w
  unfolding plain_word word_with_left
  plain_with_left = omega arith

pub plain_plain : (w : ℕ) → plain_word (plain_word w) ≡ plain_word w
unfolding plain_word
plain_plain w = omega arith

pub no_left : (w : ℕ) → left_of (plain_word w) 0 ≡ 0
unfolding left_of plain_word
no_left w = omega arith

pub no_right : right_of 0 ≡ 0
unfolding right_of
no_right = refl

-- a word is live where its plain word is
pub live_plain : (w : ℕ) → w < deleted_unit → plain_word w < deleted_unit
unfolding plain_word
live_plain w h = omega arith

pub plain_live : (w : ℕ) → plain_word w < deleted_unit → w < deleted_unit
unfolding plain_word
plain_live w h = omega arith

pub caption_plain : (w : ℕ) → caption_length (plain_word w) ≡ caption_length w
unfolding plain_word caption_length
caption_plain w = omega arith

pub deleted_dead : (w : ℕ) → deleted_unit ≤ deleted_word w
unfolding deleted_word
deleted_dead w = omega arith

-- what stands above the spare bits goes through
plain_above : (k r : ℕ) → plain_word (k * above_spare + r) ≡ k * above_spare + plain_word r
unfolding plain_word
plain_above k r = omega arith

plain_less : (w : ℕ) → plain_word w ≤ w
unfolding plain_word
plain_less w = omega arith

plain_low : (w : ℕ) → plain_word (w % caption_unit) ≡ plain_word w % caption_unit
plain_low w =
    let r : ℕ = w % caption_unit in
    let e : w ≡ w / caption_unit * 32768 * above_spare + w % caption_unit = omega arith in
    let a : plain_word w ≡ w / caption_unit * 32768 * above_spare + plain_word (w % caption_unit) = ap plain_word e ∙ plain_above (w / caption_unit * 32768) (w % caption_unit) in
    let l = plain_less (w % caption_unit) in
    omega arith

plain_source : (w : ℕ) → plain_word w / source_unit ≡ w / source_unit
unfolding plain_word
plain_source w = omega arith

pub plain_deleted : (w : ℕ) → plain_word (deleted_word w) ≡ deleted_word (plain_word w)
unfolding deleted_word
plain_deleted w =
    let s : ℕ = w / source_unit % 2 in
    let a : deleted_unit + s * source_unit + w % caption_unit ≡ (2147483648 + s * 1073741824) * above_spare + w % caption_unit = omega arith in
    let b : (2147483648 + s * 1073741824) * above_spare + plain_word w % caption_unit ≡ deleted_unit + s * source_unit + plain_word w % caption_unit = omega arith in
    ap plain_word a
    ∙ plain_above (2147483648 + s * 1073741824) (w % caption_unit)
    ∙ ap (λ (x : ℕ). (2147483648 + s * 1073741824) * above_spare + x) (plain_low w)
    ∙ b
    ∙ ap (λ (x : ℕ). deleted_unit + x % 2 * source_unit + plain_word w % caption_unit) (sym (plain_source w))

pub left_deleted : (w e : ℕ) → left_of (deleted_word w) e ≡ left_of w e
unfolding left_of deleted_word
left_deleted w e =
    let s : ℕ = w / source_unit % 2 in
    let a : deleted_unit + s * source_unit + w % caption_unit ≡ (2147483648 + s * 1073741824) * above_spare + w % caption_unit = omega arith in
    let k : ℕ = 2147483648 + s * 1073741824 in
    let b : (k * above_spare + w % caption_unit) / spare % 4 ≡ w / spare % 4 = omega arith in
    ap (λ (x : ℕ). x * low_links + e / links) (ap (λ (x : ℕ). x / spare % 4) a ∙ b)
