-- `crc32::rows::sixteen` meets its contract: four times four bytes, each with the rest as zero bytes after it.
-- Assumes nothing.
use mathlib.Core.Path.{◌≡◌, ap₂, ◌∙◌}
use Prim.Native.Nat.{◌+◌}
use lib.ListN.{take, drop}
use Rattle.crc32.specs.Crc.{bytes_in}
use Rattle.crc32.specs.Steps.{turns}
use lib.Bits.{bit_xor}
use Rattle.crc32.proofs.Slices.{sixteen_bytes}
use borrow.Author.Rules.{rules}
use Rattle.crc32.proofs.rows.sixteen.Goals as goal

pub returns : goal.returns
returns c =
    let a = c.args in
    let s = a.s.now in
    let at = a.at in
    let e₁ : c.four.result ≡ turns 8 0 (bytes_in 0 (take 4 (drop (at + 12) s))) = c.four.ensures in
    let e₂ : c.four-2.result ≡ turns 8 4 (bytes_in 0 (take 4 (drop (at + 8) s))) = c.four-2.ensures in
    let e₃ : c.four-3.result ≡ turns 8 8 (bytes_in 0 (take 4 (drop (at + 4) s))) = c.four-3.ensures in
    let e₄ : c.four-4.result ≡ turns 8 12 (bytes_in a.c (take 4 (drop at s))) = c.four-4.ensures in
    ap₂ bit_xor e₁ (ap₂ bit_xor e₂ (ap₂ bit_xor e₃ e₄)) ∙ sixteen_bytes a.c at s (search rules)
