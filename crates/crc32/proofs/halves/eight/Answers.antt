-- `crc32::halves::eight` meets its contract: twice four bytes, the first with the others as zero bytes after it.
-- Assumes nothing.
use mathlib.Core.Path.{◌≡◌, ap₂, ◌∙◌}
use Prim.Native.Nat.{◌+◌}
use lib.ListN.{take, drop}
use Rattle.crc32.specs.Crc.{bytes_in}
use Rattle.crc32.specs.Steps.{turns}
use lib.Bits.{bit_xor}
use Rattle.crc32.proofs.Slices.{eight_bytes}
use borrow.Author.Rules.{rules}
use Rattle.crc32.proofs.halves.eight.Goals as goal

pub returns : goal.returns
returns c =
    let a = c.args in
    let s = a.s.now in
    let at = a.at in
    let e₁ : c.four.result ≡ turns 8 0 (bytes_in 0 (take 4 (drop (at + 4) s))) = c.four.ensures in
    let e₂ : c.four-2.result ≡ turns 8 4 (bytes_in a.c (take 4 (drop at s))) = c.four-2.ensures in
    ap₂ bit_xor e₁ e₂ ∙ eight_bytes a.c at s (search rules)
