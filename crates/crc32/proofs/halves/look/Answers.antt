-- `crc32::halves::look` meets its contract: a byte's entry is that of its low half and that of its high half.
-- Assumes nothing.
use Prim.Native.Nat.{◌+◌, ◌*◌, ◌/◌, ◌%◌, ◌<◌}
use native.Mathlib.Nat.{mod-lt, zero-lt-suc}
use lib.Bits.{bit_xor}
use mathlib.Core.Path.{ap₂, ◌∙◌}
use Rattle.crc32.proofs.Slices.{row_halves}
use borrow.Author.Rules.{rules}
use Rattle.crc32.proofs.halves.look.Goals as goal

pub returns : goal.returns
returns c =
    let a = c.args in
    let x = bit_xor a.c a.b % 256 in
    let low : x < 256 = mod-lt (bit_xor a.c a.b) (zero-lt-suc 255) in
    let entry = c.requires.digits.entry in
    ap₂ bit_xor (entry (2 * a.row + 1) (x % 16) (search rules) (search rules)) (entry (2 * a.row) (x / 16) (search rules) (search rules))
    ∙ row_halves a.row x low
