-- 21 where the CRC of the length's 4 bytes is wrong.
use mathlib.Core.Path.{◌≡◌, sym, ap, ◌∙◌}
use Prim.Native.Nat.{ℕ, ◌+◌, ◌-◌}
use native.Mathlib.Omega.{arith}
use lib.ListN.{take, drop}
use Rattle.crc32.specs.Crc.{crc_of}
use Rattle.fields.specs.Fields.{part}
use Rattle.frames.proofs.Envelopes.{length_crc_wrong}
use Rattle.frames.proofs.read_length.Goals as goal

pub returns-then-crc32-get_u32 : goal.returns-then-crc32-get_u32
returns-then-crc32-get_u32 c =
    let a = c.args in
    let four : a.at + 4 - a.at ≡ 4 = omega arith in
    let is : c.crc32.result ≡ crc_of (part a.log.now a.at 4) = c.crc32.ensures ∙ ap (λ (k : ℕ). crc_of (take k (drop a.at a.log.now))) four in
    sym (length_crc_wrong a.log.now a.at (λ e. c.if-crc32-get_u32.true (is ∙ e ∙ sym c.get_u32.ensures)))
