-- Three stores around the payload: `seal_stores`.
use mathlib.Core.Path.{◌≡◌, ap, ◌∙◌}
use Prim.Native.Nat.{ℕ, ◌+◌, ◌-◌}
use native.Mathlib.Omega.{arith}
use lib.ListN.{take, drop}
use Rattle.crc32.specs.Crc.{crc_of}
use Rattle.frames.proofs.Frames.{seal_stores}
use Rattle.frames.proofs.seal.Goals as goal

pub returns : goal.returns
returns c =
    let a = c.args in
    let o = a.out.now in
    let whole = c.crc32-whole in
    let one = c.put_u32 in
    let first = c.crc32-length in
    let two = c.put_u32-2 in
    let three = c.put_u32-3 in
    let q : a.n + 8 - 8 ≡ a.n = omega arith in
    seal_stores o one.new.out two.new.out three.new.out a.n first.result whole.result c.requires.n_in_bounds
    one.ensures first.ensures two.ensures (whole.ensures ∙ ap (λ (k : ℕ). crc_of (take k (drop 8 o))) q) three.ensures
