-- `elimination::start` meets its contract: four places are set, and the others are zero as before.
-- Assumes nothing.
use mathlib.Core.Path.{◌≡◌, ap, ◌∙◌}
use mathlib.Core.List.{List}
use Prim.Native.Nat.{ℕ, ◌<◌}
use native.Mathlib.Omega.{arith}
use lib.ListN.{length, get_or, set, length-set, length-replicate, get_or-replicate}
use lib.Seq.{get_or-set_same, get_or-set_other}
use Rattle.elimination.proofs.Fold.{folded_start}
use Rattle.elimination.proofs.start.Goals as goal

pub returns : goal.returns
returns c =
    let a = c.args in
    let z = a.v.now in
    let w₁ = set z 2396 a.a in
    let w₂ = set w₁ 2397 a.b in
    let w₃ = set w₂ 2398 a.c in
    let w = set w₃ 2399 a.d in
    let l : length z ≡ 10592 = ap length c.requires ∙ length-replicate {A = ℕ} 10592 0 in
    let l₁ : length w₁ ≡ 10592 = length-set z 2396 a.a ∙ l in
    let l₂ : length w₂ ≡ 10592 = length-set w₁ 2397 a.b ∙ l₁ in
    let l₃ : length w₃ ≡ 10592 = length-set w₂ 2398 a.c ∙ l₂ in
    let l₄ : length w ≡ 10592 = length-set w₃ 2399 a.d ∙ l₃ in
    let none : (k : ℕ) → k < 2396 → get_or w k 0 ≡ 0 =
    λ k h.
    get_or-set_other w₃ 2399 k a.d 0 (λ e. omega arith)
    ∙ get_or-set_other w₂ 2398 k a.c 0 (λ e. omega arith)
    ∙ get_or-set_other w₁ 2397 k a.b 0 (λ e. omega arith)
    ∙ get_or-set_other z 2396 k a.a 0 (λ e. omega arith)
    ∙ ap (λ (v : List ℕ). get_or v k 0) c.requires
    ∙ get_or-replicate {A = ℕ} 10592 k 0 0 (omega arith) in
    let third : get_or w 2398 0 ≡ a.c = get_or-set_other w₃ 2399 2398 a.d 0 (λ e. omega arith) ∙ get_or-set_same w₂ 2398 a.c 0 (omega arith) in
    let second : get_or w 2397 0 ≡ a.b =
    get_or-set_other w₃ 2399 2397 a.d 0 (λ e. omega arith)
    ∙ get_or-set_other w₂ 2398 2397 a.c 0 (λ e. omega arith)
    ∙ get_or-set_same w₁ 2397 a.b 0 (omega arith) in
    let first : get_or w 2396 0 ≡ a.a =
    get_or-set_other w₃ 2399 2396 a.d 0 (λ e. omega arith)
    ∙ get_or-set_other w₂ 2398 2396 a.c 0 (λ e. omega arith)
    ∙ get_or-set_other w₁ 2397 2396 a.b 0 (λ e. omega arith)
    ∙ get_or-set_same z 2396 a.a 0 (omega arith) in
    let fourth : get_or w 2399 0 ≡ a.d = get_or-set_same w₃ 2399 a.d 0 (omega arith) in
    record {
      v_len = l₄;
      started = λ step r. folded_start step r a.a a.b a.c a.d w (omega arith) none first second third fourth;
    }
