-- The CRC's register is one that bytes can be eliminated for, and its start may be xored into the first four bytes.
-- Assumes nothing.
use mathlib.Core.Path.{◌≡◌, refl, sym, ap, ap₂, ◌∙◌}
use mathlib.Core.List.{List, [], ◌∷◌, ◌++◌}
use Prim.Native.Nat.{ℕ, zero, suc, ◌/◌, ◌%◌, ◌≤◌, ◌<◌}
use native.Mathlib.Omega.{arith}
use lib.Bits.{bit_xor, xor_comm}
use lib.ListN.{length, get_or, take, drop, take-append-drop}
use Rattle.elimination.specs.Elimination.{run, zeros, Register, Alike}
use Rattle.crc32.specs.Crc.{bits_in, bytes_in}
use Rattle.crc32.specs.Steps.{shifts, turns, rounds}
use Rattle.crc32.proofs.Bytes.{bits_in_both, bits_in_zero, bytes_in_append, bytes_in_lt, bytes_in_start}
use Rattle.crc32.proofs.Sealed.{bytes, bytes_in_bytes}
use Rattle.crc32.proofs.Slices.{take_four}
use Rattle.crc32.proofs.Sparse.{sparse}

pub run_bytes_in : (c : ℕ) (bs : List ℕ) → run (bits_in 8) c bs ≡ bytes_in c bs
unfolding run bytes_in
run_bytes_in c [] = refl
run_bytes_in c (b ∷ bs) = run_bytes_in (bits_in 8 c b) bs

zeros_rounds : (n c : ℕ) → zeros (bits_in 8) n c ≡ rounds n c
unfolding zeros turns
zeros_rounds zero c = refl
zeros_rounds (suc n) c = ap (zeros (bits_in 8) n) (bits_in_zero 8 c) ∙ zeros_rounds n (shifts 8 c)

pub crc_register : Register (bits_in 8)
crc_register =
    record {
      linear = bits_in_both 8;
      sparse = λ bs.
          let c = run (bits_in 8) 0 bs in
          let small : c < 4294967296 = rw run_bytes_in (bytes_in_lt 0 bs (omega arith)) in
          zeros_rounds 2400 c
          ∙ sparse c small
          ∙ sym
          (ap₂ bit_xor (zeros_rounds 1240 c)
          (ap₂ bit_xor (zeros_rounds 936 c) (ap (λ (x : ℕ). bit_xor x c) (zeros_rounds 712 c))));
    }

-- bytes into the xor of two registers, four of them
four_both : (a₀ a₁ a₂ a₃ b₀ b₁ b₂ b₃ : ℕ)
    → bytes_in 0 (bit_xor a₀ b₀ ∷ bit_xor a₁ b₁ ∷ bit_xor a₂ b₂ ∷ bit_xor a₃ b₃ ∷ [])
    ≡ bit_xor (bytes_in 0 (a₀ ∷ a₁ ∷ a₂ ∷ a₃ ∷ [])) (bytes_in 0 (b₀ ∷ b₁ ∷ b₂ ∷ b₃ ∷ []))
unfolding bytes_in
four_both a₀ a₁ a₂ a₃ b₀ b₁ b₂ b₃ =
    let p : bits_in 8 0 (bit_xor a₀ b₀) ≡ bit_xor (bits_in 8 0 a₀) (bits_in 8 0 b₀) = bits_in_both 8 0 0 a₀ b₀ in
    let q : ℕ → ℕ = λ x. bits_in 8 x (bit_xor a₁ b₁) in
    let u : ℕ → ℕ = λ x. bits_in 8 x (bit_xor a₂ b₂) in
    let w : ℕ → ℕ = λ x. bits_in 8 x (bit_xor a₃ b₃) in
    ap (λ (x : ℕ). w (u (q x))) p
    ∙ ap (λ (x : ℕ). w (u x)) (bits_in_both 8 (bits_in 8 0 a₀) (bits_in 8 0 b₀) a₁ b₁)
    ∙ ap w (bits_in_both 8 (bits_in 8 (bits_in 8 0 a₀) a₁) (bits_in 8 (bits_in 8 0 b₀) b₁) a₂ b₂)
    ∙ bits_in_both 8 (bits_in 8 (bits_in 8 (bits_in 8 0 a₀) a₁) a₂) (bits_in 8 (bits_in 8 (bits_in 8 0 b₀) b₁) b₂) a₃ b₃

start_in_four : (c b₀ b₁ b₂ b₃ x₀ x₁ x₂ x₃ : ℕ) → c < 4294967296
    → x₀ ≡ c % 256 → x₁ ≡ c / 256 % 256 → x₂ ≡ c / 256 / 256 % 256 → x₃ ≡ c / 256 / 256 / 256 % 256
    → bytes_in 0 (bit_xor b₀ x₀ ∷ bit_xor b₁ x₁ ∷ bit_xor b₂ x₂ ∷ bit_xor b₃ x₃ ∷ []) ≡ bytes_in c (b₀ ∷ b₁ ∷ b₂ ∷ b₃ ∷ [])
unfolding bytes
start_in_four c b₀ b₁ b₂ b₃ x₀ x₁ x₂ x₃ h e₀ e₁ e₂ e₃ =
    let bs = b₀ ∷ b₁ ∷ b₂ ∷ b₃ ∷ [] in
    four_both b₀ b₁ b₂ b₃ x₀ x₁ x₂ x₃
    ∙ xor_comm (bytes_in 0 bs) (bytes_in 0 (x₀ ∷ x₁ ∷ x₂ ∷ x₃ ∷ []))
    ∙ ap (λ (x : ℕ). bit_xor x (bytes_in 0 bs))
    (ap₂ (λ (p q : ℕ). bytes_in 0 (p ∷ q ∷ x₂ ∷ x₃ ∷ [])) e₀ e₁
    ∙ ap₂ (λ (p q : ℕ). bytes_in 0 (c % 256 ∷ c / 256 % 256 ∷ p ∷ q ∷ [])) e₂ e₃
    ∙ bytes_in_bytes 4 0 c h)
    ∙ sym (bytes_in_start c bs)

-- what is left of a run, from the zero register on, is the run from c on
pub eliminated : (c x₀ x₁ x₂ x₃ : ℕ) (s out : List ℕ) → c < 4294967296 → 4 ≤ length s
    → x₀ ≡ c % 256 → x₁ ≡ c / 256 % 256 → x₂ ≡ c / 256 / 256 % 256 → x₃ ≡ c / 256 / 256 / 256 % 256
    → Alike out
    (bit_xor (get_or s 0 0) x₀ ∷ bit_xor (get_or s 1 0) x₁ ∷ bit_xor (get_or s 2 0) x₂ ∷ bit_xor (get_or s 3 0) x₃ ∷ drop 4 s)
    → bytes_in 0 out ≡ bytes_in c s
eliminated c x₀ x₁ x₂ x₃ s out h l e₀ e₁ e₂ e₃ alike =
    let first = bit_xor (get_or s 0 0) x₀ ∷ bit_xor (get_or s 1 0) x₁ ∷ bit_xor (get_or s 2 0) x₂ ∷ bit_xor (get_or s 3 0) x₃ ∷ [] in
    sym (run_bytes_in 0 out)
    ∙ alike (bits_in 8) crc_register
    ∙ run_bytes_in 0 (first ++ drop 4 s)
    ∙ bytes_in_append 0 first (drop 4 s)
    ∙ ap (λ (x : ℕ). bytes_in x (drop 4 s))
    (start_in_four c (get_or s 0 0) (get_or s 1 0) (get_or s 2 0) (get_or s 3 0) x₀ x₁ x₂ x₃ h e₀ e₁ e₂ e₃
    ∙ ap (bytes_in c) (sym (take_four 0 s l)))
    ∙ sym (bytes_in_append c (take 4 s) (drop 4 s))
    ∙ ap (bytes_in c) (take-append-drop 4 s)
