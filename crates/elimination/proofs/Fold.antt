-- The register of a message whose bytes are eliminated: a byte more, a window moved on, the start and the end.
-- Assumes nothing.
use mathlib.Core.Path.{◌≡◌, refl, sym, ap, ap₂, ◌∙◌}
use mathlib.Core.List.{List, [], ◌∷◌, ◌++◌}
use Prim.Native.Nat.{ℕ, zero, suc, ◌+◌, ◌≤◌, ◌<◌}
use native.Mathlib.Nat.{add_comm, zero-add}
use native.Mathlib.Numerals.{add-one}
use native.Mathlib.Omega.{arith}
use lib.Bits.{bit_xor, xor_self, xor_zero_r}
use lib.ListN.{length, get_or, take, drop, set, length-set}
use lib.Seq.{take-take, take-add, take-set-le, get_or-set_same, get_or-set_other, take-length}
use Rattle.elimination.specs.Elimination.{run, zeros, Register, earlier, up_to, folded, Stands, Clear, Last}
use Rattle.elimination.proofs.Xor.{xor_undone}
use Rattle.elimination.proofs.Run.{run_append, run_next, run_onward, run_zeros, run_then_zeros, zeros_zero}

-- what is folded reads no more of v than its first 2400 + j bytes
pub folded_same : (step : ℕ → ℕ → ℕ) (x j : ℕ) (v w : List ℕ) → take (2400 + j) v ≡ take (2400 + j) w → folded step x j v ≡ folded step x j w
unfolding folded
folded_same step x j v w e =
    let part : (n : ℕ) → n ≤ 2400 + j → up_to step x v n ≡ up_to step x w n =
    λ n h. ap (run step x) (sym (take-take n (2400 + j) v h) ∙ ap (take n) e ∙ take-take n (2400 + j) w h) in
    ap₂ bit_xor (part (2400 + j) (omega arith))
    (ap₂ bit_xor (part (1240 + j) (omega arith))
    (ap₂ bit_xor (part (936 + j) (omega arith)) (ap₂ bit_xor (part (712 + j) (omega arith)) (part j (omega arith)))))

module _ (step : ℕ → ℕ → ℕ) (r : Register step) where
  -- the byte of the message at place 2400 + j is that of v, with the earlier ones that were xored into it
  pub folded_next : (x j : ℕ) (v : List ℕ) → 2400 + j < length v
      → folded step x (suc j) v ≡ step (folded step x j v) (bit_xor (get_or v (2400 + j) 0) (earlier v j))
  unfolding folded
  folded_next x j v h =
      let next : (k : ℕ) → k ≤ 2400 → up_to step x v (k + suc j) ≡ step (up_to step x v (k + j)) (get_or v (k + j) 0) =
      λ k l. let e : k + suc j ≡ suc (k + j) = omega arith in
      ap (up_to step x v) e ∙ run_next step x (k + j) v (omega arith) in
      let p = up_to step x v (712 + j) in
      let q = up_to step x v (936 + j) in
      let o = up_to step x v (1240 + j) in
      ap₂ bit_xor (next 2400 (omega arith))
      (ap₂ bit_xor (next 1240 (omega arith))
      (ap₂ bit_xor (next 936 (omega arith))
      (ap₂ bit_xor (next 712 (omega arith)) (run_next step x j v (omega arith))
      ∙ sym (r.linear p (up_to step x v j) (get_or v (712 + j) 0) (get_or v j 0)))
      ∙ sym (r.linear q (bit_xor p (up_to step x v j)) (get_or v (936 + j) 0) (bit_xor (get_or v (712 + j) 0) (get_or v j 0))))
      ∙ sym (r.linear o (bit_xor q (bit_xor p (up_to step x v j))) (get_or v (1240 + j) 0) (bit_xor (get_or v (936 + j) 0) (bit_xor (get_or v (712 + j) 0) (get_or v j 0)))))
      ∙ sym (r.linear (up_to step x v (2400 + j)) (bit_xor o (bit_xor q (bit_xor p (up_to step x v j)))) (get_or v (2400 + j) 0) (earlier v j))

  -- a turn of the loop: the byte m comes
  pub folded_byte : (x j m : ℕ) (v : List ℕ) → 2400 + j < length v
      → folded step x (suc j) (set v (2400 + j) (bit_xor m (earlier v j))) ≡ step (folded step x j v) m
  folded_byte x j m v h =
      let w = set v (2400 + j) (bit_xor m (earlier v j)) in
      let l : 2400 + j < length w = omega (arith, length-set v (2400 + j) (bit_xor m (earlier v j))) in
      let other : (k : ℕ) → k < 2400 + j → get_or w k 0 ≡ get_or v k 0 =
      λ k i. get_or-set_other v (2400 + j) k (bit_xor m (earlier v j)) 0 (λ e. omega arith) in
      let old : earlier w j ≡ earlier v j =
      ap₂ bit_xor (other (1240 + j) (omega arith))
      (ap₂ bit_xor (other (936 + j) (omega arith)) (ap₂ bit_xor (other (712 + j) (omega arith)) (other j (omega arith)))) in
      let new : bit_xor (get_or w (2400 + j) 0) (earlier w j) ≡ m =
      ap₂ bit_xor (get_or-set_same v (2400 + j) (bit_xor m (earlier v j)) 0 h) old ∙ xor_undone m (earlier v j) in
      folded_next x j w l
      ∙ ap₂ step (folded_same step x j w v (take-set-le (2400 + j) v (2400 + j) (bit_xor m (earlier v j)) (omega arith))) new

  -- so a turn of the loop leaves the register of the whole message
  pub passed_next : (j i i' x c : ℕ) (v s : List ℕ) → 2400 + j < length v → i < length s → i' ≡ i + 1
      → run step (folded step x j v) (drop i s) ≡ c
      → run step (folded step x (j + 1) (set v (2400 + j) (bit_xor (get_or s i 0) (earlier v j)))) (drop i' s) ≡ c
  passed_next j i i' x c v s h l e same =
      let w = set v (2400 + j) (bit_xor (get_or s i 0) (earlier v j)) in
      ap₂ (λ (n k : ℕ). run step (folded step x n w) (drop k s)) (add-one j) e
      ∙ ap (λ (y : ℕ). run step y (drop (i + 1) s)) (folded_byte x j (get_or s i 0) v h)
      ∙ run_onward step (folded step x j v) i s l
      ∙ same

  -- the window moves on by n bytes
  pub folded_kept : (x n : ℕ) (v w : List ℕ) → take 2400 w ≡ take 2400 (drop n v)
      → folded step (run step x (take n v)) 0 w ≡ folded step x n v
  unfolding folded
  folded_kept x n v w e =
      let part : (k : ℕ) → k ≤ 2400 → up_to step (run step x (take n v)) w k ≡ up_to step x v (k + n) =
      λ k h.
      ap (run step (run step x (take n v))) (sym (take-take k 2400 w h) ∙ ap (take k) e ∙ take-take k 2400 (drop n v) h)
      ∙ sym (run_append step x (take n v) (take k (drop n v)))
      ∙ ap (run step x) (sym (take-add n k v))
      ∙ ap (up_to step x v) (add_comm n k) in
      ap₂ bit_xor (part 2400 (omega arith))
      (ap₂ bit_xor (part 1240 (omega arith))
      (ap₂ bit_xor (part 936 (omega arith)) (ap₂ bit_xor (part 712 (omega arith)) (part 0 (omega arith) ∙ ap (up_to step x v) (zero-add n)))))

  pub stands_kept : (n c : ℕ) (v w u rest rest' : List ℕ)
      → ((x : ℕ) → run step (folded step x n w) rest' ≡ run step (folded step x 0 v) rest)
      → take 2400 u ≡ take 2400 (drop n w) → Stands step v rest c → Stands step u rest' c
  stands_kept n c v w u rest rest' passed e st =
      let x = run step 0 st.front in
      record {
        front = st.front ++ take n w;
        same =
            ap (λ (y : ℕ). run step (folded step y 0 u) rest') (run_append step 0 st.front (take n w))
            ∙ ap (λ (y : ℕ). run step y rest') (folded_kept x n w u e)
            ∙ passed x
            ∙ st.same;
      }

  -- zero bytes, and then a, b, c and d
  pub folded_start : (a b c d : ℕ) (v : List ℕ) → 2400 ≤ length v → ((k : ℕ) → k < 2396 → get_or v k 0 ≡ 0)
      → get_or v 2396 0 ≡ a → get_or v 2397 0 ≡ b → get_or v 2398 0 ≡ c → get_or v 2399 0 ≡ d
      → folded step 0 0 v ≡ run step 0 (a ∷ b ∷ c ∷ d ∷ [])
  unfolding folded run zeros
  folded_start a b c d v h z ea eb ec ed =
      let none : (n : ℕ) → n ≤ 2396 → up_to step 0 v n ≡ 0 =
      λ n l. run_zeros step 0 n v (omega arith) (λ k i. z k (omega arith)) ∙ zeros_zero step r n in
      let first : up_to step 0 v 2397 ≡ step 0 a = run_next step 0 2396 v (omega arith) ∙ ap₂ step (none 2396 (omega arith)) ea in
      let second : up_to step 0 v 2398 ≡ step (step 0 a) b = run_next step 0 2397 v (omega arith) ∙ ap₂ step first eb in
      let third : up_to step 0 v 2399 ≡ step (step (step 0 a) b) c = run_next step 0 2398 v (omega arith) ∙ ap₂ step second ec in
      let fourth : up_to step 0 v 2400 ≡ step (step (step (step 0 a) b) c) d = run_next step 0 2399 v (omega arith) ∙ ap₂ step third ed in
      ap₂ bit_xor fourth
      (ap₂ bit_xor (none 1240 (omega arith)) (ap₂ bit_xor (none 936 (omega arith)) (ap₂ bit_xor (none 712 (omega arith)) (none 0 (omega arith)))))
      ∙ xor_zero_r (step (step (step (step 0 a) b) c) d)

  pub stands_start : (a b c d : ℕ) (v rest : List ℕ) → folded step 0 0 v ≡ run step 0 (a ∷ b ∷ c ∷ d ∷ [])
      → Stands step v rest (run step 0 (a ∷ b ∷ c ∷ d ∷ rest))
  unfolding run
  stands_start a b c d v rest e =
      record {
        front = [];
        same =
            ap (λ (y : ℕ). run step y rest) e ∙ sym (run_append step 0 (a ∷ b ∷ c ∷ d ∷ []) rest);
      }

  module _ (v : List ℕ) (room : 4800 ≤ length v) (clear : Clear v) where
    -- the end: 2400 zero bytes behind the window leave nothing, by the sparse identity
    pub folded_ended : (front : List ℕ) → folded step (run step 0 front) 2400 v ≡ 0
    unfolding folded zeros
    folded_ended front =
        let x = run step 0 front in
        let y = up_to step x v 2400 in
        let all = front ++ take 2400 v in
        let e : y ≡ run step 0 all = sym (run_append step 0 front (take 2400 v)) in
        let after : (n : ℕ) → n ≤ 2400 → up_to step x v (2400 + n) ≡ zeros step n (run step 0 all) =
        λ n h. run_then_zeros step x 2400 n v (omega arith) (λ k i. clear k (omega arith)) ∙ ap (zeros step n) e in
        ap₂ bit_xor (after 2400 (omega arith) ∙ r.sparse all)
        (ap₂ bit_xor (after 1240 (omega arith)) (ap₂ bit_xor (after 936 (omega arith)) (ap₂ bit_xor (after 712 (omega arith)) e)))
        ∙ xor_self
        (bit_xor (zeros step 1240 (run step 0 all))
        (bit_xor (zeros step 936 (run step 0 all)) (bit_xor (zeros step 712 (run step 0 all)) (run step 0 all))))

    module _ (rest out : List ℕ) (size : length out ≡ 2400) (fits : length rest ≡ 2400) (is : Last v rest out) where
      -- so far: what went into the last bytes, and what is still folded
      last_turn : (x j : ℕ) → j ≤ 2400
          → bit_xor (run step 0 (take j out)) (folded step x j v) ≡ run step (folded step x 0 v) (take j rest)
      unfolding run
      last_turn x zero h = refl
      last_turn x (suc j) h =
          let a = run step 0 (take j out) in
          let f = folded step x j v in
          let m = get_or rest j 0 in
          let old : bit_xor (get_or v (2400 + j) 0) (earlier v j) ≡ earlier v j =
          ap (λ (y : ℕ). bit_xor y (earlier v j)) (clear j (omega arith)) in
          ap₂ bit_xor
          (run_next step 0 j out (omega arith) ∙ ap (step a) (is j (omega arith)))
          (folded_next x j v (omega arith) ∙ ap (step f) old)
          ∙ sym (r.linear a f (bit_xor m (earlier v j)) (earlier v j))
          ∙ ap₂ step (last_turn x j (omega arith)) (xor_undone m (earlier v j))
          ∙ sym (run_next step (folded step x 0 v) j rest (omega arith))

      pub folded_last : (front : List ℕ) → run step 0 out ≡ run step (folded step (run step 0 front) 0 v) rest
      folded_last front =
          let x = run step 0 front in
          let whole : (l : List ℕ) → length l ≡ 2400 → take 2400 l ≡ l =
          λ l e. ap (λ (n : ℕ). take n l) (sym e) ∙ take-length l in
          ap (run step 0) (sym (whole out size))
          ∙ sym (ap (bit_xor (run step 0 (take 2400 out))) (folded_ended front) ∙ xor_zero_r (run step 0 (take 2400 out)))
          ∙ last_turn x 2400 (omega arith)
          ∙ ap (run step (folded step x 0 v)) (whole rest fits)

      -- the window was w before zero bytes came behind it
      pub stands_last : (w : List ℕ) (c : ℕ) → take 2400 v ≡ take 2400 w → Stands step w rest c → run step 0 out ≡ c
      stands_last w c e st =
          folded_last st.front ∙ ap (λ (y : ℕ). run step y rest) (folded_same step (run step 0 st.front) 0 v w e) ∙ st.same
