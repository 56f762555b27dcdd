-- The bytes from which a graph is decoded are its layout.
use Prim.Native.Nat.{ℕ, zero, suc, ◌+◌, ◌*◌, ◌≤◌}
use mathlib.Core.Path.{◌≡◌, refl, sym, ap, ap₂, ◌∙◌}
use mathlib.Core.List.{List, ◌++◌}
use native.Mathlib.Omega.{arith}
use lib.ListN.{length}
use Rattle.fields.specs.Fields.{part, num, bytes, Bytes}
use Rattle.fields.proofs.Parts.{part_split}
use Rattle.fields.proofs.Numbers.{bytes_num}
use Rattle.graph.specs.Layout.{joined, level_bytes, node_bytes, graph_bytes, links_length, node_length, graph_length}
use Rattle.graph.specs.Cache.{numbers_at, levels_at, links_at}
use Rattle.graph.specs.Decoded.{graph_at}
use Rattle.graph.proofs.Decode.{length_numbers, length_links}

module _ (s : List ℕ) (b : Bytes s) where
  pub numbers_laid : (n at : ℕ) → at + 4 * n ≤ length s → joined (bytes 4) (numbers_at n s at) ≡ part s at (4 * n)
  numbers_laid zero at h = refl
  numbers_laid (suc n) at h =
      let e : 4 * suc n ≡ 4 + 4 * n = omega arith in
      ap₂ ◌++◌ (bytes_num s at 4 b (omega arith)) (numbers_laid n (at + 4) (omega arith)) ∙ sym (part_split s at 4 (4 * n)) ∙ ap (part s at) (sym e)

  level_laid : (at : ℕ) → at + 4 + 4 * num s at 4 ≤ length s → level_bytes (numbers_at (num s at 4) s (at + 4)) ≡ part s at (4 + 4 * num s at 4)
  level_laid at h =
      ap₂ ◌++◌ (ap (bytes 4) (length_numbers (num s at 4) s (at + 4)) ∙ bytes_num s at 4 b (omega arith)) (numbers_laid (num s at 4) (at + 4) h)
      ∙ sym (part_split s at 4 (4 * num s at 4))

  levels_laid : (n at : ℕ) → at + links_length (levels_at n s at) ≤ length s → joined level_bytes (levels_at n s at) ≡ part s at (links_length (levels_at n s at))
  levels_laid zero at h = refl
  levels_laid (suc n) at h =
      let d = num s at 4 in
      let l = length_numbers d s (at + 4) in
      let e : 4 + 4 * length (numbers_at d s (at + 4)) ≡ 4 + 4 * d = omega arith in
      let p : at + (4 + 4 * d) ≡ at + 4 + 4 * d = omega arith in
      let size = links_length (levels_at n s (at + 4 + 4 * d)) in
      ap₂ ◌++◌ (level_laid at (omega arith)) (levels_laid n (at + 4 + 4 * d) (omega arith) ∙ ap (λ (a : ℕ). part s a size) (sym p))
      ∙ sym (part_split s at (4 + 4 * d) size)
      ∙ ap (λ (k : ℕ). part s at (k + size)) (sym e)

  node_laid : (at : ℕ) → at + node_length (links_at s at) ≤ length s → node_bytes (links_at s at) ≡ part s at (node_length (links_at s at))
  unfolding links_at
  node_laid at h =
      let size = links_length (levels_at (num s at 1) s (at + 1)) in
      ap₂ ◌++◌ (ap (bytes 1) (length_links s at) ∙ bytes_num s at 1 b (omega arith)) (levels_laid (num s at 1) (at + 1) (omega arith)) ∙ sym (part_split s at 1 size)

  pub graph_laid : (n at : ℕ) → at + graph_length (graph_at n s at) ≤ length s → graph_bytes (graph_at n s at) ≡ part s at (graph_length (graph_at n s at))
  graph_laid zero at h = refl
  graph_laid (suc n) at h =
      let size = node_length (links_at s at) in
      ap₂ ◌++◌ (node_laid at (omega arith)) (graph_laid n (at + size) (omega arith)) ∙ sym (part_split s at size (graph_length (graph_at n s (at + size))))
