-- An accepted cache is the layout of the graph that is read from it, byte for byte.
use Rattle.std.specs.Prelude.{Option, Some, None, Ok}
use Prim.Native.Nat.{ℕ, ◌+◌, ◌-◌}
use mathlib.Core.Path.{◌≡◌, refl, sym, ap, ap₂, subst, ◌∙◌}
use mathlib.Core.Bool.{Bool, true, false, not, cond}
use mathlib.Core.List.{List, ◌++◌}
use native.Mathlib.Omega.{arith}
use borrow.Author.Tests.{eqb-true, not-false}
use lib.Dec.{ltb, leb, eqb}
use lib.ListN.{length}
use Rattle.fields.specs.Fields.{part, num, le, bytes, Bytes}
use Rattle.fields.proofs.Parts.{part_split, part_all}
use Rattle.fields.proofs.Numbers.{bytes_num}
use Rattle.crc32.specs.Crc.{crc_of}
use Rattle.layout.specs.Layout.{crc_length}
use Rattle.config.specs.Settings.{validate}
use Rattle.config.specs.declared.Config.{Config}
use Rattle.refusal.specs.Refusal.{◌>>=◌, refuse}
use Rattle.refusal.specs.declared.Refusal.TheVariants.{BytesLeftOver, WrongFileCrc, WrongEntry, MissingEntry}
use Rattle.refusal.proofs.Results.{went, passed, answer_injective, refused_no_answer}
use Rattle.graph.specs.Graph.{Graph, no_entry, entry_of}
use Rattle.graph.specs.Layout.{cache_magic, version, entry_place, rng_place, first_node, graph_bytes, graph_length, entry_number, header_bytes, body_bytes, cache_bytes}
use Rattle.graph.specs.Cache.{Cache, head_test, room_test, read_header, read_nodes, read_body, read_graph, read_cache}
use Rattle.rows.specs.declared.Node.{Node}
use Rattle.graph.specs.declared.CacheHeader.{CacheHeader}
use Rattle.graph.proofs.Head.{HeadPassed, head_passed}
use Rattle.graph.proofs.Body.{body_read, graph_read}
use Rattle.graph_theorems.proofs.Laid.{graph_laid}

-- an entry that was read is written as it stood
entry_back : (count n : ℕ) (entry : Option Node) → entry_of count n ≡ Ok entry → entry_number entry ≡ n
unfolding entry_of
entry_back count n entry e = go (eqb n no_entry) refl e
  where
    none : (u : Bool) → eqb n no_entry ≡ true → (refuse MissingEntry u >>= λ _. Ok None) ≡ Ok entry → entry_number entry ≡ n
    none true q e = absurd (refused_no_answer MissingEntry entry e)
    none false q e = sym (ap entry_number (answer_injective None entry e)) ∙ sym (eqb-true _ _ q)

    some : (u : Bool) → (refuse WrongEntry u >>= λ _. Ok (Some (record { 0 = n }))) ≡ Ok entry → entry_number entry ≡ n
    some true e = absurd (refused_no_answer WrongEntry entry e)
    some false e = sym (ap entry_number (answer_injective (Some (record { 0 = n })) entry e))

    go : (t : Bool) → eqb n no_entry ≡ t
        → cond t (refuse MissingEntry (ltb 0 count) >>= λ _. Ok None) (refuse WrongEntry (leb count n) >>= λ _. Ok (Some (record { 0 = n }))) ≡ Ok entry
        → entry_number entry ≡ n
    go true q e = none (ltb 0 count) q e
    go false q e = some (leb count n) e

magic_back : bytes 8 (le cache_magic) ≡ cache_magic
unfolding bytes le
magic_back = refl

-- six fields and the magic are the first 48 bytes
header_laid : (s : List ℕ) → Bytes s → (crc sequence count entry rng : ℕ) → HeadPassed crc sequence count s → entry ≡ num s entry_place 8 → rng ≡ num s rng_place 8
    → cache_magic ++ bytes 4 version ++ bytes 4 crc ++ bytes 8 sequence ++ bytes 8 count ++ bytes 8 entry ++ bytes 8 rng ≡ part s 0 first_node
header_laid s b crc sequence count entry rng f e r =
    let l = f.long in
    let m : cache_magic ≡ part s 0 8 = sym magic_back ∙ ap (bytes 8) (sym f.is_magic) ∙ bytes_num s 0 8 b (omega arith) in
    let v : bytes 4 version ≡ part s 8 4 = ap (bytes 4) (sym f.is_version) ∙ bytes_num s 8 4 b (omega arith) in
    let c : bytes 4 crc ≡ part s 12 4 = ap (bytes 4) (sym f.is_crc) ∙ bytes_num s 12 4 b (omega arith) in
    let q : bytes 8 sequence ≡ part s 16 8 = ap (bytes 8) (sym f.is_sequence) ∙ bytes_num s 16 8 b (omega arith) in
    let n : bytes 8 count ≡ part s 24 8 = ap (bytes 8) (sym f.is_count) ∙ bytes_num s 24 8 b (omega arith) in
    let t : bytes 8 entry ≡ part s 32 8 = ap (bytes 8) e ∙ bytes_num s 32 8 b (omega arith) in
    let g : bytes 8 rng ≡ part s 40 8 = ap (bytes 8) r ∙ bytes_num s 40 8 b (omega arith) in
    let a1 : cache_magic ++ bytes 4 version ≡ part s 0 12 = ap₂ ◌++◌ m v ∙ sym (part_split s 0 8 4) in
    let a2 : cache_magic ++ bytes 4 version ++ bytes 4 crc ≡ part s 0 16 = ap₂ ◌++◌ a1 c ∙ sym (part_split s 0 12 4) in
    let a3 : cache_magic ++ bytes 4 version ++ bytes 4 crc ++ bytes 8 sequence ≡ part s 0 24 = ap₂ ◌++◌ a2 q ∙ sym (part_split s 0 16 8) in
    let a4 : cache_magic ++ bytes 4 version ++ bytes 4 crc ++ bytes 8 sequence ++ bytes 8 count ≡ part s 0 32 = ap₂ ◌++◌ a3 n ∙ sym (part_split s 0 24 8) in
    let a5 : cache_magic ++ bytes 4 version ++ bytes 4 crc ++ bytes 8 sequence ++ bytes 8 count ++ bytes 8 entry ≡ part s 0 40 = ap₂ ◌++◌ a4 t ∙ sym (part_split s 0 32 8) in
    ap₂ ◌++◌ a5 g ∙ sym (part_split s 0 40 8)

crc_of_body : (m count : ℕ) (s : List ℕ) (g : Graph) → read_body m count s ≡ Ok g → num s (length s - crc_length) 4 ≡ crc_of (part s 0 (length s - crc_length))
unfolding read_body
crc_of_body m count s g e =
    let a = passed (read_nodes m count s) _ g e in
    let b = went BytesLeftOver (not (eqb a.value.next (length s - crc_length))) _ g a.then in
    let c = went WrongFileCrc (not (eqb (crc_of (part s 0 (length s - crc_length))) (num s (length s - crc_length) 4))) _ g b.then in
    sym (eqb-true _ _ (not-false _ c.test_false))

pub cache_is_its_layout : (c : Config) (crc sequence count lent : ℕ) (s : List ℕ) → Bytes s → (x : Cache) → read_cache c crc sequence count lent s ≡ Ok x
    → s ≡ cache_bytes crc sequence x.header.rng_state x.header.entry x.graph
unfolding read_cache read_header
cache_is_its_layout c crc sequence count lent s b x e =
    let top = passed (read_header c crc sequence count lent s) _ x e in
    let rest = passed (read_graph c.m count top.value.entry s) (λ g. Ok (record { header = top.value; graph = g })) x top.then in
    let i : record { header = top.value; graph = rest.value } ≡ x = answer_injective _ x rest.then in
    let h = top.value in
    let g = rest.value in
    let v = passed (validate c) _ h top.first in
    let hd = passed (head_test crc sequence count s) _ h v.then in
    let en = passed (entry_of count (num s entry_place 8)) _ h hd.then in
    let rm = passed (room_test c.seed count lent s) _ h en.then in
    let j : record { entry = en.value; rng_state = num s rng_place 8 } ≡ h = answer_injective _ h rm.then in
    let f = head_passed crc sequence count s hd.first in
    let long = f.long in
    let entry : entry_number h.entry ≡ num s entry_place 8 = sym (ap (λ (y : CacheHeader). entry_number y.entry) j) ∙ entry_back count (num s entry_place 8) en.value en.first in
    let rng : h.rng_state ≡ num s rng_place 8 = sym (ap (λ (y : CacheHeader). y.rng_state) j) in
    let r = graph_read c.m count h.entry s g rest.first in
    let k = body_read c.m count s g r.body in
    let end = length s - crc_length in
    let head : header_bytes crc sequence (length g) h.entry h.rng_state ≡ part s 0 first_node =
    ap (λ (n : ℕ). header_bytes crc sequence n h.entry h.rng_state) k.sized ∙ header_laid s b crc sequence count (entry_number h.entry) h.rng_state f entry rng in
    let size : graph_length g ≡ end - first_node = let q = k.ends in omega arith in
    let same = ap graph_length k.is in
    let graph : graph_bytes g ≡ part s first_node (end - first_node) =
    ap graph_bytes k.is ∙ graph_laid s b count first_node (let q = k.ends in omega arith) ∙ ap (part s first_node) (sym same ∙ size) in
    let whole : first_node + (end - first_node) ≡ end = let q = k.ends in omega arith in
    let body : body_bytes crc sequence h.rng_state h.entry g ≡ part s 0 end =
    ap₂ ◌++◌ head graph ∙ sym (part_split s 0 first_node (end - first_node)) ∙ ap (part s 0) whole in
    let last : bytes 4 (crc_of (body_bytes crc sequence h.rng_state h.entry g)) ≡ part s end 4 =
    ap (λ (l : List ℕ). bytes 4 (crc_of l)) body ∙ ap (bytes 4) (sym (crc_of_body c.m count s g r.body)) ∙ bytes_num s end 4 b (omega arith) in
    let all : end + 4 ≡ length s = omega arith in
    let is : s ≡ cache_bytes crc sequence h.rng_state h.entry g =
    let z : 0 + end ≡ end = omega arith in
    sym (ap₂ ◌++◌ body (last ∙ ap (λ (a : ℕ). part s a 4) (sym z)) ∙ sym (part_split s 0 end 4) ∙ ap (part s 0) all ∙ part_all s) in
    subst (λ (y : Cache). s ≡ cache_bytes crc sequence y.header.rng_state y.header.entry y.graph) i is
