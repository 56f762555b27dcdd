-- The operations from place k on, with the coordinates from `at` on: what is left after one of them, to check and to write.
use Rattle.std.specs.Prelude.{Ok, Err}
use Prim.Native.Nat.{ℕ, suc, ◌+◌, ◌*◌, ◌-◌, ◌/◌, ◌≤◌, ◌<◌}
use mathlib.Core.Path.{◌≡◌, refl, sym, ap, ap₂, subst, ◌∙◌}
use mathlib.Core.Bool.{Bool, true, false, cond}
use mathlib.Core.List.{List, [], ◌∷◌, ◌++◌, append_assoc, append-nil}
use native.Mathlib.Nat.{mul-suc, le_of_eq}
use native.Mathlib.Numerals.{add-one}
use native.Mathlib.Omega.{arith}
use lib.ListN.{length, take, drop, get_or, length-append, length-drop}
use lib.Seq.{drop-drop, take_all}
use Rattle.fields.specs.Fields.{bytes}
use Rattle.fields.specs.Placed.{placed}
use Rattle.fields.proofs.Numbers.{length_bytes}
use Rattle.fields.proofs.PlacedLaws.{placed_none, placed_behind, length_placed}
use Rattle.config.specs.Limits.{max_dimensions}
use Rattle.config.specs.declared.Config.{Config}
use Rattle.layout.specs.declared.Shape.TheVariants.{Single}
use Rattle.rows.specs.Rows.{operation_at, operation_of}
use Rattle.rows.specs.declared.Operation.{Operation}
use Rattle.refusal.specs.Refusal.{Answer, ◌>>=◌, size_told}
use Rattle.refusal.specs.declared.Refusal.{Refusal}
use Rattle.refusal.proofs.Results.{answer_injective, passed, go_on, give_up, sized_is}
use Rattle.meaning.specs.Encoder.{Asked, asked_from, asked, is_put, put_count, Tagged, encode_operation, encode_all, tagged_bytes, payload_bytes}
use Rattle.encoder.specs.Requests.{asked_at, taken, tag_of, fields_of, tagged_length, most_tagged, Fits, tagged_of, Accepted}
use Rattle.encoder.proofs.OperationLaws.{fields_few, id_of_lem, Encodes, operation_encodes, encodes_fits}

-- ---- the operations from k on
abbrev pub asked_past : List ℕ → ℕ → List Asked
asked_past words k = asked_from (length words / 2 - k) k words

pub asked_start_lem : (words : List ℕ) → asked_past words 0 ≡ asked words
asked_start_lem words = let e : length words / 2 - 0 ≡ length words / 2 = omega arith in ap (λ (m : ℕ). asked_from m 0 words) e

pub asked_end : (words : List ℕ) (k : ℕ) → length words / 2 ≤ k → asked_past words k ≡ []
unfolding asked_from
asked_end words k h = let e : length words / 2 - k ≡ 0 = omega arith in ap (λ (m : ℕ). asked_from m k words) e

pub puts_end : (words : List ℕ) (k : ℕ) → length words / 2 ≤ k → put_count (asked_past words k) ≡ 0
unfolding put_count
puts_end words k h = ap put_count (asked_end words k h)

-- operation k as the code reads it
module _ (words : List ℕ) (k : ℕ) (o : Operation) (u : o ≡ operation_at words k) where
  pub put_at_lem : o.put ≡ is_put (asked_at words k)
  unfolding operation_at
  put_at_lem = ap (λ (x : Operation). x.put) u

  id_at : o.id.0 ≡ get_or words (2 * k) 0
  unfolding operation_at
  id_at = ap (λ (x : Operation). x.id.0) u ∙ id_of_lem (get_or words (2 * k) 0) (get_or words (2 * k + 1) 0)

  pub read_at : o ≡ operation_of o.id.0 (get_or words (2 * k + 1) 0)
  unfolding operation_at
  read_at = u ∙ ap (λ (i : ℕ). operation_of i (get_or words (2 * k + 1) 0)) (sym id_at)

  pub asked_at_lem : record { id = o.id.0; word = get_or words (2 * k + 1) 0 } ≡ asked_at words k
  asked_at_lem = ap (λ (i : ℕ). record { id = i; word = get_or words (2 * k + 1) 0 }) id_at

module _ (words : List ℕ) (k : ℕ) (h : k < length words / 2) where
  pub asked_more : asked_past words k ≡ asked_at words k ∷ asked_past words (k + 1)
  unfolding asked_from
  asked_more =
      let e : length words / 2 - k ≡ suc (length words / 2 - (k + 1)) = omega arith in
      ap (λ (m : ℕ). asked_from m k words) e ∙ ap (λ (j : ℕ). asked_at words k ∷ asked_from (length words / 2 - (k + 1)) j words) (sym (add-one k))

  -- one put less behind a put
  pub puts_more : put_count (asked_past words k) ≡ taken (is_put (asked_at words k)) 1 + put_count (asked_past words (k + 1))
  unfolding put_count
  puts_more = ap put_count asked_more ∙ go (is_put (asked_at words k)) (put_count (asked_past words (k + 1)))
    where
      go : (t : Bool) (p : ℕ) → cond t (suc p) p ≡ taken t 1 + p
      go true p = omega arith
      go false p = omega arith

  -- a put takes the next d coordinates
  pub enough_more : (d at m : ℕ) → m ≡ at + d * put_count (asked_past words k)
      → m ≡ at + taken (is_put (asked_at words k)) d + d * put_count (asked_past words (k + 1))
  enough_more d at m e =
      e ∙ ap (λ (p : ℕ). at + d * p) puts_more ∙ go (is_put (asked_at words k)) (put_count (asked_past words (k + 1)))
    where
      go : (t : Bool) (p : ℕ) → at + d * (taken t 1 + p) ≡ at + taken t d + d * p
      go true p = let e : 1 + p ≡ suc p = omega arith in ap (λ (x : ℕ). at + d * x) e ∙ omega (arith, mul-suc d p)
      go false p = let e : 0 + p ≡ p = omega arith in ap (λ (x : ℕ). at + d * x) e ∙ omega arith

  pub vector_there : (d at : ℕ) (coords : List ℕ) → length coords ≡ at + d * put_count (asked_past words k) → is_put (asked_at words k) ≡ true → d ≤ length (drop at coords)
  vector_there d at coords e t =
      let more = enough_more d at (length coords) e ∙ ap (λ (b : Bool). at + taken b d + d * put_count (asked_past words (k + 1))) t in
      omega (arith, length-drop at coords)

-- ---- what they are encoded as
-- the rest of the coordinates, as the code lends it
pub rest_is : (at : ℕ) (l : List ℕ) → take (length l - at) (drop at l) ≡ drop at l
rest_is at l = take_all (length l - at) (drop at l) (le_of_eq (length-drop at l))

abbrev pub run_from : Config → List ℕ → List ℕ → List ℕ → ℕ → ℕ → Answer (List Tagged)
run_from c words coords captions at k = encode_all c (drop at coords) captions (asked_past words k)

drop_taken : (t : Bool) (d at : ℕ) (l : List ℕ) → cond t (drop d (drop at l)) (drop at l) ≡ drop (at + taken t d) l
drop_taken true d at l = drop-drop d at l
drop_taken false d at l = let e : at ≡ at + 0 = omega arith in ap (λ (k : ℕ). drop k l) e

-- one operation in front of the rest
behind : (sum : ℕ) (e : Tagged) (r : Answer (List Tagged))
    → size_told (λ es. sum + length (tagged_bytes es)) (r >>= λ rest. Ok (e ∷ rest)) ≡ size_told (λ es. sum + tagged_length e + length (tagged_bytes es)) r
unfolding tagged_bytes
behind sum e (Ok es) = ap Ok (omega (arith, length-append e.fields (tagged_bytes es)))
behind sum e (Err why) = refl

module _ (c : Config) (words coords captions : List ℕ) where
  pub run_start : run_from c words coords captions 0 0 ≡ encode_all c coords captions (asked words)
  run_start = ap (encode_all c coords captions) (asked_start_lem words)

  pub run_end : (at k : ℕ) → length words / 2 ≤ k → run_from c words coords captions at k ≡ Ok []
  unfolding encode_all
  run_end at k h = ap (encode_all c (drop at coords) captions) (asked_end words k h)

  abbrev then : ℕ → ℕ → Tagged → Answer (List Tagged)
  then at k this = run_from c words coords captions at k >>= λ rest. Ok (this ∷ rest)

  run_more : (at k : ℕ) → k < length words / 2
      → run_from c words coords captions at k
      ≡ encode_operation c (drop at coords) captions (asked_at words k) >>= then (at + taken (is_put (asked_at words k)) c.dimensions) (k + 1)
  unfolding encode_all
  run_more at k h =
      let o = asked_at words k in
      ap (encode_all c (drop at coords) captions) (asked_more words k h)
      ∙ ap (λ (l : List ℕ). encode_operation c (drop at coords) captions o >>= λ this. encode_all c l captions (asked_past words (k + 1)) >>= λ rest. Ok (this ∷ rest))
      (drop_taken (is_put o) c.dimensions at coords)

  -- ---- checked: behind `sum` bytes
  abbrev pub measured_from : ℕ → ℕ → ℕ → Answer ℕ
  measured_from sum at k = size_told (λ es. sum + length (tagged_bytes es)) (run_from c words coords captions at k)

  pub measured_end : (sum at k : ℕ) → length words / 2 ≤ k → measured_from sum at k ≡ Ok sum
  unfolding tagged_bytes
  measured_end sum at k h =
      let e : sum + 0 ≡ sum = omega arith in
      ap (size_told (λ es. sum + length (tagged_bytes es))) (run_end at k h) ∙ ap Ok e

  module _ (sum at k : ℕ) (h : k < length words / 2) where
    pub measured_refused : (why : Refusal) → encode_operation c (drop at coords) captions (asked_at words k) ≡ Err why → measured_from sum at k ≡ Err why
    measured_refused why e = ap (size_told (λ es. sum + length (tagged_bytes es))) (run_more at k h ∙ give_up _ _ why e)

    pub measured_more : (e : Tagged) → encode_operation c (drop at coords) captions (asked_at words k) ≡ Ok e
        → measured_from sum at k ≡ measured_from (sum + tagged_length e) (at + taken (is_put (asked_at words k)) c.dimensions) (k + 1)
    measured_more e is =
        ap (size_told (λ es. sum + length (tagged_bytes es))) (run_more at k h ∙ go_on _ _ e is)
        ∙ behind sum e (run_from c words coords captions (at + taken (is_put (asked_at words k)) c.dimensions) (k + 1))

-- the run from k on, behind `sum` bytes, is the whole run
pub record Measuring (c : Config) (words coords captions : List ℕ) (sum at k : ℕ) : Type 0 where
  pub within : k ≤ length words / 2
  pub few : sum ≤ most_tagged * k
  pub enough : length coords ≡ at + c.dimensions * put_count (asked_past words k)
  pub run : measured_from c words coords captions sum at k ≡ size_told (λ es. length (tagged_bytes es)) (encode_all c coords captions (asked words))

enough_start : (d m : ℕ) (words : List ℕ) → m ≡ d * put_count (asked words) → m ≡ 0 + d * put_count (asked_past words 0)
enough_start d m words e =
    let n : 0 + d * put_count (asked_past words 0) ≡ d * put_count (asked_past words 0) = omega arith in
    e ∙ sym (n ∙ ap (λ (os : List Asked). d * put_count os) (asked_start_lem words))

module _ (c : Config) (words coords captions : List ℕ) where
  pub measuring_next : (sum at k m : ℕ) (o : Operation) → c.dimensions ≤ max_dimensions → Measuring c words coords captions sum at k → k < length words / 2 → o ≡ operation_at words k
      → size_told tagged_length (encode_operation c (drop at coords) captions (asked_at words k)) ≡ Ok m
      → (m ≤ most_tagged) × Measuring c words coords captions (sum + m) (at + taken o.put c.dimensions) (k + 1)
  unfolding operation_at
  measuring_next sum at k m o valid l h u e =
      let asks = asked_at words k in
      let put = put_at_lem words k o u in
      let s = sized_is tagged_length (encode_operation c (drop at coords) captions asks) m e in
      let x = operation_encodes c (drop at coords) captions asks s.value s.is in
      let fits = encodes_fits c (drop at coords) captions (operation_of asks.id asks.word) s.value x (λ t. vector_there words k h c.dimensions at coords l.enough t) in
      let few : m ≤ most_tagged = omega (arith, s.size_is, ap length x.fields_are, fields_few c.dimensions (drop at coords) captions (operation_of asks.id asks.word) valid fits) in (
        few,
        record {
          within = omega arith;
          few = omega (arith, l.few);
          enough = enough_more words k h c.dimensions at (length coords) l.enough
              ∙ ap (λ (t : Bool). at + taken t c.dimensions + c.dimensions * put_count (asked_past words (k + 1))) (sym put);
          run = ap₂ (λ (n : ℕ) (t : Bool). measured_from c words coords captions (sum + n) (at + taken t c.dimensions) (k + 1)) (sym s.size_is) put
              ∙ sym (measured_more c words coords captions sum at k h s.value s.is) ∙ l.run;
        },
      )

-- ---- written: `done` stands, `left` follows
pub record Left (c : Config) (words coords captions o out : List ℕ) (at from k : ℕ) : Type 0 where
  pub done : List ℕ
  pub left : List Tagged
  pub left_is : run_from c words coords captions from k ≡ Ok left
  pub all_is : done ++ tagged_bytes left ≡ tagged_bytes (tagged_of c words coords captions)
  pub at_is : at ≡ length done
  pub out_is : out ≡ placed 0 done o
  pub enough : length coords ≡ from + c.dimensions * put_count (asked_past words k)

-- the operation that is next, read as `op`
pub record Next (c : Config) (words coords captions o out : List ℕ) (at from k : ℕ) (op : Operation) : Type 0 where
  pub fits : Fits c.dimensions (drop from coords) captions op
  pub kept : length out ≡ length o
  pub room : at + suc (length (fields_of c.dimensions (drop from coords) captions op)) ≤ length out
  pub after : (out' : List ℕ) → out' ≡ placed at (tag_of op.put ∷ fields_of c.dimensions (drop from coords) captions op) out
      → Left c words coords captions o out' (at + suc (length (fields_of c.dimensions (drop from coords) captions op))) (from + taken op.put c.dimensions) (k + 1)

module _ (c : Config) (words coords captions o : List ℕ) (fit : length (tagged_bytes (tagged_of c words coords captions)) ≤ length o) where
  pub left_start : Accepted c words coords captions → Left c words coords captions o o 0 0 0
  left_start x =
      record {
        done = [];
        left = tagged_of c words coords captions;
        left_is = run_start c words coords captions ∙ x.tagged_is;
        all_is = refl;
        at_is = refl;
        out_is = sym (placed_none 0 o);
        enough = enough_start c.dimensions (length coords) words x.enough;
      }

  pub left_kept : (out : List ℕ) (at from k : ℕ) → Left c words coords captions o out at from k → length out ≡ length o
  left_kept out at from k l =
      let size = ap length l.all_is in
      ap length l.out_is ∙ length_placed 0 l.done o (omega (arith, length-append l.done (tagged_bytes l.left)))

  pub left_end : (out : List ℕ) (at from k : ℕ) → Left c words coords captions o out at from k → length words / 2 ≤ k
      → out ≡ placed 0 (tagged_bytes (tagged_of c words coords captions)) o
  unfolding tagged_bytes
  left_end out at from k l h =
      let none : l.left ≡ [] = answer_injective l.left [] (sym l.left_is ∙ run_end c words coords captions from k h) in
      let all : l.done ≡ tagged_bytes (tagged_of c words coords captions) =
      sym (append-nil l.done) ∙ ap (λ (es : List Tagged). l.done ++ tagged_bytes es) (sym none) ∙ l.all_is in
      l.out_is ∙ ap (λ (b : List ℕ). placed 0 b o) all

  pub left_next : (out : List ℕ) (at from k : ℕ) (op : Operation) → Left c words coords captions o out at from k → k < length words / 2
      → op ≡ operation_at words k → Next c words coords captions o out at from k op
  unfolding tagged_bytes operation_at
  left_next out at from k op l h u =
      let asks = asked_at words k in
      let d = c.dimensions in
      let s1 = passed (encode_operation c (drop from coords) captions asks) _ l.left (sym (run_more c words coords captions from k h) ∙ l.left_is) in
      let s2 = passed (run_from c words coords captions (from + taken (is_put asks) d) (k + 1)) _ l.left s1.then in
      let e = s1.value in
      let is : e ∷ s2.value ≡ l.left = answer_injective _ l.left s2.then in
      let put : is_put asks ≡ op.put = sym (ap (λ (x : Operation). x.put) u) in
      let x : Encodes c (drop from coords) captions op e =
      subst (λ (x : Operation). Encodes c (drop from coords) captions x e) (sym u) (operation_encodes c (drop from coords) captions asks e s1.first) in
      let this : List ℕ = tag_of op.put ∷ fields_of d (drop from coords) captions op in
      let this_is : e.tag ∷ e.fields ≡ this = ap₂ ◌∷◌ x.tag_is x.fields_are in
      let all : l.done ++ (this ++ tagged_bytes s2.value) ≡ tagged_bytes (tagged_of c words coords captions) =
      ap (λ (b : List ℕ). l.done ++ (b ++ tagged_bytes s2.value)) (sym this_is) ∙ ap (λ (es : List Tagged). l.done ++ tagged_bytes es) is ∙ l.all_is in
      let size = ap length all in
      let kept = left_kept out at from k l in
      record {
        fits = encodes_fits c (drop from coords) captions op e x (λ t. vector_there words k h d from coords l.enough (put ∙ t));
        kept = kept;
        room = omega (arith, l.at_is, length-append l.done (this ++ tagged_bytes s2.value), length-append this (tagged_bytes s2.value));
        after = λ out' w. record {
          done = l.done ++ this;
          left = s2.value;
          left_is = ap (λ (t : Bool). run_from c words coords captions (from + taken t d) (k + 1)) (sym put) ∙ s2.first;
          all_is = append_assoc l.done this (tagged_bytes s2.value) ∙ all;
          at_is = omega (arith, l.at_is, length-append l.done this);
          out_is = w ∙ ap₂ (λ (n : ℕ) (b : List ℕ). placed n this b) (l.at_is ∙ zero_plus (length l.done)) l.out_is ∙ placed_behind 0 l.done this o (omega arith);
          enough = enough_more words k h d from (length coords) l.enough ∙ ap (λ (t : Bool). from + taken t d + d * put_count (asked_past words (k + 1))) put;
        };
      }
    where
      zero_plus : (n : ℕ) → n ≡ 0 + n
      zero_plus n = omega arith

-- ---- a single frame's one operation, and how many a batch has
pub record One (c : Config) (words coords captions : List ℕ) (op : Operation) : Type 0 where
  pub fits : Fits c.dimensions coords captions op
  pub payload : (sequence : ℕ) → payload_bytes Single sequence (tagged_of c words coords captions) ≡ tag_of op.put ∷ (bytes 8 sequence ++ fields_of c.dimensions coords captions op)
  pub long : (sequence : ℕ) → length (payload_bytes Single sequence (tagged_of c words coords captions)) ≡ 9 + length (fields_of c.dimensions coords captions op)

-- a list of which nothing follows the first
only : (e : Tagged) (rest es : List Tagged) → e ∷ rest ≡ es → rest ≡ [] → es ≡ e ∷ []
only e rest es is none = sym is ∙ ap (λ (r : List Tagged). e ∷ r) none

pub one_operation : (c : Config) (words coords captions : List ℕ) (op : Operation) → Accepted c words coords captions → length words ≡ 2 → op ≡ operation_at words 0
    → One c words coords captions op
unfolding operation_at
one_operation c words coords captions op x two u =
    let d = c.dimensions in
    let asks = asked_at words 0 in
    let es = tagged_of c words coords captions in
    let one : 0 < length words / 2 = omega arith in
    let s1 = passed (encode_operation c coords captions asks) _ es (sym (run_more c words coords captions 0 0 one) ∙ run_start c words coords captions ∙ x.tagged_is) in
    let s2 = passed (run_from c words coords captions (0 + taken (is_put asks) d) 1) _ es s1.then in
    let e = s1.value in
    let none : s2.value ≡ [] = answer_injective s2.value [] (sym s2.first ∙ run_end c words coords captions (0 + taken (is_put asks) d) 1 (omega arith)) in
    let is : es ≡ e ∷ [] = only e s2.value es (answer_injective (e ∷ s2.value) es s2.then) none in
    let y : Encodes c coords captions op e = subst (λ (o : Operation). Encodes c coords captions o e) (sym u) (operation_encodes c coords captions asks e s1.first) in
    let F = fields_of d coords captions op in
    let payload : (sequence : ℕ) → payload_bytes Single sequence es ≡ tag_of op.put ∷ (bytes 8 sequence ++ F) =
    λ sequence. ap (payload_bytes Single sequence) is ∙ ap₂ (λ (t : ℕ) (f : List ℕ). t ∷ (bytes 8 sequence ++ f)) y.tag_is y.fields_are in
    record {
      fits = encodes_fits c coords captions op e y (λ t. vector_there words 0 one d 0 coords (enough_start d (length coords) words x.enough) (sym (put_at_lem words 0 op u) ∙ t));
      payload = payload;
      long = λ sequence. ap length (payload sequence) ∙ omega (arith, length-append (bytes 8 sequence) F, length_bytes 8 sequence);
    }
