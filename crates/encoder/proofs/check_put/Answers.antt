-- The tests of `put_for` in their order.
use mathlib.Core.Path.{◌≡◌, sym, ap, ◌∙◌}
use Prim.Native.Nat.{ℕ, ◌+◌, ◌-◌, ◌≤◌, ◌<◌}
use native.Mathlib.Omega.{arith}
use mathlib.Core.Bool.{Bool}
use mathlib.Core.List.{List}
use lib.ListN.{length, take, drop, get_or}
use Rattle.config.specs.Settings.{is_cosine}
use Rattle.config.specs.declared.Config.{Config}
use Rattle.coordinates.specs.Coordinates.{vector_of, coordinate_bytes}
use Rattle.config.specs.Limits.{max_metadata}
use Rattle.refusal.specs.Refusal.{size_told, Answer}
use Rattle.refusal.proofs.Inverses.{came_to, handed_on}
use Rattle.meaning.specs.Item.{coordinates}
use Rattle.encoder.specs.Requests.{tagged_length, caption_told}
use Rattle.encoder.proofs.CoordinateLaws.{vector_again}
use Rattle.encoder.proofs.OperationLaws.{put_caption, put_vector}
use Rattle.encoder.proofs.check_put.Goals as goal

-- what the test of the coordinates' bits says of the vector that they are
vector_told : (g : Config) (coords : List ℕ) (cosine : Bool) (t : Answer (Unit {0})) → length coords ≡ g.dimensions → ((k : ℕ) → get_or coords k 0 < 4294967296)
    → cosine ≡ is_cosine g.metric → t ≡ vector_of cosine coords → t ≡ coordinates g (coordinate_bytes coords)
vector_told g coords cosine t size small is e = e ∙ ap (λ (b : Bool). vector_of b coords) is ∙ sym (vector_again g coords size small)

pub returns : goal.returns
returns c =
    let a = c.args in
    let coords = a.coordinates.now in
    let n = a.o.caption_length in
    let start = a.o.at in
    let short : n ≤ max_metadata = omega (arith, c.caption_limit.ensures, c.if-caption_limit-n.false) in
    let vector = vector_told a.config coords _ _ c.requires.coordinates_len (λ k. (c.type_inv.coordinates k).fits) c.is_cosine.ensures c.check_bits.ensures in
    let q : start + n - start ≡ n = omega arith in
    c.check_caption.ensures ∙ ap (λ (k : ℕ). caption_told (length coords) (take k (drop start a.captions.now))) q
    ∙ sym (put_caption a.config coords a.captions.now a.o.id.0 n start short c.if-captions-end.false (came_to _ vector c.in_ok-check_bits.was))

pub returns-in_err-check_bits : goal.returns-in_err-check_bits
returns-in_err-check_bits c =
    let a = c.args in
    let coords = a.coordinates.now in
    let short : a.o.caption_length ≤ max_metadata = omega (arith, c.caption_limit.ensures, c.if-caption_limit-n.false) in
    let vector = vector_told a.config coords _ _ c.requires.coordinates_len (λ k. (c.type_inv.coordinates k).fits) c.is_cosine.ensures c.check_bits.ensures in
    handed_on _ _ c.from_residual.ensures
    ∙ sym (ap (size_told tagged_length) (put_vector a.config coords a.captions.now a.o.id.0 a.o.caption_length a.o.at _
    short c.if-captions-end.false (came_to _ vector c.in_err-check_bits.was)))
