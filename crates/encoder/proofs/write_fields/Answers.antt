-- By the tag's bit: a put, with what it is handed, its caption and how long its fields are; or a delete.
use mathlib.Core.Path.{◌≡◌, sym, ap, ap₂, ◌∙◌}
use Prim.Native.Nat.{ℕ, ◌+◌, ◌-◌}
use native.Mathlib.Omega.{arith}
use mathlib.Core.List.{List}
use lib.ListN.{length, take, drop}
use lib.Seq.{length-take-le}
use Rattle.fields.specs.Placed.{placed}
use Rattle.fields.proofs.Parts.{length_part}
use Rattle.meaning.specs.Encoder.{put_fields}
use Rattle.encoder.proofs.OperationLaws.{put_fields_lem, put_size, delete_size}
use Rattle.encoder.proofs.write_fields.Goals as goal

pub write_put-requires-clause-caption_in_bounds : goal.write_put-requires-clause-caption_in_bounds
write_put-requires-clause-caption_in_bounds c =
    let a = c.args in
    let n = a.o.caption_length in
    let fits = c.requires.fits c.if-o.true in
    let vector_size = length-take-le a.config.dimensions a.coordinates.now fits.vector in
    let text_size = length_part a.captions.now a.o.at n fits.inside in
    let q : a.o.at + n - a.o.at ≡ n = omega arith in
    let text_is = ap (λ (k : ℕ). length (take k (drop a.o.at a.captions.now))) q in
    omega (arith, text_is, text_size, vector_size, put_size a.config.dimensions a.coordinates.now a.captions.now a.o c.if-o.true fits, c.requires.o_in_bounds)

pub returns-then-o : goal.returns-then-o
returns-then-o c =
    let a = c.args in
    let coords = a.coordinates.now in
    let n = a.o.caption_length in
    let fits = c.requires.fits c.if-o.true in
    let q : a.o.at + n - a.o.at ≡ n = omega arith in
    let text_is = ap (λ (k : ℕ). take k (drop a.o.at a.captions.now)) q in
    let text_size = ap length text_is ∙ length_part a.captions.now a.o.at n fits.inside in
    record {
      value = omega (arith, put_size a.config.dimensions coords a.captions.now a.o c.if-o.true fits, c.item_length.ensures);
      out_after = c.write_put.ensures
          ∙ ap₂ (λ (m : ℕ) (text : List ℕ). placed 0 (put_fields a.o.id.0 (take a.config.dimensions coords) m text) a.out.now) text_size text_is
          ∙ ap (λ (l : List ℕ). placed 0 l a.out.now) (sym (put_fields_lem a.config.dimensions coords a.captions.now a.o c.if-o.true));
    }

pub put_u64-requires : goal.put_u64-requires
put_u64-requires c =
    let a = c.args in
    omega (arith, delete_size a.config.dimensions a.coordinates.now a.captions.now a.o c.if-o.false, c.requires.o_in_bounds)

pub returns-clause-value : goal.returns-clause-value
returns-clause-value c = sym (delete_size c.args.config.dimensions c.args.coordinates.now c.args.captions.now c.args.o c.if-o.false)
