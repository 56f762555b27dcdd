-- What `specs/EncodedFrame.antt` says of an encoded frame.
use Rattle.std.specs.Prelude.{Ok}
use Prim.Native.Nat.{ℕ, ◌<◌, ◌^◌}
use mathlib.Core.Path.{◌≡◌, sym, ap, ◌∙◌}
use mathlib.Core.List.{List, [], ◌∷◌}
use lib.ListN.{length, take}
use Rattle.refusal.specs.Refusal.{written_told, Answer}
use Rattle.config.specs.Settings.{validate}
use Rattle.config.specs.declared.Config.{Config}
use Rattle.layout.specs.declared.Shape.{Shape}
use Rattle.layout.specs.declared.Shape.TheVariants.{Single, Batch}
use Rattle.meaning.specs.Every.{Every}
use Rattle.meaning.specs.Encoder.{encode}
use Rattle.meaning.specs.Calls.{output_after}
use Rattle.theorems.proofs.DeleteBytes.{length_delete, delete_encodes}
use Rattle.theorems.proofs.Proved.{frame_of_lem}
use Rattle.promises.specs.Store.{EncodeFrameMeets}
use Rattle.promises.specs.Playout.{HostDeleteMeets}
use Rattle.promises.specs.Output.{Holds}
use Rattle.promises.specs.EncodedFrame.{FrameLeft, EncodedFrame}
use Rattle.promises.proofs.Outputs.{written_holds}
use Rattle.promises.proofs.DeletesLeft.{sequence_positive, room_there, is_frame}

left : (shape : Shape) (config : Config) (sequence : ℕ) (operations coordinates captions : List ℕ) → Every (λ x. x < 2 ^ 64) operations → sequence < 256 ^ 8
    → (n : ℕ) (out after : List ℕ) → Holds (encode shape config sequence operations coordinates captions (length out)) n out after
    → FrameLeft shape config sequence operations coordinates captions n out after
left shape config sequence operations coordinates captions w q n out after h =
    record {
      frame = frame_of_lem shape config sequence operations coordinates captions (length out) (take n after) w q h.bytes_given;
      as_many = h.as_many;
      rest_untouched = h.rest_untouched;
    }

delete_as_encoded : (sequence id : ℕ) (out after : List ℕ) → HostDeleteMeets sequence id out 29 after
    → (c : Config) (captions : List ℕ) (r : Answer ℕ) (after' : List ℕ) → validate c ≡ Ok tt
    → EncodeFrameMeets c sequence (id ∷ 0 ∷ []) [] captions out r after' → (r ≡ Ok 29) × (after' ≡ after)
delete_as_encoded sequence id out after meets c captions r after' valid m =
    let e = delete_encodes c sequence id captions (length out) valid (sequence_positive sequence id out after meets) (room_there sequence id out after meets) in (
      m.result_is ∙ ap written_told e ∙ ap (λ (n : ℕ). Ok n) (length_delete sequence id),
      m.output_is ∙ ap (output_after out) e ∙ sym (is_frame sequence id out after meets),
    )

pub encoded_frame : EncodedFrame
encoded_frame =
    record {
      frame_left = λ config sequence operations coordinates captions w q n out after m.
          left Single config sequence operations coordinates captions w q n out after (written_holds _ n out after m.result_is m.output_is);
      batch_left = λ config sequence operations coordinates captions w q n out after m.
          left Batch config sequence operations coordinates captions w q n out after (written_holds _ n out after m.result_is m.output_is);
      delete_as_encoded = delete_as_encoded;
    }
