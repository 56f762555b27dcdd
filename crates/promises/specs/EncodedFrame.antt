-- What the encoders leave in the lent output is read back from a log as the operations that were asked for; and the playout host's
-- delete leaves what `encode_frame` does.
use Rattle.refusal.specs.Refusal.{Answer}
use Rattle.std.specs.Prelude.{ℕ, ◌<◌, ◌^◌, ◌≡◌, List, [], ◌∷◌, length, take, drop, Ok}
use Rattle.config.specs.Settings.{validate}
use Rattle.config.specs.declared.Config.{Config}
use Rattle.layout.specs.declared.Shape.{Shape}
use Rattle.layout.specs.declared.Shape.TheVariants.{Single, Batch}
use Rattle.meaning.specs.Every.{Every}
use Rattle.theorems.specs.Requested.{requested}
use Rattle.theorems.specs.FrameReadBack.{FrameOf}
use Rattle.promises.specs.Store.{EncodeFrameMeets, EncodeBatchMeets}
use Rattle.promises.specs.Playout.{HostDeleteMeets}

-- the frame that stands in an output of which n bytes were written. `FrameOf` says that it is read back wherever it stands in a log
-- behind a frame that it can follow, and that it is one frame more, and no tail, behind a log whose bytes are all read; its rows show the
-- operations that were asked for
pub record FrameLeft (shape : Shape) (config : Config) (sequence : ℕ) (operations coordinates captions : List ℕ) (n : ℕ) (out after : List ℕ) : Type 0 where
  pub frame : FrameOf shape config sequence (requested config operations coordinates captions) (take n after)
  pub as_many : length (take n after) ≡ n
  pub rest_untouched : drop n after ≡ drop n out

-- operation words and a sequence of 8 bytes each, as the code has them
pub record EncodedFrame : Type 0 where
  pub frame_left : (config : Config) (sequence : ℕ) (operations coordinates captions : List ℕ) → Every (λ x. x < 2 ^ 64) operations → sequence < 256 ^ 8
      → (n : ℕ) (out after : List ℕ) → EncodeFrameMeets config sequence operations coordinates captions out (Ok n) after
      → FrameLeft Single config sequence operations coordinates captions n out after
  pub batch_left : (config : Config) (sequence : ℕ) (operations coordinates captions : List ℕ) → Every (λ x. x < 2 ^ 64) operations → sequence < 256 ^ 8
      → (n : ℕ) (out after : List ℕ) → EncodeBatchMeets config sequence operations coordinates captions out (Ok n) after
      → FrameLeft Batch config sequence operations coordinates captions n out after
  -- asked for the one delete that the playout host wrote, and lent the same buffer, `encode_frame` answers 29 too and leaves the same bytes
  pub delete_as_encoded : (sequence id : ℕ) (out after : List ℕ) → HostDeleteMeets sequence id out 29 after
      → (c : Config) (captions : List ℕ) (r : Answer ℕ) (after' : List ℕ) → validate c ≡ Ok tt
      → EncodeFrameMeets c sequence (id ∷ 0 ∷ []) [] captions out r after' → (r ≡ Ok 29) × (after' ≡ after)
