-- The bytes left, then the length.
use Rattle.refusal.proofs.Inverses.{came_to}
use Rattle.meaning.proofs.FrameRead.{length_read}
use Rattle.frames.proofs.read_envelope.Goals as goal

pub within-requires : goal.within-requires
within-requires c = (length_read _ _ _ (came_to _ c.read_length.ensures c.in_ok-n.was)).most
