-- The settings first.
use Rattle.config.proofs.Laws.{bounded_of_valid}
use Rattle.refusal.proofs.Inverses.{came_to}
use Rattle.encoder.proofs.encode.Goals as goal

pub encode_valid-requires : goal.encode_valid-requires
encode_valid-requires c = (bounded_of_valid c.args.config (came_to _ c.validate.ensures c.in_ok-validate.was)).d_high
