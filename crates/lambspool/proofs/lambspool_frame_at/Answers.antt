-- What `frame_at` answers with the settings asked, said, or 5.
use mathlib.Core.Path.{sym, subst}
use Rattle.lambspool.specs.Fits.{FrameFits}
use Rattle.lambspool.proofs.LogFits.{frame_fits}
use Rattle.lambspool.proofs.lambspool_frame_at.Goals as goal

pub frame_said-requires : goal.frame_said-requires
frame_said-requires c =
    let a = c.args in
    subst FrameFits (sym c.frame_at.ensures) (frame_fits c.in-Ok.config a.log.now a.previous a.at)
