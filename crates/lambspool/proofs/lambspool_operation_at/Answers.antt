-- What `operation_of` answers with the settings asked, said, or 5.
use Rattle.config.specs.declared.Config.{Config}
use Rattle.refusal.specs.Refusal.{Answer}
use Prim.Native.Nat.{ℕ}
use mathlib.Core.Path.{◌≡◌, sym, subst}
use Rattle.lambspool.specs.Asked.{settings_of}
use Rattle.lambspool.specs.Fits.{OperationFits}
use Rattle.refusal.proofs.Inverses.{came_to}
use Rattle.lambspool.proofs.LogFits.{settings_dimensions, operation_fits}
use Rattle.lambspool.proofs.lambspool_operation_at.Goals as goal

pub operation_said-requires : goal.operation_said-requires
operation_said-requires c =
    let given : (y : Answer Config) → c.settings.result ≡ y → (let a = c.args in settings_of a.d a.m a.ef a.seed a.metric) ≡ y =
    λ y e. came_to (let a = c.args in settings_of a.d a.m a.ef a.seed a.metric) c.settings.ensures e in
    let a = c.args in
    let config = c.in-Ok.config in
    let same : config.dimensions ≡ a.d = settings_dimensions _ _ _ _ _ config (given _ c.in-Ok.is) in
    subst (λ (n : ℕ). OperationFits n c.operation_of.result) same
    (subst (OperationFits config.dimensions) (sym c.operation_of.ensures) (operation_fits config a.log.now a.kind a.end a.at))
