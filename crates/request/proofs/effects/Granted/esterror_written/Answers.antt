-- `request::effects::Granted::esterror_written`: the error, where it is selected.
use mathlib.Core.Path.{sym, ◌∙◌}
use native.Mathlib.Omega.{arith}
use Rattle.request.proofs.Accepted.{accepted, chosen}
use Rattle.request.proofs.effects.Granted.esterror_written.Goals as goal

pub map_or-requires : goal.map_or-requires
map_or-requires c = λ x e _ _.
    let k = accepted c.args.self.clock c.args.self.request c.args.self.not_refused in
    let h = chosen _ _ _ (sym c.selected-asked.ensures ∙ e) in
    rw h.1 (omega (arith, k.esterror h.0))
