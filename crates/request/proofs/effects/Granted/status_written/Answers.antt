-- `request::effects::Granted::status_written`: the status, where it is selected and may be written.
use mathlib.Core.Path.{sym, ◌∙◌}
use native.Mathlib.Omega.{arith}
use Rattle.request.proofs.Accepted.{accepted, chosen}
use Rattle.request.proofs.effects.Granted.status_written.Goals as goal

pub overflow_cast-result : goal.overflow_cast-result
overflow_cast-result c =
    let k = accepted c.args.self.clock c.args.self.request c.args.self.not_refused in
    let h = chosen _ _ _ (sym c.selected.ensures ∙ c.in-Some.is) in
    rw h.1 (omega (arith, k.status h.0))
