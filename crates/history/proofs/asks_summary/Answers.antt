-- `history::asks_summary` meets its contract: there is no byte, or the first one decides.
use mathlib.Core.Path.{refl, ◌∙◌}
use native.Mathlib.Omega.{arith}
use Rattle.history.proofs.Asking.{asks_first}
use Rattle.history.proofs.asks_summary.Goals as goal

pub returns : goal.returns
returns c =
    let byte = c.type_inv.bytes in
    c.eq.ensures ∙ asks_first c.args.bytes.now (λ i. omega (arith, byte i)) c.first.result _ refl c.first.ensures.value
