-- `heukelvos::heukelvos_tick_in_place`: a refused tick hands back the clock that it got.
use borrow.Author.Tests.{ne_eqb}
use lib.Dec.{eqb}
use mathlib.Core.Path.{refl, sym, ◌∙◌, ap}
use Rattle.state.specs.declared.outcome.Outcome.{Outcome}
use Rattle.event.proofs.Kept.{tick_same}
use Rattle.heukelvos.proofs.lent.heukelvos_tick_in_place.Goals as goal

pub returns-else-done-eq0 : goal.returns-else-done-eq0
returns-else-done-eq0 c =
    let e = c.tick-done.ensures in
    let refused = ap (λ (o : Outcome). eqb o.refusal 0) (sym e) ∙ ne_eqb _ _ c.if-done-eq0.false in
    (ap (λ (o : Outcome). o.refusal) e, sym (tick_same c.args.c.now refused), λ _. refl)
