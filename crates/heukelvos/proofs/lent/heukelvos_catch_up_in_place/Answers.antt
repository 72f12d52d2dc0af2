-- `heukelvos::heukelvos_catch_up_in_place`: what was accepted is stored; a refused catch-up hands back the
-- clock that it got.
use borrow.Author.Tests.{ne_eqb}
use lib.Dec.{eqb}
use mathlib.Core.Bool.{true≢false}
use mathlib.Core.Path.{sym, ◌∙◌, ap}
use Rattle.clock.specs.declared.run.CaughtUp.{CaughtUp}
use Rattle.event.proofs.Kept.{catch_up_same}
use Rattle.heukelvos.specs.Lent.{counted}
use Rattle.heukelvos.proofs.lent.heukelvos_catch_up_in_place.Goals.{then-done-eq0, else-done-eq0}
use Rattle.heukelvos.proofs.lent.heukelvos_catch_up_in_place.Goals as goal

pub returns : goal.returns
returns c =
    let e = c.catch_up-done.ensures.value in
    let answer = c.into.ensures ∙ ap counted e in
    elim c.if-done-eq0.branch [
      | then-done-eq0 w ↦ (
        answer,
        w.c-is ∙ ap (λ (d : CaughtUp). d.clock) e,
        λ refused. absurd (true≢false (rw (c.into.ensures, w.if-done-eq0.true) at refused)),
      )
      | else-done-eq0 w ↦ (
        answer,
        w.c-is
            ∙ sym (catch_up_same c.args.c.now c.args.ceiling c.args.stop (ap (λ (d : CaughtUp). eqb d.refusal 0) (sym e) ∙ ne_eqb _ _ w.if-done-eq0.false)),
        λ _. w.c-is,
      )
    ]
