-- `clock::run_ticks`: a run that does not stop at a rollover.
use mathlib.Core.Path.{◌≡◌}
use Rattle.clock.specs.Ticks.{ticks_of}
use Rattle.clock.proofs.ticks.run_ticks.Goals as goal

pub returns-in_default : goal.returns-in_default
unfolding ticks_of
returns-in_default c = simp (c.refused.ensures, c.in_default.ensures)

pub returns : goal.returns
unfolding ticks_of
returns c =
    let s = c.in-Some.sound in
    let e : s.clock ≡ c.args.c = c.in-Some.ensures in
    simp (c.run-r.ensures, e, rw e at s.in_range)
