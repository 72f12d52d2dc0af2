-- `clock::catch_up`: refused, or a run.
use mathlib.Core.Path.{◌≡◌}
use native.Mathlib.Omega.{arith}
use borrow.Author.Tests.{lt-ltb, le-ltb}
use Rattle.clock.specs.Ticks.{catch_up_of}
use Rattle.clock.proofs.RunLaws.{run_most}
use Rattle.clock.proofs.ticks.catch_up.Goals as goal

pub returns-in_default-clause-value : goal.returns-in_default-clause-value
unfolding catch_up_of
returns-in_default-clause-value c = simp (c.refused.ensures, c.in_default.ensures)

pub returns-then-ceiling-gt-MAX_CEILING-clause-value : goal.returns-then-ceiling-gt-MAX_CEILING-clause-value
unfolding catch_up_of
returns-then-ceiling-gt-MAX_CEILING-clause-value c =
    let s = c.in-Some.sound in
    let e : s.clock ≡ c.args.c = c.in-Some.ensures in
    simp (c.refused-then-ceiling-gt-MAX_CEILING.ensures, rw e at s.in_range, lt-ltb 65536 c.args.ceiling (omega (arith, c.if-ceiling-gt-MAX_CEILING.true)))

pub returns-clause-value : goal.returns-clause-value
unfolding catch_up_of
returns-clause-value c =
    let s = c.in-Some.sound in
    let e : s.clock ≡ c.args.c = c.in-Some.ensures in
    simp (c.run.ensures, e, rw e at s.in_range, le-ltb 65536 c.args.ceiling (omega (arith, c.if-ceiling-gt-MAX_CEILING.false)))

pub returns-clause-count_le_ceiling : goal.returns-clause-count_le_ceiling
returns-clause-count_le_ceiling c = rw c.run.ensures (run_most c.args.stop c.args.ceiling c.in-Some.sound.clock)
