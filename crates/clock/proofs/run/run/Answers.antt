-- `clock::run::run`: a run by turns. The loop's invariant: all ticks make of the clock as it was what those
-- still to come make of it as it is, after those that were accepted. The measure is the ticks to come.
use mathlib.Core.Path.{◌≡◌, refl, sym, ◌∙◌}
use Prim.Native.Nat.{◌+◌, ◌-◌}
use native.Mathlib.Omega.{arith}
use Rattle.clock.proofs.RunLaws.{run_none}
use Rattle.clock.proofs.run.run.Goals as goal

pub loop-left-smaller-in-Rolled-1 : goal.loop-left-smaller-in-Rolled-1
loop-left-smaller-in-Rolled-1 c =
    omega (arith, c.loop-left-test.true, c.take_turn-turn.ensures.some (rw c.in-Rolled.is refl))

pub returns : goal.returns
returns c =
    let l = c.loop-left in
    let s = c.args in
    let z : s.n - l.left + 0 ≡ s.n = omega (arith, c.loop-left-test.false) in
    c.ran-2.ensures ∙ sym (l.invariant.1 ∙ rw (run_none s.stop l.left l.now.clock c.loop-left-test.false, z) refl)
