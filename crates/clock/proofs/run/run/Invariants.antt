-- `clock::run::run`: a run by turns. The loop's invariant: all ticks make of the clock as it was what those
-- still to come make of it as it is, after those that were accepted. The measure is the ticks to come.
use mathlib.Core.Path.{◌≡◌}
use Prim.Native.Nat.{◌-◌, ◌≤◌}
use Rattle.clock.specs.Ticks.{ran_of}
use Rattle.clock.specs.Inner.{adds}
use Rattle.clock.proofs.run.run.Given as goal

abbrev pub invariant-loop-left : goal.invariant-loop-left
invariant-loop-left l = (l.left ≤ l.n) × (ran_of l.stop l.n l.initial.now.clock ≡ adds (l.n - l.left) (ran_of l.stop l.left l.now.clock))

abbrev pub decreases-loop-left : goal.decreases-loop-left
decreases-loop-left l = l.left
