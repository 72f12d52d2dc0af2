-- `playback::put_quarters` meets its contract. The loop's invariant: the lines of the quarter-hours before
-- the next one are in the buffer, as those of so many steps of any run that has come to the end of its
-- bytes. The measure is the number of quarter-hours that are left.
use mathlib.Core.Path.{◌≡◌}
use Prim.Native.Nat.{◌+◌, ◌-◌}
use lib.ListN.{length}
use Rattle.summary.specs.Summary.{quarters}
use Rattle.playback.specs.Filling.{longest_line}
use Rattle.playback.specs.Inner.{PutsQuarters}
use Rattle.playback.proofs.run.put_quarters.Given as goal

abbrev pub invariant-loop-quarter : goal.invariant-loop-quarter
invariant-loop-quarter l =
    PutsQuarters l.m l.first l.initial.out l.start l.out (record { quarter = l.quarter; at = l.at })
    × (l.last + longest_line ≡ length l.initial.out) × (length l.out ≡ length l.initial.out)

abbrev pub decreases-loop-quarter : goal.decreases-loop-quarter
decreases-loop-quarter l = quarters - l.quarter
