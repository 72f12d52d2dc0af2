-- `playback::Walk::run_events` meets its contract. The loop's invariant: the events so far are steps of the
-- run, and the buffer has their lines. The measure is what is left to run.
use mathlib.Core.Path.{◌≡◌}
use Prim.Native.Nat.{◌+◌, ◌≤◌}
use lib.ListN.{length}
use Rattle.playback.specs.Run.{longest_history}
use Rattle.playback.specs.Filling.{longest_line}
use Rattle.playback.specs.Inner.{standing, RunsEvents}
use Rattle.playback.proofs.RunLaws.{left}
use Rattle.playback.proofs.run.Walk.run_events.Given as goal

abbrev pub invariant-loop-walk : goal.invariant-loop-walk
invariant-loop-walk l =
    RunsEvents l.bytes l.initial.walk l.initial.m l.initial.out l.out l.walk l.m
    × (l.last + longest_line ≡ length l.initial.out) × (length l.bytes ≤ longest_history)

abbrev pub decreases-loop-walk : goal.decreases-loop-walk
decreases-loop-walk l = left l.bytes (standing l.walk l.m 0)
