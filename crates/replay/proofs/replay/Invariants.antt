-- `replay::replay` ends: each call of `fill` ends the run or takes it further. The measure is what is left to
-- run.
use Rattle.std.proofs.Common.{◌≡◌, length}
use Rattle.playback.proofs.RunLaws.{left}
use Rattle.replay.proofs.replay.Given as goal

abbrev pub invariant-loop-run : goal.invariant-loop-run
invariant-loop-run g l = length l.out ≡ 65536

abbrev pub decreases-loop-run : goal.decreases-loop-run
decreases-loop-run g l = left l.bytes l.run
