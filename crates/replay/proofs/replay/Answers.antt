-- `replay::replay` ends, since each call of `fill` leaves less to run.
use Rattle.std.proofs.Common.{rules, arith}
use Rattle.playback.proofs.FillLaws.{filled_less}
use Rattle.replay.proofs.replay.Goals as goal

pub loop-run-smaller : goal.loop-run-smaller
loop-run-smaller g c =
    filled_less c.args.bytes.now (omega (arith, c.loop-run.invariant)) (search rules) c.fill-filled.ensures
