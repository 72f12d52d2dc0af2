-- `playback::put_log` meets its contract: its parts one after the other.
use Prim.Native.Nat.{◌≤◌}
use native.Mathlib.Omega.{arith}
use lib.ListN.{length}
use Rattle.playback.specs.Lines.{decimal, log_line}
use Rattle.playback.proofs.Decimal.{decimal_length}
use Rattle.playback.proofs.Buffers.{puts_then, puts_length}
use Rattle.playback.proofs.LineLaws.{log_small}
use Rattle.playback.proofs.lines.put_log.Goals.{After-number-n}
use Rattle.playback.proofs.lines.put_log.Goals as goal

-- a refusal has at most three digits, a place at most five
small : (s : After-number-n) → (length (decimal s.number-n.result) ≤ 3) × (length (decimal s.args.p) ≤ 5)
small s = (decimal_length 2 s.number-n.result (omega arith), decimal_length 4 s.args.p (omega (arith, s.requires.1)))

pub put_number-place-requires : goal.put_number-place-requires
put_number-place-requires c =
    omega (arith, c.requires.0, (small (goal.at.put_number-place-requires c).After-number-n).0)

pub put_number-end-requires : goal.put_number-end-requires
put_number-end-requires c =
    let p = c.put_number-place.ensures in
    omega (arith, c.requires.0, p.place, puts_length p, (small (goal.at.put_number-end-requires c).After-number-n).0, (small (goal.at.put_number-end-requires c).After-number-n).1)

pub put-requires : goal.put-requires
put-requires c =
    let p = c.put_number-place.ensures in
    let q = c.put_number-end.ensures in
    omega (arith, c.requires.0, p.place, puts_length p, q.place, puts_length q, (small (goal.at.put-requires c).After-number-n).0, (small (goal.at.put-requires c).After-number-n).1)

pub returns : goal.returns
unfolding log_line
returns c =
    record {
      puts = rw c.number-n.ensures at (puts_then (puts_then c.put_number-place.ensures c.put_number-end.ensures) c.put.ensures);
      small = rw c.number-n.ensures at (log_small c.number-n.result c.args.p (omega arith) c.requires.1);
    }
