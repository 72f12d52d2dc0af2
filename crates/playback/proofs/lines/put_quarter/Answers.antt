-- `playback::put_quarter` meets its contract: nothing for a count of 0; else its parts one after the other.
use Prim.Native.Nat.{◌≤◌}
use native.Mathlib.Omega.{arith}
use lib.ListN.{length}
use borrow.Author.Tests.{eq-eqb, ne_eqb}
use Rattle.playback.specs.Lines.{decimal, quarter_line, cell_line}
use Rattle.playback.specs.Filling.{longest_line}
use Rattle.playback.proofs.Decimal.{decimal_length}
use Rattle.playback.proofs.Buffers.{puts_none, puts_then, puts_length}
use Rattle.playback.proofs.LineLaws.{cell_small}
use Rattle.playback.proofs.lines.put_quarter.Goals.{Start}
use Rattle.playback.proofs.lines.put_quarter.Goals as goal

-- a count has at most five digits, a size at most ten
small : (s : Start) → (length (decimal s.args.count) ≤ 5) × (length (decimal s.args.largest) ≤ 10)
small s = (decimal_length 4 s.args.count (omega arith), decimal_length 9 s.args.largest (omega arith))

fits : (s : Start) → length (cell_line s.args.quarter s.args.count s.args.largest) ≤ longest_line
fits s = cell_small s.args.quarter s.args.count s.args.largest (omega arith) (omega arith)

pub returns-then-count-eq0 : goal.returns-then-count-eq0
unfolding cell_line
returns-then-count-eq0 c = record {
  puts = simp (eq-eqb _ _ c.if-count-eq0.true) (puts_none c.args.out.now c.args.at);
  largest_len_bound = fits (goal.at.returns-then-count-eq0 c).Start;
}

pub put_number-next-requires : goal.put_number-next-requires
put_number-next-requires c = omega (arith, c.requires, (small (goal.at.put_number-next-requires c).Start).0)

pub put_number-end-requires : goal.put_number-end-requires
put_number-end-requires c =
    let x = c.put_number-next.ensures in
    omega (arith, c.requires, x.place, puts_length x, (small (goal.at.put_number-end-requires c).Start).0, (small (goal.at.put_number-end-requires c).Start).1)

pub put-requires : goal.put-requires
put-requires c =
    let x = c.put_number-next.ensures in
    let y = c.put_number-end.ensures in
    omega (arith, c.requires, x.place, puts_length x, y.place, puts_length y, (small (goal.at.put-requires c).Start).0, (small (goal.at.put-requires c).Start).1)

pub returns : goal.returns
unfolding cell_line quarter_line
returns c = record {
  puts = simp (ne_eqb _ _ c.if-count-eq0.false)
      (rw (← c.digit.ensures, ← c.digit-2.ensures)
      (puts_then (puts_then c.put_number-next.ensures c.put_number-end.ensures) c.put.ensures));
  largest_len_bound = fits (goal.at.returns c).Start;
}
