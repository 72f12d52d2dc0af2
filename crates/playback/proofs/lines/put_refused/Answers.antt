-- `playback::put_refused` meets its contract: nothing for 0; else its parts one after the other.
use native.Mathlib.Omega.{arith}
use borrow.Author.Tests.{eq-eqb, ne_eqb}
use Rattle.playback.specs.Lines.{refused_line}
use Rattle.playback.specs.Inner.{refusal_line}
use Rattle.playback.proofs.Decimal.{decimal_length}
use Rattle.playback.proofs.Buffers.{puts_none, puts_then, puts_length}
use Rattle.playback.proofs.lines.put_refused.Goals as goal

pub returns-then-n-eq0 : goal.returns-then-n-eq0
unfolding refusal_line
returns-then-n-eq0 c = let a = c.args in simp (eq-eqb _ _ c.if-n-eq0.true) (puts_none a.out.now a.at)

pub put_number-end-requires : goal.put_number-end-requires
put_number-end-requires c =
    omega (arith, c.requires, decimal_length 2 c.args.n (omega arith))

pub put-requires : goal.put-requires
put-requires c =
    let p = c.put_number-end.ensures in
    omega (arith, c.requires, p.place, puts_length p, decimal_length 2 c.args.n (omega arith))

pub returns : goal.returns
unfolding refusal_line refused_line
returns c =
    simp (ne_eqb _ _ c.if-n-eq0.false)
    (puts_then c.put_number-end.ensures c.put.ensures)
