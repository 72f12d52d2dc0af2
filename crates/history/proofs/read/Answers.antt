-- `history::read` meets its contract: by the code, and by what its arguments were read as.
use borrow.Author.Tests.{ne_eqb}
use native.Mathlib.Omega.{arith}
use mathlib.Core.Path.{sym}
use Rattle.number.specs.Sequence.{then}
use Rattle.history.specs.Event.{arguments_at, event_at}
use Rattle.history.proofs.Refused.{passed_on}
use Rattle.history.proofs.read.Goals as goal

pub returns-in_err-code : goal.returns-in_err-code
unfolding event_at then
returns-in_err-code c = passed_on _ _ c.from_residual.ensures.1 (simp (sym c.in_err-code.ensures))

pub returns-in-0 : goal.returns-in-0
unfolding event_at arguments_at then
returns-in-0 c = simp (sym c.in_ok-code.ensures, c.in-0.is, c.ticks_at.ensures)

pub returns-in-1 : goal.returns-in-1
unfolding event_at arguments_at then
returns-in-1 c = simp (sym c.in_ok-code.ensures, c.in-1.is, c.setting_at.ensures)

pub returns-in-2 : goal.returns-in-2
unfolding event_at arguments_at then
returns-in-2 c = simp (sym c.in_ok-code.ensures, c.in-2.is, c.request_at.ensures)

pub returns-in-3 : goal.returns-in-3
unfolding event_at arguments_at then
returns-in-3 c = simp (sym c.in_ok-code.ensures, c.in-3.is, c.called.ensures)

pub returns-in-4 : goal.returns-in-4
unfolding event_at arguments_at then
returns-in-4 c = simp (sym c.in_ok-code.ensures, c.in-4.is, c.summary_at.ensures)

pub returns-in_default : goal.returns-in_default
unfolding event_at arguments_at then
returns-in_default c =
    let code = c.in_ok-code.code.value in
    simp (
      sym c.in_ok-code.ensures,
      ne_eqb code 0 (omega arith),
      ne_eqb code 1 (omega arith),
      ne_eqb code 2 (omega arith),
      ne_eqb code 3 (omega arith),
      ne_eqb code 4 (omega arith),
    )
