-- `history::ticks_at` meets its contract: by what the number was read as.
use mathlib.Core.Path.{sym}
use Rattle.number.specs.Sequence.{then}
use Rattle.history.specs.Event.{ticks_at}
use Rattle.history.proofs.Refused.{passed_on}
use Rattle.history.proofs.ticks_at.Goals as goal

pub returns-in_err-count : goal.returns-in_err-count
unfolding ticks_at then
returns-in_err-count c = passed_on _ _ c.from_residual.ensures.1 (simp (sym c.in_err-count.ensures))

pub returns : goal.returns
unfolding ticks_at then
returns c = simp (sym c.in_ok-count.ensures)
