-- `history::setting_at` meets its contract: by what each number was read as.
use mathlib.Core.Path.{sym}
use Rattle.number.specs.Sequence.{then}
use Rattle.history.specs.Event.{setting_at}
use Rattle.history.proofs.Refused.{passed_on}
use Rattle.history.proofs.setting_at.Goals as goal

pub returns-in_err-seconds : goal.returns-in_err-seconds
unfolding setting_at then
returns-in_err-seconds c = passed_on _ _ c.from_residual.ensures.1 (simp (sym c.in_err-seconds.ensures))

pub returns-in_err-micros : goal.returns-in_err-micros
unfolding setting_at then
returns-in_err-micros c =
    passed_on _ _ c.from_residual-in_err-micros.ensures.1 (simp (sym c.in_ok-seconds.ensures, sym c.in_err-micros.ensures))

pub returns : goal.returns
unfolding setting_at then
returns c = simp (c.called.ensures, sym c.in_ok-seconds.ensures, sym c.in_ok-micros.ensures)
