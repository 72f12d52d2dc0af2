-- `history::request_at` meets its contract: by what each number was read as.
use mathlib.Core.Path.{sym}
use Rattle.number.specs.Sequence.{then}
use Rattle.history.specs.Event.{request_at}
use Rattle.history.proofs.Refused.{passed_on}
use Rattle.history.proofs.request_at.Goals as goal

pub returns-in_err-mode : goal.returns-in_err-mode
unfolding request_at then
returns-in_err-mode c = passed_on _ _ c.from_residual.ensures.1 (simp (sym c.in_err-mode.ensures))

pub returns-in_err-offset : goal.returns-in_err-offset
unfolding request_at then
returns-in_err-offset c = passed_on _ _ c.from_residual-in_err-offset.ensures.1 (simp (sym c.in_ok-mode.ensures, sym c.field_bits-bits.ensures, sym c.in_err-offset.ensures))

pub returns-in_err-frequency : goal.returns-in_err-frequency
unfolding request_at then
returns-in_err-frequency c = passed_on _ _ c.from_residual-in_err-frequency.ensures.1 (simp (sym c.in_ok-mode.ensures, sym c.field_bits-bits.ensures, sym c.in_ok-offset.ensures, sym c.in_err-frequency.ensures))

pub returns-in_err-maxerror : goal.returns-in_err-maxerror
unfolding request_at then
returns-in_err-maxerror c = passed_on _ _ c.from_residual-in_err-maxerror.ensures.1 (simp (sym c.in_ok-mode.ensures, sym c.field_bits-bits.ensures, sym c.in_ok-offset.ensures, sym c.in_ok-frequency.ensures, sym c.in_err-maxerror.ensures))

pub returns-in_err-esterror : goal.returns-in_err-esterror
unfolding request_at then
returns-in_err-esterror c = passed_on _ _ c.from_residual-in_err-esterror.ensures.1 (simp (sym c.in_ok-mode.ensures, sym c.field_bits-bits.ensures, sym c.in_ok-offset.ensures, sym c.in_ok-frequency.ensures, sym c.in_ok-maxerror.ensures, sym c.in_err-esterror.ensures))

pub returns-in_err-status : goal.returns-in_err-status
unfolding request_at then
returns-in_err-status c = passed_on _ _ c.from_residual-in_err-status.ensures.1 (simp (sym c.in_ok-mode.ensures, sym c.field_bits-bits.ensures, sym c.in_ok-offset.ensures, sym c.in_ok-frequency.ensures, sym c.in_ok-maxerror.ensures, sym c.in_ok-esterror.ensures, sym c.in_err-status.ensures))

pub returns-in_err-constant : goal.returns-in_err-constant
unfolding request_at then
returns-in_err-constant c = passed_on _ _ c.from_residual-in_err-constant.ensures.1 (simp (sym c.in_ok-mode.ensures, sym c.field_bits-bits.ensures, sym c.in_ok-offset.ensures, sym c.in_ok-frequency.ensures, sym c.in_ok-maxerror.ensures, sym c.in_ok-esterror.ensures, sym c.in_ok-status.ensures, sym c.in_err-constant.ensures))

pub returns : goal.returns
unfolding request_at then
returns c =
    simp (c.called.ensures, c.offset_of.ensures, c.frequency_of.ensures, sym c.in_ok-mode.ensures, sym c.field_bits-bits.ensures, sym c.in_ok-offset.ensures, sym c.in_ok-frequency.ensures, sym c.in_ok-maxerror.ensures, sym c.in_ok-esterror.ensures, sym c.in_ok-status.ensures, sym c.in_ok-constant.ensures)
