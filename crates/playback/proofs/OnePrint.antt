-- A history of one print, replayed by two calls with 30 bytes each.
use mathlib.Core.Path.{◌≡◌, refl}
use mathlib.Core.Logic.{inl, inr}
use native.Mathlib.Omega.{arith}
use Rattle.calendar.specs.Calendar.{date_of}
use Rattle.state.specs.Device.{device_of}
use Rattle.state.specs.State.{in_range}
use Rattle.clock.specs.Reading.{reading_refusal, told_of}
use Rattle.number.specs.Reading.{leading_more, value_of, judged, number_at}
use Rattle.number.specs.Sequence.{then}
use Rattle.label.specs.Label.{label_of}
use Rattle.history.specs.Event.{summary_at, arguments_at, event_at}
use Rattle.playback.specs.Lines.{decimal_from, decimal, print_line}
use Rattle.playback.specs.Event.{outcome_of, printed_by, printed, line_of, summary_after}
use Rattle.playback.specs.Run.{start_of_run, step_at_end, step, run_after, lines_of}
use Rattle.playback.specs.Filling.{Fills}
use Rattle.playback.specs.WrongRuns.{one_print, its_line, after_print, at_end, blank, answer}

-- the first call writes the line, and the second finds the end
pub first_call : Fills one_print start_of_run (blank 30) its_line (answer 0 after_print 30)
unfolding device_of date_of in_range reading_refusal told_of leading_more value_of judged number_at then
    summary_at arguments_at event_at label_of decimal_from decimal print_line outcome_of printed_by printed line_of summary_after step_at_end step run_after lines_of
first_call =
    record {
      refusal = refl;
      steps = 1;
      onward = λ k h. let e : 0 ≡ k = omega arith in rw (← e) (record { going = refl; enough = omega arith });
      stopped = inr (omega arith);
      stands = refl;
      written = refl;
      later = refl;
      same = refl;
      within = omega arith;
      part = refl;
    }

pub second_call : Fills one_print after_print (blank 30) (blank 30) (answer 0 at_end 0)
unfolding leading_more value_of judged number_at then summary_at arguments_at event_at step_at_end step run_after lines_of
second_call =
    record {
      refusal = refl;
      steps = 1;
      onward = λ k h. let e : 0 ≡ k = omega arith in rw (← e) (record { going = refl; enough = omega arith });
      stopped = inl refl;
      stands = refl;
      written = refl;
      later = refl;
      same = refl;
      within = omega arith;
      part = refl;
    }

pub one_step : second_call.steps ≡ 1
unfolding second_call
one_step = refl
