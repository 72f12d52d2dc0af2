-- The numbers of the statements hold at their edges, and not beyond, computed.
use mathlib.Core.Path.{◌≡◌, refl, ◌∙◌, ap}
use mathlib.Core.List.{[], ◌∷◌}
use Prim.Native.Nat.{ℕ, suc, ◌<◌, ◌≤◌}
use native.Mathlib.Omega.{arith}
use lib.ListN.{length, length-replicate}
use borrow.Author.Tests.{lt-leb, lt-ltb, le-ltb}
use Rattle.calendar.specs.Calendar.{date_of}
use Rattle.state.specs.Device.{device_of}
use Rattle.state.specs.State.{in_range}
use Rattle.clock.specs.Reading.{reading_refusal, told_of}
use Rattle.number.specs.Reading.{leading_more, value_of, judged, number_at}
use Rattle.number.specs.Sequence.{then}
use Rattle.label.specs.Label.{label_of}
use Rattle.event.specs.declared.event.Call.TheVariants.{Reading}
use Rattle.event.specs.declared.event.Event.TheVariants.{Call as single}
use Rattle.history.specs.declared.Event.TheVariants.{Call}
use Rattle.history.specs.Event.{found, summary_at, arguments_at, event_at}
use Rattle.playback.specs.Lines.{decimal_from, decimal, log_line, print_line}
use Rattle.playback.specs.Event.{outcome_of, printed_by, printed, line_of, summary_after}
use Rattle.playback.specs.Run.{Advanced, longest_history, start_of_run, end_of, step_at_end, step, run_after, lines_of}
use Rattle.playback.specs.Repeated.{Repeated, none, more}
use Rattle.playback.specs.Calls.{calls_from, calls_of_first}
use Rattle.playback.specs.WrongRuns.{one_print, its_line, at_end, blank}
use Rattle.playback.specs.Limits.{prints, LineAtItsEdge, HistoryAtItsEdge, EndAtItsEdge, Limits}
use Rattle.playback.proofs.RunLaws.{step_long, step_found}
use Rattle.playback.proofs.Repeated.{repeated_calls_replay}
use Rattle.playback.proofs.OnePrint.{first_call, second_call}

line_at_its_edge : LineAtItsEdge
unfolding label_of date_of decimal_from decimal print_line
line_at_its_edge = record { line = refl; room = refl; short = refl }

-- a history that begins with a print
print_first : (n : ℕ) → event_at (prints (suc n)) 0 ≡ found (Call Reading) 1
unfolding leading_more value_of judged number_at then summary_at arguments_at event_at
print_first n = simp (lt-leb (suc (length (prints n))) 0 (omega arith))

-- a history of prints that is run, and one that is too long
module _ (n : ℕ) (size : length (prints (suc n)) ≡ suc n) where
  run_first : suc n ≤ longest_history → (step (prints (suc n)) start_of_run).line ≡ its_line
  unfolding device_of in_range reading_refusal told_of outcome_of printed_by printed line_of summary_after
  run_first h =
      ap (λ (a : Advanced). a.line)
      (step_found (prints (suc n)) start_of_run refl (omega arith) (omega arith) (print_first n))

  called_first : suc n ≤ longest_history → calls_of_first 1 (prints (suc n)) ≡ single Reading ∷ []
  unfolding calls_from calls_of_first
  called_first h =
      let l = length (prints (suc n)) in
      simp (le-ltb longest_history l (omega arith), lt-leb l 0 (omega arith), print_first n)

  too_long : longest_history < suc n
      → step (prints (suc n)) start_of_run ≡ record { run = end_of start_of_run; line = log_line 13 longest_history }
  too_long h = step_long (prints (suc n)) start_of_run refl (omega arith)

  none_called : longest_history < suc n → calls_of_first 1 (prints (suc n)) ≡ []
  unfolding calls_of_first
  none_called h = simp (lt-ltb longest_history (length (prints (suc n))) (omega arith))

logged_13 : log_line 13 longest_history
    ≡ 0x6C ∷ 0x6F ∷ 0x67 ∷ 0x20 ∷ 0x31 ∷ 0x33 ∷ 0x20 ∷ 0x61 ∷ 0x74 ∷ 0x20
    ∷ 0x36 ∷ 0x35 ∷ 0x35 ∷ 0x33 ∷ 0x36 ∷ 0x0A ∷ []
unfolding decimal_from decimal log_line
logged_13 = refl

history_at_its_edge : HistoryAtItsEdge
history_at_its_edge =
    let whole = length-replicate {A = ℕ} 65536 0x03 in
    let long = length-replicate {A = ℕ} 65537 0x03 in
    record {
      run = run_first 65535 whole (omega arith);
      called = called_first 65535 whole (omega arith);
      logged = ap (λ (a : Advanced). a.line) (too_long 65536 long (omega arith)) ∙ logged_13;
      ended = ap (λ (a : Advanced). a.run.ended) (too_long 65536 long (omega arith));
      none = none_called 65536 long (omega arith);
    }

two_calls : Repeated one_print 2 start_of_run its_line at_end
unfolding date_of label_of decimal_from decimal print_line
two_calls =
    more {buf = blank 30} (omega arith) first_call
    (more {buf = blank 30} (omega arith) second_call none)

end_at_its_edge : EndAtItsEdge
unfolding device_of date_of in_range reading_refusal told_of leading_more value_of judged number_at then
    summary_at arguments_at event_at label_of decimal_from decimal print_line outcome_of printed_by printed line_of summary_after step_at_end step run_after lines_of
end_at_its_edge =
    record {
      steps = refl;
      ended = refl;
      going = refl;
      two = two_calls;
      one = more {buf = blank 30} (omega arith) first_call none;
      replayed = repeated_calls_replay one_print 2 its_line at_end two_calls;
      summed = refl;
      ended_then = refl;
      going_then = refl;
    }

pub limits : Limits
limits = record { line = line_at_its_edge; history = history_at_its_edge; end = end_at_its_edge }
