-- What the statements about runs shut out is shut out, computed.
use mathlib.Core.Path.{◌≡◌, refl, ap}
use mathlib.Core.Bool.{true, false, true≢false}
use mathlib.Core.Logic.{⊎_elim}
use Prim.Native.Nat.{ℕ, zero, suc}
use native.Mathlib.Omega.{arith}
use lib.Dec.{eqb}
use lib.ListN.{length, get_or}
use Rattle.calendar.specs.Calendar.{date_of}
use Rattle.state.specs.Device.{device_of}
use Rattle.state.specs.State.{in_range}
use Rattle.clock.specs.Reading.{reading_refusal, told_of}
use Rattle.number.specs.Reading.{leading_more, value_of, judged, number_at}
use Rattle.number.specs.Sequence.{then}
use Rattle.label.specs.Label.{label_of}
use Rattle.request.specs.Request.{request_refusal, request_of}
use Rattle.number.specs.Mapping.{unmapped}
use Rattle.history.specs.Event.{field_at, request_at, summary_at, arguments_at, event_at}
use Rattle.summary.specs.Summary.{with_offset}
use Rattle.playback.specs.Lines.{decimal_from, decimal, print_line, quarter_line, cell_line}
use Rattle.playback.specs.Event.{outcome_of, printed_by, printed, line_of, summary_after}
use Rattle.playback.specs.Run.{Played, start_of_run, step_at_end, step, run_after, lines_of, replay_of}
use Rattle.playback.specs.Filling.{Fills}
use Rattle.playback.specs.WrongRuns.{one_print, at_end, blank, answer, WrongFills, WrongRepeats}
use Rattle.playback.specs.declared.run.Run.{Run}
use Rattle.playback.specs.declared.run.Filling.{Filling}
use Rattle.playback.proofs.OneFill.{one_fill}
use Rattle.playback.proofs.OnePrint.{first_call, second_call, one_step}
use Rattle.bounds.proofs.ShutOut.{not_most}
use Rattle.playback.proofs.Apart.{not_same, length_apart, byte_apart}

ended_apart : {a b : Run} → a.ended ≡ true → b.ended ≡ false → a ≡ b → ⊥
ended_apart t f e = true≢false (cc)

place_apart : {a b : Filling} → eqb a.run.place b.run.place ≡ false → a ≡ b → ⊥
place_apart e h = not_same e (ap (λ (r : Filling). r.run.place) h)

by_silent : (f : Fills one_print start_of_run (blank 60) (blank 60) (answer 0 at_end 0)) (k : ℕ)
    → f.steps ≡ k → ⊥
unfolding device_of date_of in_range reading_refusal told_of leading_more value_of judged number_at then
    summary_at arguments_at event_at label_of decimal_from decimal print_line outcome_of printed_by printed line_of summary_after step_at_end step run_after
    lines_of
by_silent f zero e = ended_apart refl refl (rw e at f.stands)
by_silent f (suc k) e = byte_apart 0 refl (rw e at f.written)

pub wrong_fills : WrongFills
unfolding device_of date_of in_range reading_refusal told_of leading_more value_of judged number_at then
    summary_at arguments_at event_at label_of decimal_from decimal print_line outcome_of printed_by printed line_of summary_after step_at_end step run_after
    lines_of
wrong_fills =
    record {
      refusing = λ f. not_same refl f.refusal;
      idle = λ f. ⊎_elim (λ t. true≢false (cc)) (λ h. not_most refl h) f.stopped;
      crowded = λ f. ended_apart refl refl (ap (λ (r : Filling). r.run) (one_fill.alike f first_call).answer);
      late = λ f h. omega (arith, (one_fill.alike f second_call).steps, one_step);
      stuck = λ f. place_apart refl (one_fill.alike f first_call).answer;
      unwritten = λ f. byte_apart 0 refl (one_fill.alike f first_call).left;
      silent = λ f. by_silent f f.steps refl;
      spilling = λ f. byte_apart 0 refl f.later;
      growing = λ f. not_same refl f.same;
      overrun = λ f. not_most refl f.within;
    }

output_apart : {a b : Played} → eqb (length a.output) (length b.output) ≡ false → a ≡ b → ⊥
output_apart e h = length_apart e (ap (λ (p : Played). p.output) h)

kind_apart : {a b : Played} → eqb a.clock.kind b.clock.kind ≡ false → a ≡ b → ⊥
kind_apart e h = not_same e (ap (λ (p : Played). p.clock.kind) h)

counts_apart : {a b : Played} → eqb (get_or a.summary.counts 0 0) (get_or b.summary.counts 0 0) ≡ false → a ≡ b → ⊥
counts_apart e h = not_same e (ap (λ (p : Played). get_or p.summary.counts 0 0) h)

pub wrong_repeats : WrongRepeats
unfolding device_of date_of in_range reading_refusal told_of request_refusal request_of unmapped field_at request_at leading_more value_of judged number_at then quarter_line cell_line
    summary_at arguments_at event_at label_of decimal_from decimal print_line outcome_of printed_by printed line_of summary_after step_at_end step run_after
    lines_of replay_of with_offset
wrong_repeats =
    record {
      endless = λ r. true≢false (cc (r.ends (omega arith)));
      silent = λ r. output_apart refl (r.whole refl);
      elsewhere = λ r. kind_apart refl (r.whole refl);
      endless_asked = λ r. true≢false (cc (r.ends (omega arith)));
      silent_asked = λ r. output_apart refl (r.whole refl);
      counted = λ r. counts_apart refl (r.whole refl);
    }
