-- The wrong replays do not meet demand 3 of a history: each fails one field of it, computed.
use mathlib.Core.Path.{◌≡◌, refl, ap}
use mathlib.Core.Bool.{false}
use mathlib.Core.List.{[], ◌∷◌}
use native.Mathlib.Omega.{arith}
use lib.Dec.{eqb}
use lib.ListN.{length}
use Rattle.calendar.specs.Calendar.{date_of}
use Rattle.state.specs.Device.{device_of}
use Rattle.state.specs.State.{in_range}
use Rattle.state.specs.declared.state.Clock.{Clock}
use Rattle.clock.specs.Rollover.{rolled_over}
use Rattle.clock.specs.Tick.{unit_in, ticked, tick_refusal, tick_of}
use Rattle.clock.specs.Reading.{reading_refusal, told_of}
use Rattle.clock.specs.Ticks.{ran_of, ticks_of}
use Rattle.clock.specs.declared.reading.Reading as shows
use Rattle.number.specs.Reading.{leading_more, value_of, judged, number_at}
use Rattle.number.specs.Sequence.{then}
use Rattle.label.specs.Label.{label_of}
use Rattle.event.specs.declared.event.Call.TheVariants.{Tick}
use Rattle.event.specs.declared.event.Event.TheVariants.{Call as single}
use Rattle.bounds.specs.Calls.{after_by, count_among_by, none_among_by}
use Rattle.bounds.specs.Singly.{single_ticks, singly_from, as_events}
use Rattle.bounds.specs.Measure.{measure_of}
use Rattle.history.specs.Event.{ticks_at, summary_at, arguments_at, event_at}
use Rattle.playback.specs.Lines.{decimal_from, decimal, print_line}
use Rattle.playback.specs.Event.{outcome_of, printed_by, printed, line_of, summary_after}
use Rattle.playback.specs.Run.{step_at_end, step, run_after}
use Rattle.playback.specs.Calls.{calls_from, calls_of_first, joined, PrintAt}
use Rattle.playback.specs.WrongReplays.{lone_print, print_between, WrongReplays}
use Rattle.bounds.proofs.ShutOut.{not_most}
use Rattle.playback.proofs.Apart.{not_same, length_apart, byte_apart}

micros_apart : {a b : Clock} → eqb a.micros.0 b.micros.0 ≡ false → a ≡ b → ⊥
micros_apart e h = not_same e (ap (λ (c : Clock). c.micros.0) h)

shown_apart : {a b : shows.Reading} → eqb a.micros.0 b.micros.0 ≡ false → a ≡ b → ⊥
shown_apart e h = not_same e (ap (λ (c : shows.Reading). c.micros.0) h)

-- the event between the ticks is a print, and so is one alone
print_between_lem : PrintAt print_between 1
unfolding leading_more value_of judged number_at then ticks_at summary_at arguments_at event_at step_at_end step run_after
print_between_lem = record { fits = omega arith; going = refl; next = 3; print = refl }

print_alone : PrintAt lone_print 0
unfolding leading_more value_of judged number_at then summary_at arguments_at event_at run_after
print_alone = record { fits = omega arith; going = refl; next = 1; print = refl }

pub wrong_replays : WrongReplays
unfolding device_of measure_of date_of in_range rolled_over unit_in ticked tick_refusal tick_of reading_refusal
    told_of ran_of ticks_of leading_more value_of judged number_at then ticks_at summary_at arguments_at event_at label_of
    decimal_from decimal print_line outcome_of printed_by printed line_of summary_after step_at_end step run_after after_by count_among_by
    none_among_by single_ticks singly_from as_events calls_from calls_of_first joined
wrong_replays =
    record {
      idling = λ d. not_most refl (d.demand.third [] (single Tick ∷ []) [] refl refl);
      nothing = λ d. micros_apart refl d.clock;
      nothing_printed = λ d. length_apart refl (d.prints 0 print_alone).line;
      forgetting = λ d. micros_apart refl d.clock;
      staying = λ d. micros_apart refl (d.clocks 1);
      unlisted = λ a. omega (arith, ap length a.among);
      printing = λ d. byte_apart 23 refl (d.prints 1 print_between_lem).line;
      silent = λ d. length_apart refl d.output;
      refusing = λ d. not_same refl (d.prints 1 print_between_lem).refusal;
      zeros = λ d. shown_apart refl (d.prints 1 print_between_lem).reading;
    }
