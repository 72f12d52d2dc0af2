-- The wrong replays do not meet the statement on the summary of a history: each fails one field of it,
-- computed.
use mathlib.Core.Path.{◌≡◌, refl, sym, ◌∙◌, ap}
use mathlib.Core.Bool.{false, cond}
use mathlib.Core.List.{List, []}
use Prim.Native.Nat.{ℕ, ◌<◌}
use native.Mathlib.Omega.{arith}
use lib.Dec.{ltb, eqb}
use lib.ListN.{length, get_or, length-replicate}
use Rattle.state.specs.Device.{device_of}
use Rattle.state.specs.State.{in_range}
use Rattle.request.specs.Request.{request_refusal, request_of}
use Rattle.number.specs.Reading.{leading_more, value_of, judged, number_at}
use Rattle.number.specs.Sequence.{then}
use Rattle.number.specs.Mapping.{unmapped}
use Rattle.history.specs.Event.{field_at, request_at, summary_at, arguments_at, event_at}
use Rattle.summary.specs.Summary.{with_offset}
use Rattle.summary.specs.declared.cells.Summary.{Summary}
use Rattle.playback.specs.Lines.{decimal_from, decimal, log_line, quarter_line, cell_line}
use Rattle.playback.specs.Event.{outcome_of, printed_by, printed, line_of, summary_after}
use Rattle.playback.specs.Run.{longest_history, step_at_end, step, run_after, lines_of, replay_of}
use Rattle.playback.specs.Summaries.{lines_from, EventsDone, Undecodable}
use Rattle.playback.specs.WrongKeepers.{unasked, damaged, too_long, WrongKeepers}
use Rattle.playback.specs.WrongRuns.{asked}
use Rattle.playback.proofs.Apart.{not_same, length_apart}
use Rattle.playback.proofs.Summaries.{summary_of_history}

-- the events have been run after the offset, or what is no event stands there
asked_done : EventsDone asked 2
unfolding device_of in_range request_refusal request_of leading_more value_of judged number_at then unmapped
    field_at request_at summary_at arguments_at event_at outcome_of summary_after step_at_end step run_after
asked_done = record { fits = omega arith; going = refl; over = omega arith; first = refl }

unasked_done : EventsDone unasked 1
unfolding device_of in_range request_refusal request_of leading_more value_of judged number_at then unmapped
    field_at request_at summary_at arguments_at event_at outcome_of summary_after step_at_end step run_after
unasked_done = record { fits = omega arith; going = refl; over = omega arith; first = refl }

damaged_there : Undecodable damaged 2 12
unfolding device_of in_range request_refusal request_of leading_more value_of judged number_at then unmapped
    field_at request_at summary_at arguments_at event_at outcome_of summary_after step_at_end step run_after
damaged_there = record { fits = omega arith; going = refl; before = omega arith; none = refl }

count_apart : {a b : Summary} → eqb (get_or a.counts 0 0) (get_or b.counts 0 0) ≡ false → a ≡ b → ⊥
count_apart e h = not_same e (ap (λ (m : Summary). get_or m.counts 0 0) h)

-- of the history that is too long it prints nothing
long : longest_history < length too_long
long = rw (length-replicate {A = ℕ} 65537 0x03) (omega arith)

nothing : (ws : List ℕ) → cond (ltb longest_history (length too_long)) [] ws ≡ []
nothing ws = refl

pub wrong_keepers : WrongKeepers
unfolding device_of in_range request_refusal request_of leading_more value_of judged number_at then unmapped
    field_at request_at summary_at arguments_at event_at with_offset decimal_from decimal log_line quarter_line cell_line
    outcome_of printed_by printed line_of summary_after step_at_end step run_after lines_of lines_from replay_of
wrong_keepers =
    record {
      counting = λ x. count_apart refl (x.steps 2 ∙ sym ((summary_of_history asked).steps 2));
      forgetting = λ x. count_apart refl (x.whole ∙ sym (summary_of_history asked).whole);
      silent = λ x. length_apart refl (x.printed 2 asked_done ∙ sym ((summary_of_history asked).printed 2 asked_done));
      unbidden = λ x. length_apart refl (x.printed 1 unasked_done ∙ sym ((summary_of_history unasked).printed 1 unasked_done));
      after = λ x. length_apart refl (x.logged 2 12 damaged_there ∙ sym ((summary_of_history damaged).logged 2 12 damaged_there));
      beyond = λ x. length_apart refl (sym (nothing (replay_of too_long).output) ∙ x.beyond long);
    }
