-- `playback::Walk::run_call` meets its contract: the line of an accepted reading, which is a print, or that
-- of a refusal; and the summary moved by the call.
use mathlib.Core.Path.{◌≡◌, sym, ◌∙◌, ap}
use mathlib.Core.Bool.{true, false, ◌&&◌}
use native.Mathlib.Omega.{arith}
use lib.Dec.{eqb}
use borrow.Author.Tests.{ne_eqb}
use Rattle.event.specs.Event.{answer_of}
use Rattle.event.specs.declared.event.Stepped.{Stepped}
use Rattle.playback.specs.Event.{outcome_of, summary_after}
use Rattle.playback.specs.Inner.{is_reading, refusal_line}
use Rattle.playback.proofs.Buffers.{puts_as}
use Rattle.playback.proofs.LineLaws.{print_small, refusal_small, reading_sound, line_print, line_call}
use Rattle.playback.proofs.run.Walk.run_call.Goals.{Then-answer-eq0}
use Rattle.playback.proofs.run.Walk.run_call.Goals.{else-is_reading-via-then-is_reading+else-answer-eq0, else-is_reading-via-else-is_reading}
use Rattle.playback.proofs.run.Walk.run_call.Goals as goal

-- the call is a reading, and it was accepted
accepted : (c : Then-answer-eq0) → let a = c.args in
    (is_reading a.call ≡ true) × ((answer_of a.self.clock a.call).refusal ≡ 0)
accepted c =
    (sym c.is_reading.ensures ∙ c.if-is_reading.true, ap (λ (x : Stepped). x.refusal) (sym c.step_in_place-answer.ensures.value) ∙ c.if-answer-eq0.true)

pub put_print-at-requires : goal.put_print-at-requires
put_print-at-requires c =
    let a = accepted (goal.at.put_print-at-requires c).Then-answer-eq0 in
    (c.requires, reading_sound c.args.self.clock c.args.call a.0 a.1)

pub returns-then-answer-eq0 : goal.returns-then-answer-eq0
unfolding outcome_of summary_after
returns-then-answer-eq0 c =
    let clock = c.args.self.clock in
    let a = accepted (goal.at.returns-then-answer-eq0 c).Then-answer-eq0 in
    let e = line_print clock c.args.call a.0 a.1 in
    record {
      line = puts_as e c.put_print-at.ensures;
      small = rw (← e) (print_small clock (reading_sound clock c.args.call a.0 a.1));
      stands = rw c.step_in_place-answer.ensures.value;
      counts = c.step_in_place-answer.ensures.moved_in_place;
    }

pub returns : goal.returns
unfolding outcome_of summary_after
returns c =
    let clock = c.args.self.clock in
    let answer = c.step_in_place-answer in
    let other : (is_reading c.args.call && eqb (answer_of clock c.args.call).refusal 0) ≡ false =
    elim c.else-is_reading.branch [
      | else-is_reading-via-then-is_reading+else-answer-eq0 w ↦
          rw (sym c.is_reading.ensures ∙ w.if-is_reading.true) (ne_eqb _ _ (rw answer.ensures.value at w.if-answer-eq0.false))
      | else-is_reading-via-else-is_reading w ↦ rw (sym c.is_reading.ensures ∙ w.if-is_reading.false)
    ] in
    let e = ap (λ (x : Stepped). refusal_line x.refusal) answer.ensures.value ∙ line_call clock c.args.call other in
    record {
      line = puts_as e c.put_refused-at.ensures;
      small = rw (← e) (refusal_small answer.result.refusal (omega arith));
      stands = rw answer.ensures.value;
      counts = answer.ensures.moved_in_place;
    }
