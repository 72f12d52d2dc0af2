-- `playback::Walk::run_event` meets its contract: many ticks with the line of their refusal, nothing, or a
-- call.
use mathlib.Core.Path.{refl, ◌∙◌, ap}
use native.Mathlib.Omega.{arith}
use Rattle.state.specs.declared.outcome.Outcome.{Outcome}
use Rattle.playback.specs.Event.{outcome_of, printed, line_of, summary_after}
use Rattle.playback.specs.Inner.{refusal_line}
use Rattle.playback.proofs.Buffers.{puts_none, puts_as}
use Rattle.playback.proofs.LineLaws.{refusal_small, line_ticks}
use Rattle.playback.proofs.run.Walk.run_event.Goals as goal

pub returns-in-Ticks : goal.returns-in-Ticks
unfolding outcome_of summary_after
returns-in-Ticks c =
    let o = c.run_ticks-o in
    let e = ap (λ (x : Outcome). refusal_line x.refusal) o.ensures ∙ line_ticks c.args.self.clock c.in-Ticks.n in
    rw c.in-Ticks.is (record {
      line = puts_as e c.put_refused-at.ensures;
      small = rw (← e) (refusal_small o.result.refusal (omega arith));
      stands = rw o.ensures;
      counts = refl;
    })

pub returns-in-Summary : goal.returns-in-Summary
unfolding outcome_of printed line_of summary_after
returns-in-Summary c =
    let a = c.args in
    rw c.in-Summary.is (record { line = puts_none a.out.now a.self.at; small = omega arith; stands = refl; counts = refl })
