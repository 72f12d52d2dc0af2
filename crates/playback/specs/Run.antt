-- A run over a history, step by step, and the whole output of a history with the clock that it leaves.
-- Document 01, "Replay program".
use Rattle.std.specs.Prelude.{true, false, cond, ◌&&◌, List, [], ◌++◌, ℕ, zero, suc, ◌+◌, leb, ltb, length}
use Rattle.state.specs.Refusal.{refused_beyond}
use Rattle.state.specs.Device.{kind256}
use Rattle.state.specs.State.{fresh_clock}
use Rattle.state.specs.declared.state.Clock.{Clock}
use Rattle.history.specs.Event.{Found, found, refused, event_at, asks_summary}
use Rattle.summary.specs.Summary.{quarters, empty_summary}
use Rattle.summary.specs.declared.cells.Summary.{Summary}
use Rattle.playback.specs.Lines.{log_line, summary_line}
use Rattle.playback.specs.Event.{outcome_of, line_of, summary_after}
use Rattle.history.specs.declared.Event.{Event}
use Rattle.playback.specs.declared.run.Run.{Run}

-- the longest history, in bytes
abbrev pub longest_history : ℕ
longest_history = 65536

-- "from a fresh clock"; document 02: "replay and refused record readings use kind 0"; "It starts with all
-- cells zero"
abbrev pub start_of_run : Run
start_of_run = record { clock = fresh_clock kind256; place = 0; quarter = 0; ended = false; summary = empty_summary }

-- the run has ended where it stands, with the clock and the summary that it has
abbrev pub end_of : Run → Run
end_of r = record { clock = r.clock; place = r.place; quarter = r.quarter; ended = true; summary = r.summary }

-- the run after the event e, which ends before `next`
abbrev pub past : Run → Event → ℕ → Run
past r e next =
    record {
      clock = (outcome_of r.clock e).clock;
      place = next;
      quarter = r.quarter;
      ended = false;
      summary = summary_after r.clock e r.summary;
    }

-- the run after the line of its quarter-hour
abbrev pub past_quarter : Run → Run
past_quarter r =
    record { clock = r.clock; place = r.place; quarter = suc r.quarter; ended = false; summary = r.summary }

-- where a step leads, and the line that it prints, if it prints one
pub record Advanced : Type 0 where
  pub run : Run
  pub line : List ℕ

-- What stands at the run's place: an event runs, prints its line, and the run goes on after it; "undecodable
-- bytes print the line `log N at P`, P the place, from 0, of the event's first byte, and end the run".
abbrev pub step_at : Run → Found → Advanced
step_at r (found e next) = record { run = past r e next; line = line_of r.clock e }
step_at r (refused n) = record { run = end_of r; line = log_line n r.place }

-- The end of the bytes ends the run. Document 02, Req 08: the summary is printed "after the last event ..
-- when the first history event is the new code 4 ..: one line .. for each quarter-hour .., in order", each by
-- a step.
unfoldable pub step_at_end : List ℕ → Run → Advanced
step_at_end s r =
    cond (asks_summary s && ltb r.quarter quarters)
    (record { run = past_quarter r; line = summary_line r.summary r.quarter })
    (record { run = end_of r; line = [] })

-- One step of a run over s. One that has ended stays as it is. 13 "a history above 65,536 bytes": "for 13, P
-- is 65536 and nothing is run".
unfoldable pub step : List ℕ → Run → Advanced
step s r =
    cond r.ended (record { run = r; line = [] })
    (cond (ltb longest_history (length s)) (record { run = end_of r; line = log_line refused_beyond longest_history })
    (cond (leb (length s) r.place) (step_at_end s r)
    (step_at r (event_at s r.place))))

-- the run after k steps
unfoldable pub run_after : ℕ → List ℕ → Run → Run
run_after zero s r = r
run_after (suc k) s r = run_after k s (step s r).run

-- what k steps print, in order
unfoldable pub lines_of : ℕ → List ℕ → Run → List ℕ
lines_of zero s r = []
lines_of (suc k) s r = (step s r).line ++ lines_of k s (step s r).run

-- the quarter-hours that are printed, or are passed over without a line
abbrev pub quarters_asked : List ℕ → ℕ
quarters_asked s = cond (asks_summary s) quarters 0

-- the steps that end every run of a history from its start: an event has a byte at least, so that there are
-- no more of them than bytes; then those of the summary, where it is asked for; and one more step is the end
abbrev pub steps_to_end : List ℕ → ℕ
steps_to_end s = suc (length s + quarters_asked s)

-- all that a history prints, and the clock and the summary at its end
pub record Played : Type 0 where
  pub output : List ℕ
  pub clock : Clock
  pub summary : Summary

-- the replay of a history
unfoldable pub replay_of : List ℕ → Played
replay_of s =
    let end = run_after (steps_to_end s) s start_of_run in
    record { output = lines_of (steps_to_end s) s start_of_run; clock = end.clock; summary = end.summary }
