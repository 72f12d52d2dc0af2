-- What the crate's private functions promise. No public promise names these.
use Rattle.std.specs.Prelude.{◌≡◌, Bool, true, false, not, cond, ◌&&◌, List, [], ℕ, ◌+◌, ◌≤◌, ◌<◌, eqb, leb, ltb, length}
use Rattle.std.proofs.lemmas.List.Edits.{sets}
use Rattle.event.specs.declared.event.Call as call
use Rattle.event.specs.declared.event.Call.TheVariants.{Tick, Setting, Request, Reading}
use Rattle.history.specs.declared.Event.{Event}
use Rattle.history.specs.Event.{asks_summary}
use Rattle.summary.specs.Summary.{quarters}
use Rattle.summary.specs.declared.cells.Summary.{Summary}
use Rattle.playback.specs.Lines.{refused_line}
use Rattle.playback.specs.Event.{outcome_of, line_of, summary_after}
use Rattle.playback.specs.Run.{longest_history, step, run_after, lines_of}
use Rattle.playback.specs.Filling.{longest_line}
use Rattle.playback.specs.declared.run.Run.{Run}
use Rattle.playback.specs.declared.run.Walk.{Walk}
use Rattle.playback.specs.declared.run.Listed.{Listed}
use Rattle.playback.specs.declared.run.Filling.{Filling}

-- the bytes ws were stored from place `at` on, and `next` is the place after them
pub record Puts (ws buf : List ℕ) (at : ℕ) (buf' : List ℕ) (next : ℕ) : Type 0 where
  pub stores : buf' ≡ sets buf at ws
  pub place : next ≡ at + length ws

abbrev pub is_reading : call.Call → Bool
is_reading Tick = false
is_reading (Setting s u) = false
is_reading (Request r) = false
is_reading Reading = true

-- the line of a refusal; 0 stands for none
unfoldable pub refusal_line : ℕ → List ℕ
refusal_line n = cond (eqb n 0) [] (refused_line n)

-- the event e ran, its line was put, and the summary was moved that was lent
pub record RunsEvent (w : Walk) (m : Summary) (e : Event) (buf buf' : List ℕ) (m' : Summary) (now : Walk) : Type 0 where
  pub line : Puts (line_of w.clock e) buf w.at buf' now.at
  pub small : length (line_of w.clock e) ≤ longest_line
  pub stands : now ≡ record { clock = (outcome_of w.clock e).clock; place = w.place; ended = w.ended; at = now.at }
  pub counts : m' ≡ summary_after w.clock e m

-- the run whose events have come so far, and whose summary is apart
abbrev pub standing : Walk → Summary → ℕ → Run
standing w m q = record { clock = w.clock; place = w.place; ended = w.ended; quarter = q; summary = m }

-- there may be an event of s to run
pub record AtEvent (s : List ℕ) (w : Walk) : Type 0 where
  pub going : w.ended ≡ false
  pub before : w.place < length s
  pub fits : length s ≤ longest_history

-- a step of a run was made, and its line was put
pub record Steps (s : List ℕ) (run : Run) (buf : List ℕ) (at : ℕ) (buf' : List ℕ) (now : Run) (next : ℕ) : Type 0 where
  pub line : Puts (step s run).line buf at buf' next
  pub small : length (step s run).line ≤ longest_line
  pub stands : now ≡ (step s run).run

-- the step of an event, whatever quarter-hour is next
abbrev pub Advances : List ℕ → Walk → Summary → (buf buf' : List ℕ) → Walk → Summary → Type 0
Advances s w m buf buf' w' m' = (q : ℕ) → Steps s (standing w m q) buf w.at buf' (standing w' m' q) w'.at

-- after k steps from `run` the run has not ended, and of `room` bytes enough are left for one more line,
-- where the lines of the steps began at `at`
pub record Going (s : List ℕ) (run : Run) (room at k : ℕ) : Type 0 where
  pub going : (run_after k s run).ended ≡ false
  pub enough : at + length (lines_of k s run) + longest_line ≤ room

-- some steps were made, as long as there was room, and their lines were put
pub record Made (s : List ℕ) (run : Run) (buf : List ℕ) (at : ℕ) (buf' : List ℕ) (now : Run) (next : ℕ) : Type 0 where
  pub steps : ℕ
  pub onward : (k : ℕ) → k < steps → Going s run (length buf) at k
  pub stands : now ≡ run_after steps s run
  pub lines : Puts (lines_of steps s run) buf at buf' next
  pub within : next ≤ length buf

-- the steps of events, whatever quarter-hour is next
abbrev pub RunsEvents : List ℕ → Walk → Summary → (buf buf' : List ℕ) → Walk → Summary → Type 0
RunsEvents s w m buf buf' w' m' = (q : ℕ) → Made s (standing w m q) buf w.at buf' (standing w' m' q) w'.at

-- whether the events of s go on, where there is room for a line up to the place `last`
abbrev pub goes_on : List ℕ → Walk → ℕ → Bool
goes_on s w last = (not w.ended && ltb w.place (length s)) && leb w.at last

-- the run at a quarter-hour
abbrev pub at_quarter : Run → ℕ → Run
at_quarter r q = record { clock = r.clock; place = r.place; ended = r.ended; quarter = q; summary = r.summary }

-- a run has come to the end of a history that asks for the summary, and m is its summary
pub record Summing (s : List ℕ) (r : Run) (m : Summary) : Type 0 where
  pub fits : length s ≤ longest_history
  pub going : r.ended ≡ false
  pub over : length s ≤ r.place
  pub asked : asks_summary s ≡ true
  pub summary : r.summary ≡ m

-- the lines of quarter-hours were put, whatever the history and the run
abbrev pub PutsQuarters : Summary → ℕ → List ℕ → ℕ → List ℕ → Listed → Type 0
PutsQuarters m first buf at buf' l =
    (s : List ℕ) (r : Run) → Summing s r m → Made s (at_quarter r first) buf at buf' (at_quarter r l.quarter) l.at

-- where quarter-hours end: at the last, or for want of room
abbrev pub lists_on : Listed → ℕ → Bool
lists_on l last = ltb l.quarter quarters && leb l.at last

-- the run at the end of a summary's lines, or before it
abbrev pub ending : Bool → Run → Run
ending ended r = record { clock = r.clock; place = r.place; ended = ended; quarter = r.quarter; summary = r.summary }

-- a call that was not refused, and wrote n bytes
abbrev pub filled : Run → ℕ → Filling
filled run n = record { refusal = 0; run = run; length = n }
