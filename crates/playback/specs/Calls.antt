-- A history as a list of single calls, so that what holds of every list of events (demand 3) holds of every
-- history that is replayed.
use Rattle.std.specs.Prelude.{◌≡◌, false, cond, List, [], ◌∷◌, ◌++◌, ℕ, zero, suc, ◌≤◌, leb, ltb, length}
use Rattle.state.specs.Device.{kind256}
use Rattle.state.specs.declared.state.Clock.{Clock}
use Rattle.clock.specs.Reading.{shown}
use Rattle.event.specs.Event.{step_of}
use Rattle.event.specs.declared.event.Call.TheVariants.{Reading}
use Rattle.event.specs.declared.event.Event as call
use Rattle.event.specs.declared.event.Event.TheVariants.{Call as single}
use Rattle.bounds.specs.Calls.{Answers, clock_by}
use Rattle.bounds.specs.Singly.{single_ticks, as_events}
use Rattle.bounds.specs.Demand.{Demand3}
use Rattle.history.specs.Event.{Found, found, refused, event_at}
use Rattle.history.specs.declared.Event.{Event}
use Rattle.history.specs.declared.Event.TheVariants.{Ticks, Summary, Call}
use Rattle.playback.specs.Lines.{print_line}
use Rattle.playback.specs.Run.{longest_history, Played, start_of_run, step, run_after, steps_to_end, replay_of}

-- The calls of an event: "`0 n` up to n single ticks". Where one is refused, those after it are refused too
-- and change nothing. To ask for the summary is none.
abbrev pub calls_of_event : Event → List call.Event
calls_of_event (Ticks n) = as_events (single_ticks n)
calls_of_event Summary = []
calls_of_event (Call e) = single e ∷ []

-- the calls of what stands at a place, and then those of the rest; there are none in undecodable bytes, nor
-- after them
abbrev pub calls_as : (ℕ → List call.Event) → Found → List call.Event
calls_as rest (found e next) = calls_of_event e ++ rest next
calls_as rest (refused n) = []

-- the calls of the next k events, from place `at` of s on
unfoldable pub calls_from : ℕ → List ℕ → ℕ → List call.Event
calls_from zero s at = []
calls_from (suc k) s at = cond (leb (length s) at) [] (calls_as (calls_from k s) (event_at s at))

-- the calls of a history's first k events; "for 13 .. nothing is run"
unfoldable pub calls_of_first : ℕ → List ℕ → List call.Event
calls_of_first k s = cond (ltb longest_history (length s)) [] (calls_from k s 0)

-- the calls of a whole history
abbrev pub all_calls : List ℕ → List call.Event
all_calls s = calls_of_first (steps_to_end s) s

-- the clock after the calls of the first k events, by what answers them
abbrev pub clock_at : Answers → ℕ → List ℕ → Clock
clock_at answers k s = clock_by answers kind256 (calls_of_first k s)

-- What replays histories, so that what is owed below can be stated of whatever does: the clock that its run
-- over s has after k steps, the line of the step after them, and what it comes to. Which calls a history has,
-- and which of its steps are prints, is not its choice.
pub record Replayer : Type 0 where
  pub after : ℕ → List ℕ → Clock
  pub line : ℕ → List ℕ → List ℕ
  pub played : List ℕ → Played

-- The replay by the rules.
abbrev pub replayer : Replayer
replayer =
    record {
      after = λ k s. (run_after k s start_of_run).clock;
      line = λ k s. (step s (run_after k s start_of_run)).line;
      played = replay_of;
    }

-- the lines of the first k steps, one after the other
unfoldable pub joined : ℕ → (ℕ → List ℕ) → List ℕ
joined zero line = []
joined (suc k) line = joined k line ++ line k

-- the step after k others of a run over s is a print
pub record PrintAt (s : List ℕ) (k : ℕ) : Type 0 where
  pub fits : length s ≤ longest_history
  pub going : (run_after k s start_of_run).ended ≡ false
  pub next : ℕ
  pub print : event_at s (run_after k s start_of_run).place ≡ found (Call Reading) next

-- a reading stands in the list of a history's calls right after those of the first k events, for whatever
-- lists them
pub record Among (calls : ℕ → List ℕ → List call.Event) (s : List ℕ) (k : ℕ) : Type 0 where
  pub later : List call.Event
  pub among : calls (steps_to_end s) s ≡ calls k s ++ (single Reading ∷ later)

-- A print's line shows what the reading tells that stands for it in the list of the history's calls.
pub record Tells (answers : Answers) (x : Replayer) (s : List ℕ) (k : ℕ) : Type 0 where
  pub listed : Among calls_of_first s k
  -- the reading is accepted, and tells what the clock shows that the line prints
  pub refusal : (answers (clock_at answers k s) (single Reading)).refusal ≡ 0
  pub reading : (answers (clock_at answers k s) (single Reading)).reading ≡ shown (clock_at answers k s)
  pub line : x.line k s ≡ print_line (clock_at answers k s)

-- Demand 3 of a history that is replayed, on a clock of kind 0, by what answers the calls.
pub record Demand3OfHistory (answers : Answers) (x : Replayer) (s : List ℕ) : Type 0 where
  pub demand : Demand3 answers kind256 (all_calls s)
  -- the clock that the replay leaves is the clock after the calls, and so is the clock at each step
  pub clock : (x.played s).clock ≡ clock_by answers kind256 (all_calls s)
  pub clocks : (k : ℕ) → x.after k s ≡ clock_at answers k s
  pub prints : (k : ℕ) → PrintAt s k → Tells answers x s k
  -- what is printed is the lines of the steps, and nothing else
  pub output : (x.played s).output ≡ joined (steps_to_end s) (λ k. x.line k s)

abbrev pub Demand3OfEveryHistory : Type 0
Demand3OfEveryHistory = (s : List ℕ) → Demand3OfHistory step_of replayer s
