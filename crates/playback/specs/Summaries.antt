-- The summary of a history, and the lines that are printed of it. Document 02, Req 08: "After any history it
-- must equal the summary worked out afresh from that history. .. The replay program prints it after the last
-- event (not if a `log` line ended the run) when the first history event is the new code 4".
use Rattle.std.specs.Prelude.{◌≡◌, false, cond, List, [], ◌++◌, ℕ, zero, suc, ◌<◌, ◌≤◌, length}
use Rattle.state.specs.Device.{kind256}
use Rattle.state.specs.State.{fresh_clock}
use Rattle.state.specs.Refusal.{refused_beyond}
use Rattle.history.specs.Event.{refused, event_at, asks_summary}
use Rattle.event.specs.declared.event.Event as call
use Rattle.summary.specs.Summary.{quarters}
use Rattle.summary.specs.Afresh.{taken_among, afresh}
use Rattle.summary.specs.declared.cells.Summary.{Summary}
use Rattle.playback.specs.Lines.{log_line, summary_line}
use Rattle.playback.specs.Run.{longest_history, Played, start_of_run, run_after, lines_of, replay_of}
use Rattle.playback.specs.Calls.{calls_of_first, all_calls}

-- worked out afresh from a list of calls on a fresh clock of kind 0
abbrev pub summary_of_calls : List call.Event → Summary
summary_of_calls calls = afresh (taken_among (fresh_clock kind256) calls)

-- What keeps the summary of a history: that of its run over s after k steps, and what the replay comes to.
pub record Keeper : Type 0 where
  pub after : ℕ → List ℕ → Summary
  pub played : List ℕ → Played

-- The replay by the rules.
abbrev pub keeper : Keeper
keeper = record { after = λ k s. (run_after k s start_of_run).summary; played = replay_of }

-- the lines of n quarter-hours, from q on; and of all, in order
unfoldable pub lines_from : Summary → ℕ → ℕ → List ℕ
lines_from m q zero = []
lines_from m q (suc n) = summary_line m q ++ lines_from m (suc q) n

abbrev pub summary_lines : Summary → List ℕ
summary_lines m = lines_from m 0 quarters

-- after k steps of a run over s the last event has been run
pub record EventsDone (s : List ℕ) (k : ℕ) : Type 0 where
  pub fits : length s ≤ longest_history
  pub going : (run_after k s start_of_run).ended ≡ false
  pub over : length s ≤ (run_after k s start_of_run).place
  -- and no quarter-hour has been printed yet
  pub first : (run_after k s start_of_run).quarter ≡ 0

-- after k steps of a run over s bytes stand at its place that hold no event, with their number
pub record Undecodable (s : List ℕ) (k n : ℕ) : Type 0 where
  pub fits : length s ≤ longest_history
  pub going : (run_after k s start_of_run).ended ≡ false
  pub before : (run_after k s start_of_run).place < length s
  pub none : event_at s (run_after k s start_of_run).place ≡ refused n

-- what is said of the summary of a history
pub record SummaryOfHistory (x : Keeper) (s : List ℕ) : Type 0 where
  -- after each step it is the one worked out afresh from the calls so far, and at the end from all
  pub steps : (k : ℕ) → x.after k s ≡ summary_of_calls (calls_of_first k s)
  pub whole : (x.played s).summary ≡ summary_of_calls (all_calls s)
  -- its lines follow those of the events where it is asked for, and else nothing does
  pub printed : (k : ℕ) → EventsDone s k
      → (x.played s).output ≡ lines_of k s start_of_run ++ cond (asks_summary s) (summary_lines (summary_of_calls (all_calls s))) []
  -- after `log` nothing does
  pub logged : (k n : ℕ) → Undecodable s k n
      → (x.played s).output ≡ lines_of k s start_of_run ++ log_line n (run_after k s start_of_run).place
  -- and of a history that is too long that line is all
  pub beyond : longest_history < length s → (x.played s).output ≡ log_line refused_beyond longest_history

abbrev pub SummaryOfEveryHistory : Type 0
SummaryOfEveryHistory = (s : List ℕ) → SummaryOfHistory keeper s

-- every history comes to one of these three, so that one of the three fields above says what it prints
pub data Comes (s : List ℕ) : Type 0 where
  too_long : longest_history < length s → Comes s
  done : (k : ℕ) → EventsDone s k → Comes s
  stops : (k n : ℕ) → Undecodable s k n → Comes s

abbrev pub EveryHistoryComes : Type 0
EveryHistoryComes = (s : List ℕ) → Comes s
