-- Replays that the statement on the summary of a history shuts out, each at one history and by the field
-- that it stands for.
use Rattle.std.specs.Prelude.{cond, List, [], ◌∷◌, ◌++◌, ℕ, ltb, length, replicate}
use Rattle.history.specs.Event.{asks_summary}
use Rattle.summary.specs.Summary.{empty_summary}
use Rattle.summary.specs.declared.cells.Summary.{Summary}
use Rattle.playback.specs.Run.{longest_history, replay_of}
use Rattle.playback.specs.WrongRuns.{asked}
use Rattle.playback.specs.Summaries.{Keeper, keeper, summary_lines, SummaryOfHistory}

-- an offset of 1 us is accepted where the summary is not asked for, and before bytes that hold no event; and
-- a history that is too long
abbrev pub unasked : List ℕ
unasked = 0x02 ∷ 0x01 ∷ 0x02 ∷ []

abbrev pub damaged : List ℕ
damaged = 0x04 ∷ 0x02 ∷ 0x01 ∷ 0x02 ∷ 0x05 ∷ []

abbrev pub too_long : List ℕ
too_long = replicate 65537 0x03

-- its run counts nothing
abbrev pub counts_nothing : Keeper
counts_nothing = record { after = λ k s. empty_summary; played = replay_of }

-- it comes to another summary, or prints otherwise
abbrev pub leaves : (List ℕ → Summary) → Keeper
leaves summary =
    record {
      after = keeper.after;
      played = λ s. record { output = (replay_of s).output; clock = (replay_of s).clock; summary = summary s };
    }

abbrev pub prints : (List ℕ → List ℕ) → Keeper
prints output =
    record {
      after = keeper.after;
      played = λ s. record { output = output s; clock = (replay_of s).clock; summary = (replay_of s).summary };
    }

-- what is printed, and then the lines of the summary
abbrev pub and_lines : List ℕ → List ℕ
and_lines s = (replay_of s).output ++ summary_lines (replay_of s).summary

pub record WrongKeepers : Type 0 where
  pub counting : SummaryOfHistory counts_nothing asked → ⊥
  pub forgetting : SummaryOfHistory (leaves (λ s. empty_summary)) asked → ⊥
  -- it prints nothing where the summary is asked for
  pub silent : SummaryOfHistory (prints (λ s. cond (asks_summary s) [] (replay_of s).output)) asked → ⊥
  -- it prints the summary where nobody asked
  pub unbidden : SummaryOfHistory (prints (λ s. cond (asks_summary s) (replay_of s).output (and_lines s))) unasked → ⊥
  -- it prints the summary after `log`
  pub after : SummaryOfHistory (prints and_lines) damaged → ⊥
  -- it prints nothing of a history that is too long
  pub beyond : SummaryOfHistory (prints (λ s. cond (ltb longest_history (length s)) [] (replay_of s).output)) too_long → ⊥
