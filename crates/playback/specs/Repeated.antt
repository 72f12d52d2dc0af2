-- A history that is replayed by repeated calls of `fill`, whatever buffers they are lent.
use Rattle.std.specs.Prelude.{◌≡◌, true, List, [], ◌++◌, ℕ, zero, suc, ◌+◌, ◌≤◌, ◌<◌, length, take}
use Rattle.playback.specs.Run.{start_of_run, quarters_asked, replay_of}
use Rattle.playback.specs.Filling.{longest_line, Fills}
use Rattle.playback.specs.declared.run.Run.{Run}
use Rattle.playback.specs.declared.run.Filling.{Filling}

-- So many calls that go on with a run over s, each from where the one before left it and with room for a
-- line; all that they wrote; and where they left the run.
pub data Repeated (s : List ℕ) : ℕ → Run → List ℕ → Run → Type 0 where
  none : {run : Run} → Repeated s zero run [] run
  more : {n : ℕ} {run end : Run} {buf buf' ws : List ℕ} {r : Filling} → longest_line ≤ length buf → Fills s run buf buf' r
      → Repeated s n r.run ws end → Repeated s (suc n) run (take r.length buf' ++ ws) end

-- n calls wrote ws and left a run over s at `end`
pub record Replays (s : List ℕ) (n : ℕ) (ws : List ℕ) (end : Run) : Type 0 where
  -- it has ended after more calls than the history has bytes, and 96 more where it asks for the summary, if
  -- not before
  pub ends : length s + quarters_asked s < n → end.ended ≡ true
  -- and then all that was written is the output of the history, and its clock and summary are those that the
  -- history leaves
  pub whole : end.ended ≡ true → replay_of s ≡ record { output = ws; clock = end.clock; summary = end.summary }

-- repeating the call ends, and gives the replay of the history
abbrev pub RepeatedCallsReplay : Type 0
RepeatedCallsReplay = (s : List ℕ) (n : ℕ) (ws : List ℕ) (end : Run) → Repeated s n start_of_run ws end → Replays s n ws end
