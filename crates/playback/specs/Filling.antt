-- What a call that goes on with a run promises: which steps it makes, and what it leaves in the lent buffer.
use Rattle.std.specs.Prelude.{◌≡◌, true, false, not, cond, ◌&&◌, List, ◌⊎◌, ℕ, ◌+◌, ◌≤◌, ◌<◌, ltb, length, take, drop}
use Rattle.state.specs.Refusal.{refused_room}
use Rattle.playback.specs.Run.{longest_history, run_after, lines_of}
use Rattle.playback.specs.declared.run.Run.{Run}
use Rattle.playback.specs.declared.run.RunLimits.{RunLimits}
use Rattle.playback.specs.declared.run.Filling.{Filling}

-- the longest line, in bytes: a print
abbrev pub longest_line : ℕ
longest_line = 30

abbrev pub run_limits : RunLimits
run_limits = record { history = longest_history; line = longest_line }

-- 14 "lent buffer shorter than what is to be written": up to a line, but nothing once the run has ended
abbrev pub fill_refusal : Run → ℕ → ℕ
fill_refusal run room = cond (not run.ended && ltb room longest_line) refused_room 0

-- after k steps from `run` the run has not ended, and `room` bytes are enough for one more line
pub record GoesOn (s : List ℕ) (run : Run) (room k : ℕ) : Type 0 where
  pub going : (run_after k s run).ended ≡ false
  pub enough : length (lines_of k s run) + longest_line ≤ room

-- a run over s stood at `run`, and the call with the lent buffer `buf` answered r and left it as `buf'`
pub record Fills (s : List ℕ) (run : Run) (buf buf' : List ℕ) (r : Filling) : Type 0 where
  pub refusal : r.refusal ≡ fill_refusal run (length buf)
  -- So many steps were made: the call goes on as long as it can. There are none exactly where the run had
  -- ended or the call is refused.
  pub steps : ℕ
  pub onward : (k : ℕ) → k < steps → GoesOn s run (length buf) k
  pub stopped : (r.run.ended ≡ true) ⊎ (length buf < r.length + longest_line)
  -- the run handed back is the run after them
  pub stands : r.run ≡ run_after steps s run
  -- their lines are the first bytes of the buffer, and later bytes stay
  pub written : take r.length buf' ≡ lines_of steps s run
  pub later : drop r.length buf' ≡ drop r.length buf
  pub same : length buf' ≡ length buf
  -- what a caller needs for `&buf[..r.length]`
  pub within : r.length ≤ length buf'
  pub part : r.length ≡ length (take r.length buf')

-- There is no choice: of two answers to one call, with the buffers that they leave, the one is the other.
pub record Alike {s : List ℕ} {run : Run} {buf b₁ b₂ : List ℕ} {r₁ r₂ : Filling}
    (f : Fills s run buf b₁ r₁) (g : Fills s run buf b₂ r₂) : Type 0 where
  pub steps : f.steps ≡ g.steps
  pub answer : r₁ ≡ r₂
  pub left : b₁ ≡ b₂

pub record OneFill : Type 0 where
  pub alike : {s : List ℕ} {run : Run} {buf b₁ b₂ : List ℕ} {r₁ r₂ : Filling}
      (f : Fills s run buf b₁ r₁) (g : Fills s run buf b₂ r₂) → Alike f g
