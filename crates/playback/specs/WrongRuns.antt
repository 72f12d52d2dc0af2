-- Answers that the statements about runs shut out, each at a short history: what a call of `fill` may not
-- answer, what repeated calls may not come to. Each is named for the field that it breaks; a few break a
-- second one with it.
use Rattle.std.specs.Prelude.{true, false, List, [], ◌∷◌, ◌++◌, ℕ, ◌<◌, replicate}
use Rattle.state.specs.Device.{kind256, kind1024}
use Rattle.state.specs.State.{fresh_clock}
use Rattle.state.specs.declared.state.Clock.{Clock}
use Rattle.playback.specs.Lines.{print_line}
use Rattle.event.specs.declared.event.Call.TheVariants.{Reading}
use Rattle.history.specs.declared.Event.TheVariants.{Call}
use Rattle.summary.specs.Summary.{empty_summary, with_offset}
use Rattle.summary.specs.declared.cells.Summary.{Summary}
use Rattle.playback.specs.Run.{start_of_run, end_of, past, replay_of}
use Rattle.playback.specs.Filling.{Fills}
use Rattle.playback.specs.Repeated.{Replays}
use Rattle.playback.specs.declared.run.Run.{Run}
use Rattle.playback.specs.declared.run.Filling.{Filling}

-- a history of one event, a print
abbrev pub one_print : List ℕ
one_print = 0x03 ∷ []

-- its line, of 30 bytes
abbrev pub its_line : List ℕ
its_line = print_line (fresh_clock kind256)

-- where its run stands after the print, and where it has ended
abbrev pub after_print : Run
after_print = past start_of_run (Call Reading) 1

abbrev pub at_end : Run
at_end = end_of after_print

-- a run that has ended there with another clock or another summary
abbrev pub left : Clock → Summary → Run
left c m = record { clock = c; place = 1; ended = true; quarter = 0; summary = m }

-- a history that asks for the summary of nothing, and where its run stands before its last step
abbrev pub asking : List ℕ
asking = 0x04 ∷ []

abbrev pub listed : Run
listed = record { clock = fresh_clock kind256; place = 1; ended = false; quarter = 96; summary = empty_summary }

-- one that asks for that of an offset of 1 us, and where its run has ended
abbrev pub asked : List ℕ
asked = 0x04 ∷ 0x02 ∷ 0x01 ∷ 0x02 ∷ []

abbrev pub asked_end : Run
asked_end =
    record { clock = (replay_of asked).clock; place = 4; ended = true; quarter = 96; summary = (replay_of asked).summary }

-- a lent buffer of n bytes
abbrev pub blank : ℕ → List ℕ
blank n = replicate n 0

abbrev pub answer : ℕ → Run → ℕ → Filling
answer refusal run length = record { refusal = refusal; run = run; length = length }

-- What a call may not answer, and leave in the buffer.
pub record WrongFills : Type 0 where
  -- it refuses a run that has ended
  pub refusing : Fills one_print at_end [] [] (answer 14 at_end 0) → ⊥
  -- it writes nothing and does not go on, so that repeating it never ends
  pub idle : Fills one_print start_of_run (blank 30) (blank 30) (answer 0 start_of_run 0) → ⊥
  -- it goes on to the end of the bytes without room for one more line
  pub crowded : Fills one_print start_of_run (blank 30) its_line (answer 0 at_end 30) → ⊥
  -- it counts a step after the run has ended
  pub late : (f : Fills one_print after_print (blank 30) (blank 30) (answer 0 at_end 0)) → 1 < f.steps → ⊥
  -- it writes the line and does not go past the print, so that the line is written again
  pub stuck : Fills one_print start_of_run (blank 30) its_line (answer 0 start_of_run 30) → ⊥
  -- it goes past the print and does not write the line, though it tells its length
  pub unwritten : Fills one_print start_of_run (blank 30) (blank 30) (answer 0 after_print 30) → ⊥
  -- it says that the run has ended, and wrote no line
  pub silent : Fills one_print start_of_run (blank 60) (blank 60) (answer 0 at_end 0) → ⊥
  -- it changes a byte behind the line
  pub spilling : Fills one_print start_of_run (blank 31) (its_line ++ (1 ∷ [])) (answer 0 after_print 30) → ⊥
  -- it leaves a longer buffer than it was lent
  pub growing : Fills one_print start_of_run (blank 30) (its_line ++ (0 ∷ [])) (answer 0 after_print 30) → ⊥
  -- it tells more bytes than the buffer has
  pub overrun : Fills one_print start_of_run (blank 30) its_line (answer 0 after_print 31) → ⊥

-- What calls with room for a line each may not come to: two of them over one print, one more than it has
-- bytes; and 98 that are asked for the summary.
pub record WrongRepeats : Type 0 where
  -- the run has not ended
  pub endless : Replays one_print 2 its_line after_print → ⊥
  -- nothing was written
  pub silent : Replays one_print 2 [] at_end → ⊥
  -- the clock is none that the history leaves
  pub elsewhere : Replays one_print 2 its_line (left (fresh_clock kind1024) empty_summary) → ⊥
  -- the run has not ended, though it has had a call for each quarter-hour
  pub endless_asked : Replays asking 98 [] listed → ⊥
  -- no line of the summary was written
  pub silent_asked : Replays asked 0 [] asked_end → ⊥
  -- the summary is none that the history leaves
  pub counted : Replays one_print 2 its_line (left (fresh_clock kind256) (with_offset 0 0 empty_summary)) → ⊥
