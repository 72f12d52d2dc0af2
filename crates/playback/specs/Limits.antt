-- The numbers of the statements about runs, each at its edge and one beyond it.
use Rattle.std.specs.Prelude.{◌≡◌, true, false, List, [], ◌∷◌, ℕ, length, replicate}
use Rattle.event.specs.declared.event.Call.TheVariants.{Reading}
use Rattle.event.specs.declared.event.Event.TheVariants.{Call as single}
use Rattle.playback.specs.Run.{start_of_run, step, run_after, steps_to_end}
use Rattle.playback.specs.Filling.{fill_refusal}
use Rattle.playback.specs.Repeated.{Repeated, Replays}
use Rattle.playback.specs.Calls.{calls_of_first}
use Rattle.playback.specs.WrongRuns.{one_print, its_line, after_print, at_end, asking, listed}

-- a history of n prints
abbrev pub prints : ℕ → List ℕ
prints n = replicate n 0x03

-- The longest line, 30 bytes: a print has them all, and a buffer of one less is refused.
pub record LineAtItsEdge : Type 0 where
  pub line : length its_line ≡ 30
  pub room : fill_refusal start_of_run 30 ≡ 0
  pub short : fill_refusal start_of_run 29 ≡ 14

-- The longest history, 65,536 bytes: it is run, and its first call is a reading; of one byte more nothing is
-- run: `log 13 at 65536`.
pub record HistoryAtItsEdge : Type 0 where
  pub run : (step (prints 65536) start_of_run).line ≡ its_line
  pub called : calls_of_first 1 (prints 65536) ≡ single Reading ∷ []
  pub logged : (step (prints 65537) start_of_run).line
      ≡ 0x6C ∷ 0x6F ∷ 0x67 ∷ 0x20 ∷ 0x31 ∷ 0x33 ∷ 0x20 ∷ 0x61 ∷ 0x74 ∷ 0x20
      ∷ 0x36 ∷ 0x35 ∷ 0x35 ∷ 0x33 ∷ 0x36 ∷ 0x0A ∷ []
  pub ended : (step (prints 65537) start_of_run).run.ended ≡ true
  pub none : calls_of_first 1 (prints 65537) ≡ []

-- One more than the history has bytes: so many steps end the run of a print, and so many calls with room for
-- one line; one fewer do not. Where the summary is asked for, 96 steps more do.
pub record EndAtItsEdge : Type 0 where
  pub steps : steps_to_end one_print ≡ 2
  pub ended : (run_after 2 one_print start_of_run).ended ≡ true
  pub going : (run_after 1 one_print start_of_run).ended ≡ false
  pub two : Repeated one_print 2 start_of_run its_line at_end
  pub replayed : Replays one_print 2 its_line at_end
  pub one : Repeated one_print 1 start_of_run its_line after_print
  pub summed : steps_to_end asking ≡ 98
  pub ended_then : (run_after 98 asking start_of_run).ended ≡ true
  pub going_then : run_after 97 asking start_of_run ≡ listed

pub record Limits : Type 0 where
  pub line : LineAtItsEdge
  pub history : HistoryAtItsEdge
  pub end : EndAtItsEdge
