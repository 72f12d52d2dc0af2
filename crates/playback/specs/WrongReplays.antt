-- Replays that demand 3 of a history shuts out, each at a short history: it meets all that is stated but for
-- the field that it stands for.
use Rattle.std.specs.Prelude.{cond, List, [], ◌∷◌, ℕ, min, eqb}
use Rattle.state.specs.Device.{kind256}
use Rattle.state.specs.State.{fresh_clock}
use Rattle.clock.specs.Reading.{no_reading}
use Rattle.clock.specs.declared.reading.Reading as shows
use Rattle.event.specs.Event.{step_of}
use Rattle.event.specs.declared.event.Call.TheVariants.{Tick, Setting, Request, Reading}
use Rattle.event.specs.declared.event.Event as call
use Rattle.event.specs.declared.event.Event.TheVariants.{Call as single, CatchUp}
use Rattle.event.specs.declared.event.Stepped.{Stepped}
use Rattle.bounds.specs.Calls.{Answers}
use Rattle.bounds.specs.WrongClocks.{idles}
use Rattle.summary.specs.Summary.{empty_summary}
use Rattle.playback.specs.Lines.{print_line}
use Rattle.playback.specs.Run.{steps_to_end, replay_of}
use Rattle.playback.specs.Calls.{calls_of_first, clock_at, Replayer, replayer, joined}
use Rattle.playback.specs.Calls.{Among, Demand3OfHistory}

-- a print; a tick, a print and a tick; and two prints with a tick between them
abbrev pub lone_print : List ℕ
lone_print = 0x03 ∷ []

abbrev pub print_between : List ℕ
print_between = 0x00 ∷ 0x01 ∷ 0x03 ∷ 0x00 ∷ 0x01 ∷ []

abbrev pub two_prints : List ℕ
two_prints = 0x03 ∷ 0x00 ∷ 0x01 ∷ 0x03 ∷ []

-- the replay by whatever answers the calls: it has the clock that they leave, and prints it at each step
abbrev pub replayed_by : Answers → Replayer
replayed_by answers =
    record {
      after = λ k s. clock_at answers k s;
      line = λ k s. print_line (clock_at answers k s);
      played = λ s. record {
        output = joined (steps_to_end s) (λ k. print_line (clock_at answers k s));
        clock = clock_at answers (steps_to_end s) s;
        summary = (replay_of s).summary;
      };
    }

-- it runs nothing: it has the clock that it began with, and prints no line
abbrev pub runs_nothing : Replayer
runs_nothing =
    record {
      after = λ k s. fresh_clock kind256;
      line = λ k s. [];
      played = λ s. record { output = []; clock = fresh_clock kind256; summary = empty_summary };
    }

-- in the end it hands back the clock that it began with
abbrev pub hands_back_fresh : Replayer
hands_back_fresh =
    record {
      after = replayer.after;
      line = replayer.line;
      played = λ s. record { output = (replay_of s).output; clock = fresh_clock kind256; summary = (replay_of s).summary };
    }

-- until then its run has the clock that it began with
abbrev pub stays_fresh : Replayer
stays_fresh = record { after = λ k s. fresh_clock kind256; line = replayer.line; played = replayer.played }

-- it prints the clock that it began with, at each step
abbrev pub prints_fresh : Replayer
prints_fresh =
    record {
      after = replayer.after;
      line = λ k s. print_line (fresh_clock kind256);
      played = λ s. record {
        output = joined (steps_to_end s) (λ k. print_line (fresh_clock kind256));
        clock = (replay_of s).clock;
        summary = (replay_of s).summary;
      };
    }

-- its lines are right, and it prints none of them
abbrev pub keeps_lines : Replayer
keeps_lines =
    record {
      after = replayer.after;
      line = replayer.line;
      played = λ s. record { output = []; clock = (replay_of s).clock; summary = (replay_of s).summary };
    }

-- the calls of the first event, and none after it
abbrev pub first_alone : ℕ → List ℕ → List call.Event
first_alone k s = calls_of_first (min k 1) s

-- an answer, but for its refusal and its reading
abbrev pub telling : ℕ → shows.Reading → Stepped → Stepped
telling refusal reading a =
    record {
      refusal = refusal;
      count = a.count;
      tick_refusal = a.tick_refusal;
      clock = a.clock;
      reading = reading;
    }

-- A reading at 3,906 us, where a fresh clock stands after a tick, is answered otherwise; all else is by the
-- rules.
abbrev pub misreads : (Stepped → Stepped) → Answers
misreads otherwise c (single Reading) =
    let a = step_of c (single Reading) in cond (eqb c.micros.0 3906) (otherwise a) a
misreads otherwise c (single Tick) = step_of c (single Tick)
misreads otherwise c (single (Setting s u)) = step_of c (single (Setting s u))
misreads otherwise c (single (Request r)) = step_of c (single (Request r))
misreads otherwise c (CatchUp ceiling stop) = step_of c (CatchUp ceiling stop)

-- it is refused, with what the clock shows; or it is accepted and zero
abbrev pub refuses_once : Answers
refuses_once = misreads (λ a. telling 1 a.reading a)

abbrev pub zero_once : Answers
zero_once = misreads (telling 0 no_reading)

-- What a replay may not be.
pub record WrongReplays : Type 0 where
  -- its ticks do nothing: the second print tells no later time than the first
  pub idling : Demand3OfHistory idles (replayed_by idles) two_prints → ⊥
  -- of a print alone the clock is right: its line is missing
  pub nothing : Demand3OfHistory step_of runs_nothing print_between → ⊥
  pub nothing_printed : Demand3OfHistory step_of runs_nothing lone_print → ⊥
  pub forgetting : Demand3OfHistory step_of hands_back_fresh print_between → ⊥
  pub staying : Demand3OfHistory step_of stays_fresh print_between → ⊥
  -- the print is none of the calls
  pub unlisted : Among first_alone print_between 1 → ⊥
  pub printing : Demand3OfHistory step_of prints_fresh print_between → ⊥
  pub silent : Demand3OfHistory step_of keeps_lines lone_print → ⊥
  -- the reading that stands for its print is refused, or tells another time
  pub refusing : Demand3OfHistory refuses_once (replayed_by refuses_once) print_between → ⊥
  pub zeros : Demand3OfHistory zero_once (replayed_by zero_once) print_between → ⊥
