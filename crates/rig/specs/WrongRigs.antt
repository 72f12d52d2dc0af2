-- Rigs that Req 07 shuts out: for each a property that it does not have. Each follows the rules but for what
-- is said of it.
use Rattle.std.specs.Prelude.{cond, [], ◌∷◌, ◌++◌, ℕ, eqb, set}
use Rattle.state.specs.Device.{kind256}
use Rattle.state.specs.State.{fresh_clock, in_range}
use Rattle.event.specs.Event.{step_of}
use Rattle.rig.specs.Rig.{table_refusal, clock_at, bare_answer, answer_at, table_at}
use Rattle.rig.specs.OneClock.{Rig, NamedClockDecides, OthersAlwaysStay, RefusedLeavesAll, EveryPlaceServed}

-- a clock out of range at the first place refuses the events of every clock
abbrev pub examines_first : Rig
examines_first =
    record {
      answer = λ table place e. cond (in_range (clock_at table 0)) (answer_at table place e) (bare_answer 1);
      left = table_at;
    }

-- the first clock is copied over the named one
abbrev pub copies_first : Rig
copies_first = record { answer = answer_at; left = λ table place e. set table place (clock_at table 0) }

-- the clock of the answer is stored at the first place, whichever was named
abbrev pub writes_first : Rig
writes_first = record { answer = answer_at; left = λ table place e. set table 0 (step_of (clock_at table place) e).clock }

-- each call hangs a fresh clock on
abbrev pub grows : Rig
grows = record { answer = answer_at; left = λ table place e. table_at table place e ++ (fresh_clock kind256 ∷ []) }

-- a refused call leaves a fresh clock at its place
abbrev pub clears : Rig
clears =
    record {
      answer = answer_at;
      left = λ table place e.
          cond (eqb (answer_at table place e).refusal 0) (table_at table place e) (set table place (fresh_clock kind256));
    }

-- the last place of a full table is taken for one beyond it
abbrev pub refuses_last : ℕ → ℕ → ℕ
refuses_last clocks place = cond (eqb place 7) 18 (table_refusal clocks place)

pub record ShutOut : Type 0 where
  pub examining : NamedClockDecides examines_first → ⊥
  pub copying : NamedClockDecides copies_first → ⊥
  pub writing : OthersAlwaysStay writes_first → ⊥
  pub growing : OthersAlwaysStay grows → ⊥
  pub clearing : RefusedLeavesAll clears → ⊥
  pub refusing : EveryPlaceServed refuses_last → ⊥
