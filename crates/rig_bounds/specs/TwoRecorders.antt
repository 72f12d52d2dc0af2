-- Demand 3 at one list: two recorders, one of each kind, hang on a host, and their events come in turn.
use Rattle.std.specs.Prelude.{◌≡◌, List, [], ◌∷◌, ◌++◌, ◌+◌, ◌≤◌}
use Rattle.state.specs.Device.{kind256, kind1024}
use Rattle.state.specs.State.{fresh_clock}
use Rattle.state.specs.declared.state.Clock.{Clock}
use Rattle.event.specs.Event.{step_of}
use Rattle.event.specs.declared.event.Call.TheVariants.{Tick, Reading}
use Rattle.event.specs.declared.event.Event.{Event}
use Rattle.event.specs.declared.event.Event.TheVariants.{Call}
use Rattle.bounds.specs.Calls.{clock_from}
use Rattle.bounds.specs.Measure.{measure_of}
use Rattle.bounds.specs.Demand.{tells, told_after, book_of, NearExact}
use Rattle.cases.specs.Cases.{set}
use Rattle.rig.specs.Rig.{clock_at, answer_at, table_at}
use Rattle.rig.specs.declared.rig.Answer.{Answer}
use Rattle.rig_bounds.specs.Demand.{PlacedEvent}
use Rattle.rig_bounds.specs.WrongRigs.{placed}

-- both fresh
abbrev pub both : List Clock
both = fresh_clock kind256 ∷ fresh_clock kind1024 ∷ []

-- The first is set to 5 s. Then the second is read, each makes a tick, and so does a place without a
-- recorder; and the second is read again.
abbrev pub until_first_reading : List PlacedEvent
until_first_reading = placed 0 (set 5 0) ∷ []

abbrev pub until_second_reading : List PlacedEvent
until_second_reading = until_first_reading ++ (placed 1 Reading ∷ placed 0 Tick ∷ placed 1 Tick ∷ placed 2 Tick ∷ [])

abbrev pub in_turn : List PlacedEvent
in_turn = until_second_reading ++ (placed 1 Reading ∷ [])

-- the table after some of them, and what it tells then of the second
unfoldable pub table_from : List Clock → List PlacedEvent → List Clock
table_from table [] = table
table_from table (e ∷ es) = table_from (table_at table e.place e.event) es

abbrev pub read_after : List PlacedEvent → Answer
read_after es = answer_at (table_from both es) 1 (Call Reading)

-- the own events of each
abbrev pub of_first : List Event
of_first = Call (set 5 0) ∷ Call Tick ∷ []

abbrev pub of_second : List Event
of_second = Call Reading ∷ Call Tick ∷ Call Reading ∷ []

pub record OfTwoRecorders : Type 0 where
  -- the second, lent fresh: 976 us or more for its one tick, on a clock by itself and by what the rig
  -- answers; accepted and near the exact time; and the clock that is left is that of its own events
  pub demand : told_after step_of kind1024 [] + 976 ≤ told_after step_of kind1024 (Call Reading ∷ Call Tick ∷ [])
  pub forward : tells (read_after until_first_reading).reading + 976 ≤ tells (read_after until_second_reading).reading
  pub reading : (read_after until_second_reading).refusal ≡ 0
  pub near :
      NearExact (measure_of kind1024) (tells (read_after until_second_reading).reading)
      (book_of kind1024 (Call Reading ∷ Call Tick ∷ []))
  pub alone : clock_at (table_from both in_turn) 1 ≡ clock_from (fresh_clock kind1024) of_second
  -- the first, whose events begin with an accepted setting: a reading behind them is accepted, and its clock
  -- is that of its own
  pub accepted : (step_of (clock_from (fresh_clock kind256) of_first) (Call Reading)).refusal ≡ 0
  pub alone_too : clock_at (table_from both in_turn) 0 ≡ clock_from (fresh_clock kind256) of_first
