-- Rigs that demand 3 shuts out: for each the calls on a clock of the 256 Hz recorder, lent fresh, at which it
-- fails.
use Rattle.std.specs.Prelude.{List, [], ◌∷◌, ℕ, pos}
use Rattle.state.specs.Device.{kind256}
use Rattle.state.specs.State.{fresh_clock}
use Rattle.event.specs.Event.{step_of}
use Rattle.event.specs.declared.event.Call.{Call as SingleCall}
use Rattle.event.specs.declared.event.Call.TheVariants.{Tick, Reading}
use Rattle.event.specs.declared.event.Event.TheVariants.{Call}
use Rattle.cases.specs.Cases.{set, asks}
use Rattle.rig.specs.Rig.{bare_answer, answer_at, table_at}
use Rattle.rig.specs.OneClock.{Rig}
use Rattle.rig_bounds.specs.Demand.{RigCall, OnlyTheseChange, PlacedEvent, calls_in_turn}
use Rattle.rig_bounds.specs.Demand.{Each, GetsAsAlone, LeavesAsAlone, AnswersAsAlone}
use Rattle.rig_bounds.specs.Demand.{ReadingAccepted, ReadingsNear, MovedAtRollover, ReadingsForward}

-- whichever clock is named, the first answers
abbrev pub answers_first : Rig
answers_first = record { answer = λ table place e. answer_at table 0 e; left = table_at }

-- events happen, and each is said to be refused
abbrev pub says_refused : Rig
says_refused = record { answer = λ table place e. bare_answer 1; left = table_at }

-- events are answered, and no clock is stored
abbrev pub stores_nothing : Rig
stores_nothing = record { answer = answer_at; left = λ table place e. table }

-- a call on the clock at a place
abbrev pub placed : ℕ → SingleCall → PlacedEvent
placed place e = record { place = place; event = Call e }

-- a fresh clock behind one that is set to 5 s, and a reading of it
abbrev pub read_behind : List RigCall
read_behind =
    calls_in_turn answers_first 1 ((step_of (fresh_clock kind256) (Call (set 5 0))).clock ∷ fresh_clock kind256 ∷ [])
    (placed 1 Reading ∷ [])

-- a reading of a fresh clock
abbrev pub read_at_once : List RigCall
read_at_once = calls_in_turn says_refused 0 (fresh_clock kind256 ∷ []) (placed 0 Reading ∷ [])

-- a tick between two readings of a fresh clock
abbrev pub read_tick_read : List RigCall
read_tick_read =
    calls_in_turn stores_nothing 0 (fresh_clock kind256 ∷ []) (placed 0 Reading ∷ placed 0 Tick ∷ placed 0 Reading ∷ [])

-- an offset of 1,000 us, asked for a tick before a rollover
abbrev pub asked_at_rollover : List RigCall
asked_at_rollover =
    calls_in_turn stores_nothing 0 (fresh_clock kind256 ∷ [])
    (placed 0 (set 5 996094) ∷ placed 0 (asks (pos 1000)) ∷ placed 0 Tick ∷ [])

-- All are lists that demand 3 is about, and no rig meets it: one tells 5 s where it is 0 s; one refuses a
-- reading; one does not go forward, nor does a call of it leave, or the next one get, what the clock by
-- itself would be, and at a rollover it has lost the offset that is to be taken off.
pub record ShutOut : Type 0 where
  pub answering : OnlyTheseChange answers_first (fresh_clock kind256) read_behind
  pub near : ReadingsNear answers_first kind256 read_behind → ⊥
  pub answer : Each (AnswersAsAlone answers_first (fresh_clock kind256)) read_behind → ⊥
  pub refusing : OnlyTheseChange says_refused (fresh_clock kind256) read_at_once
  pub accepted : Each (ReadingAccepted says_refused) read_at_once → ⊥
  pub asking : OnlyTheseChange stores_nothing (fresh_clock kind256) asked_at_rollover
  pub moved : Each (MovedAtRollover kind256) asked_at_rollover → ⊥
  pub storing : OnlyTheseChange stores_nothing (fresh_clock kind256) read_tick_read
  pub forward : ReadingsForward stores_nothing kind256 read_tick_read → ⊥
  pub left : Each (LeavesAsAlone stores_nothing (fresh_clock kind256)) read_tick_read → ⊥
  pub got : Each (GetsAsAlone (fresh_clock kind256)) read_tick_read → ⊥
