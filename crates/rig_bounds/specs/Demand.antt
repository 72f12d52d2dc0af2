-- Demand 3 on a rig. Document 02, Req 07: "Demand 3 holds, over its own events, for each clock that is lent
-- fresh and that only these calls change."
use Rattle.std.specs.Prelude.{ℕ, ◌<◌, ◌≡◌, Bool, true, ◌&&◌, cond, List, [], ◌∷◌, ◌++◌, eqb, length}
use Rattle.state.specs.Device.{kind_range}
use Rattle.state.specs.State.{fresh_clock}
use Rattle.state.specs.declared.state.Clock.{Clock}
use Rattle.state.specs.declared.units.AskedMicros.{AskedMicros}
use Rattle.event.specs.Event.{step_of}
use Rattle.event.specs.declared.event.Call.TheVariants.{Tick, Setting, Reading}
use Rattle.event.specs.declared.event.Event.{Event}
use Rattle.event.specs.declared.event.Event.TheVariants.{Call}
use Rattle.bounds.specs.Calls.{clock_from, clock_after, accepted, rolls, ticks_among, neither_set_nor_inserted}
use Rattle.bounds.specs.Singly.{singly_from}
use Rattle.bounds.specs.Measure.{measure_of}
use Rattle.bounds.specs.Demand.{tells, book_of, taken_off, NearExact, MovedAsTaken, GoneForward}
use Rattle.bounds.specs.Demand.{FirstBound, Demand3}
use Rattle.rig.specs.Rig.{table_refusal, clock_at, answered}
use Rattle.rig.specs.OneClock.{Rig}
use Rattle.rig.specs.declared.rig.Answer.{Answer}

-- A call on a table that holds a certain clock: the table that the call is lent, where that clock lies in it,
-- and the place and the event of the call. A tick of the clock in place is a call on the table of this one
-- clock.
pub record RigCall : Type 0 where
  pub table : List Clock
  pub at : ℕ
  pub place : ℕ
  pub event : Event

-- What it is answered, and the table that it leaves, by whatever answers; by the rules that is `the_rig`,
-- which `heukelvos_event_at` promises to be.
abbrev pub rig_answer : Rig → RigCall → Answer
rig_answer rig k = rig.answer k.table k.place k.event

abbrev pub table_after : Rig → RigCall → List Clock
table_after rig k = rig.left k.table k.place k.event

-- the clock that it gets, and the clock that it leaves
abbrev pub clock_before : RigCall → Clock
clock_before k = clock_at k.table k.at

abbrev pub clock_behind : Rig → RigCall → Clock
clock_behind rig k = clock_at (table_after rig k) k.at

-- It reaches the clock: it names its place, and the rig itself does not refuse it.
abbrev pub reaches : RigCall → Bool
reaches k = eqb k.place k.at && eqb (table_refusal (length k.table) k.place) 0

-- "its own events"
unfoldable pub own_events : List RigCall → List Event
own_events [] = []
own_events (k ∷ ks) = cond (reaches k) (k.event ∷ own_events ks) (own_events ks)

-- "that only these calls change": each call gets the clock as the call before left it, and the first gets c.
-- Nothing else is said of the tables: from one call to the next the clock may lie elsewhere, and other
-- recorders may be set, exchanged, hung on or taken off. A call on a table without the clock is none of the
-- list, since it leaves the clock alone.
unfoldable pub OnlyTheseChange : Rig → Clock → List RigCall → Type 0
OnlyTheseChange rig c [] = Unit {0}
OnlyTheseChange rig c (k ∷ ks) =
    (k.at < length k.table) × (clock_before k ≡ c) × OnlyTheseChange rig (clock_behind rig k) ks

-- A call of a list, with those before it, is one on a clock by itself, c at first, to which its own events
-- have happened: by the clock that it gets,
abbrev pub GetsAsAlone : Clock → List RigCall → RigCall → Type 0
GetsAsAlone c before k = clock_before k ≡ clock_from c (own_events before)

-- the clock that it leaves,
abbrev pub LeavesAsAlone : Rig → Clock → List RigCall → RigCall → Type 0
LeavesAsAlone rig c before k = clock_behind rig k ≡ clock_from c (own_events (before ++ (k ∷ [])))

-- and what it answers, where it reaches the clock
abbrev pub AnswersAsAlone : Rig → Clock → List RigCall → RigCall → Type 0
AnswersAsAlone rig c before k =
    reaches k ≡ true → rig_answer rig k ≡ answered (step_of (clock_from c (own_events before)) k.event)

pub record AsAlone (rig : Rig) (c : Clock) (before : List RigCall) (k : RigCall) : Type 0 where
  pub got : GetsAsAlone c before k
  pub left : LeavesAsAlone rig c before k
  pub answer : AnswersAsAlone rig c before k

-- each call of a list, with those before it, is so
abbrev pub Each : (List RigCall → RigCall → Type 0) → List RigCall → Type 0
Each is calls = (before later : List RigCall) (k : RigCall) → calls ≡ before ++ (k ∷ later) → is before k

abbrev pub EachAsAlone : Rig → Clock → List RigCall → Type 0
EachAsAlone rig c calls = Each (AsAlone rig c) calls

-- a reading of the clock, on the rig, and a tick of it in a call of its own
abbrev pub ReadingOf : RigCall → Type 0
ReadingOf k = (reaches k ≡ true) × (k.event ≡ Call Reading)

abbrev pub TickOf : RigCall → Type 0
TickOf k = (reaches k ≡ true) × (k.event ≡ Call Tick)

-- The first bound of what the rig answers: a reading is accepted,
abbrev pub ReadingAccepted : Rig → List RigCall → RigCall → Type 0
ReadingAccepted rig before k = ReadingOf k → (rig_answer rig k).refusal ≡ 0

-- and near the exact time of the clock's own events before it
abbrev pub ReadingsNear : Rig → ℕ → List RigCall → Type 0
ReadingsNear rig kind calls =
    (before later : List RigCall) (k : RigCall) → calls ≡ before ++ (k ∷ later) → ReadingOf k
    → NearExact (measure_of kind) (tells (rig_answer rig k).reading) (book_of kind (own_events before))

-- The second, of the clock that the rig hands to a tick: where the tick rolls over by the rules, what has
-- been taken off is by the offset left in that clock. Of the ticks within a catch-up the rig shows no
-- clock; of those it is said of the clock by itself alone.
abbrev pub MovedAtRollover : ℕ → List RigCall → RigCall → Type 0
MovedAtRollover kind before k =
    TickOf k → rolls (clock_after kind (own_events before)) Tick ≡ true
    → MovedAsTaken (measure_of kind) (book_of kind (own_events before ++ (Call Tick ∷ []))).moved
    (taken_off (clock_before k) (book_of kind (own_events before)))

-- The third: whichever two readings of the clock, with n of its own ticks and neither a setting nor an
-- inserted second between them.
abbrev pub ReadingsForward : Rig → ℕ → List RigCall → Type 0
ReadingsForward rig kind calls =
    (before between later : List RigCall) (j k : RigCall)
    → calls ≡ before ++ (j ∷ (between ++ (k ∷ later))) → ReadingOf j → ReadingOf k
    → let c = clock_after kind (own_events (before ++ (j ∷ []))) in
    let es = singly_from c (own_events between) in
    neither_set_nor_inserted c es ≡ true
    → GoneForward (measure_of kind) (ticks_among c es) (tells (rig_answer rig j).reading)
    (tells (rig_answer rig k).reading)

-- Demand 3 of a clock that is lent fresh, of a kind: of its own events on a clock by itself, by the rules;
-- each call on the rig is one on that clock; and so the bounds hold of what the rig hands out and answers.
pub record Demand3OfRigClock (rig : Rig) (kind : ℕ) (calls : List RigCall) : Type 0 where
  pub demand : Demand3 step_of kind (own_events calls)
  pub alone : EachAsAlone rig (fresh_clock kind) calls
  pub accepted : Each (ReadingAccepted rig) calls
  pub near : ReadingsNear rig kind calls
  pub moved : Each (MovedAtRollover kind) calls
  pub forward : ReadingsForward rig kind calls

-- its first bound, of a clock that is lent as it is: of the clock by itself, and each call is one on it
pub record FirstBoundOfRigClock (rig : Rig) (c : Clock) (calls : List RigCall) : Type 0 where
  pub first : FirstBound step_of c (own_events calls)
  pub alone : EachAsAlone rig c calls

pub record Demand3OfEveryRig (rig : Rig) : Type 0 where
  pub fresh : (kind : ℕ) → kind_range kind ≡ true → (calls : List RigCall) → OnlyTheseChange rig (fresh_clock kind) calls
      → Demand3OfRigClock rig kind calls
  -- Req 06: the first bound also "for lists that begin with an accepted setting on any clock"
  pub set : (c : Clock) (calls : List RigCall) → OnlyTheseChange rig c calls
      → (s : ℕ) (u : AskedMicros) (events : List Event) → own_events calls ≡ Call (Setting s u) ∷ events
      → accepted c (Setting s u) ≡ true → FirstBoundOfRigClock rig c calls

-- ---- one table, lent again and again

-- an event and its place
pub record PlacedEvent : Type 0 where
  pub place : ℕ
  pub event : Event

-- the calls, each of which gets the table as the call before left it, as the clock at a place sees them
unfoldable pub calls_in_turn : Rig → ℕ → List Clock → List PlacedEvent → List RigCall
calls_in_turn rig at table [] = []
calls_in_turn rig at table (e ∷ es) =
    let k : RigCall = record { table = table; at = at; place = e.place; event = e.event } in
    k ∷ calls_in_turn rig at (table_after rig k) es

-- Then only these calls change any of its clocks.
abbrev pub OneTable : Rig → Type 0
OneTable rig =
    (at : ℕ) (table : List Clock) (events : List PlacedEvent) → at < length table
    → OnlyTheseChange rig (clock_at table at) (calls_in_turn rig at table events)
