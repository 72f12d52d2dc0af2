-- A call on a rig is a call on the one clock that it names. Each property is stated of whatever answers calls
-- on a table, so that wrong rigs can be shown not to have it (specs/WrongRigs.antt).
use Rattle.std.specs.Prelude.{◌≡◌, List, ℕ, ◌≤◌, ◌<◌, length}
use Rattle.state.specs.declared.state.Clock.{Clock}
use Rattle.event.specs.declared.event.Event.{Event}
use Rattle.rig.specs.Rig.{most_clocks, clock_at, answer_at, table_at}
use Rattle.rig.specs.declared.rig.Answer.{Answer}

-- what answers calls on a table, an event at a place each: the answer, and the table that the call leaves
pub record Rig : Type 0 where
  pub answer : List Clock → ℕ → Event → Answer
  pub left : List Clock → ℕ → Event → List Clock

-- by the rules: what `heukelvos_event_at` promises to be, for the event of its code
abbrev pub the_rig : Rig
the_rig = record { answer = answer_at; left = table_at }

-- that two tables give the same answer and the same next clock, for an event at a place
pub record SameThere (rig : Rig) (a b : List Clock) (place : ℕ) (e : Event) : Type 0 where
  pub answer : rig.answer a place e ≡ rig.answer b place e
  pub next : clock_at (rig.left a place e) place ≡ clock_at (rig.left b place e) place

-- "two tables of equal length that agree on the named clock give, for the same event and place, the same
-- answer and the same next clock there"
abbrev pub NamedClockDecides : Rig → Type 0
NamedClockDecides rig =
    (a b : List Clock) (place : ℕ) (e : Event)
    → length a ≡ length b → clock_at a place ≡ clock_at b place → SameThere rig a b place e

-- "every other clock in the table stays the same"; and the table has as many as before
pub record OthersStay (rig : Rig) (table : List Clock) (place : ℕ) (e : Event) : Type 0 where
  pub length : length (rig.left table place e) ≡ length table
  pub others : (other : ℕ) → (other ≡ place → ⊥) → clock_at (rig.left table place e) other ≡ clock_at table other

abbrev pub OthersAlwaysStay : Rig → Type 0
OthersAlwaysStay rig = (table : List Clock) (place : ℕ) (e : Event) → OthersStay rig table place e

-- "A refused call gives its number from document 01 and hands back the clock [..] unchanged": of whatever
-- number, and every clock
abbrev pub RefusedLeavesAll : Rig → Type 0
RefusedLeavesAll rig =
    (table : List Clock) (place : ℕ) (e : Event)
    → ((rig.answer table place e).refusal ≡ 0 → ⊥) → rig.left table place e ≡ table

-- "up to eight recorders": an event at any place of such a table comes to its clock. Of whatever judges a
-- number of clocks and a place, as `table_refusal` does.
abbrev pub EveryPlaceServed : (ℕ → ℕ → ℕ) → Type 0
EveryPlaceServed judges = (clocks place : ℕ) → clocks ≤ most_clocks → place < clocks → judges clocks place ≡ 0
