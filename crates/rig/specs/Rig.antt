-- Document 02, Req 07: "A lent table of clocks takes an event and a place in the table".
use Rattle.std.specs.Prelude.{cond, List, ℕ, eqb, leb, ltb, length, get_or, set}
use Rattle.state.specs.Device.{kind256}
use Rattle.state.specs.Refusal.{refused_place, refused_table, refuse}
use Rattle.state.specs.State.{fresh_clock}
use Rattle.state.specs.declared.state.Clock.{Clock}
use Rattle.clock.specs.Reading.{no_reading}
use Rattle.event.specs.Event.{step_of}
use Rattle.event.specs.declared.event.Event.{Event}
use Rattle.event.specs.declared.event.Stepped.{Stepped}
use Rattle.rig.specs.declared.rig.Answer.{Answer}
use Rattle.rig.specs.declared.rig.Parted.{Parted}

-- "up to eight recorders on one host"
abbrev pub most_clocks : ℕ
most_clocks = 8

-- "A place beyond the table is refusal 18, a table of more than eight 19; 19 then 18 come before 1": what a
-- table of so many clocks refuses before any of them is looked at. Places count from 0, so that every place
-- of an empty table is beyond it.
abbrev pub table_refusal : ℕ → ℕ → ℕ
table_refusal clocks place = refuse (ltb most_clocks clocks) refused_table (refuse (leb clocks place) refused_place 0)

-- the clock at a place; beyond the table a fresh clock stands for none, and no answer depends on it
abbrev pub clock_at : List Clock → ℕ → Clock
clock_at table place = get_or table place (fresh_clock kind256)

-- what an event answers, without the clock
abbrev pub answered : Stepped → Answer
answered a = record { refusal = a.refusal; count = a.count; tick_refusal = a.tick_refusal; reading = a.reading }

-- the same and the clock, apart
abbrev pub parted : Stepped → Parted
parted a = record { answer = answered a; clock = a.clock }

-- an answer that has nothing but its refusal: "unless said, a refused call's other answers are zeros"; a
-- refused reading "gives zeros and status 4"
abbrev pub bare_answer : ℕ → Answer
bare_answer n = record { refusal = n; count = 0; tick_refusal = 0; reading = no_reading }

-- "the answer is that of the single-clock call"; "only the named clock is examined"
unfoldable pub answer_at : List Clock → ℕ → Event → Answer
answer_at table place e =
    let refusal = table_refusal (length table) place in
    cond (eqb refusal 0) (answered (step_of (clock_at table place) e)) (bare_answer refusal)

-- "and every other clock in the table stays the same": the table after it. Where the event is refused, its
-- clock is the one that it got, so that the table is the same.
unfoldable pub table_at : List Clock → ℕ → Event → List Clock
table_at table place e =
    cond (eqb (table_refusal (length table) place) 0) (set table place (step_of (clock_at table place) e).clock) table
