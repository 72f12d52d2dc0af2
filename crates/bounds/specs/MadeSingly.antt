-- A list of events and its ticks made singly agree: in the clock, in each answer and in the book.
use Rattle.std.specs.Prelude.{ℕ, suc, ◌≤◌, ◌<◌, ◌≡◌, Bool, true, false, ◌&&◌, List, [], ◌∷◌, ◌++◌}
use Rattle.clock.specs.Tick.{rolls_over}
use Rattle.state.specs.Refusal.{refused_last}
use Rattle.state.specs.declared.state.Clock.{Clock}
use Rattle.event.specs.Event.{answer_of, step_of}
use Rattle.event.specs.declared.event.Call.TheVariants.{Tick}
use Rattle.event.specs.declared.event.Event.{Event}
use Rattle.event.specs.declared.event.Event.TheVariants.{Call, CatchUp}
use Rattle.event.specs.declared.event.Stepped.{Stepped}
use Rattle.bounds.specs.Calls.{Answers, after_by, after, clock_from}
use Rattle.bounds.specs.Singly.{single_ticks, single_calls, singly_from}
use Rattle.bounds.specs.Book.{book_from}
use Rattle.bounds.specs.Demand.{book_on}

-- Where the single ticks of c end that are answered with a: "until ceiling, rollover or first refusal". The
-- ceiling comes first: at it no refusal is looked for. The only refusal that a tick can meet here is that of
-- the last second.
pub data EndsAt (c : Clock) (ceiling : ℕ) (stop : Bool) (a : Stepped) : Type 0 where
  at_ceiling : a.count ≡ ceiling → a.tick_refusal ≡ 0 → EndsAt c ceiling stop a
  at_rollover : stop ≡ true → (last : ℕ) → a.count ≡ suc last
      → rolls_over (after c (single_ticks last)) ≡ true → a.tick_refusal ≡ 0 → EndsAt c ceiling stop a
  at_refusal : a.count < ceiling → (answer_of a.clock Tick).refusal ≡ refused_last
      → a.tick_refusal ≡ refused_last → EndsAt c ceiling stop a

-- an accepted catch-up that answers a, by the single ticks in its place, the first of which gets c
pub record Ticked (c : Clock) (ceiling : ℕ) (stop : Bool) (a : Stepped) : Type 0 where
  -- its clock is the one after them
  pub clock : a.clock ≡ after c (single_ticks a.count)
  -- they are accepted, each of them
  pub accepted : (j : ℕ) → j < a.count → (answer_of (after c (single_ticks j)) Tick).refusal ≡ 0
  -- none is made past the ceiling, nor after a rollover to stop at
  pub most : a.count ≤ ceiling
  pub onward : (j : ℕ) → suc j < a.count → (stop && rolls_over (after c (single_ticks j))) ≡ false
  pub ends : EndsAt c ceiling stop a

-- a refused catch-up that answers a: no tick, and the clock c that it got
pub record Untouched (c : Clock) (a : Stepped) : Type 0 where
  pub count : a.count ≡ 0
  pub tick_refusal : a.tick_refusal ≡ 0
  pub clock : a.clock ≡ c

-- what answers an event that gets `got`, where its single calls get c
abbrev pub AnswersAs : Answers → Clock → Clock → Event → Type 0
AnswersAs answers got c (Call e) = answers got (Call e) ≡ answer_of c e
AnswersAs answers got c (CatchUp ceiling stop) =
    let a = answers got (CatchUp ceiling stop) in
    (a.refusal ≡ 0 → Ticked c ceiling stop a) × ((a.refusal ≡ 0 → ⊥) → Untouched c a)

-- the clock after some events on a clock, their ticks made singly
abbrev pub singly_after : Clock → List Event → Clock
singly_after start events = after start (singly_from start events)

-- An event of a list, with those before it and those after it.
pub record InPlace (answers : Answers) (start : Clock) (before later : List Event) (e : Event) : Type 0 where
  -- its single calls stand in its place
  pub place : singly_from start (before ++ (e ∷ later))
      ≡ singly_from start before ++ (single_calls (clock_from start before) e ++ singly_from (clock_from start (before ++ (e ∷ []))) later)
  -- it answers as they do
  pub answered : AnswersAs answers (after_by answers start before) (singly_after start before) e
  -- the book goes on with them from the clock that it gets
  pub book : book_on start (before ++ (e ∷ []))
      ≡ book_from (clock_from start before) (book_on start before) (single_calls (clock_from start before) e)

-- of what answers: a list of events, and its ticks made singly by the rules
pub record MadeSingly (answers : Answers) (start : Clock) (events : List Event) : Type 0 where
  pub clock : after_by answers start events ≡ singly_after start events
  pub each : (before later : List Event) (e : Event) → events ≡ before ++ (e ∷ later)
      → InPlace answers start before later e

-- on every clock, also one that is out of range
abbrev pub MadeSinglyBy : Answers → Type 0
MadeSinglyBy answers = (start : Clock) (events : List Event) → MadeSingly answers start events

abbrev pub EveryListMadeSingly : Type 0
EveryListMadeSingly = MadeSinglyBy step_of
