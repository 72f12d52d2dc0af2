-- Demand 3, the whole of it, as one statement about a list of events on a fresh clock of either kind; its
-- first bound also about lists that begin with an accepted setting on any clock.
use Rattle.std.specs.Prelude.{ℕ, ◌+◌, ◌*◌, ◌/◌, ◌≤◌, ◌<◌, ◌≡◌, Bool, true, List, [], ◌∷◌, ◌++◌, ℤ, pos, nat_abs, ◌-ℤ◌, ◌*ℤ◌}
use Rattle.state.specs.Units.{micros_per_second, phase_units_per_micro}
use Rattle.state.specs.Device.{kind_range}
use Rattle.state.specs.State.{fresh_clock}
use Rattle.clock.specs.Ticks.{catch_up_of}
use Rattle.state.specs.declared.state.Clock.{Clock}
use Rattle.state.specs.declared.units.AskedMicros.{AskedMicros}
use Rattle.clock.specs.declared.reading.Reading as shows
use Rattle.event.specs.Event.{step_of}
use Rattle.event.specs.declared.event.Call.TheVariants.{Tick, Setting, Reading}
use Rattle.event.specs.declared.event.Event.{Event}
use Rattle.event.specs.declared.event.Event.TheVariants.{Call, CatchUp}
use Rattle.bounds.specs.Calls.{Answers, after_by, clock_by, clock_after, accepted, rolls, ticks_among, neither_set_nor_inserted}
use Rattle.bounds.specs.Singly.{single_ticks, singly_from, as_events}
use Rattle.bounds.specs.Measure.{Measure, measure_of}
use Rattle.bounds.specs.Book.{Book, empty_book, book_from}

-- "A reading tells seconds x 1,000,000 + microseconds." (us)
abbrev pub tells : shows.Reading → ℕ
tells r = r.seconds * micros_per_second + r.micros.0

-- Each bound is stated of whatever answers the events; what they should have come to is the book's, by the
-- rules alone.

-- "what a reading call answers on the clock after the list" (us), of a list the first event of which gets the
-- clock `start`
abbrev pub told_from : Answers → Clock → List Event → ℕ
told_from answers start events = tells (answers (after_by answers start events) (Call Reading)).reading

-- .. a fresh clock of a kind
abbrev pub told_after : Answers → ℕ → List Event → ℕ
told_after answers kind events = told_from answers (fresh_clock kind) events

-- the book of a list of events: it "counts these ticks as if made singly"; "the book's rules run from that
-- clock" that the list starts with
abbrev pub book_on : Clock → List Event → Book
book_on start events = book_from start empty_book (singly_from start events)

-- .. on a fresh clock of a kind
abbrev pub book_of : ℕ → List Event → Book
book_of kind events = book_on (fresh_clock kind) events

-- document 02: "Demand 3's first bound becomes less than 1 us plus 1/2^28 us whatever n is": in 2^-32 us
-- |2^32 T - exact| < 2^32 + 16, and in 2^-34 us |2^34 T - exact| < 2^34 + 64
abbrev pub NearExact : Measure → ℕ → Book → Type 0
NearExact m t b = nat_abs (pos (m.per_micro * t) -ℤ b.exact) < m.per_micro + m.per_micro / phase_units_per_micro

-- "After every such list [..] the reading is off the exact time by less than [..]": the reading of the clock
-- after the list is accepted, and what it tells is near.
pub record FirstBound (answers : Answers) (start : Clock) (events : List Event) : Type 0 where
  pub accepted : (answers (after_by answers start events) (Call Reading)).refusal ≡ 0
  pub near : NearExact (measure_of start.kind) (told_from answers start events) (book_on start events)

-- "what has been taken off: asked less the offset left in the clock that this tick got" (offset units)
abbrev pub taken_off : Clock → Book → ℤ
taken_off got b = b.asked -ℤ got.offset.0

-- moved (1/256 offset unit) "differs from what has been taken off [..] by at most 1/256 of the size of the
-- latter": |m - 256 t| ≤ |t|; and with 1/1,024 |m - 1,024 t| ≤ |t|
abbrev pub MovedAsTaken : Measure → ℤ → ℤ → Type 0
MovedAsTaken s m t = nat_abs (m -ℤ pos s.parts *ℤ t) ≤ nat_abs t

-- What holds at a tick with these events before it, where it is accepted and rolls over, with what is moved
-- then, this tick included. Before the first offset request, and after a setting, both are 0, so that it
-- holds there too.
abbrev pub AtRollover : Answers → ℕ → List Event → Type 0
AtRollover answers kind before =
    rolls (clock_after kind before) Tick ≡ true
    → MovedAsTaken (measure_of kind) (book_of kind (before ++ (Call Tick ∷ []))).moved
    (taken_off (clock_by answers kind before) (book_of kind before))

-- "At every rollover, before the new share is taken, what the last offset request has moved the clock differs
-- [..]": at each tick of the list, made in a call of its own or among those that a catch-up accepts; there
-- the j before it are made singly, since nothing answers in the middle of a catch-up. What a wrong one leaves
-- behind is seen by the lists that go on after it.
pub record SecondBound (answers : Answers) (kind : ℕ) (events : List Event) : Type 0 where
  pub single : (before later : List Event) → events ≡ before ++ (Call Tick ∷ later) → AtRollover answers kind before
  pub within : (before later : List Event) (ceiling : ℕ) (stop : Bool) → events ≡ before ++ (CatchUp ceiling stop ∷ later)
      → (j : ℕ) → j < (catch_up_of (clock_after kind before) ceiling stop).count
      → AtRollover answers kind (before ++ as_events (single_ticks j))

-- "Whichever two readings are taken, with n ticks and neither a setting nor an inserted second between them,
-- the clock has gone forward by at least 3,905 n us"; of the second device "at least 976 n us". From the time
-- t to the time u (us):
abbrev pub GoneForward : Measure → ℕ → ℕ → ℕ → Type 0
GoneForward m n t u = t + m.least * n ≤ u

abbrev pub ThirdBound : Answers → ℕ → List Event → Type 0
ThirdBound answers kind events =
    (before between later : List Event) → events ≡ before ++ (Call Reading ∷ (between ++ (Call Reading ∷ later)))
    → let c = clock_after kind (before ++ (Call Reading ∷ [])) in
    neither_set_nor_inserted c (singly_from c between) ≡ true
    → GoneForward (measure_of kind) (ticks_among c (singly_from c between)) (told_after answers kind before)
    (told_after answers kind (before ++ (Call Reading ∷ between)))

-- Demand 3 of what answers a list of events on a fresh clock of a kind.
pub record Demand3 (answers : Answers) (kind : ℕ) (events : List Event) : Type 0 where
  pub first : FirstBound answers (fresh_clock kind) events
  pub second : SecondBound answers kind events
  pub third : ThirdBound answers kind events

-- Demand 3 of what answers, over all lists.
pub record Demand3By (answers : Answers) : Type 0 where
  -- "Take any list of ticks, settings, requests and readings, refused ones included, on a clock that starts
  -- fresh", and of catch-ups; the clock is of either kind
  pub fresh : (kind : ℕ) → kind_range kind ≡ true → (events : List Event) → Demand3 answers kind events
  -- the first bound also "for lists that begin with an accepted setting on any clock: there the book's rules
  -- run from that clock"; one that is out of range accepts none
  pub set : (start : Clock) (s : ℕ) (u : AskedMicros) (events : List Event) → accepted start (Setting s u) ≡ true
      → FirstBound answers start (Call (Setting s u) ∷ events)

-- What answers is `event::step`, by its promise `r ≡ step_of c e`.
abbrev pub Demand3OfEveryList : Type 0
Demand3OfEveryList = Demand3By step_of
