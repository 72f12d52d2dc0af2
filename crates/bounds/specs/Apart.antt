-- Document 02, Req 05, over a whole list: "A request that selects an offset fewer than 64 rollovers after the
-- last accepted one is now refused, number 17 [..] A clock without an earlier update is exempt."
use Rattle.std.specs.Prelude.{ℕ, ◌≤◌, ◌≡◌, Bool, true, false, ◌&&◌, ◌||◌, List, [], ◌∷◌, ◌++◌, ltb, eqb}
use Rattle.state.specs.Device.{kind_range}
use Rattle.state.specs.Refusal.{refused_soon}
use Rattle.state.specs.declared.state.Clock.{Clock}
use Rattle.request.specs.Request.{selects_offset, shortest_interval, offset_too_soon}
use Rattle.request.specs.Request.{mode_above, offset_outside, frequency_outside, error_above, status_above}
use Rattle.request.specs.Request.{constant_above}
use Rattle.request.specs.declared.request.Request as asked
use Rattle.event.specs.Event.{step_of}
use Rattle.event.specs.declared.event.Call.TheVariants.{Request}
use Rattle.event.specs.declared.event.Event.{Event}
use Rattle.event.specs.declared.event.Event.TheVariants.{Call}
use Rattle.bounds.specs.Calls.{Answers, after_by, clock_by, clock_from, rollovers_among, never_set}
use Rattle.bounds.specs.Singly.{singly_from}
use Rattle.bounds.specs.Interval.{Since, since_of}

-- that a request comes too soon, by all the rollovers since the last accepted offset
abbrev pub too_soon : Since → asked.Request → Bool
too_soon n r = selects_offset r && n.offset && ltb n.rollovers shortest_interval

-- one of 4 to 9 refuses a request, whatever the clock
abbrev pub refused_anyway : asked.Request → Bool
refused_anyway r =
    mode_above r || offset_outside r || frequency_outside r || error_above r || status_above r || constant_above r

-- A request after a list of events on a fresh clock of a kind.
pub record SoonAt (answers : Answers) (kind : ℕ) (events : List Event) (r : asked.Request) : Type 0 where
  -- the clock, which holds no more than 1,024 of these rollovers, judges by them all
  pub held : offset_too_soon (clock_by answers kind events) r ≡ too_soon (since_of kind events) r
  -- and so the request is answered, which is "checked after 9"
  pub answered : kind_range kind ≡ true → refused_anyway r ≡ false
      → eqb (answers (clock_by answers kind events) (Call (Request r))).refusal refused_soon
      ≡ too_soon (since_of kind events) r

-- Of what answers, after any list.
abbrev pub TooSoonBy : Answers → Type 0
TooSoonBy answers = (kind : ℕ) (events : List Event) (r : asked.Request) → SoonAt answers kind events r

abbrev pub TooSoonByTheCalls : Type 0
TooSoonByTheCalls = TooSoonBy step_of

-- that a request is accepted by what answers, after these events, and selects an offset
abbrev pub offset_taken : Answers → Clock → List Event → asked.Request → Bool
offset_taken answers start events r =
    eqb (answers (after_by answers start events) (Call (Request r))).refusal 0 && selects_offset r

-- so many rollovers lie between two offsets that the second is not too soon
abbrev pub FarApart : ℕ → Type 0
FarApart rollovers = shortest_interval ≤ rollovers

-- So two accepted offsets have at least 64 rollovers between them, unless there is an accepted setting as
-- well: whichever two requests of a list that are accepted and select an offset. The rollovers are those of
-- the rules, and the ticks of catch-ups between them are made singly.
abbrev pub OffsetsApart : Answers → Clock → List Event → Type 0
OffsetsApart answers start events =
    (before between later : List Event) (first second : asked.Request)
    → events ≡ before ++ (Call (Request first) ∷ (between ++ (Call (Request second) ∷ later)))
    → offset_taken answers start before first ≡ true
    → offset_taken answers start (before ++ (Call (Request first) ∷ between)) second ≡ true
    → let c = clock_from start (before ++ (Call (Request first) ∷ [])) in
    never_set c (singly_from c between) ≡ true → FarApart (rollovers_among c (singly_from c between))

-- On any clock: a fresh one of a kind, or one that was read from a record.
abbrev pub OffsetsApartBy : Answers → Type 0
OffsetsApartBy answers = (start : Clock) (events : List Event) → OffsetsApart answers start events

abbrev pub OffsetsApartInEveryList : Type 0
OffsetsApartInEveryList = OffsetsApartBy step_of
