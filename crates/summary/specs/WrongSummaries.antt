-- Summaries that are not what is worked out afresh: each is moved by the rules but for one thing, on clocks
-- of one kind alone, and is shut out by the theorem of the summary.
use Rattle.std.specs.Prelude.{◌≡◌, false, cond, List, [], ◌∷◌, ℕ, ◌+◌, ◌/◌, ◌%◌, min, max, eqb, ltb, ℤ, pos, neg_ℤ, nat_abs, get_or, set}
use Rattle.std.specs.Int.Signed.{non_neg}
use Rattle.state.specs.Device.{kind256, kind1024}
use Rattle.state.specs.State.{status_oop}
use Rattle.state.specs.declared.state.Clock.{Clock}
use Rattle.request.specs.Request.{selects_offset}
use Rattle.request.specs.declared.request.Request as asked
use Rattle.event.specs.Event.{answer_of}
use Rattle.event.specs.declared.event.Call.TheVariants.{Tick, Setting, Request, Reading}
use Rattle.event.specs.declared.event.Event.{Event}
use Rattle.event.specs.declared.event.Event.TheVariants.{Call, CatchUp}
use Rattle.cases.specs.Cases.{given, ◌≔◌, asks, asks_nothing}
use Rattle.cases.specs.Cases as case
use Rattle.bounds.specs.Calls.{accepted, takes_offset}
use Rattle.summary.specs.Summary.{seconds_per_quarter, quarter_of, empty_summary, greatest_count, with_offset, after_event}
use Rattle.summary.specs.Afresh.{taken_among, afresh, Moves, carried_by, CarriedIsAfresh}
use Rattle.summary.specs.declared.cells.Summary.{Summary}

-- wrong on clocks of a kind, and by the rules on others: so that what shuts it out speaks of that kind
abbrev pub on_kind : ℕ → Moves → Moves
on_kind kind wrong c e m = cond (eqb c.kind kind) (wrong c e m) (after_event c e m)

-- the rules, but that a request moves the summary by f
abbrev pub requests_move : (Clock → asked.Request → Summary → Summary) → Moves
requests_move f c (Call Tick) m = m
requests_move f c (Call (Setting s u)) m = m
requests_move f c (Call (Request r)) m = f c r m
requests_move f c (Call Reading) m = m
requests_move f c (CatchUp ceiling stop) m = m

-- .. but that an accepted offset does
abbrev pub offsets_move : (Clock → asked.Request → Summary → Summary) → Moves
offsets_move f = requests_move (λ c r m. cond (takes_offset c r) (f c r m) m)

-- what the rules make of an accepted offset
abbrev pub counted : Clock → asked.Request → Summary → Summary
counted c r m = with_offset (quarter_of c.seconds) (nat_abs r.offset.0) m

-- nothing is ever counted
abbrev pub counts_nothing : Moves
counts_nothing c e m = m

-- a refused offset is counted too
abbrev pub counts_refused : Moves
counts_refused = requests_move (λ c r m. cond (selects_offset r) (counted c r m) m)

-- an accepted request without an offset is counted too
abbrev pub counts_others : Moves
counts_others = requests_move (λ c r m. cond (accepted c (Request r)) (counted c r m) m)

-- an offset of 0 is not counted
abbrev pub passes_zero : Moves
passes_zero = offsets_move (λ c r m. cond (eqb (nat_abs r.offset.0) 0) m (counted c r m))

-- an offset is counted in the cell that f gives
abbrev pub cells_by : (Clock → asked.Request → ℕ) → Moves
cells_by f = offsets_move (λ c r m. with_offset (f c r) (nat_abs r.offset.0) m)

-- the quarter-hours are counted from noon
abbrev pub from_noon : Moves
from_noon = cells_by (λ c r. quarter_of (c.seconds + 43200))

-- the quarter-hours go on past the first day, and so beyond the cells
abbrev pub past_the_day : Moves
past_the_day = cells_by (λ c r. c.seconds / seconds_per_quarter)

-- by the seconds after the request: no wrong summary, since a request keeps the seconds, but as good as the
-- rules
abbrev pub seconds_after : Moves
seconds_after = cells_by (λ c r. quarter_of (answer_of c (Request r)).clock.seconds)

-- by the seconds after the next tick
abbrev pub after_a_tick : Moves
after_a_tick = cells_by (λ c r. quarter_of (answer_of c Tick).clock.seconds)

-- an inserted second, second 60, belongs to the next day
abbrev pub sixty_next_day : Moves
sixty_next_day = cells_by (λ c r. quarter_of (c.seconds + cond (eqb c.status status_oop) 1 0))

-- a negative offset is taken by its value, which is less than that of none
abbrev pub by_value : Moves
by_value =
    offsets_move
    (λ c r m. let z = r.offset.0 in with_offset (quarter_of c.seconds) (cond (non_neg z) (nat_abs z) 0) m)

-- in the cell of an offset the count n becomes f n, and the largest size a becomes g n a b by an offset of
-- size b
abbrev pub grows_by : (ℕ → ℕ) → (ℕ → ℕ → ℕ → ℕ) → Moves
grows_by f g =
    offsets_move
    (λ c r m.
    let q = quarter_of c.seconds in
    let n = get_or m.counts q 0 in
    record {
      counts = set m.counts q (f n);
      largest = set m.largest q (g n (get_or m.largest q 0) (nat_abs r.offset.0));
    })

-- one more, by the rules
abbrev pub one_more : ℕ → ℕ
one_more n = min greatest_count (n + 1)

-- "Counts stop" at another number
abbrev pub stops_at : ℕ → Moves
stops_at limit = grows_by (λ n. min limit (n + 1)) (λ n a b. max a b)

-- a count of 16 bits that starts again at 0
abbrev pub wraps : Moves
wraps = grows_by (λ n. (n + 1) % 65536) (λ n a b. max a b)

-- the largest size stops where the count has stopped
abbrev pub largest_stops : Moves
largest_stops = grows_by one_more (λ n a b. cond (ltb n greatest_count) (max a b) a)

-- the last size, and the first, in place of the largest
abbrev pub keeps_last : Moves
keeps_last = grows_by one_more (λ n a b. b)

abbrev pub keeps_first : Moves
keeps_first = grows_by one_more (λ n a b. cond (eqb n 0) b a)

-- a request that takes no offset clears the summary
abbrev pub others_clear : Moves
others_clear = requests_move (λ c r m. cond (takes_offset c r) (counted c r m) empty_summary)

-- an event of this sort clears it
abbrev pub sort_of : Event → ℕ
sort_of (Call Tick) = 0
sort_of (Call (Setting s u)) = 1
sort_of (Call (Request r)) = 2
sort_of (Call Reading) = 3
sort_of (CatchUp ceiling stop) = 4

abbrev pub cleared_by : Event → Moves
cleared_by this c e m = cond (eqb (sort_of e) (sort_of this)) empty_summary (after_event c e m)

-- a clock of a kind at a second; one that a tick takes to the next; one within an inserted second
abbrev pub at : ℕ → ℕ → Clock
at kind s = given (case.kind ≔ kind ∷ case.seconds ≔ s ∷ [])

abbrev pub at_end_of : ℕ → ℕ → Clock
at_end_of kind s = given (case.kind ≔ kind ∷ case.seconds ≔ s ∷ case.micros ≔ 999999 ∷ [])

abbrev pub inserted : ℕ → Clock
inserted kind = given (case.kind ≔ kind ∷ case.seconds ≔ 86399 ∷ case.status ≔ status_oop ∷ [])

-- offsets (us): one; one after another, with a setting to a second between them, so that it does not come too
-- soon
abbrev pub offset : ℤ → List Event
offset z = Call (asks z) ∷ []

abbrev pub two_offsets : ℤ → ℕ → ℤ → List Event
two_offsets y s z = Call (asks y) ∷ Call (case.set s 0) ∷ Call (asks z) ∷ []

-- events of each sort that take no offset: the last asks for one too soon
abbrev pub tick : Event
tick = Call Tick

abbrev pub setting : Event
setting = Call (case.set 0 0)

abbrev pub reading : Event
reading = Call Reading

abbrev pub catch_up : Event
catch_up = CatchUp 3 false

abbrev pub none : Event
none = Call asks_nothing

abbrev pub too_soon : Event
too_soon = Call (asks (pos 9))

-- an event between two offsets, and others after them
abbrev pub between : Event → List Event → List Event
between e others = Call (asks (pos 7)) ∷ e ∷ setting ∷ Call (asks (pos 5)) ∷ others

-- a summary with this count and this largest size (us) in a quarter-hour
abbrev pub cell : ℕ → ℕ → ℕ → Summary → Summary
cell q count size m = record { counts = set m.counts q count; largest = set m.largest q size }

-- .. and nothing in the others
abbrev pub holding : ℕ → ℕ → ℕ → Summary
holding q count size = cell q count size empty_summary

-- the summary that is carried along these events, and the one that is worked out afresh
pub record WrongAt (wrong : Moves) (c : Clock) (events : List Event) (wrongly rightly : Summary) : Type 0 where
  pub carried_there : carried_by wrong c events empty_summary ≡ wrongly
  pub afresh_there : afresh (taken_among c events) ≡ rightly
  pub shut_out : CarriedIsAfresh wrong → ⊥

-- an event of a sort clears the summary: the first of two offsets is lost, and no other event clears it
abbrev pub ClearedAt : ℕ → Moves → Event → List Event → Type 0
ClearedAt kind wrong e others =
    WrongAt (on_kind kind wrong) (at kind 0) (between e others) (holding 0 1 5) (holding 0 2 7)

pub record WrongSummariesOf (kind : ℕ) : Type 0 where
  pub nothing : WrongAt (on_kind kind counts_nothing) (at kind 0) (offset (pos 5)) empty_summary (holding 0 1 5)
  pub refused :
      WrongAt (on_kind kind counts_refused) (at kind 0) (Call (asks (pos 5)) ∷ too_soon ∷ none ∷ [])
      (holding 0 2 9)
      (holding 0 1 5)
  pub others :
      WrongAt (on_kind kind counts_others) (at kind 0) (Call (asks (pos 5)) ∷ none ∷ too_soon ∷ [])
      (holding 0 2 5)
      (holding 0 1 5)
  pub zero :
      WrongAt (on_kind kind passes_zero) (at kind 0) (two_offsets (pos 0) 0 (pos 5))
      (holding 0 1 5)
      (holding 0 2 5)
  pub noon : WrongAt (on_kind kind from_noon) (at kind 899) (offset (pos 5)) (holding 48 1 5) (holding 0 1 5)
  pub day :
      WrongAt (on_kind kind past_the_day) (at kind 86400) (two_offsets (pos 5) 900 (pos 7))
      (holding 1 1 7)
      (cell 0 1 5 (holding 1 1 7))
  pub next_tick :
      WrongAt (on_kind kind after_a_tick) (at_end_of kind 899) (offset (pos 5)) (holding 1 1 5) (holding 0 1 5)
  pub sixty :
      WrongAt (on_kind kind sixty_next_day) (inserted kind) (two_offsets (pos 5) 86399 (pos 7))
      (cell 0 1 5 (holding 95 1 7))
      (holding 95 2 7)
  pub value :
      WrongAt (on_kind kind by_value) (at kind 0) (two_offsets (neg_ℤ (pos 127999)) 900 (pos 5))
      (cell 0 1 0 (holding 1 1 5))
      (cell 0 1 127999 (holding 1 1 5))
  pub last :
      WrongAt (on_kind kind keeps_last) (at kind 0) (two_offsets (pos 7) 0 (pos 5))
      (holding 0 2 5)
      (holding 0 2 7)
  pub first :
      WrongAt (on_kind kind keeps_first) (at kind 0) (two_offsets (pos 5) 0 (pos 7))
      (holding 0 2 5)
      (holding 0 2 7)
  pub by_setting :
      ClearedAt kind (cleared_by setting) setting (tick ∷ reading ∷ catch_up ∷ none ∷ too_soon ∷ [])
  pub by_tick :
      ClearedAt kind (cleared_by tick) tick (reading ∷ catch_up ∷ none ∷ too_soon ∷ setting ∷ [])
  pub by_catch_up :
      ClearedAt kind (cleared_by catch_up) catch_up (tick ∷ reading ∷ none ∷ too_soon ∷ setting ∷ [])
  pub by_reading :
      ClearedAt kind (cleared_by reading) reading (tick ∷ catch_up ∷ none ∷ too_soon ∷ setting ∷ [])
  pub by_other : ClearedAt kind others_clear none (tick ∷ reading ∷ catch_up ∷ setting ∷ [])
  pub by_refused : ClearedAt kind others_clear too_soon (tick ∷ reading ∷ catch_up ∷ setting ∷ [])
  -- no list is short enough to show where a count stops: these are shown at some 65,536 offsets
  pub limit : (n : ℕ) → CarriedIsAfresh (on_kind kind (stops_at n)) → n ≡ 65535
  pub wrapping : CarriedIsAfresh (on_kind kind wraps) → ⊥
  pub stopping : CarriedIsAfresh (on_kind kind largest_stops) → ⊥

abbrev pub WrongSummaries : Type 0
WrongSummaries = WrongSummariesOf kind256 × WrongSummariesOf kind1024
