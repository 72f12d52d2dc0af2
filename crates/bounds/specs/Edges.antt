-- The numbers in the predicates that the statements over lists use, each at its edge: there the predicate
-- holds, and one beyond it fails, on either kind of device. That a statement uses its predicate is not said
-- here, but by the clocks that it shuts out.
use Rattle.std.specs.Prelude.{ℕ, ◌+◌, ◌-◌, ◌*◌, ◌^◌, ◌≡◌, true, false, List, [], ◌∷◌, ℤ, pos, neg_ℤ}
use Rattle.state.specs.Device.{kind256, kind1024}
use Rattle.state.specs.State.{no_update}
use Rattle.event.specs.Event.{step_of}
use Rattle.event.specs.declared.event.Call.TheVariants.{Tick, Reading}
use Rattle.event.specs.declared.event.Event.{Event}
use Rattle.event.specs.declared.event.Event.TheVariants.{Call, CatchUp}
use Rattle.cases.specs.Cases.{given, ◌≔◌, request_for, asks, set}
use Rattle.cases.specs.Cases as field
use Rattle.bounds.specs.Measure.{Measure, measure_of}
use Rattle.bounds.specs.Book.{Book}
use Rattle.bounds.specs.Demand.{book_of, NearExact, MovedAsTaken, GoneForward}
use Rattle.bounds.specs.Lossless.{WithinMicro}
use Rattle.bounds.specs.MadeSingly.{Ticked}
use Rattle.bounds.specs.Seconds.{OneMoreOrFewer}
use Rattle.bounds.specs.Interval.{Since, held_update}
use Rattle.bounds.specs.Apart.{too_soon, FarApart}

-- one holds, and the other, a step beyond it, does not
abbrev pub Edge : Type 0 → Type 0 → Type 0
Edge at beyond = at × (beyond → ⊥)

-- a book of this exact time
abbrev pub exactly : ℤ → Book
exactly t =
    record {
      exact = t;
      n = 0;
      frequency = pos 0;
      share = pos 0;
      own_share = pos 0;
      moved = pos 0;
      asked = pos 0;
    }

-- Of a bound on how far a reading is off: the greatest error that it allows (units of exact time), the
-- reading behind the exact time and ahead.
pub record ErrorEdge (bound : Measure → ℕ → Book → Type 0) (kind greatest : ℕ) : Type 0 where
  pub behind :
      Edge (bound (measure_of kind) 0 (exactly (pos greatest)))
      (bound (measure_of kind) 0 (exactly (pos (greatest + 1))))
  pub ahead :
      Edge (bound (measure_of kind) 0 (exactly (neg_ℤ (pos greatest))))
      (bound (measure_of kind) 0 (exactly (neg_ℤ (pos (greatest + 1)))))

-- What an offset may have moved the clock (parts of an offset unit) where 1,000 units have been taken off, or
-- have been added.
pub record MovedEdge (kind least greatest : ℕ) : Type 0 where
  pub under :
      Edge (MovedAsTaken (measure_of kind) (pos least) (pos 1000))
      (MovedAsTaken (measure_of kind) (pos (least - 1)) (pos 1000))
  pub over :
      Edge (MovedAsTaken (measure_of kind) (pos greatest) (pos 1000))
      (MovedAsTaken (measure_of kind) (pos (greatest + 1)) (pos 1000))
  pub negative :
      Edge (MovedAsTaken (measure_of kind) (neg_ℤ (pos greatest)) (neg_ℤ (pos 1000)))
      (MovedAsTaken (measure_of kind) (neg_ℤ (pos (greatest + 1))) (neg_ℤ (pos 1000)))

-- What the clock goes forward in two ticks, at least (us).
abbrev pub ForwardEdge : ℕ → ℕ → Type 0
ForwardEdge kind least =
    Edge (GoneForward (measure_of kind) 2 7 (7 + least)) (GoneForward (measure_of kind) 2 7 (6 + least))

-- How many ticks a second has.
pub record SecondEdge (kind least most : ℕ) : Type 0 where
  pub fewest : Edge (OneMoreOrFewer kind least) (OneMoreOrFewer kind (least - 1))
  pub greatest : Edge (OneMoreOrFewer kind most) (OneMoreOrFewer kind (most + 1))

-- A catch-up that stops at a rollover: one of two ticks, the second of which rolls over, has made two of two,
-- and is none of ceiling 1. The first starts at these microseconds of its second.
abbrev pub CeilingEdge : ℕ → ℕ → Type 0
CeilingEdge kind start =
    let c = given (field.kind ≔ kind ∷ field.micros ≔ start ∷ []) in
    let a = step_of c (CatchUp 2 true) in
    Edge (Ticked c 2 true a) (Ticked c 1 true a)

-- some rollovers since an offset that was accepted
abbrev pub since : ℕ → Since
since k = record { offset = true; rollovers = k }

-- An offset is too soon after 63 rollovers, and not after 64; two have 64 between them; none is too soon
-- without an earlier one, nor is another request.
pub record SoonEdge : Type 0 where
  pub soon : too_soon (since 63) (request_for 1 (pos 0) 0) ≡ true
  pub in_time : too_soon (since 64) (request_for 1 (pos 0) 0) ≡ false
  pub first : too_soon (record { offset = false; rollovers = 0 }) (request_for 1 (pos 0) 0) ≡ false
  pub other : too_soon (since 0) (request_for 62 (pos 0) 0) ≡ false
  pub between : Edge (FarApart 64) (FarApart 63)

-- The count of the rollovers goes up to 1,024 and stays there.
pub record IntervalEdge : Type 0 where
  pub below : held_update (since 1023) ≡ record { updated = 1; interval = 1023 }
  pub limit : held_update (since 1024) ≡ record { updated = 1; interval = 1024 }
  pub beyond : held_update (since 1025) ≡ record { updated = 1; interval = 1024 }
  pub none : held_update (record { offset = false; rollovers = 5 }) ≡ no_update

-- a tick, an accepted setting, three ticks, two of them in a catch-up, a refused setting, a request and a
-- reading
abbrev pub after_a_setting : List Event
after_a_setting =
    Call Tick
    ∷ Call (set 5 0)
    ∷ Call Tick
    ∷ CatchUp 2 false
    ∷ Call (set 5 1000000)
    ∷ Call (asks (pos 1))
    ∷ Call Reading
    ∷ []

-- the book's n
pub record TicksEdge (kind : ℕ) : Type 0 where
  pub start : (book_of kind (Call Tick ∷ Call Reading ∷ Call Tick ∷ [])).n ≡ 2
  pub setting : (book_of kind after_a_setting).n ≡ 3

pub record Edges : Type 0 where
  -- less than 1 us plus 1/2^28 us, and less than 1 us
  pub near256 : ErrorEdge NearExact kind256 (2 ^ 32 + 15)
  pub near1024 : ErrorEdge NearExact kind1024 (2 ^ 34 + 63)
  pub micro256 : ErrorEdge WithinMicro kind256 (2 ^ 32 - 1)
  pub micro1024 : ErrorEdge WithinMicro kind1024 (2 ^ 34 - 1)
  pub moved256 : MovedEdge kind256 255000 257000
  pub moved1024 : MovedEdge kind1024 1023000 1025000
  pub forward256 : ForwardEdge kind256 (2 * 3905)
  pub forward1024 : ForwardEdge kind1024 (2 * 976)
  pub second256 : SecondEdge kind256 255 257
  pub second1024 : SecondEdge kind1024 1023 1025
  pub ceiling256 : CeilingEdge kind256 996093
  pub ceiling1024 : CeilingEdge kind1024 999023
  pub soon : SoonEdge
  pub interval : IntervalEdge
  pub ticks256 : TicksEdge kind256
  pub ticks1024 : TicksEdge kind1024
