-- The summary worked out afresh from a whole list of events, quarter-hour by quarter-hour. Document 02,
-- Req 08: "After any history it must equal the summary worked out afresh from that history."
use Rattle.std.specs.Prelude.{◌≡◌, cond, List, [], ◌∷◌, ◌++◌, ℕ, zero, suc, min, max, eqb, nat_abs, length}
use Rattle.state.specs.declared.state.Clock.{Clock}
use Rattle.event.specs.Event.{step_of}
use Rattle.event.specs.declared.event.Call as call
use Rattle.event.specs.declared.event.Call.TheVariants.{Tick, Setting, Request, Reading}
use Rattle.event.specs.declared.event.Event.{Event}
use Rattle.event.specs.declared.event.Event.TheVariants.{Call, CatchUp}
use Rattle.bounds.specs.Calls.{takes_offset}
use Rattle.summary.specs.Summary.{quarters, quarter_of, greatest_count, empty_summary, after_event}
use Rattle.summary.specs.declared.cells.Summary.{Summary}

-- an accepted offset: the clock's seconds before the request, and the offset's size (us)
pub record Taken : Type 0 where
  pub seconds : ℕ
  pub size : ℕ

-- the offset that a call on the clock c takes, if it takes one
abbrev pub taken_by_call : Clock → call.Call → List Taken
taken_by_call c Tick = []
taken_by_call c (Setting s u) = []
taken_by_call c (Request r) =
    cond (takes_offset c r) (record { seconds = c.seconds; size = nat_abs r.offset.0 } ∷ []) []
taken_by_call c Reading = []

abbrev pub taken_by : Clock → Event → List Taken
taken_by c (Call e) = taken_by_call c e
taken_by c (CatchUp ceiling stop) = []

-- all offsets that are accepted in a list of events, the first of which gets c
unfoldable pub taken_among : Clock → List Event → List Taken
taken_among c [] = []
taken_among c (e ∷ es) = taken_by c e ++ taken_among (step_of c e).clock es

-- the sizes (us) of those in a quarter-hour
unfoldable pub sizes_in : ℕ → List Taken → List ℕ
sizes_in q [] = []
sizes_in q (t ∷ ts) = cond (eqb (quarter_of t.seconds) q) (t.size ∷ sizes_in q ts) (sizes_in q ts)

-- the largest of some numbers, 0 if there are none
unfoldable pub largest_of : List ℕ → ℕ
largest_of [] = 0
largest_of (n ∷ ns) = max n (largest_of ns)

-- f k, f (k + 1), .., n of them
unfoldable pub list_of : (ℕ → ℕ) → ℕ → ℕ → List ℕ
list_of f k zero = []
list_of f k (suc n) = f k ∷ list_of f (suc k) n

-- "how many offsets were accepted" in a quarter-hour; "Counts stop at 65,535."
abbrev pub count_afresh : List Taken → ℕ → ℕ
count_afresh ts q = min greatest_count (length (sizes_in q ts))

-- "the largest absolute offset among them" (us)
abbrev pub largest_afresh : List Taken → ℕ → ℕ
largest_afresh ts q = largest_of (sizes_in q ts)

-- the summary, "for each" quarter-hour from 0 on
unfoldable pub afresh : List Taken → Summary
afresh ts =
    record { counts = list_of (count_afresh ts) 0 quarters; largest = list_of (largest_afresh ts) 0 quarters }

-- What moves a summary by an event on a clock: by the rules it is `after_event`, which `summary::step`
-- promises.
abbrev pub Moves : Type 0
Moves = Clock → Event → Summary → Summary

-- the summary that is carried along a list of events, the first of which gets c
unfoldable pub carried_by : Moves → Clock → List Event → Summary → Summary
carried_by moves c [] m = m
carried_by moves c (e ∷ es) m = carried_by moves (step_of c e).clock es (moves c e m)

-- The same by the rules.
abbrev pub carried : Clock → List Event → Summary → Summary
carried c events m = carried_by after_event c events m

-- what was carried along is what is worked out afresh: after any list of events on any clock
abbrev pub CarriedIsAfresh : Moves → Type 0
CarriedIsAfresh moves =
    (c : Clock) (events : List Event) → carried_by moves c events empty_summary ≡ afresh (taken_among c events)
