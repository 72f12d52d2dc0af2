-- The summary that is carried along. Document 02, Req 08: "a summary of 96 quarter-hours of the UTC day: for
-- each, how many offsets were accepted and the largest absolute offset among them".
use Rattle.std.specs.Prelude.{◌≡◌, cond, List, ℕ, ◌+◌, ◌/◌, ◌%◌, min, max, nat_abs, get_or, set, replicate}
use Rattle.state.specs.Units.{seconds_per_day}
use Rattle.state.specs.declared.state.Clock.{Clock}
use Rattle.request.specs.declared.request.Request as asked
use Rattle.event.specs.Event.{step_of}
use Rattle.event.specs.declared.event.Call as call
use Rattle.event.specs.declared.event.Call.TheVariants.{Tick, Setting, Request, Reading}
use Rattle.event.specs.declared.event.Event.{Event}
use Rattle.event.specs.declared.event.Event.TheVariants.{Call, CatchUp}
use Rattle.bounds.specs.Calls.{takes_offset}
use Rattle.summary.specs.declared.cells.Summary.{Summary}
use Rattle.summary.specs.declared.counting.Summed.{Summed}

-- "96 quarter-hours of the UTC day"
abbrev pub quarters : ℕ
quarters = 96

-- the seconds of a quarter-hour
abbrev pub seconds_per_quarter : ℕ
seconds_per_quarter = 900

-- "the cell chosen by the clock's seconds": the quarter-hour of the UTC day that a second lies in. An
-- inserted second has the seconds of the one before it, the day's last.
abbrev pub quarter_of : ℕ → ℕ
quarter_of seconds = seconds % seconds_per_day / seconds_per_quarter

-- "It starts with all cells zero"
abbrev pub empty_summary : Summary
empty_summary = record { counts = replicate quarters 0; largest = replicate quarters 0 }

-- a summary by its two arrays
abbrev pub summary_of : List ℕ → List ℕ → Summary
summary_of counts largest = record { counts = counts; largest = largest }

-- "Counts stop at 65,535."
abbrev pub greatest_count : ℕ
greatest_count = 65535

-- one more offset of a size (us) in a quarter-hour; where the count has stopped, the largest still grows
unfoldable pub with_offset : ℕ → ℕ → Summary → Summary
with_offset q size m =
    record {
      counts = set m.counts q (min greatest_count (get_or m.counts q 0 + 1));
      largest = set m.largest q (max (get_or m.largest q 0) size);
    }

-- "updated at each accepted offset, the cell chosen by the clock's seconds before the request", which gets c;
-- "refused requests leave it", and so do those without an offset
abbrev pub after_request : Clock → asked.Request → Summary → Summary
after_request c r m = cond (takes_offset c r) (with_offset (quarter_of c.seconds) (nat_abs r.offset.0) m) m

-- the summary after a call on the clock c: "Settings .. leave it", and so do ticks and readings
abbrev pub after_call : Clock → call.Call → Summary → Summary
after_call c Tick m = m
after_call c (Setting s u) m = m
after_call c (Request r) m = after_request c r m
after_call c Reading m = m

-- the summary after an event on the clock c
abbrev pub after_event : Clock → Event → Summary → Summary
after_event c (Call e) m = after_call c e m
after_event c (CatchUp ceiling stop) m = m

-- a summary was lent to an event on the clock c, and now is the summary after it
abbrev pub MovedInPlace : Clock → Event → (m m' : Summary) → Type 0
MovedInPlace c e m m' = m' ≡ after_event c e m

-- an event's answer, and the summary after it
abbrev pub summed_of : Clock → Event → Summary → Summed
summed_of c e m = record { stepped = step_of c e; summary = after_event c e m }
