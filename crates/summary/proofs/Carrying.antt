-- A summary that is carried along a list of events: along one list after another; along single ticks, which
-- leave it; and by the accepted offsets alone.
use mathlib.Core.Path.{◌≡◌, refl, sym, ◌∙◌}
use mathlib.Core.Bool.{Bool, true, false}
use mathlib.Core.List.{List, [], ◌∷◌, ◌++◌}
use Prim.Native.Nat.{ℕ, zero, suc}
use Rattle.state.specs.declared.state.Clock.{Clock}
use Rattle.request.specs.declared.request.Request as asked
use Rattle.event.specs.Event.{step_of}
use Rattle.event.specs.declared.event.Call.TheVariants.{Tick, Setting, Request, Reading}
use Rattle.event.specs.declared.event.Event.{Event}
use Rattle.event.specs.declared.event.Event.TheVariants.{Call, CatchUp}
use Rattle.bounds.specs.Calls.{after_by, next, takes_offset}
use Rattle.bounds.specs.Singly.{single_ticks, as_events}
use Rattle.summary.specs.Summary.{quarter_of, with_offset, after_event}
use Rattle.summary.specs.Afresh.{Taken, taken_by, taken_among, carried_by, carried}
use Rattle.summary.specs.declared.cells.Summary.{Summary}

pub carried_append : (c : Clock) (es fs : List Event) (m : Summary)
    → carried c (es ++ fs) m ≡ carried (after_by step_of c es) fs (carried c es m)
unfolding carried_by after_by
carried_append c [] fs m = refl
carried_append c (e ∷ es) fs m = carried_append (step_of c e).clock es fs (after_event c e m)

pub ticks_carried : (c : Clock) (n : ℕ) (m : Summary) → carried c (as_events (single_ticks n)) m ≡ m
unfolding carried_by as_events single_ticks
ticks_carried c zero m = refl
ticks_carried c (suc n) m = ticks_carried (next c Tick) n m

-- the summary with some accepted offsets more, in order
unfoldable pub with_all : List Taken → Summary → Summary
with_all [] m = m
with_all (t ∷ ts) m = with_all ts (with_offset (quarter_of t.seconds) t.size m)

module _ (c : Clock) (ts : List Taken) (m : Summary) where
  request_with : (r : asked.Request) (b : Bool) → takes_offset c r ≡ b
      → with_all (taken_by c (Call (Request r)) ++ ts) m ≡ with_all ts (after_event c (Call (Request r)) m)
  unfolding with_all
  request_with r true t = simp t
  request_with r false t = simp t

  -- an event moves it by what it takes
  event_with : (e : Event) → with_all (taken_by c e ++ ts) m ≡ with_all ts (after_event c e m)
  unfolding with_all
  event_with (Call Tick) = refl
  event_with (Call (Setting s u)) = refl
  event_with (Call (Request r)) = request_with r (takes_offset c r) refl
  event_with (Call Reading) = refl
  event_with (CatchUp ceiling stop) = refl

pub carried_with : (c : Clock) (es : List Event) (m : Summary) → carried c es m ≡ with_all (taken_among c es) m
unfolding carried_by taken_among with_all
carried_with c [] m = refl
carried_with c (e ∷ es) m =
    let d = (step_of c e).clock in
    carried_with d es (after_event c e m) ∙ sym (event_with c (taken_among d es) m e)
