-- A request keeps the seconds of the clock: the cell by the seconds after it is the one by those before.
use mathlib.Core.Path.{◌≡◌, refl, ◌∙◌}
use mathlib.Core.List.{List, [], ◌∷◌}
use Rattle.state.specs.declared.state.Clock.{Clock}
use Rattle.request.specs.Request.{requested, request_of}
use Rattle.request.specs.declared.request.Request as asked
use Rattle.request.proofs.RequestCases.{RequestCase, done, refused, request_case}
use Rattle.event.specs.Event.{step_of}
use Rattle.event.specs.declared.event.Call.TheVariants.{Tick, Setting, Request, Reading}
use Rattle.event.specs.declared.event.Event.{Event}
use Rattle.event.specs.declared.event.Event.TheVariants.{Call, CatchUp}
use Rattle.summary.specs.Summary.{empty_summary, after_event}
use Rattle.summary.specs.Afresh.{carried_by, carried, CarriedIsAfresh}
use Rattle.summary.specs.WrongSummaries.{seconds_after}
use Rattle.summary.specs.declared.cells.Summary.{Summary}
use Rattle.summary.proofs.Carried.{carried_is_afresh}

seconds_kept : (c : Clock) (r : asked.Request) → RequestCase c r → (request_of c r).clock.seconds ≡ c.seconds
unfolding requested
seconds_kept c r (done a e) = simp e
seconds_kept c r (refused n e h) = simp e

same : (c : Clock) (e : Event) (m : Summary) → seconds_after c e m ≡ after_event c e m
same c (Call Tick) m = refl
same c (Call (Setting s u)) m = refl
same c (Call (Request r)) m = rw (seconds_kept c r (request_case c r))
same c (Call Reading) m = refl
same c (CatchUp ceiling stop) m = refl

carried_same : (c : Clock) (es : List Event) (m : Summary) → carried_by seconds_after c es m ≡ carried c es m
unfolding carried_by
carried_same c [] m = refl
carried_same c (e ∷ es) m = rw (same c e m) (carried_same (step_of c e).clock es (after_event c e m))

pub seconds_after_lem : CarriedIsAfresh seconds_after
seconds_after_lem c events = carried_same _ _ empty_summary ∙ carried_is_afresh c events
