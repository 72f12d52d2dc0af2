-- Document 02, Req 01: "Demand 3 counts these ticks as if made singly." A list of events as a list of single
-- calls.
use Rattle.std.specs.Prelude.{ℕ, zero, suc, List, [], ◌∷◌, ◌++◌}
use Rattle.state.specs.State.{fresh_clock}
use Rattle.clock.specs.Ticks.{catch_up_of}
use Rattle.state.specs.declared.state.Clock.{Clock}
use Rattle.event.specs.Event.{step_of}
use Rattle.event.specs.declared.event.Call.{Call}
use Rattle.event.specs.declared.event.Call.TheVariants.{Tick}
use Rattle.event.specs.declared.event.Event.{Event}
use Rattle.event.specs.declared.event.Event.TheVariants as event

-- n single ticks
unfoldable pub single_ticks : ℕ → List Call
single_ticks zero = []
single_ticks (suc n) = Tick ∷ single_ticks n

-- the single calls of an event on the clock c that it gets: of a catch-up as many ticks as it accepts
abbrev pub single_calls : Clock → Event → List Call
single_calls c (event.Call e) = e ∷ []
single_calls c (event.CatchUp ceiling stop) = single_ticks (catch_up_of c ceiling stop).count

-- the single calls of some events, the first of which gets c
unfoldable pub singly_from : Clock → List Event → List Call
singly_from c [] = []
singly_from c (e ∷ es) = single_calls c e ++ singly_from (step_of c e).clock es

-- the single calls of a list of events on a fresh clock of a kind
abbrev pub singly : ℕ → List Event → List Call
singly kind events = singly_from (fresh_clock kind) events

-- single calls as events
unfoldable pub as_events : List Call → List Event
as_events [] = []
as_events (e ∷ es) = event.Call e ∷ as_events es
