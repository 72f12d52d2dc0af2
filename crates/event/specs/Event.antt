-- One event on a clock: the rule that applies to it, and its answer.
use Rattle.clock.specs.Tick.{tick_of}
use Rattle.clock.specs.Ticks.{catch_up_of}
use Rattle.clock.specs.Setting.{setting_of}
use Rattle.clock.specs.Reading.{told_of, no_reading}
use Rattle.state.specs.declared.state.Clock.{Clock}
use Rattle.state.specs.declared.outcome.Outcome.{Outcome}
use Rattle.clock.specs.declared.run.CaughtUp.{CaughtUp}
use Rattle.clock.specs.declared.reading.Told.{Told}
use Rattle.request.specs.Request.{request_of}
use Rattle.event.specs.declared.event.Call.{Call}
use Rattle.event.specs.declared.event.Call.TheVariants.{Tick, Setting, Request, Reading}
use Rattle.event.specs.declared.event.Event.{Event}
use Rattle.event.specs.declared.event.Event.TheVariants as event
use Rattle.event.specs.declared.event.Stepped.{Stepped}

-- the answer of a tick, a setting or a request: no reading
abbrev pub step_with : Outcome → Stepped
step_with o = record { refusal = o.refusal; count = 0; tick_refusal = 0; clock = o.clock; reading = no_reading }

-- the answer of a reading: "the state is not changed"
abbrev pub step_told : Clock → Told → Stepped
step_told c t = record { refusal = t.refusal; count = 0; tick_refusal = 0; clock = c; reading = t.reading }

-- the answer of many ticks in one call: no reading
abbrev pub step_many : CaughtUp → Stepped
step_many m = record { refusal = m.refusal; count = m.count; tick_refusal = m.tick_refusal; clock = m.clock; reading = no_reading }

-- a single call
abbrev pub answer_of : Clock → Call → Stepped
answer_of c Tick = step_with (tick_of c)
answer_of c (Setting s u) = step_with (setting_of c s u)
answer_of c (Request r) = step_with (request_of c r)
answer_of c Reading = step_told c (told_of c)

-- An event: a single call, or a catch-up.
abbrev pub step_of : Clock → Event → Stepped
step_of c (event.Call k) = answer_of c k
step_of c (event.CatchUp ceiling stop) = step_many (catch_up_of c ceiling stop)
