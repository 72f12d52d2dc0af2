-- Every marked case is there and holds: computed.
use mathlib.Core.Path.{refl}
use Rattle.state.specs.Device.{device_of}
use Rattle.state.specs.State.{in_range}
use Rattle.clock.specs.Rollover.{rolled_over}
use Rattle.clock.specs.Tick.{unit_in, ticked, tick_refusal, tick_of}
use Rattle.clock.specs.Setting.{setting_refusal, setting_of}
use Rattle.request.specs.Request.{request_refusal, requested, request_of}
use Rattle.cases.specs.Cases.{MarkedCases}

pub marked_cases_lem : MarkedCases
unfolding device_of in_range rolled_over unit_in ticked tick_refusal tick_of setting_refusal setting_of request_refusal
    requested request_of
marked_cases_lem = record { named = refl; hold = refl }
