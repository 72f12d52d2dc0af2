-- Each test of a row refuses what it should: computed.
use mathlib.Core.Path.{refl}
use Rattle.state.specs.Device.{device_of}
use Rattle.state.specs.State.{in_range}
use Rattle.clock.specs.Rollover.{rolled_over}
use Rattle.clock.specs.Tick.{unit_in, ticked, tick_refusal, tick_of}
use Rattle.cases.specs.Tests.{TestsRefuse}

pub tests_refuse : TestsRefuse
unfolding device_of in_range rolled_over unit_in ticked tick_refusal tick_of
tests_refuse =
    record {
      values =
          record {
            kind = refl;
            seconds = refl;
            micros = refl;
            constant = refl;
            updated = refl;
            interval = refl;
            status = refl;
            phase = refl;
            left = refl;
            frequency = refl;
            adjustment = refl;
            remainder = refl;
            leftover = refl;
            refused = refl;
          };
      ticks256 = record { carry = refl; after = refl; rolled = refl; not_rolled = refl; refused = refl };
      ticks1024 = record { carry = refl; after = refl; rolled = refl; not_rolled = refl; refused = refl };
      places =
          record {
            values = refl;
            first_value = refl;
            last_value = refl;
            stages = refl;
            first_stage = refl;
            last_stage = refl;
            not_done = refl;
            rows = refl;
            first_row = refl;
            last_row = refl;
          };
    }
