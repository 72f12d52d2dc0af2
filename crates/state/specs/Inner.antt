-- What the crate's private functions answer, in the terms of the table, and what proofs take of a device. No
-- public promise names these.
use Rattle.std.specs.Prelude.{ℕ, ◌+◌, ◌*◌, Bool, ◌&&◌, ℤ, nat_abs}
use Rattle.state.specs.Units.{phase_units_per_micro}
use Rattle.state.specs.Device.{kind_range, device_of}
use Rattle.state.specs.State.{second_range, micros_range, phase_range, offset_range, frequency_range, adjustment_range, constant_range, flag_range, interval_range, zero_unless_flag, error_range, status_range, parts_range}
use Rattle.state.specs.declared.device.Device.{Device}
use Rattle.state.specs.declared.state.Clock.{Clock}

-- the ranges of the fields up to the frequency; of those behind the adjustment; and of the kind, with those
-- that depend on it
abbrev pub first_fields_range : Clock → Bool
first_fields_range c =
    second_range c.seconds
    && micros_range c.micros.0
    && phase_range c.phase.0
    && offset_range c.offset.0
    && frequency_range c.frequency.0

abbrev pub last_fields_range : Clock → Bool
last_fields_range c =
    constant_range c.constant
    && (flag_range c.updated && interval_range c.interval && zero_unless_flag c.updated c.interval)
    && error_range c.maxerror.0
    && error_range c.esterror.0
    && status_range c.status

abbrev pub of_device : Device → ℤ → ℤ → ℤ → Bool
of_device d adjustment remainder leftover =
    adjustment_range d adjustment && parts_range d remainder && parts_range d leftover

abbrev pub fields_of_kind : ℕ → ℤ → ℤ → ℤ → Bool
fields_of_kind kind adjustment remainder leftover =
    kind_range kind && of_device (device_of kind) adjustment remainder leftover

-- the longest tick: its own microseconds, the greatest adjustment, and a unit of the leftover (phase units)
abbrev pub longest_tick : Device → ℕ
longest_tick d = phase_units_per_micro * d.tick.0 + nat_abs d.most.0 + 1
