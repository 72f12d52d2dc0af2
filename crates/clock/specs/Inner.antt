-- What the crate's private functions answer, in the terms of the rules. No public promise names these.
use Rattle.std.specs.Prelude.{ℕ, ◌+◌, ◌-◌, ◌*◌, ◌/◌, ◌≤◌, ◌<◌, ◌≡◌, Bool, true, false, cond, ℤ, pos, nat_abs, ◌+ℤ◌, ◌-ℤ◌, ◌*ℤ◌}
use Rattle.std.specs.Int.Signed.{quot_z, rem_z}
use Rattle.state.specs.Units.{micros, phase_units, phase_parts, offset_units_per_micro, phase_units_per_micro, micros_per_second}
use Rattle.state.specs.Device.{device_of}
use Rattle.state.specs.State.{greatest_offset, last_micro}
use Rattle.state.specs.Refusal.{refusal_number}
use Rattle.state.specs.Inner.{longest_tick}
use Rattle.state.specs.declared.device.Device.{Device}
use Rattle.state.specs.declared.units.PhaseUnits.{PhaseUnits}
use Rattle.state.specs.declared.units.PhaseParts.{PhaseParts}
use Rattle.state.specs.declared.state.Clock.{Clock}
use Rattle.clock.specs.Rollover.{share_divisor, division, adjustment_for, leap_seconds, leap_status}
use Rattle.clock.specs.Tick.{unit_reached, leftover_left, phase_left, micros_grown, moved}
use Rattle.clock.specs.Ticks.{ended, ran_of}
use Rattle.clock.specs.declared.divided.Divided.{Divided}
use Rattle.clock.specs.declared.rollover.Leap.{Leap}
use Rattle.clock.specs.declared.timer.Advance.{Advance}
use Rattle.clock.specs.declared.run.CaughtUp.{CaughtUp}
use Rattle.clock.specs.declared.run.End.{End}
use Rattle.clock.specs.declared.run.End.TheVariants as E

-- the size of the greatest share, of the greatest offset at time constant 0 (offset units)
abbrev pub greatest_share : ℕ
greatest_share = greatest_offset * offset_units_per_micro / share_divisor 0

-- what each tick adds to the phase and to the leftover, of a share and a frequency
abbrev pub increments_for : Device → ℤ → ℤ → PhaseUnits × PhaseParts
increments_for d s f = (phase_units (adjustment_for d s f), (division d f).remainder)

abbrev pub leap_of : ℕ → ℕ → Leap
leap_of status s = record { seconds = leap_seconds status s; status = leap_status status s }

-- the unit that the leftover reaches by a tick, and what is left of it
abbrev pub reached_of : Clock → Divided
reached_of c = record { quotient = phase_units (unit_reached c); remainder = phase_parts (leftover_left c) }

abbrev pub advance_of : Clock → Advance
advance_of c =
    record { micros = micros (micros_grown c); phase = phase_units (phase_left c); leftover = phase_parts (leftover_left c) }

-- the clock at these
abbrev pub moved_to : Clock → Advance → Clock
moved_to c a = moved c a.micros a.phase a.leftover

-- the microseconds of the next second
abbrev pub less_a_second : Advance → Advance
less_a_second a = record { micros = micros (a.micros.0 - micros_per_second); phase = a.phase; leftover = a.leftover }

-- Microseconds, phase and leftover of a clock j ticks later, in one step: between rollovers adjustment and
-- remainder are constant, so that j ticks add j remainders to the leftover, whose whole units one division
-- carries into the phase; they add j adjustments to the phase, and one division carries the whole
-- microseconds in it.

-- the leftover with j remainders (parts of a phase unit)
abbrev pub leftover_sums : ℕ → Clock → ℤ
leftover_sums j c = c.leftover.0 +ℤ pos j *ℤ c.remainder.0

-- the whole units in it (phase units)
abbrev pub units_reached : ℕ → Clock → ℤ
units_reached j c = quot_z (leftover_sums j c) (pos (device_of c.kind).divisor)

-- what they leave (parts of a phase unit)
abbrev pub leftover_later : ℕ → Clock → ℤ
leftover_later j c = rem_z (leftover_sums j c) (pos (device_of c.kind).divisor)

abbrev pub reached_after : ℕ → Clock → Divided
reached_after j c = division (device_of c.kind) (leftover_sums j c)

-- the phase with these units and j adjustments (phase units)
abbrev pub phase_sums : ℕ → Clock → ℤ
phase_sums j c = c.phase.0 +ℤ units_reached j c +ℤ pos j *ℤ c.adjustment.0

-- the whole microseconds in it (us)
abbrev pub carries : ℕ → Clock → ℤ
carries j c = quot_z (phase_sums j c) (pos phase_units_per_micro)

-- the phase that is left (phase units)
abbrev pub phase_later : ℕ → Clock → ℤ
phase_later j c = phase_sums j c -ℤ carries j c *ℤ pos phase_units_per_micro

-- the microseconds, those of a second that the last tick has filled included (us)
abbrev pub micros_later : ℕ → Clock → ℕ
micros_later j c = nat_abs (pos (c.micros.0 + (device_of c.kind).tick.0 * j) +ℤ carries j c)

abbrev pub jump_of : ℕ → Clock → Advance
jump_of j c =
    record { micros = micros (micros_later j c); phase = phase_units (phase_later j c); leftover = phase_parts (leftover_later j c) }

-- none of j ticks, of the longest, reaches the end of the second; the phase adds less than a microsecond to
-- them
abbrev pub Within : ℕ → Clock → Type 0
Within j c = phase_units_per_micro * c.micros.0 + longest_tick (device_of c.kind) * j ≤ phase_units_per_micro * last_micro

-- A run with k accepted ticks before it.
abbrev pub adds : ℕ → CaughtUp → CaughtUp
adds k r = record { refusal = r.refusal; count = k + r.count; tick_refusal = r.tick_refusal; clock = r.clock }

-- k accepted ticks, to c, and a tick that is refused with this number, or none (it is 0)
abbrev pub ran : ℕ → ℕ → Clock → CaughtUp
ran k refusal c = record { refusal = 0; count = k; tick_refusal = refusal; clock = c }

-- the number of the refusal before which a turn ends, or 0
abbrev pub end_refusal : End → ℕ
end_refusal E.Within = 0
end_refusal E.Rolled = 0
end_refusal (E.Refused r) = refusal_number r

-- whether a run ends with a turn that ends so, before its ceiling
abbrev pub ends_run : Bool → End → Bool
ends_run stop E.Within = false
ends_run stop E.Rolled = stop
ends_run stop (E.Refused r) = true

-- k ticks to d that end so are a turn of a run of up to n ticks of c: its first ticks, none after one that
-- rolls over, nor after one that is refused.
pub record TurnOf (n : ℕ) (c : Clock) (e : End) (k : ℕ) (d : Clock) : Type 0 where
  pub most : k ≤ n
  pub some : end_refusal e ≡ 0 → 0 < k
  pub run : (stop : Bool)
      → ran_of stop n c ≡ adds k (cond (ends_run stop e) (ended (end_refusal e) d) (ran_of stop (n - k) d))
