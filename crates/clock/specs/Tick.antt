-- "Tick." Document 02 adds the leftover: "The clock keeps the remainder in force and a leftover; each tick
-- adds the one to the other, and when the leftover reaches a whole phase unit, up or down, that unit goes
-- into the phase before c is taken."
use Rattle.std.specs.Prelude.{ℕ, ◌+◌, ◌-◌, Bool, ◌&&◌, not, cond, leb, eqb, ℤ, pos, neg_ℤ, nat_abs, ◌+ℤ◌, ◌-ℤ◌, ◌*ℤ◌}
use Rattle.std.specs.Int.Signed.{le_z, quot_z}
use Rattle.state.specs.Units.{micros, phase_units, phase_parts, phase_units_per_micro, micros_per_second}
use Rattle.state.specs.Device.{device_of}
use Rattle.state.specs.State.{in_range, last_second, correction_of, tuning_of, update_of, errors_of, whole}
use Rattle.state.specs.Refusal.{refused_state, refused_last, refuse, answer}
use Rattle.state.specs.declared.units.Micros.{Micros}
use Rattle.state.specs.declared.units.PhaseUnits.{PhaseUnits}
use Rattle.state.specs.declared.units.PhaseParts.{PhaseParts}
use Rattle.state.specs.declared.state.Clock.{Clock}
use Rattle.state.specs.declared.outcome.Outcome.{Outcome}
use Rattle.clock.specs.Rollover.{rolled_over}

-- "each tick adds the one to the other" (parts of a phase unit)
abbrev pub leftover_sum : Clock → ℤ
leftover_sum c = c.leftover.0 +ℤ c.remainder.0

-- "A unit is 16 parts (64 for kind 1)": the whole unit that so many parts have reached, up or down, or none
-- (phase units)
unfoldable pub unit_in : ℕ → ℤ → ℤ
unit_in parts z = cond (le_z (pos parts) z) (pos 1) (cond (le_z z (neg_ℤ (pos parts))) (neg_ℤ (pos 1)) (pos 0))

-- "when the leftover reaches a whole phase unit, up or down" (phase units)
abbrev pub unit_reached : Clock → ℤ
unit_reached c = unit_in (device_of c.kind).divisor (leftover_sum c)

-- the leftover without it (parts of a phase unit)
abbrev pub leftover_left : Clock → ℤ
leftover_left c = leftover_sum c -ℤ unit_reached c *ℤ pos (device_of c.kind).divisor

-- "Phase becomes phase plus adjustment"; "that unit goes into the phase before c is taken" (phase units)
abbrev pub phase_sum : Clock → ℤ
phase_sum c = c.phase.0 +ℤ c.adjustment.0 +ℤ unit_reached c

-- "c is the new phase divided by 2^28" (us)
abbrev pub carry : Clock → ℤ
carry c = quot_z (phase_sum c) (pos phase_units_per_micro)

-- "c times 2^28 is taken from the phase" (phase units)
abbrev pub phase_left : Clock → ℤ
phase_left c = phase_sum c -ℤ carry c *ℤ pos phase_units_per_micro

-- "microseconds grow by 3,906 + c" (us); "A second device has ticks of 976 us". Of a clock in range the sum
-- is not negative
abbrev pub micros_grown : Clock → ℕ
micros_grown c = nat_abs (pos (c.micros.0 + (device_of c.kind).tick.0) +ℤ carry c)

-- "If they reach 1,000,000"
abbrev pub rolls_over : Clock → Bool
rolls_over c = leb micros_per_second (micros_grown c)

-- the clock with other microseconds, another phase and another leftover: all that a tick moves before a
-- rollover
abbrev pub moved : Clock → Micros → PhaseUnits → PhaseParts → Clock
moved c us phase leftover =
    whole
    (record {
      kind = c.kind;
      time = record { seconds = c.seconds; micros = us; phase = phase; leftover = leftover };
      correction = correction_of c;
      tuning = tuning_of c;
      update = update_of c;
      errors = errors_of c;
      status = c.status;
    })

-- the clock with the new phase and leftover, and with us for its microseconds
abbrev pub advanced : Clock → ℕ → Clock
advanced c us = moved c (micros us) (phase_units (phase_left c)) (phase_parts (leftover_left c))

-- "that much is taken off and a rollover follows": it is taken off where there is that much
unfoldable pub ticked : Clock → Clock
ticked c = cond (rolls_over c) (rolled_over (advanced c (micros_grown c - micros_per_second))) (advanced c (micros_grown c))

-- 1 "a state field lies outside its range", 3 "the tick would roll over from second 4,294,967,295"
unfoldable pub tick_refusal : Clock → ℕ
tick_refusal c =
    refuse (not (in_range c)) refused_state
    (refuse (rolls_over c && eqb c.seconds last_second) refused_last
    0)

-- what a tick answers
unfoldable pub tick_of : Clock → Outcome
tick_of c = answer (tick_refusal c) (ticked c) c
