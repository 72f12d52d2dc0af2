-- The kinds of number, and what they are worth. "An offset unit is 2^-14 us, a phase unit 2^-28 us, a
-- frequency unit 2^-24 ppm." Document 02 has parts of a phase unit besides: "A unit is 16 parts (64 for kind
-- 1)". "Every quotient below drops the fraction towards zero, for negative numbers too": `quot_z` is that
-- quotient, in all of these files, and `rem_z` what it leaves, with the dividend's sign.
use Rattle.std.specs.Prelude.{ℕ, ◌-◌, ◌^◌, ℤ}
use Rattle.state.specs.declared.units.Micros.{Micros}
use Rattle.state.specs.declared.units.OffsetUnits.{OffsetUnits}
use Rattle.state.specs.declared.units.PhaseUnits.{PhaseUnits}
use Rattle.state.specs.declared.units.PhaseParts.{PhaseParts}
use Rattle.state.specs.declared.units.Frequency.{Frequency}
use Rattle.state.specs.declared.units.AskedMicros.{AskedMicros}

abbrev pub micros : ℕ → Micros
micros n = record { 0 = n }

abbrev pub offset_units : ℤ → OffsetUnits
offset_units z = record { 0 = z }

abbrev pub phase_units : ℤ → PhaseUnits
phase_units z = record { 0 = z }

abbrev pub phase_parts : ℤ → PhaseParts
phase_parts z = record { 0 = z }

abbrev pub frequency_units : ℤ → Frequency
frequency_units z = record { 0 = z }

-- microseconds as callers give them, not judged yet
abbrev pub asked_micros : ℕ → AskedMicros
asked_micros n = record { 0 = n }

-- "An offset unit is 2^-14 us"
abbrev pub offset_units_per_micro : ℕ
offset_units_per_micro = 2 ^ 14

-- "a phase unit 2^-28 us"
abbrev pub phase_units_per_micro : ℕ
phase_units_per_micro = 2 ^ 28

-- "a frequency unit 2^-24 ppm"
abbrev pub frequency_units_per_ppm : ℕ
frequency_units_per_ppm = 2 ^ 24

abbrev pub micros_per_second : ℕ
micros_per_second = 1000000

abbrev pub seconds_per_day : ℕ
seconds_per_day = 86400

abbrev pub last_second_of_day : ℕ
last_second_of_day = seconds_per_day - 1
