-- What the book of a clock is kept in, for each kind of device: "976 9/16 us for each tick; 1/1,024 in place
-- of 1/256, for frequency, for shares and for the account of one offset (so exact time is kept in 2^-34 us);
-- forward at least 976 n us".
use Rattle.std.specs.Prelude.{ℕ, ◌+◌, ◌*◌, ◌/◌, ◌^◌, ◌≡◌, cond, eqb}
use Rattle.state.specs.Units.{offset_units_per_micro, phase_units_per_micro, frequency_units_per_ppm}
use Rattle.state.specs.Device.{recorder256, recorder1024, kind1024}
use Rattle.state.specs.declared.device.Device.{Device}

pub record Measure : Type 0 where
  -- units of exact time in a microsecond
  pub per_micro : ℕ
  -- the time of a tick (units of exact time)
  pub tick : ℕ
  -- the parts of a second, one of which a tick counts of the frequency, of the share, and of what an offset
  -- has moved
  pub parts : ℕ
  -- the least that a tick moves the clock forward (us)
  pub least : ℕ

-- the 256 Hz device: exact time in 2^-32 us, "3,906 1/4 us", 1/256, "3,905 n us"
abbrev pub measure256 : Measure
measure256 = record { per_micro = 2 ^ 32; tick = 3906 * 2 ^ 32 + 2 ^ 32 / 4; parts = 256; least = 3905 }

-- the 1,024 Hz device: exact time in 2^-34 us, "976 9/16 us", 1/1,024, "976 n us"
abbrev pub measure1024 : Measure
measure1024 = record { per_micro = 2 ^ 34; tick = 976 * 2 ^ 34 + 9 * (2 ^ 34 / 16); parts = 1024; least = 976 }

unfoldable pub measure_of : ℕ → Measure
measure_of kind = cond (eqb kind kind1024) measure1024 measure256

-- units of exact time in one part of a frequency unit (2^-24 us per second), and in one part of an offset
-- unit (2^-14 us)
abbrev pub per_frequency : ℕ
per_frequency = 1

abbrev pub per_share : ℕ
per_share = 2 ^ 10

-- that they are: 1/256 of 2^-24 us is 2^-32 us and 1/256 of 2^-14 us is 2^-22 us; 1/1,024 of them is 2^-34 us
-- and 2^-24 us. And a part of a phase unit, 1/16 of 2^-28 us or 1/64 of it, is a unit of exact time
abbrev pub InUnits : Device → Measure → Type 0
InUnits d m =
    (per_frequency * (frequency_units_per_ppm * m.parts) ≡ m.per_micro)
    × (per_share * (offset_units_per_micro * m.parts) ≡ m.per_micro)
    × (phase_units_per_micro * d.divisor ≡ m.per_micro)

abbrev pub EachInUnits : Type 0
EachInUnits = InUnits recorder256 measure256 × InUnits recorder1024 measure1024
