-- "Rollover, in this order." Document 02 adds the interval since the earlier update, and the remainder of the
-- frequency.
use Rattle.std.specs.Prelude.{ℕ, ◌+◌, ◌-◌, ◌%◌, ◌^◌, min, Bool, ◌&&◌, cond, eqb, ℤ, pos, ◌+ℤ◌, ◌-ℤ◌, ◌*ℤ◌}
use Rattle.std.specs.Int.Signed.{quot_z, rem_z}
use Rattle.state.specs.Units.{micros, offset_units, phase_units, phase_parts, seconds_per_day, last_second_of_day}
use Rattle.state.specs.Device.{device_of}
use Rattle.state.specs.State.{greatest_error, longest_interval, status_ok, status_ins, status_del, status_oop, tuning_of, whole}
use Rattle.state.specs.declared.device.Device.{Device}
use Rattle.state.specs.declared.state.Clock.{Clock}
use Rattle.clock.specs.declared.divided.Divided.{Divided}

-- README.kern's tolerance of 100 ppm: what a second may add to the maximum error (us)
abbrev pub tolerance : ℕ
tolerance = 100

-- "Maximum error + 100, at most 16,000,000" (us)
abbrev pub maxerror_grown : ℕ → ℕ
maxerror_grown e = min (e + tolerance) greatest_error

-- 2^(10 + time constant)
abbrev pub share_divisor : ℕ → ℕ
share_divisor k = 2 ^ (10 + k)

-- "Share = offset left / 2^(10 + time constant)" (offset units)
abbrev pub share : Clock → ℤ
share c = quot_z c.offset.0 (pos (share_divisor c.constant))

-- "offset left falls by the share" (offset units)
abbrev pub offset_left : Clock → ℤ
offset_left c = c.offset.0 -ℤ share c

-- document 02: "The dividing step must now hand back quotient and remainder, the remainder with the
-- dividend's sign": frequency / 16, of the second device frequency / 64 (phase units a tick, and parts of
-- one). The share's and the gain's quotients drop what they leave
abbrev pub division : Device → ℤ → Divided
division d f =
    record {
      quotient = phase_units (quot_z f (pos d.divisor));
      remainder = phase_parts (rem_z f (pos d.divisor));
    }

-- "Adjustment = 64 x share + frequency / 16 + 67,108,864"; of the second device "16 x share + frequency / 64
-- + 150,994,944" (phase units); of a share and a frequency
abbrev pub adjustment_for : Device → ℤ → ℤ → ℤ
adjustment_for d s f = pos d.scale *ℤ s +ℤ (division d f).quotient.0 +ℤ d.base.0

-- document 02: "Keep instead the number of rollovers since the last accepted offset, at most 1,024": a
-- rollover is one more, whatever its leap step; where there is no earlier update there is nothing to count
abbrev pub interval_grown : ℕ → ℕ → ℕ
interval_grown flag n = cond (eqb flag 1) (min (n + 1) longest_interval) n

-- "Then at most one of these, by the status before", s being the second that the rollover has reached:
-- "INS and seconds divisible by 86,400: seconds - 1, OOP."
abbrev pub inserts : ℕ → ℕ → Bool
inserts status s = eqb status status_ins && eqb (s % seconds_per_day) 0

-- "DEL and seconds mod 86,400 = 86,399: seconds + 1, OK."
abbrev pub deletes : ℕ → ℕ → Bool
deletes status s = eqb status status_del && eqb (s % seconds_per_day) last_second_of_day

-- the second after the step; s is at least 1, and the last second is not one that a step would add to
abbrev pub leap_seconds : ℕ → ℕ → ℕ
leap_seconds status s = cond (inserts status s) (s - 1) (cond (deletes status s) (s + 1) s)

-- "OOP: OK."
abbrev pub leap_status : ℕ → ℕ → ℕ
leap_status status s = cond (inserts status s) status_oop (cond (deletes status s) status_ok (cond (eqb status status_oop) status_ok status))

-- "Seconds + 1", and all of the above; the leftover stays.
unfoldable pub rolled_over : Clock → Clock
rolled_over c =
    whole
    (record {
      kind = c.kind;
      time =
          record {
            seconds = leap_seconds c.status (c.seconds + 1);
            micros = c.micros;
            phase = c.phase;
            leftover = c.leftover;
          };
      correction =
          record {
            offset = offset_units (offset_left c);
            adjustment = phase_units (adjustment_for (device_of c.kind) (share c) c.frequency.0);
            remainder = (division (device_of c.kind) c.frequency.0).remainder;
          };
      tuning = tuning_of c;
      update = record { updated = c.updated; interval = interval_grown c.updated c.interval };
      errors = record { maxerror = micros (maxerror_grown c.maxerror.0); esterror = c.esterror };
      status = leap_status c.status (c.seconds + 1);
    })
