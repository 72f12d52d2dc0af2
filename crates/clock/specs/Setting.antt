-- "Setting (seconds, microseconds)."
use Rattle.std.specs.Prelude.{ℕ, Bool, ◌&&◌, not, leb, pos}
use Rattle.state.specs.Units.{micros, offset_units, phase_units, phase_parts}
use Rattle.state.specs.Device.{device_of}
use Rattle.state.specs.State.{in_range, last_second, last_micro, status_bad, tuning_of, whole, no_update, greatest_errors}
use Rattle.state.specs.Refusal.{refused_state, refused_time, refuse, answer}
use Rattle.state.specs.declared.state.Clock.{Clock}
use Rattle.state.specs.declared.units.AskedMicros.{AskedMicros}
use Rattle.state.specs.declared.outcome.Outcome.{Outcome}
use Rattle.clock.specs.Rollover.{division, adjustment_for}

-- "Both replaced; phase and offset left 0; no earlier update; adjustment as at a rollover with share 0; both
-- errors 16,000,000; status BAD. Frequency and time constant stay." Document 02: the "device kind, 0 or 1,
-- which a setting keeps"; "A setting clears the leftover and works the remainder out from the frequency
-- kept."
abbrev pub set_to : Clock → ℕ → AskedMicros → Clock
set_to c s u =
    whole
    (record {
      kind = c.kind;
      time = record { seconds = s; micros = micros u.0; phase = phase_units (pos 0); leftover = phase_parts (pos 0) };
      correction =
          record {
            offset = offset_units (pos 0);
            adjustment = phase_units (adjustment_for (device_of c.kind) (pos 0) c.frequency.0);
            remainder = (division (device_of c.kind) c.frequency.0).remainder;
          };
      tuning = tuning_of c;
      update = no_update;
      errors = greatest_errors;
      status = status_bad;
    })

-- within "the ranges of seconds or microseconds"
abbrev pub settable : ℕ → AskedMicros → Bool
settable s u = leb s last_second && leb u.0 last_micro

-- 1 "a state field lies outside its range", 2 "a setting outside the ranges of seconds or microseconds"
unfoldable pub setting_refusal : Clock → ℕ → AskedMicros → ℕ
setting_refusal c s u = refuse (not (in_range c)) refused_state (refuse (not (settable s u)) refused_time 0)

-- what a setting answers
unfoldable pub setting_of : Clock → ℕ → AskedMicros → Outcome
setting_of c s u = answer (setting_refusal c s u) (set_to c s u) c
