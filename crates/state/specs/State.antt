-- "The state and its ranges": the table of document 01, field by field, and the fresh clock. Document 02 has
-- the rollovers since the earlier update in the place of its second, and adds the kind of the device, the
-- remainder and the leftover.
use Rattle.std.specs.Prelude.{ℕ, ◌*◌, ◌-◌, Bool, ◌&&◌, ◌||◌, leb, eqb, ℤ, pos, neg_ℤ}
use Rattle.std.specs.Int.Signed.{le_z, lt_z}
use Rattle.state.specs.Units.{micros, offset_units, phase_units, phase_parts, frequency_units, offset_units_per_micro, phase_units_per_micro, frequency_units_per_ppm, micros_per_second}
use Rattle.state.specs.Device.{kind_range, device_of}
use Rattle.state.specs.declared.units.Micros.{Micros}
use Rattle.state.specs.declared.units.OffsetUnits.{OffsetUnits}
use Rattle.state.specs.declared.units.PhaseUnits.{PhaseUnits}
use Rattle.state.specs.declared.units.PhaseParts.{PhaseParts}
use Rattle.state.specs.declared.units.Frequency.{Frequency}
use Rattle.state.specs.declared.device.Device.{Device}
use Rattle.state.specs.declared.state.Clock.{Clock}

-- the last second that can be told
abbrev pub last_second : ℕ
last_second = 4294967295

-- the last microsecond of a second
abbrev pub last_micro : ℕ
last_micro = micros_per_second - 1

-- the size of the greatest offset of a request (us)
abbrev pub greatest_offset : ℕ
greatest_offset = 127999

-- the size of the greatest frequency, 100 ppm (frequency units)
abbrev pub greatest_frequency : ℕ
greatest_frequency = 100 * frequency_units_per_ppm

abbrev pub greatest_constant : ℕ
greatest_constant = 4

-- document 02: "the number of rollovers since the last accepted offset, at most 1,024" (rollovers)
abbrev pub longest_interval : ℕ
longest_interval = 1024

-- the greatest error (us)
abbrev pub greatest_error : ℕ
greatest_error = 16000000

-- OK 0, INS 1, DEL 2, OOP 3, BAD 4
abbrev pub status_ok : ℕ
status_ok = 0

abbrev pub status_ins : ℕ
status_ins = 1

abbrev pub status_del : ℕ
status_del = 2

abbrev pub status_oop : ℕ
status_oop = 3

abbrev pub status_bad : ℕ
status_bad = 4

-- -n ≤ z ≤ n
abbrev pub within : ℕ → ℤ → Bool
within n z = le_z (neg_ℤ (pos n)) z && le_z z (pos n)

-- -n < z < n
abbrev pub strictly_within : ℕ → ℤ → Bool
strictly_within n z = lt_z (neg_ℤ (pos n)) z && lt_z z (pos n)

-- The column "Range", a definition for each row: a saved record's fields are judged by the same.

abbrev pub second_range : ℕ → Bool
second_range n = leb n last_second

abbrev pub micros_range : ℕ → Bool
micros_range n = leb n last_micro

abbrev pub phase_range : ℤ → Bool
phase_range z = strictly_within phase_units_per_micro z

abbrev pub offset_range : ℤ → Bool
offset_range z = within (greatest_offset * offset_units_per_micro) z

abbrev pub frequency_range : ℤ → Bool
frequency_range z = within greatest_frequency z

-- on a device
abbrev pub adjustment_range : Device → ℤ → Bool
adjustment_range d z = le_z d.least.0 z && le_z z d.most.0

abbrev pub constant_range : ℕ → Bool
constant_range n = leb n greatest_constant

-- the flag of the earlier update
abbrev pub flag_range : ℕ → Bool
flag_range n = leb n 1

-- the rollovers since it: "0..1,024 and 0 if the flag is 0"
abbrev pub interval_range : ℕ → Bool
interval_range n = leb n longest_interval

abbrev pub zero_unless_flag : ℕ → ℕ → Bool
zero_unless_flag flag n = eqb flag 1 || eqb n 0

-- both errors
abbrev pub error_range : ℕ → Bool
error_range n = leb n greatest_error

abbrev pub status_range : ℕ → Bool
status_range n = leb n status_bad

-- document 02: "A unit is 16 parts (64 for kind 1); remainder and leftover lie strictly within plus or minus
-- a unit": a phase unit has as many parts as the device's divisor
abbrev pub parts_range : Device → ℤ → Bool
parts_range d z = strictly_within d.divisor z

-- a line for each row; the kind stands before the ranges that depend on it
unfoldable pub in_range : Clock → Bool
in_range c =
    kind_range c.kind
    && second_range c.seconds
    && micros_range c.micros.0
    && phase_range c.phase.0
    && offset_range c.offset.0
    && frequency_range c.frequency.0
    && adjustment_range (device_of c.kind) c.adjustment.0
    && constant_range c.constant
    && (flag_range c.updated && interval_range c.interval && zero_unless_flag c.updated c.interval)
    && error_range c.maxerror.0
    && error_range c.esterror.0
    && status_range c.status
    && parts_range (device_of c.kind) c.remainder.0
    && parts_range (device_of c.kind) c.leftover.0

-- The fields in groups, by what moves them, so that a rule names the groups that it moves and hands on the
-- others whole.

-- moved by ticks and settings
pub record Moment : Type 0 where
  pub seconds : ℕ
  pub micros : Micros
  pub phase : PhaseUnits
  pub leftover : PhaseParts

-- moved by rollovers and settings, and the offset by requests
pub record Correction : Type 0 where
  pub offset : OffsetUnits
  pub adjustment : PhaseUnits
  pub remainder : PhaseParts

-- moved by requests alone
pub record Tuning : Type 0 where
  pub frequency : Frequency
  pub constant : ℕ

-- the earlier update, moved by requests, rollovers and settings: its flag, and the rollovers since it
pub record Update : Type 0 where
  pub updated : ℕ
  pub interval : ℕ

pub record Errors : Type 0 where
  pub maxerror : Micros
  pub esterror : Micros

-- the kind of the device, moved by nothing, is beside them
pub record Groups : Type 0 where
  pub kind : ℕ
  pub time : Moment
  pub correction : Correction
  pub tuning : Tuning
  pub update : Update
  pub errors : Errors
  pub status : ℕ

abbrev pub time_of : Clock → Moment
time_of c = record { seconds = c.seconds; micros = c.micros; phase = c.phase; leftover = c.leftover }

abbrev pub correction_of : Clock → Correction
correction_of c = record { offset = c.offset; adjustment = c.adjustment; remainder = c.remainder }

abbrev pub tuning_of : Clock → Tuning
tuning_of c = record { frequency = c.frequency; constant = c.constant }

abbrev pub update_of : Clock → Update
update_of c = record { updated = c.updated; interval = c.interval }

abbrev pub errors_of : Clock → Errors
errors_of c = record { maxerror = c.maxerror; esterror = c.esterror }

-- the clock of its groups
abbrev pub whole : Groups → Clock
whole g =
    record {
      kind = g.kind;
      seconds = g.time.seconds;
      micros = g.time.micros;
      phase = g.time.phase;
      offset = g.correction.offset;
      frequency = g.tuning.frequency;
      adjustment = g.correction.adjustment;
      constant = g.tuning.constant;
      updated = g.update.updated;
      interval = g.update.interval;
      maxerror = g.errors.maxerror;
      esterror = g.errors.esterror;
      status = g.status;
      remainder = g.correction.remainder;
      leftover = g.time.leftover;
    }

-- no earlier update
abbrev pub no_update : Update
no_update = record { updated = 0; interval = 0 }

-- both errors at their limit
abbrev pub greatest_errors : Errors
greatest_errors = record { maxerror = micros greatest_error; esterror = micros greatest_error }

-- The column "Fresh", of a kind: "a fresh clock of kind 1 has adjustment 150,994,944".
abbrev pub fresh_clock : ℕ → Clock
fresh_clock kind =
    whole
    (record {
      kind = kind;
      time = record { seconds = 0; micros = micros 0; phase = phase_units (pos 0); leftover = phase_parts (pos 0) };
      correction =
          record { offset = offset_units (pos 0); adjustment = (device_of kind).base; remainder = phase_parts (pos 0) };
      tuning = record { frequency = frequency_units (pos 0); constant = 0 };
      update = no_update;
      errors = greatest_errors;
      status = status_bad;
    })
