-- "Request."
use Rattle.std.specs.Prelude.{ℕ, ◌/◌, ◌%◌, ◌^◌, Bool, ◌&&◌, ◌||◌, not, cond, ltb, eqb, ℤ, pos, neg_ℤ, ◌+ℤ◌, ◌*ℤ◌}
use Rattle.std.specs.Int.Signed.{quot_z, lt_z}
use Rattle.state.specs.Units.{micros, offset_units, frequency_units, offset_units_per_micro}
use Rattle.state.specs.State.{in_range, within, strictly_within, greatest_offset, greatest_frequency, greatest_constant, greatest_error, status_ok, status_bad, time_of, whole}
use Rattle.state.specs.Refusal.{refused_state, refused_mode, refused_offset, refused_frequency, refused_error, refused_status, refused_constant, refused_soon, refuse, answer}
use Rattle.state.specs.declared.state.Clock.{Clock}
use Rattle.state.specs.declared.units.Micros.{Micros}
use Rattle.state.specs.declared.outcome.Outcome.{Outcome}
use Rattle.request.specs.declared.request.ModeBits.{ModeBits}
use Rattle.request.specs.declared.request.Request.{Request}

-- the mode has this bit, a power of two
abbrev pub bit_set : ℕ → ℕ → Bool
bit_set mode bit = eqb (mode / bit % 2) 1

-- "A mode number selects fields: 1 offset (us), 2 frequency, 4 maximum error, 8 estimated error, 16 status,
-- 32 time constant."
abbrev pub mode_bits : ModeBits
mode_bits = record { offset = 1; frequency = 2; maxerror = 4; esterror = 8; status = 16; constant = 32 }

abbrev pub selects_offset : Request → Bool
selects_offset r = bit_set r.mode mode_bits.offset

abbrev pub selects_frequency : Request → Bool
selects_frequency r = bit_set r.mode mode_bits.frequency

abbrev pub selects_maxerror : Request → Bool
selects_maxerror r = bit_set r.mode mode_bits.maxerror

abbrev pub selects_esterror : Request → Bool
selects_esterror r = bit_set r.mode mode_bits.esterror

abbrev pub selects_status : Request → Bool
selects_status r = bit_set r.mode mode_bits.status

abbrev pub selects_constant : Request → Bool
selects_constant r = bit_set r.mode mode_bits.constant

-- all six bits
abbrev pub greatest_mode : ℕ
greatest_mode = 63

-- 4 "mode above 63"
abbrev pub mode_above : Request → Bool
mode_above r = ltb greatest_mode r.mode

-- 5 "selected offset not within -127,999..127,999"
abbrev pub offset_outside : Request → Bool
offset_outside r = selects_offset r && not (within greatest_offset r.offset.0)

-- 6 "selected frequency not strictly between the ends of its range"
abbrev pub frequency_outside : Request → Bool
frequency_outside r = selects_frequency r && not (strictly_within greatest_frequency r.frequency.0)

-- 7 "a selected error above 16,000,000": either of the two
abbrev pub maxerror_above : Request → Bool
maxerror_above r = selects_maxerror r && ltb greatest_error r.maxerror.0

abbrev pub esterror_above : Request → Bool
esterror_above r = selects_esterror r && ltb greatest_error r.esterror.0

abbrev pub error_above : Request → Bool
error_above r = maxerror_above r || esterror_above r

-- 8 "selected status above 4"
abbrev pub status_above : Request → Bool
status_above r = selects_status r && ltb status_bad r.status

-- 9 "selected time constant above 4"
abbrev pub constant_above : Request → Bool
constant_above r = selects_constant r && ltb greatest_constant r.constant

-- document 02: the fewest rollovers from one accepted offset to the next, README.kern's MINSEC (rollovers)
abbrev pub shortest_interval : ℕ
shortest_interval = 64

-- 17 "A request that selects an offset fewer than 64 rollovers after the last accepted one"; "A clock without
-- an earlier update is exempt."
abbrev pub offset_too_soon : Clock → Request → Bool
offset_too_soon c r = selects_offset r && eqb c.updated 1 && ltb c.interval shortest_interval

-- "The lowest of 1 to 9 that applies is given"; "Unselected fields are not examined." Document 02: 17 is
-- "checked after 9".
unfoldable pub request_refusal : Clock → Request → ℕ
request_refusal c r =
    refuse (not (in_range c)) refused_state
    (refuse (mode_above r) refused_mode
    (refuse (offset_outside r) refused_offset
    (refuse (frequency_outside r) refused_frequency
    (refuse (error_above r) refused_error
    (refuse (status_above r) refused_status
    (refuse (constant_above r) refused_constant
    (refuse (offset_too_soon c r) refused_soon
    0)))))))

-- "Effects in the order frequency, errors, status, time constant, offset." Each of them is a definition of
-- its own. the frequency, before an offset moves it (frequency units)
abbrev pub frequency_written : Clock → Request → ℤ
frequency_written c r = cond (selects_frequency r) r.frequency.0 c.frequency.0

-- both errors (us)
abbrev pub maxerror_written : Clock → Request → Micros
maxerror_written c r = cond (selects_maxerror r) (micros r.maxerror.0) c.maxerror

abbrev pub esterror_written : Clock → Request → Micros
esterror_written c r = cond (selects_esterror r) (micros r.esterror.0) c.esterror

-- "Status is written only if the present status is OK or the written one is BAD; otherwise it is left"
abbrev pub status_written : Clock → Request → ℕ
status_written c r = cond (selects_status r && (eqb c.status status_ok || eqb r.status status_bad)) r.status c.status

-- the time constant
abbrev pub constant_written : Clock → Request → ℕ
constant_written c r = cond (selects_constant r) r.constant c.constant

-- "An offset replaces offset left by offset x 2^14." (offset units)
abbrev pub offset_after : Clock → Request → ℤ
offset_after c r = cond (selects_offset r) (r.offset.0 *ℤ pos offset_units_per_micro) c.offset.0

-- document 02: the interval is "the number of rollovers since the last accepted offset"; document 01: "0 if
-- there is none"
abbrev pub interval : Clock → ℕ
interval c = cond (eqb c.updated 1) c.interval 0

-- 4^(time constant)
abbrev pub gain_divisor : ℕ → ℕ
gain_divisor k = 4 ^ k

-- "Frequency grows by offset x interval / 4^(time constant)" (frequency units)
abbrev pub gain : ℤ → ℕ → ℕ → ℤ
gain o n k = quot_z (o *ℤ pos n) (pos (gain_divisor k))

-- "then is clamped to its range" (frequency units)
abbrev pub clamp : ℤ → ℤ
clamp z =
    cond (lt_z z (neg_ℤ (pos greatest_frequency)))
    (neg_ℤ (pos greatest_frequency))
    (cond (lt_z (pos greatest_frequency) z) (pos greatest_frequency) z)

-- the frequency that an offset leads to; its gain takes the frequency and the time constant that this request
-- wrote
abbrev pub frequency_grown : Clock → Request → ℤ
frequency_grown c r = frequency_written c r +ℤ gain r.offset.0 (interval c) (constant_written c r)

abbrev pub frequency_after : Clock → Request → ℤ
frequency_after c r = cond (selects_offset r) (clamp (frequency_grown c r)) (frequency_written c r)

-- an accepted offset becomes the earlier update: document 01's "The present second becomes the earlier
-- update." No rollover has come since.
abbrev pub updated_after : Clock → Request → ℕ
updated_after c r = cond (selects_offset r) 1 c.updated

abbrev pub interval_after : Clock → Request → ℕ
interval_after c r = cond (selects_offset r) 0 c.interval

-- "A selected offset also turns status BAD to OK, unless this request writes BAD"
abbrev pub writes_bad : Request → Bool
writes_bad r = selects_status r && eqb r.status status_bad

abbrev pub status_after : Clock → Request → ℕ
status_after c r = cond (selects_offset r && eqb (status_written c r) status_bad && not (writes_bad r)) status_ok (status_written c r)

-- All effects. "Nothing else moves before the next rollover. Mode 0 is accepted and changes nothing."
unfoldable pub requested : Clock → Request → Clock
requested c r =
    whole
    (record {
      kind = c.kind;
      time = time_of c;
      correction =
          record { offset = offset_units (offset_after c r); adjustment = c.adjustment; remainder = c.remainder };
      tuning = record { frequency = frequency_units (frequency_after c r); constant = constant_written c r };
      update = record { updated = updated_after c r; interval = interval_after c r };
      errors = record { maxerror = maxerror_written c r; esterror = esterror_written c r };
      status = status_after c r;
    })

-- "All or nothing": every effect, or none with the refusal
unfoldable pub request_of : Clock → Request → Outcome
request_of c r = answer (request_refusal c r) (requested c r) c
