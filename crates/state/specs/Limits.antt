-- The constants that outsiders use, as the functions that tell them answer: units, the ends of the ranges,
-- the status codes, the numbers of the refusals.
use Rattle.std.specs.Prelude.{ℕ, ◌*◌, pos, neg_ℤ}
use Rattle.state.specs.Units.{offset_units_per_micro, phase_units_per_micro, frequency_units_per_ppm, micros_per_second, seconds_per_day}
use Rattle.state.specs.State.{last_second, last_micro, greatest_offset, greatest_frequency, greatest_constant, longest_interval, greatest_error, status_ok, status_ins, status_del, status_oop, status_bad}
use Rattle.state.specs.Refusal.{refused_state, refused_time, refused_last, refused_mode, refused_offset, refused_frequency, refused_error, refused_status, refused_constant, refused_ended, refused_form, refused_field, refused_beyond, refused_room, refused_label, refused_ceiling, refused_soon, refused_place, refused_table}
use Rattle.state.specs.declared.limits.Scales.{Scales}
use Rattle.state.specs.declared.limits.Ends.{Ends}
use Rattle.state.specs.declared.limits.Limits.{Limits}
use Rattle.state.specs.declared.limits.StatusCodes.{StatusCodes}
use Rattle.state.specs.declared.refusals.RefusalNumbers.{RefusalNumbers}

abbrev pub scales : Scales
scales =
    record {
      phase = pos phase_units_per_micro;
      offset = pos offset_units_per_micro;
      frequency = pos frequency_units_per_ppm;
      second = micros_per_second;
      day = seconds_per_day;
    }

-- n either way
abbrev pub ends : ℕ → Ends
ends n = record { lower = neg_ℤ (pos n); upper = pos n }

abbrev pub limits : Limits
limits =
    record {
      seconds = last_second;
      micros = last_micro;
      phase = ends phase_units_per_micro;
      asked = pos greatest_offset;
      offset = ends (greatest_offset * offset_units_per_micro);
      frequency = ends greatest_frequency;
      constant = greatest_constant;
      interval = longest_interval;
      error = greatest_error;
    }

abbrev pub status_codes : StatusCodes
status_codes = record { ok = status_ok; ins = status_ins; del = status_del; oop = status_oop; bad = status_bad }

abbrev pub refusal_numbers : RefusalNumbers
refusal_numbers =
    record {
      state = refused_state;
      time = refused_time;
      last = refused_last;
      mode = refused_mode;
      offset = refused_offset;
      frequency = refused_frequency;
      error = refused_error;
      status = refused_status;
      constant = refused_constant;
      ended = refused_ended;
      form = refused_form;
      field = refused_field;
      beyond = refused_beyond;
      room = refused_room;
      label = refused_label;
      ceiling = refused_ceiling;
      soon = refused_soon;
      place = refused_place;
      table = refused_table;
    }
