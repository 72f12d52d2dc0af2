-- A clock some rollovers later, without its ticks.
use Rattle.std.specs.Prelude.{◌+◌, ◌%◌, ◌^◌}
use Rattle.state.specs.State.{whole, correction_of, tuning_of, errors_of}
use Rattle.state.specs.declared.state.Clock.{Clock}

-- 64 s later, and as many rollovers; the interval stays from 64 to 1,023
abbrev pub later_of : Clock → Clock
later_of c =
    whole
    (record {
      kind = c.kind;
      time = record { seconds = (c.seconds + 64) % 2 ^ 32; micros = c.micros; phase = c.phase; leftover = c.leftover };
      correction = correction_of c;
      tuning = tuning_of c;
      update = record { updated = c.updated; interval = c.interval % 960 + 64 };
      errors = errors_of c;
      status = c.status;
    })
