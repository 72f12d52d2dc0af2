-- What the operations that are measured work on.
use Rattle.std.specs.Prelude.{◌≡◌, ℕ, ◌+◌, ◌*◌, ◌/◌, ◌%◌, ◌<◌, ℤ, pos, ◌-ℤ◌, List, get_or}
use Rattle.number.specs.Mapping.{unmapped}
use Rattle.state.specs.Units.{micros, offset_units, phase_units, phase_parts, frequency_units, asked_micros}
use Rattle.state.specs.declared.state.Clock.{Clock}
use Rattle.request.specs.declared.request.Request.{Request}
use Rattle.workload.specs.declared.values.Values.{Values}

-- the numbers from the top bit of the line's first byte on, which is 0 in ASCII
abbrev pub CountFrom : List ℕ → Values → Type 0
CountFrom line v = (k : ℕ) → k < 64 → get_or v.numbers k 0 ≡ get_or line 0 0 / 128 + k

-- the numbers again and again
abbrev pub value_at : Values → ℕ → ℕ
value_at v i = get_or v.numbers (i % 64) 0

abbrev pub small_at : Values → ℕ → ℕ
small_at v i = value_at v i % 64

-- so many times the i-th
abbrev pub times_at : Values → ℕ → ℕ → ℤ
times_at v i factor = pos (small_at v i * factor)

abbrev pub difference_at : Values → ℕ → ℕ → ℤ
difference_at v i k = pos (small_at v i) -ℤ pos (small_at v k)

-- the clock that operations begin with
abbrev pub clock_of : Values → ℕ → Clock
clock_of v kind =
    record {
      seconds = small_at v 43 * 2000;
      micros = micros (small_at v 0);
      phase = phase_units (times_at v 0 1);
      offset = offset_units (times_at v 10 1638400);
      frequency = frequency_units (times_at v 12 10289);
      adjustment = phase_units (times_at v 40 3355443);
      constant = small_at v 2;
      updated = small_at v 1;
      interval = small_at v 0;
      maxerror = micros (small_at v 16 * 1000000);
      esterror = micros (small_at v 16 * 1000000);
      status = small_at v 0;
      kind = small_at v kind;
      remainder = phase_parts (difference_at v 5 9);
      leftover = phase_parts (difference_at v 3 7);
    }

-- the i-th request: every choice of fields in turn, and every 64th other values
abbrev pub request_at : Values → ℕ → Request
request_at v i =
    let k = i / 64 in
    record {
      mode = value_at v i;
      offset = record { 0 = unmapped (value_at v k) };
      frequency = record { 0 = unmapped (value_at v (k / 2)) };
      maxerror = asked_micros (value_at v (k / 3));
      esterror = asked_micros (value_at v (k / 4));
      status = value_at v (k % 4);
      constant = value_at v (k % 5);
    }
