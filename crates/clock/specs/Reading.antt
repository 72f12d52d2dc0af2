-- "Reading. Seconds, microseconds, status, both errors; the state is not changed."
use Rattle.std.specs.Prelude.{ℕ, not, cond}
use Rattle.state.specs.Units.{micros}
use Rattle.state.specs.State.{in_range, status_bad}
use Rattle.state.specs.Refusal.{refused_state, refuse}
use Rattle.state.specs.declared.state.Clock.{Clock}
use Rattle.clock.specs.declared.reading.Reading.{Reading}
use Rattle.clock.specs.declared.reading.Told.{Told}

-- what a clock shows
abbrev pub shown : Clock → Reading
shown c = record { seconds = c.seconds; micros = c.micros; status = c.status; maxerror = c.maxerror; esterror = c.esterror }

-- "a refused reading gives zeros and status 4"
abbrev pub no_reading : Reading
no_reading = record { seconds = 0; micros = micros 0; status = status_bad; maxerror = micros 0; esterror = micros 0 }

-- 1 "a state field lies outside its range"
unfoldable pub reading_refusal : Clock → ℕ
reading_refusal c = refuse (not (in_range c)) refused_state 0

-- what a reading answers
unfoldable pub told_of : Clock → Told
told_of c = record { refusal = reading_refusal c; reading = cond (in_range c) (shown c) no_reading }
