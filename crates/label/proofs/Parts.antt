-- The ranges of a second's date.
use Rattle.std.proofs.Common.{◌≡◌, ℕ, ◌*◌, ◌/◌, ◌<◌, ◌≤◌, arith}
use Rattle.state.specs.Units.{seconds_per_day}
use Rattle.state.specs.State.{last_second}
use Rattle.calendar.specs.declared.Date.{Date}
use Rattle.calendar.specs.Calendar.{date_of, days, first_year}
use Rattle.calendar.proofs.Dates.{Sound, sound, month_length}
use Rattle.calendar.proofs.Closed.{year_bound}
use Rattle.calendar.specs.Inner.{last_year}

pub record Ranges (d : Date) : Type 0 where
  pub year : (first_year ≤ d.year) × (d.year ≤ last_year)
  pub month : (1 ≤ d.month) × (d.month ≤ 12)
  pub day : (1 ≤ d.day) × (d.day ≤ 31)

pub ranges : (n : ℕ) → n < days → Ranges (date_of n)
ranges n h =
    let s : Sound (date_of n) = sound n in
    let long = month_length (date_of n).year (date_of n).month in
    record { year = (s.years, year_bound n h); month = s.months; day = (s.days.0, omega (arith, s.days.1)) }

pub ranges_of : (s : ℕ) {d : Date} → s ≤ last_second → d ≡ date_of (s / seconds_per_day) → Ranges d
ranges_of s h e = rw e (ranges (s / seconds_per_day) (omega arith))

-- a hundredth of its year, as `put_label` works it out
pub century_of : (s : ℕ) {d : Date} → s ≤ last_second → d ≡ date_of (s / seconds_per_day) → d.year * 5243 / 524288 ≡ d.year / 100
century_of s {d} h e = let r = (ranges_of s h e).year in omega arith
