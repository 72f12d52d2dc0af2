-- `calendar::day_of` meets its contract: each test refuses only what is no day's date, and what passes all is
-- the day that is found.
use Rattle.std.proofs.Common.{◌≤◌, rules, arith}
use Rattle.calendar.specs.Calendar.{month_days}
use Rattle.calendar.proofs.Dates.{month_length}
use Rattle.calendar.proofs.Search.{no_year, no_month, no_day, first_below, is_found, too_late}
use Rattle.calendar.proofs.day_of.Goals as goal
use Rattle.calendar.proofs.day_of.Goals.{then-not-contains-via-then-not-contains, then-not-contains-via-else-not-contains+then-not-contains-2}

pub returns-then-not-contains : goal.returns-then-not-contains
returns-then-not-contains c =
    elim c.then-not-contains.branch [
      | then-not-contains-via-then-not-contains w ↦ no_year c.args.d (search rules)
      | then-not-contains-via-else-not-contains+then-not-contains-2 w ↦ no_month c.args.d (search rules)
    ]

pub returns-then-not-contains-3 : goal.returns-then-not-contains-3
returns-then-not-contains-3 c = no_day c.args.d (search (rules, c.days_of.ensures))

pub overflow_add-number : goal.overflow_add-number
overflow_add-number c =
    let d = c.args.d in
    let within : (1 ≤ d.day) × (d.day ≤ month_days d.year d.month) = search rules in
    record { fits = omega (arith, within.1, month_length d.year d.month, first_below d c.first_of.result c.first_of.ensures (search rules) (search rules)) }

pub returns-then-number-lt-DAYS : goal.returns-then-number-lt-DAYS
returns-then-number-lt-DAYS c = is_found c.args.d c.first_of.result c.first_of.ensures (search rules) c.if-number-lt-DAYS.true

pub returns-else-number-lt-DAYS : goal.returns-else-number-lt-DAYS
returns-else-number-lt-DAYS c = too_late c.args.d c.first_of.result c.first_of.ensures (search rules) c.if-number-lt-DAYS.false
