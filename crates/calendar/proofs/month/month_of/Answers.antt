-- `calendar::month::month_of` meets its contract: its closed form is the calendar's date at each day.
use mathlib.Core.Path.{sym}
use borrow.Author.Rules.{rules}
use Rattle.calendar.proofs.Dates.{falls}
use Rattle.calendar.proofs.Closed.{date_right}
use Rattle.calendar.proofs.month.month_of.Goals as goal

pub returns : goal.returns
returns c = falls _ (sym (date_right c.args.day (search rules)))
