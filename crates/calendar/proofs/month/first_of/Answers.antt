-- `calendar::month::first_of` meets its contract: its closed form is the first day of each month.
use borrow.Author.Rules.{rules}
use Rattle.calendar.proofs.Closed.{first_right}
use Rattle.calendar.proofs.month.first_of.Goals as goal

pub returns : goal.returns
returns c = first_right c.args.year c.args.month (search rules) (search rules)
