-- `label::fields::bounded_pair` meets its contract: what `pair` gives is below 100 for two digits alone.
use Rattle.label.proofs.Digits.{pair_kept}
use Rattle.label.proofs.fields.bounded_pair.Goals as goal

pub returns-else-n-lt100 : goal.returns-else-n-lt100
returns-else-n-lt100 c = pair_kept c.args.tens c.args.units c.pair-n.ensures c.if-n-lt100.false
