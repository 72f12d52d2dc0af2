-- `record::refused` meets its contract: the fresh clock of kind 0 beside the number.
use Rattle.state.specs.Fresh.{fresh_of}
use Rattle.record.proofs.restore.refused.Goals as goal

pub returns : goal.returns
unfolding fresh_of
returns c = rw (c.number.ensures, c.fresh.ensures)
