-- `playback::start` meets its contract: a run starts at the first byte, on a fresh clock of kind 0, with a
-- summary of no offsets.
use Rattle.state.specs.Fresh.{fresh_of}
use Rattle.playback.proofs.run.start.Goals as goal

pub returns : goal.returns
unfolding fresh_of
returns c = rw (c.fresh.ensures, c.empty.ensures.value)
