-- `summary::cells::Summary::add`: a count and a largest are put back where they were read.
use Rattle.summary.specs.Summary.{with_offset}
use Rattle.summary.proofs.cells.Summary.add.Goals as goal

pub returns : goal.returns
unfolding with_offset
returns c = rw (c.one_more.ensures, c.larger.ensures, c.quarter_of-quarter.ensures.0)
