-- `state::state::fields_of_kind_in_range`: by the kind, the ranges of its device; there is no third.
use Rattle.state.specs.Device.{device_of}
use Rattle.state.proofs.state.fields_of_kind_in_range.Goals as goal

pub returns-in-0 : goal.returns-in-0
unfolding device_of
returns-in-0 c = simp (c.in_ranges_of.ensures, c.in-0.is)

pub returns-in-1 : goal.returns-in-1
unfolding device_of
returns-in-1 c = simp (c.in_ranges_of-in-1.ensures, c.in-1.is)
