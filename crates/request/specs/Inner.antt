-- What the crate's private functions ask of each other. No public promise names it.
use Rattle.std.specs.Prelude.{ℕ, ◌*◌}
use Rattle.state.specs.State.{greatest_offset, longest_interval}

-- the size of the greatest gain: the greatest offset, the longest interval, time constant 0 (frequency units)
abbrev pub greatest_gain : ℕ
greatest_gain = greatest_offset * longest_interval
