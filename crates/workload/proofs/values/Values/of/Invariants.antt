-- `workload::Values::of`: the numbers below the index count from the first.
use Rattle.std.proofs.Common.{◌≡◌, ℕ, ◌+◌, ◌<◌, ◌≤◌, get_or, length}
use Rattle.workload.proofs.values.Values.of.Given as goal

abbrev pub invariant-loop-i : goal.invariant-loop-i
invariant-loop-i l = (length l.numbers ≡ 64) × (l.first ≤ 1) × ((k : ℕ) → k < l.i → get_or l.numbers k 0 ≡ l.first + k)
