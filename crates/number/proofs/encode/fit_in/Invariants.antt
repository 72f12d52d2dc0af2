-- `number::fit_in` meets its contract. The loop's invariant: what the numbers passed take is gone from the
-- room.
use mathlib.Core.Path.{◌≡◌}
use Prim.Native.Nat.{◌+◌}
use lib.ListN.{length, drop}
use Rattle.number.specs.Form.{bytes_of_all}
use Rattle.number.proofs.encode.fit_in.Given as goal

abbrev pub invariant-loop-n : goal.invariant-loop-n
invariant-loop-n l =
    length (bytes_of_all l.ns) + l.left ≡ l.room + length (bytes_of_all (drop l.n-index l.ns))
