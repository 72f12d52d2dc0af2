-- `number::place` meets its contract. The loop's invariant: the stores still to be made, on the buffer as it
-- is, are those of the whole number on the buffer as it was. The measure is the rest of the number.
use mathlib.Core.Path.{◌≡◌}
use Prim.Native.Nat.{◌+◌, ◌<◌, ◌^◌}
use lib.ListN.{length}
use lib.Seq.{sets}
use Rattle.number.specs.Form.{bytes_of}
use Rattle.number.proofs.encode.place.Given as goal

abbrev pub invariant-loop-rest : goal.invariant-loop-rest
invariant-loop-rest l =
    (sets l.initial.buf l.at (bytes_of l.n) ≡ sets l.buf l.p (bytes_of l.rest))
    × ((l.at + length (bytes_of l.n) ≡ l.p + length (bytes_of l.rest)) × ((l.rest < 2 ^ 32) × (length l.buf ≡ length l.initial.buf)))

abbrev pub decreases-loop-rest : goal.decreases-loop-rest
decreases-loop-rest l = l.rest
