-- `number::place_all` meets its contract. The loop's invariant: the stores still to be made, on the buffer as
-- it is, are those of all the numbers on the buffer as it was.
use mathlib.Core.Path.{◌≡◌}
use Prim.Native.Nat.{◌+◌}
use lib.ListN.{length, drop}
use lib.Seq.{sets}
use Rattle.number.specs.Form.{bytes_of_all}
use Rattle.number.proofs.encode.place_all.Given as goal

abbrev pub invariant-loop-n : goal.invariant-loop-n
invariant-loop-n l =
    let rest = bytes_of_all (drop l.n-index l.ns) in
    record {
      stores : sets l.initial.buf l.at (bytes_of_all l.ns) ≡ sets l.buf l.p rest;
      place : l.at + length (bytes_of_all l.ns) ≡ l.p + length rest;
      kept : length l.buf ≡ length l.initial.buf;
    }
