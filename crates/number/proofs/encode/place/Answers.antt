-- `number::place` meets its contract: each byte of the rest goes where the invariant says.
use mathlib.Core.Path.{◌≡◌, sym, ◌∙◌}
use Prim.Native.Nat.{◌+◌, ◌/◌}
use native.Mathlib.Omega.{arith}
use lib.ListN.{length, length-set}
use Rattle.number.specs.Form.{bytes_of}
use Rattle.number.proofs.Sizes.{size_last, size_more, sets_last, sets_more}
use Rattle.number.proofs.encode.place.Goals as goal

pub bounds-buf-p : goal.bounds-buf-p
bounds-buf-p c = omega (arith, size_more c.loop-rest.rest (omega arith) (omega arith))

pub loop-rest-preserved : goal.loop-rest-preserved
loop-rest-preserved c =
    let L = c.loop-rest in
    let e : length (bytes_of L.rest) ≡ 1 + length (bytes_of (L.rest / 128)) = size_more L.rest (omega arith) (omega arith) in (
      L.invariant.0 ∙ sets_more L.buf L.p L.rest (omega arith) (omega arith),
      (omega arith, (omega arith, simp length-set L.invariant.1.1.1)),
    )

pub bounds-buf-p-2 : goal.bounds-buf-p-2
bounds-buf-p-2 c = omega (arith, size_last c.loop-rest.rest (omega arith))

pub returns : goal.returns
returns c =
    let L = c.loop-rest in
    (omega (arith, size_last L.rest (omega arith)), sym (L.invariant.0 ∙ sets_last L.buf L.p L.rest (omega arith)))
