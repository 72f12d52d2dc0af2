-- `number::write` meets its contract: the two tests decide whether there is room.
use Prim.Native.Nat.{◌+◌, ◌<◌, ◌≤◌}
use native.Mathlib.Omega.{arith}
use lib.ListN.{length}
use Rattle.number.specs.Form.{bytes_of}
use Rattle.number.proofs.Buffer.{writes_room, writes_short}
use Rattle.number.proofs.encode.write.Goals.{then-len-k-via-then-len-k, then-len-k-via-else-len-k+then-len-k-2}
use Rattle.number.proofs.encode.write.Goals as goal

pub returns-then-len-k : goal.returns-then-len-k
returns-then-len-k c =
    let a = c.args in
    let h : length a.buf.now < a.at + length (bytes_of a.n) =
    elim c.then-len-k.branch [ then-len-k-via-then-len-k w ↦ omega arith | then-len-k-via-else-len-k+then-len-k-2 w ↦ omega arith ] in
    writes_short _ _ _ h

pub returns : goal.returns
returns c =
    let a = c.args in
    let h : a.at + length (bytes_of a.n) ≤ length a.buf.now = omega arith in
    writes_room _ _ _ h c.place.ensures.0 c.place.ensures.1
