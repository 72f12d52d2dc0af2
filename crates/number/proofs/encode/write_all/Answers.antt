-- `number::write_all` meets its contract: the two tests decide whether there is room for all the numbers.
use mathlib.Core.Path.{sym, ◌∙◌}
use Prim.Native.Nat.{◌+◌, ◌<◌, ◌≤◌}
use native.Mathlib.Omega.{arith}
use lib.ListN.{length}
use borrow.Author.Tests.{leb-true, leb-false}
use Rattle.number.specs.Form.{bytes_of_all}
use Rattle.number.proofs.Buffer.{writes_room, writes_short}
use Rattle.number.proofs.encode.write_all.Goals.{then-len-at-via-then-len-at, then-len-at-via-else-len-at+then-not-fit_in}
use Rattle.number.proofs.encode.write_all.Goals as goal

pub returns-then-len-at : goal.returns-then-len-at
returns-then-len-at c =
    let a = c.args in
    let h : length a.buf.now < a.at + length (bytes_of_all a.ns.now) =
    elim c.then-len-at.branch [
      | then-len-at-via-then-len-at w ↦ omega arith
      | then-len-at-via-else-len-at+then-not-fit_in w ↦ omega (arith, leb-false _ _ (sym w.fit_in.ensures ∙ w.if-not-fit_in.true))
    ] in
    writes_short _ _ _ h

pub returns : goal.returns
returns c =
    let a = c.args in
    let f = leb-true _ _ (sym c.fit_in.ensures ∙ c.if-not-fit_in.false) in
    let h : a.at + length (bytes_of_all a.ns.now) ≤ length a.buf.now = omega (arith, f) in
    writes_room _ _ _ h c.place_all.ensures.0 c.place_all.ensures.1
