-- `number::fit_in` meets its contract.
use mathlib.Core.Path.{sym, ap}
use native.Mathlib.Omega.{arith}
use lib.ListN.{length}
use borrow.Author.Tests.{le-leb, lt-leb}
use Rattle.number.specs.Form.{bytes_of_all}
use Rattle.number.proofs.Sizes.{sizes_most, sizes_at, all_end}
use Rattle.number.proofs.encode.fit_in.Goals as goal

pub returns-then-ns-room : goal.returns-then-ns-room
returns-then-ns-room c =
    let a = c.args in
    sym (le-leb (length (bytes_of_all a.ns.now)) a.room (omega (arith, sizes_most a.ns.now)))

pub returns-then-left-k : goal.returns-then-left-k
returns-then-left-k c =
    let i = c.loop-n.n-index in
    let a = c.args in
    let ns = a.ns.now in
    sym (lt-leb (length (bytes_of_all ns)) a.room (omega (arith, sizes_at ns i c.loop-n-test.true)))

pub loop-n-preserved : goal.loop-n-preserved
loop-n-preserved c =
    let i = c.loop-n.n-index in
    let ns = c.args.ns.now in
    omega (arith, sizes_at ns i c.loop-n-test.true)

pub returns : goal.returns
returns c =
    let i = c.loop-n.n-index in
    let a = c.args in
    let ns = a.ns.now in
    sym (le-leb (length (bytes_of_all ns)) a.room (omega (arith, ap length (all_end ns i c.loop-n-test.false))))
