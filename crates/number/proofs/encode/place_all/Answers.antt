-- `number::place_all` meets its contract.
use mathlib.Core.Path.{◌≡◌, sym, ◌∙◌, ap}
use Prim.Native.Nat.{◌+◌, ◌<◌}
use native.Mathlib.Omega.{arith}
use lib.ListN.{length, get_or}
use lib.Seq.{sets, length-sets}
use Rattle.number.specs.Form.{bytes_of}
use Rattle.number.proofs.Sizes.{sizes_at, all_end, sets_at}
use Rattle.number.proofs.encode.place_all.Goals as goal

pub place-p-requires : goal.place-p-requires
place-p-requires c =
    let L = c.loop-n in
    omega (arith, sizes_at c.args.ns.now L.n-index c.loop-n-test.true)

pub loop-n-preserved : goal.loop-n-preserved
loop-n-preserved c =
    let L = c.loop-n in
    let ns = c.args.ns.now in
    let h : L.n-index < length ns = c.loop-n-test.true in
    let stores : c.place-p.new.buf ≡ sets L.buf L.p (bytes_of (get_or ns L.n-index 0)) = c.place-p.ensures.1 in
    let next : c.place-p.result ≡ L.p + length (bytes_of (get_or ns L.n-index 0)) = c.place-p.ensures.0 in
    record {
      stores = L.invariant.stores ∙ rw (stores, next) (sets_at L.buf L.p ns L.n-index h);
      place = omega (arith, sizes_at ns L.n-index h);
      kept = ap length stores ∙ length-sets _ _ (bytes_of (get_or ns L.n-index 0)) ∙ L.invariant.kept;
    }

pub returns : goal.returns
returns c =
    let L = c.loop-n in
    let e = all_end c.args.ns.now L.n-index c.loop-n-test.false in
    (omega (arith, ap length e), sym (L.invariant.stores ∙ ap (sets L.buf L.p) e))
