-- A place is not refused exactly where it lies in a table of up to eight clocks.
use mathlib.Core.Path.{◌≡◌, refl}
use mathlib.Core.Bool.{Bool, true, false}
use Prim.Native.Nat.{ℕ, ◌<◌}
use native.Mathlib.Omega.{arith}
use lib.Dec.{leb, ltb}
use borrow.Author.Tests.{leb-false, le-ltb, lt-leb}
use Rattle.rig.specs.Rig.{most_clocks, table_refusal}
use Rattle.rig.specs.OneClock.{EveryPlaceServed}

-- by the two tests, whichever number each gives and whichever comes first
by_tests : (n i : ℕ) (many beyond : Bool) → ltb most_clocks n ≡ many → leb n i ≡ beyond → table_refusal n i ≡ 0 → beyond ≡ false
by_tests n i many false s t p = refl
by_tests n i true true s t p = absurd (omega (arith, simp (s, t) at p))
by_tests n i false true s t p = absurd (omega (arith, simp (s, t) at p))

pub within : (n i : ℕ) → table_refusal n i ≡ 0 → i < n
within n i p = leb-false n i (by_tests n i (ltb most_clocks n) (leb n i) refl refl p)

pub every_place_served : EveryPlaceServed table_refusal
every_place_served clocks place most less = simp (le-ltb most_clocks clocks (omega (arith, most)), lt-leb clocks place (omega (arith, less)))
