-- `number::map` meets its contract: -1 - 2 v of a negative v is its number, and needs 64 bits on the way.
use mathlib.Core.Path.{◌≡◌, sym, ◌∙◌, ap}
use Prim.Native.Nat.{◌+◌, ◌*◌}
use native.Mathlib.Omega.{arith}
use lib.IntN.{ℤ, pos, negsuc, nat_abs, ◌-ℤ◌, ◌*ℤ◌}
use lib.Signed.{lt_z}
use mir.Syntax.{w32, w64}
use mir.Val.{SFits, to_z, of_z}
use mir.Facts.{to_z-of_z}
use Rattle.number.proofs.Mapping.{Negative, negative, Natural, natural, from_twice}
use Rattle.number.proofs.zigzag.map.Goals.{Else-v-lt0, Then-v-lt0}
use Rattle.number.proofs.zigzag.map.Goals as goal

wide : {z : ℤ} → SFits w32 z → SFits w64 z
wide f = record { sfits = omega (arith, f.sfits) }

-- 2 v, and -1 - 2 v, as the machine has them
module _ {z : ℤ} (f : SFits w32 z) (t : Negative w32 z) where
  doubled : pos 2 *ℤ to_z w64 (of_z w64 (to_z w32 (of_z w32 z))) ≡ negsuc (2 * t.k + 1)
  doubled = rw (to_z-of_z f, to_z-of_z (wide f)) t.doubled

  doubled_fits : SFits w64 (negsuc (2 * t.k + 1))
  doubled_fits = record { sfits = omega (arith, t.small) }

  turned : negsuc 0 -ℤ to_z w64 (of_z w64 (pos 2 *ℤ to_z w64 (of_z w64 (to_z w32 (of_z w32 z))))) ≡ pos (2 * t.k + 1)
  turned = rw (doubled, to_z-of_z doubled_fits) (from_twice t.k)

  turned-fits : SFits w64 (pos (2 * t.k + 1))
  turned-fits = record { sfits = omega (arith, t.small) }

  result : to_z w64 (of_z w64 (negsuc 0 -ℤ to_z w64 (of_z w64 (pos 2 *ℤ to_z w64 (of_z w64 (to_z w32 (of_z w32 z))))))) ≡ pos (2 * t.k + 1)
  result = rw turned (to_z-of_z turned-fits)

below : (c : Then-v-lt0) → Negative w32 c.args.v
below c = negative w32 _ c.ranges.v (ap (λ (x : ℤ). lt_z x (pos 0)) (sym (to_z-of_z c.ranges.v)) ∙ c.if-v-lt0.true)

above : (c : Else-v-lt0) → Natural w32 c.args.v
above c = natural w32 _ c.ranges.v (ap (λ (x : ℤ). lt_z x (pos 0)) (sym (to_z-of_z c.ranges.v)) ∙ c.if-v-lt0.false)

pub returns-then-v-lt0 : goal.returns-then-v-lt0
returns-then-v-lt0 c = rw (result c.ranges.v (below (goal.at.returns-then-v-lt0 c).Then-v-lt0)) (sym (below (goal.at.returns-then-v-lt0 c).Then-v-lt0).form)

pub returns-else-v-lt0 : goal.returns-else-v-lt0
returns-else-v-lt0 c = ap (λ (x : ℤ). 2 * nat_abs x) (to_z-of_z c.ranges.v ∙ (above (goal.at.returns-else-v-lt0 c).Else-v-lt0).is) ∙ sym (above (goal.at.returns-else-v-lt0 c).Else-v-lt0).form
