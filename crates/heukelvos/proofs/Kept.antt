-- A refused call keeps the clock.
use mathlib.Core.Path.{◌≡◌, refl}
use mathlib.Core.Bool.{false}
use Prim.Native.Nat.{ℕ}
use lib.Dec.{eqb}
use Rattle.state.specs.declared.state.Clock.{Clock}
use Rattle.heukelvos.specs.Lent.{Kept}

-- what was lent is kept, where the clock that is then there is the one that was
pub kept : (refusal : ℕ) (before after : Clock) → (eqb refusal 0 ≡ false → after ≡ before) → Kept refusal before after
kept refusal before after same refused = rw (same refused) refl
