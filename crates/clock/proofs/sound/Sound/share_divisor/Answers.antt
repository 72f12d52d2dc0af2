-- `clock::sound::Sound::share_divisor`: the five powers of two.
use mathlib.Core.Path.{◌≡◌, refl}
use Prim.Native.Nat.{ℕ, zero, suc, ◌*◌, ◌%◌, ◌^◌, ◌≤◌}
use native.Mathlib.Omega.{arith}
use lib.IntN.{pos}
use mir.Syntax.{w32}
use mir.Val.{to_z}
use Rattle.state.proofs.Ok.{ok}
use Rattle.clock.specs.Rollover.{share_divisor}
use Rattle.clock.proofs.sound.Sound.share_divisor.Goals as goal

shifted : (k : ℕ) → k ≤ 4 → to_z w32 (1024 * 2 ^ k % 4294967296) ≡ pos (share_divisor k)
shifted zero h = refl
shifted (suc zero) h = refl
shifted (suc (suc zero)) h = refl
shifted (suc (suc (suc zero))) h = refl
shifted (suc (suc (suc (suc zero)))) h = refl
shifted (suc (suc (suc (suc (suc k))))) h = absurd (omega (arith, h))

pub overflow_shl-result : goal.overflow_shl-result
overflow_shl-result c =
    let k = ok _ c.args.self.in_range in
    omega arith

pub returns : goal.returns
returns c = shifted c.args.self.clock.constant (ok _ c.args.self.in_range).constant
