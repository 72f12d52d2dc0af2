-- `clock::sound::Sound::maxerror_grown`: the sum is far below 2^32.
use native.Mathlib.Omega.{arith}
use Rattle.state.proofs.Ok.{ok}
use Rattle.clock.proofs.sound.Sound.maxerror_grown.Goals as goal

pub overflow_add-self : goal.overflow_add-self
overflow_add-self c =
    let k = ok _ c.args.self.in_range in
    record { fits = omega arith }
