-- `clock::sound::Sound::divisor`: the device's divisor fits 32 bits.
use mir.Facts.{to_z_pos}
use mir.Syntax.{w32}
use Rattle.state.proofs.DeviceLaws.{fits_divisor}
use Rattle.clock.proofs.sound.Sound.divisor.Goals as goal

pub overflow_cast-result : goal.overflow_cast-result
overflow_cast-result c = rw c.device.ensures (fits_divisor _)

pub returns : goal.returns
returns c = rw c.device.ensures (to_z_pos w32 (fits_divisor _).sfits)
