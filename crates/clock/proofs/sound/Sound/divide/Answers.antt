-- `clock::sound::Sound::divide`: quotient and remainder of a number of 32 bits fit them, and the divisor is
-- not 0.
use mir.Facts.{to_z-of_z}
use Rattle.state.proofs.DeviceLaws.{fits_divisor, divisor_pos}
use Rattle.clock.proofs.RollLaws.{divides}
use Rattle.clock.proofs.sound.Sound.divide.Goals as goal

pub nonzero_div-result : goal.nonzero_div-result
nonzero_div-result c =
    let r = divides c.args.self.clock.kind c.args.parts c.ranges.parts in
    (rw c.divisor-divisor.ensures (divisor_pos _), simp (c.divisor-divisor.ensures, to_z-of_z (fits_divisor c.args.self.clock.kind), to_z-of_z r.frequency) r.quotient)

pub nonzero_rem-result : goal.nonzero_rem-result
nonzero_rem-result c =
    let r = divides c.args.self.clock.kind c.args.parts c.ranges.parts in
    (rw c.divisor-divisor.ensures (divisor_pos _), simp (c.divisor-divisor.ensures, to_z-of_z (fits_divisor c.args.self.clock.kind), to_z-of_z r.frequency) r.quotient)

pub returns : goal.returns
returns c =
    let r = divides c.args.self.clock.kind c.args.parts c.ranges.parts in
    simp (c.divisor-divisor.ensures, to_z-of_z (fits_divisor c.args.self.clock.kind), to_z-of_z r.frequency, to_z-of_z r.quotient, to_z-of_z r.remainder)
