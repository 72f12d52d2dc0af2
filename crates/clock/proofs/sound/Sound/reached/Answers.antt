-- `clock::sound::Sound::reached`: two tests as numbers tell the unit that a tick reaches, since divisor and
-- parts fit 32 bits.
use Rattle.state.proofs.Ok.{ok}
use Rattle.clock.proofs.UnitLaws.{unitReads, fits_parts, fits_unit, fits_whole_unit, fits_parts_left}
use Rattle.clock.proofs.sound.Sound.reached.Goals as goal

pub overflow_add-parts : goal.overflow_add-parts
overflow_add-parts c =
    let k = ok _ c.args.self.in_range in
    simp unitReads (fits_parts _ k)

pub overflow_sub-unit-2 : goal.overflow_sub-unit-2
overflow_sub-unit-2 c =
    let k = ok _ c.args.self.in_range in
    simp (c.divisor-divisor.ensures, unitReads) (fits_unit _ k)

pub overflow_mul-result : goal.overflow_mul-result
overflow_mul-result c =
    let k = ok _ c.args.self.in_range in
    simp (c.divisor-divisor.ensures, unitReads) (fits_whole_unit _ k)

pub overflow_sub-result : goal.overflow_sub-result
overflow_sub-result c =
    let k = ok _ c.args.self.in_range in
    simp (c.divisor-divisor.ensures, unitReads) (fits_parts_left _ k)

pub returns : goal.returns
returns c =
    let k = ok _ c.args.self.in_range in
    simp (c.divisor-divisor.ensures, unitReads)
