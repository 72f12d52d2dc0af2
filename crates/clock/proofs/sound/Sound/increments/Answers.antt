-- `clock::sound::Sound::increments`: the steps of the adjustment fit 32 bits, so that it is what
-- `adjustment_for` says.
use mir.Facts.{to_z-of_z, to_z_pos}
use mir.Syntax.{w32}
use Rattle.integers.proofs.Ranges.{within_parts}
use Rattle.state.proofs.DeviceLaws.{fits_base, fits_scale}
use Rattle.state.proofs.Ok.{ok}
use Rattle.clock.proofs.RollLaws.{Adjusts, adjusts}
use Rattle.clock.proofs.sound.Sound.increments.Goals.{Start}
use Rattle.clock.proofs.sound.Sound.increments.Goals as goal

fit : (s : Start) → Adjusts s.args.self.clock.kind s.args.share.0 s.args.self.clock.frequency.0
fit s = adjusts _ _ _ (within_parts _ _ s.args.share.0 s.requires) (ok _ s.args.self.in_range).frequency

pub overflow_cast-adjustment : goal.overflow_cast-adjustment
overflow_cast-adjustment c = rw c.device-device.ensures (fits_scale _)

pub overflow_mul-adjustment : goal.overflow_mul-adjustment
overflow_mul-adjustment c =
    let r = fit (goal.at.overflow_mul-adjustment c).Start in
    simp (c.device-device.ensures, to_z_pos w32 (fits_scale c.args.self.clock.kind).sfits, to_z-of_z r.share) r.scaled

pub overflow_add-adjustment : goal.overflow_add-adjustment
overflow_add-adjustment c =
    let r = fit (goal.at.overflow_add-adjustment c).Start in
    simp (c.device-device.ensures, c.divide-frequency.ensures, to_z-of_z r.divides.frequency, to_z_pos w32 (fits_scale c.args.self.clock.kind).sfits, to_z-of_z r.share, to_z-of_z r.scaled, to_z-of_z r.divides.quotient) r.both

pub overflow_add-adjustment-2 : goal.overflow_add-adjustment-2
overflow_add-adjustment-2 c =
    let r = fit (goal.at.overflow_add-adjustment-2 c).Start in
    simp (c.device-device.ensures, c.divide-frequency.ensures, to_z-of_z r.divides.frequency, to_z_pos w32 (fits_scale c.args.self.clock.kind).sfits, to_z-of_z r.share, to_z-of_z r.scaled, to_z-of_z r.divides.quotient, to_z-of_z r.both, to_z-of_z (fits_base c.args.self.clock.kind)) r.adjusted

pub returns : goal.returns
returns c =
    let r = fit (goal.at.returns c).Start in
    simp (c.device-device.ensures, c.divide-frequency.ensures, to_z-of_z r.divides.frequency, to_z_pos w32 (fits_scale c.args.self.clock.kind).sfits, to_z-of_z r.share, to_z-of_z r.scaled, to_z-of_z r.divides.quotient, to_z-of_z r.both, to_z-of_z (fits_base c.args.self.clock.kind), to_z-of_z r.adjusted)
