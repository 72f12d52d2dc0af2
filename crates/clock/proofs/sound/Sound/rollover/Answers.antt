-- `clock::sound::Sound::rollover`: a rollover does what `rolled_over` says, field by field.
use mir.Facts.{to_z-of_z}
use Rattle.integers.proofs.Ranges.{parts_within}
use Rattle.state.proofs.Ok.{ok, ok_back}
use Rattle.clock.specs.Rollover.{share, rolled_over}
use Rattle.clock.proofs.RollLaws.{fits_offset, fits_share_of, fits_rest, share_parts, rolled_ok}
use Rattle.clock.proofs.sound.Sound.rollover.Goals as goal

pub increments-requires : goal.increments-requires
increments-requires c =
    let k = ok _ c.args.self.in_range in
    rw c.share-share.ensures (parts_within _ _ (share c.args.self.clock) (share_parts _ k).0 (share_parts _ k).1)

pub overflow_sub-clock : goal.overflow_sub-clock
overflow_sub-clock c =
    let k = ok _ c.args.self.in_range in
    simp (c.share-share.ensures, to_z-of_z (fits_offset _ k), to_z-of_z (fits_share_of _ k)) (fits_rest _ k)

pub invariant_of-result : goal.invariant_of-result
unfolding rolled_over
invariant_of-result c =
    let k = ok _ c.args.self.in_range in
    let r = ok_back _ (rolled_ok _ k c.requires) in
    record {
      in_range =
          simp (
            c.leap_step-leap.ensures,
            c.interval_grown.ensures,
            c.increments.ensures,
            c.share-share.ensures,
            c.maxerror_grown.ensures,
            to_z-of_z (fits_offset _ k),
            to_z-of_z (fits_share_of _ k),
            to_z-of_z (fits_rest _ k),
          ) r;
    }

pub returns : goal.returns
unfolding rolled_over
returns c =
    let k = ok _ c.args.self.in_range in
    simp (
      c.leap_step-leap.ensures,
      c.interval_grown.ensures,
      c.increments.ensures,
      c.share-share.ensures,
      c.maxerror_grown.ensures,
      to_z-of_z (fits_offset _ k),
      to_z-of_z (fits_share_of _ k),
      to_z-of_z (fits_rest _ k),
    )
