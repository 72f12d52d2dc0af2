-- `record::numbers` meets its contract: the signed fields are mapped, the others are as they are.
use borrow.Author.Rules.{rules}
use mir.Syntax.{w32}
use mir.Val.{SFits}
use mir.Facts.{to_z-of_z}
use Rattle.number.specs.Layout.{written}
use Rattle.record.specs.Layout.{record_layout, places_in, numbers_in}
use Rattle.record.proofs.layout.numbers.Goals.{Start}
use Rattle.record.proofs.layout.numbers.Goals as goal

fits_phase : (s : Start) → SFits w32 s.args.c.phase.0
fits_phase s = search rules

fits_offset : (s : Start) → SFits w32 s.args.c.offset.0
fits_offset s = search rules

fits-frequency : (s : Start) → SFits w32 s.args.c.frequency.0
fits-frequency s = search rules

fits_adjustment : (s : Start) → SFits w32 s.args.c.adjustment.0
fits_adjustment s = search rules

fits_remainder : (s : Start) → SFits w32 s.args.c.remainder.0
fits_remainder s = search rules

fits_leftover : (s : Start) → SFits w32 s.args.c.leftover.0
fits_leftover s = search rules

pub returns : goal.returns
unfolding numbers_in written record_layout places_in
returns c =
    rw (
      c.map-phase.ensures,
      c.map-offset.ensures,
      c.map-frequency.ensures,
      c.map-adjustment.ensures,
      c.map-remainder.ensures,
      c.map-leftover.ensures,
      c.from.ensures,
      c.from-2.ensures,
      c.from-3.ensures,
      c.from-4.ensures,
      to_z-of_z (fits_phase (goal.at.returns c).Start),
      to_z-of_z (fits_offset (goal.at.returns c).Start),
      to_z-of_z (fits-frequency (goal.at.returns c).Start),
      to_z-of_z (fits_adjustment (goal.at.returns c).Start),
      to_z-of_z (fits_remainder (goal.at.returns c).Start),
      to_z-of_z (fits_leftover (goal.at.returns c).Start),
    )
