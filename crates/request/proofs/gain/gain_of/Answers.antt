-- `request::gain::gain_of`: the steps of the gain fit 32 bits.
use borrow.Author.Rules.{rules}
use mir.Facts.{to_z-of_z, to_z_pos}
use mir.Syntax.{w32, w64}
use mir.Val.{SFits}
use Rattle.integers.proofs.Ranges.{within_parts}
use Rattle.request.proofs.GainLaws.{Gains, gains, divisor_pos}
use Rattle.request.proofs.gain.gain_of.Goals.{Start}
use Rattle.request.proofs.gain.gain_of.Goals as goal

fits-asked : (s : Start) → SFits w64 s.args.o.0
fits-asked s = search rules

fit : (s : Start) → Gains s.args.o.0 s.args.n s.args.constant
fit s = gains s.args.o.0 s.args.n s.args.constant (within_parts _ _ s.args.o.0 s.requires.o_value) s.requires.n_le_longest_interval s.requires.constant_le_greatest_constant

pub nonzero_div-result : goal.nonzero_div-result
nonzero_div-result c =
    let l = fit (goal.at.nonzero_div-result c).Start in
    let d = c.gain_divisor-d.ensures in
    (rw d (divisor_pos c.args.constant), simp (d, to_z-of_z (fits-asked (goal.at.nonzero_div-result c).Start), to_z-of_z l.offset, to_z_pos w32 l.count.sfits, to_z-of_z l.divisor, to_z-of_z l.product) l.gained)

pub returns : goal.returns
returns c =
    let l = fit (goal.at.returns c).Start in
    simp (c.gain_divisor-d.ensures, to_z-of_z (fits-asked (goal.at.returns c).Start), to_z-of_z l.offset, to_z_pos w32 l.count.sfits, to_z-of_z l.divisor, to_z-of_z l.product, to_z-of_z l.gained)
