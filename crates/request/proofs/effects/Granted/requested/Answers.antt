-- `request::effects::Granted::requested`: the clock with every effect, by whether an offset is selected. A
-- selected one fits 32 bits, and so does its product.
use borrow.Author.Rules.{rules}
use mathlib.Core.Bool.{true}
use mathlib.Core.Path.{◌≡◌, sym, ◌∙◌}
use lib.IntN.{pos, ◌*ℤ◌}
use mir.Facts.{to_z-of_z}
use mir.Syntax.{w32, w64}
use mir.Val.{SFits}
use native.Mathlib.Omega.{arith}
use Rattle.integers.proofs.Parts.{sfits_parts, parts}
use Rattle.integers.proofs.Ranges.{parts_within}
use Rattle.request.specs.Request.{selects_offset, frequency_written, gain, constant_written, requested}
use Rattle.request.proofs.Accepted.{Accepted, accepted, chosen, passed, frequency_written_lem, constant_written_lem}
use Rattle.request.proofs.GainLaws.{gains, interval_kept}
use Rattle.request.proofs.effects.Granted.requested.Goals.{Start, In-Some}
use Rattle.request.proofs.effects.Granted.requested.Goals as goal

known : (s : Start) → Accepted s.args.self.clock s.args.self.request
known s = accepted s.args.self.clock s.args.self.request s.args.self.not_refused

fits-asked : (s : Start) → SFits w64 s.args.self.request.offset.0
fits-asked s = search rules

fits-narrow : (s : Start) → selects_offset s.args.self.request ≡ true → SFits w32 s.args.self.request.offset.0
fits-narrow s t = sfits_parts s.args.self.request.offset.0 (omega (arith, (known s).offset t))

fits_units : (s : Start) → selects_offset s.args.self.request ≡ true → SFits w32 (s.args.self.request.offset.0 *ℤ pos 16384)
fits_units s t = sfits_parts (s.args.self.request.offset.0 *ℤ pos 16384) (simp parts (omega (arith, (known s).offset t)))

-- the offset that was picked is the request's, and it is selected
picked : (c : In-Some) → (selects_offset c.args.self.request ≡ true) × (c.in-Some.offset ≡ c.args.self.request.offset)
picked c = chosen _ _ _ (sym c.selected.ensures ∙ c.in-Some.is)

pub gain_of-gain-requires : goal.gain_of-gain-requires
gain_of-gain-requires c =
    let p = picked (goal.at.gain_of-gain-requires c).In-Some in
    let k = known (goal.at.gain_of-gain-requires c).Start in
    let h = k.offset p.0 in record {
      o_value = rw p.1 (parts_within _ _ c.args.self.request.offset.0 h.0 h.1);
      n_le_longest_interval = k.clock.interval;
      constant_le_greatest_constant = rw c.constant_written.ensures (constant_written_lem _ _ k);
    }

pub overflow_cast-result : goal.overflow_cast-result
overflow_cast-result c =
    let p = picked (goal.at.overflow_cast-result c).In-Some in
    let s = (goal.at.overflow_cast-result c).Start in
    rw p.1 (simp (to_z-of_z (fits-asked s)) (fits-narrow s p.0))

pub overflow_mul-result : goal.overflow_mul-result
overflow_mul-result c =
    let p = picked (goal.at.overflow_mul-result c).In-Some in
    let s = (goal.at.overflow_mul-result c).Start in
    rw p.1 (simp (to_z-of_z (fits-asked s), to_z-of_z (fits-narrow s p.0)) (fits_units s p.0))

pub clamped_sum-requires : goal.clamped_sum-requires
clamped_sum-requires c =
    let p = picked (goal.at.clamped_sum-requires c).In-Some in
    let k = known (goal.at.clamped_sum-requires c).Start in
    let f = frequency_written_lem _ _ k in
    let g = (gains c.args.self.request.offset.0 c.args.self.clock.interval (constant_written c.args.self.clock c.args.self.request) (k.offset p.0) k.clock.interval (constant_written_lem _ _ k)).small in record {
      f_value = rw c.frequency_written.ensures (parts_within _ _ (frequency_written c.args.self.clock c.args.self.request) f.0 f.1);
      g_value = rw
          (c.gain_of-gain.ensures, c.constant_written.ensures, p.1)
          (parts_within _ _ (gain c.args.self.request.offset.0 c.args.self.clock.interval (constant_written c.args.self.clock c.args.self.request)) g.0 g.1);
    }

pub returns-in_default : goal.returns-in_default
unfolding requested
returns-in_default c =
    simp (
      passed _ _ (sym c.selected.ensures ∙ c.in_default.is),
      c.status_after.ensures,
      c.esterror_written.ensures,
      c.maxerror_written.ensures,
      c.constant_written.ensures,
      c.frequency_written.ensures,
    )

pub returns : goal.returns
unfolding requested
returns c =
    let p = picked (goal.at.returns c).In-Some in
    let s = (goal.at.returns c).Start in
    simp (
      p.1,
      p.0,
      to_z-of_z (fits-asked s),
      to_z-of_z (fits-narrow s p.0),
      to_z-of_z (fits_units s p.0),
      interval_kept c.args.self.clock (known s).clock,
      c.clamped_sum.ensures,
      c.gain_of-gain.ensures,
      c.status_after.ensures,
      c.esterror_written.ensures,
      c.maxerror_written.ensures,
      c.constant_written.ensures,
      c.frequency_written.ensures,
    )
