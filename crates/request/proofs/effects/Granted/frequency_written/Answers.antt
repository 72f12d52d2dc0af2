-- `request::effects::Granted::frequency_written`: a selected frequency fits 32 bits, since it is not refused.
use borrow.Author.Rules.{rules}
use mathlib.Core.Bool.{true}
use mathlib.Core.Path.{◌≡◌, sym, ◌∙◌}
use mir.Facts.{to_z-of_z}
use mir.Syntax.{w32, w64}
use mir.Val.{SFits}
use native.Mathlib.Omega.{arith}
use Rattle.integers.proofs.Parts.{sfits_parts}
use Rattle.request.specs.Request.{selects_frequency}
use Rattle.request.proofs.Accepted.{accepted, chosen}
use Rattle.request.proofs.effects.Granted.frequency_written.Goals.{Start, In-Some}
use Rattle.request.proofs.effects.Granted.frequency_written.Goals as goal

fits-asked : (s : Start) → SFits w64 s.args.self.request.frequency.0
fits-asked s = search rules

fits-narrow : (s : Start) → selects_frequency s.args.self.request ≡ true → SFits w32 s.args.self.request.frequency.0
fits-narrow s t = sfits_parts s.args.self.request.frequency.0 (omega (arith, (accepted s.args.self.clock s.args.self.request s.args.self.not_refused).frequency t))

-- the frequency that was picked is the request's, and it is selected
picked : (c : In-Some) → (selects_frequency c.args.self.request ≡ true) × (c.in-Some.f ≡ c.args.self.request.frequency)
picked c = chosen _ _ _ (sym c.selected.ensures ∙ c.in-Some.is)

pub overflow_cast-result : goal.overflow_cast-result
overflow_cast-result c =
    let h = picked (goal.at.overflow_cast-result c).In-Some in
    let s = (goal.at.overflow_cast-result c).Start in
    rw h.1 (simp (to_z-of_z (fits-asked s)) (fits-narrow s h.0))

pub returns-in-Some : goal.returns-in-Some
returns-in-Some c =
    let h = picked (goal.at.returns-in-Some c).In-Some in
    let s = (goal.at.returns-in-Some c).Start in
    simp (h.1, h.0, to_z-of_z (fits-asked s), to_z-of_z (fits-narrow s h.0))
