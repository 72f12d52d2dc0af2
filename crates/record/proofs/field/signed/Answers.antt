-- `record::signed` meets its contract: its two tests are the range, and a number in range has 32 bits.
use borrow.Author.Rules.{rules}
use mathlib.Core.Path.{◌≡◌, sym, ◌∙◌, ap}
use mathlib.Core.Bool.{true, ◌&&◌}
use lib.IntN.{ℤ}
use lib.Signed.{le_z}
use mir.Syntax.{w64}
use mir.Val.{SFits, to_z, of_z}
use mir.Facts.{to_z-of_z}
use Rattle.number.specs.Mapping.{unmapped}
use Rattle.record.specs.Inner.{told_field, between_z}
use Rattle.record.proofs.Ranges.{between_small}
use Rattle.record.proofs.FieldLaws.{passed_on, field_no, field_in, field_out}
use Rattle.record.proofs.field.signed.Goals.{Then-least-z}
use Rattle.record.proofs.field.signed.Goals as goal

-- the code's tests of the signed number are the range's
tested_same : {l h z least most v : ℤ} → SFits w64 l → SFits w64 h → SFits w64 z → l ≡ least → h ≡ most → z ≡ v
    → le_z (to_z w64 (of_z w64 l)) (to_z w64 (of_z w64 z)) && le_z (to_z w64 (of_z w64 z)) (to_z w64 (of_z w64 h)) ≡ between_z least most v
tested_same low high fits p q e = rw (to_z-of_z low, to_z-of_z high, to_z-of_z fits, p, q, e)

inside : (c : Then-least-z) → between_z c.args.least c.args.most (unmapped c.in_ok-number.number.value) ≡ true
inside c =
    let low : SFits w64 c.from-least.result = search rules in
    let high : SFits w64 c.from-most.result = search rules in
    let fits : SFits w64 c.unmap-z.result = search rules in
    sym (tested_same low high fits (c.from-least.ensures ∙ to_z-of_z c.ranges.least) (c.from-most.ensures ∙ to_z-of_z c.ranges.most) c.unmap-z.ensures) ∙ c.if-least-z.true

pub returns-in_err-number : goal.returns-in_err-number
returns-in_err-number c =
    ap told_field (passed_on _ c.in_err-number.field-0.0 c.from_residual.ensures.1) ∙ field_no _ _ _ c.in_err-number.ensures

pub overflow_cast-result : goal.overflow_cast-result
overflow_cast-result c =
    record { fits = between_small _ c.ranges.least c.ranges.most (inside (goal.at.overflow_cast-result c).Then-least-z) }

pub returns-then-least-z : goal.returns-then-least-z
returns-then-least-z c = field_in _ _ _ c.in_ok-number.ensures (inside (goal.at.returns-then-least-z c).Then-least-z)

pub returns : goal.returns
returns c =
    let low : SFits w64 c.from-least.result = search rules in
    let high : SFits w64 c.from-most.result = search rules in
    let fits : SFits w64 c.unmap-z.result = search rules in
    field_out _ _ _ c.in_ok-number.ensures (sym (tested_same low high fits (c.from-least.ensures ∙ to_z-of_z c.ranges.least) (c.from-most.ensures ∙ to_z-of_z c.ranges.most) c.unmap-z.ensures) ∙ c.if-least-z.false)
