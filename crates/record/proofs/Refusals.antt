-- What a reading is refused with, and when: `refused_is_fresh`, `exactly_when`.
use mathlib.Core.Path.{◌≡◌, refl, ◌∙◌, ap}
use mathlib.Core.List.{List}
use mathlib.Core.Logic.{◌⊎◌, inl, inr}
use Prim.Native.Nat.{ℕ, ◌<◌}
use native.Mathlib.Omega.{arith}
use Rattle.number.specs.Layout.{Outcome, got, failed, read_from}
use Rattle.number.proofs.Layouts.{Known, known, layout_exactly_when}
use Rattle.state.specs.declared.state.Clock.{Clock}
use Rattle.record.specs.Layout.{record_layout}
use Rattle.record.specs.Reading.{restored, reading_of, refused_with}
use Rattle.record.specs.Properties.{Refused, RefusedIsFresh, ExactlyWhen}
use Rattle.record.specs.declared.restore.Restored.{Restored}

pub refusal_known : (s : List ℕ) {x : Outcome Clock} → read_from record_layout s 0 ≡ x → Known x
refusal_known s e = rw e at (known s record_layout 0)

fair_found : (s : List ℕ) (x : Outcome Clock) → read_from record_layout s 0 ≡ x → ((restored x).refusal ≡ 0) ⊎ Refused (restored x)
fair_found s (got c) e = inl refl
fair_found s (failed r) e =
    inr (record { number = (omega (arith, (refusal_known s e).0), omega (arith, (refusal_known s e).1)); fresh = refl })

pub refused_is_fresh : RefusedIsFresh reading_of
unfolding reading_of
refused_is_fresh s = fair_found s (read_from record_layout s 0) refl

refused_so : (s : List ℕ) (r : ℕ) → 0 < r → (x : Outcome Clock) → read_from record_layout s 0 ≡ x → restored x ≡ refused_with r → read_from record_layout s 0 ≡ failed r
refused_so s r some (got c) e f = let z : 0 ≡ r = ap (λ (y : Restored). y.refusal) f in absurd (omega arith)
refused_so s r some (failed q) e f = e ∙ ap failed (ap (λ (y : Restored). y.refusal) f)

pub exactly_when : ExactlyWhen reading_of
unfolding reading_of
exactly_when s r some =
    let w = layout_exactly_when Clock record_layout s 0 r in
    record { only = λ e. w.only (refused_so s r (omega arith) (read_from record_layout s 0) refl e); always = λ h. ap restored (w.always h) }
