-- `clock::set`: a setting, by whether the clock is in range and the time can be set.
use mathlib.Core.Path.{◌≡◌, ◌∙◌, ap}
use mathlib.Core.Bool.{true, false}
use lib.IntN.{pos}
use Rattle.state.specs.Device.{device_of}
use Rattle.state.specs.declared.state.Clock.{Clock}
use Rattle.clock.specs.Inner.{increments_for}
use Rattle.clock.specs.Setting.{settable, setting_refusal, setting_of}
use Rattle.clock.proofs.setting.set.Goals as goal

pub returns-in_default : goal.returns-in_default
unfolding setting_of setting_refusal
returns-in_default c = simp (c.refused.ensures, c.in_default.ensures)

pub returns-then-not-seconds-micros : goal.returns-then-not-seconds-micros
unfolding setting_of setting_refusal
returns-then-not-seconds-micros c =
    let s = c.in-Some.sound in
    let e : s.clock ≡ c.args.c = c.in-Some.ensures in
    let denied : settable c.args.seconds c.args.micros ≡ false = c.if-not-seconds-micros.true in
    simp (c.refused-then-not-seconds-micros.ensures, rw e at s.in_range, denied)

pub returns : goal.returns
unfolding setting_of setting_refusal
returns c =
    let s = c.in-Some.sound in
    let e : s.clock ≡ c.args.c = c.in-Some.ensures in
    let allowed : settable c.args.seconds c.args.micros ≡ true = c.if-not-seconds-micros.false in
    let i = c.increments.ensures ∙ ap (λ (d : Clock). increments_for (device_of d.kind) (pos 0) d.frequency.0) e in
    simp (c.accepted.ensures, rw e at s.in_range, allowed, i)
