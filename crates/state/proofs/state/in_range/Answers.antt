-- `state::in_range`: the parts of the table, the kind and what depends on it behind the others.
use mathlib.Core.Path.{◌≡◌, refl, sym, ◌∙◌}
use mathlib.Core.Bool.{Bool, true, false, ◌&&◌, and-false}
use borrow.Author.Tests.{le-leb}
use Rattle.integers.proofs.Ranges.{tested, true_and, parts_within, parts_between, parts_bounds}
use Rattle.state.specs.Device.{kind_range, device_of}
use Rattle.state.specs.State.{second_range, micros_range, phase_range, offset_range, frequency_range, adjustment_range, constant_range, flag_range, interval_range, zero_unless_flag, error_range, status_range, parts_range, in_range}
use Rattle.state.specs.Inner.{first_fields_range, last_fields_range, fields_of_kind}
use Rattle.state.specs.declared.state.Clock.{Clock}
use Rattle.state.proofs.Ok.{Ok, ok}
use Rattle.state.proofs.state.in_range.Goals as goal

same : (a b : Bool) → (a ≡ true → b ≡ true) → (b ≡ true → a ≡ true) → a ≡ b
same true b h k = sym (h refl)
same false true h k = k refl
same false false h k = refl

-- the ranges in the code's order
abbrev in_parts : Clock → Bool
in_parts c =
    first_fields_range c
    && last_fields_range c
    && fields_of_kind c.kind c.adjustment.0 c.remainder.0 c.leftover.0

ordered : (c : Clock) → Ok c → in_parts c ≡ true
ordered c k = search (true_and, le-leb, parts_between, parts_within, parts_bounds)

back : (c : Clock) → in_parts c ≡ true → in_range c ≡ true
unfolding in_range
back c e =
    simp (
      tested (kind_range c.kind) (λ t. simp (t, and-false)) e,
      tested (second_range c.seconds) (λ t. simp t) e,
      tested (micros_range c.micros.0) (λ t. simp (t, and-false)) e,
      tested (phase_range c.phase.0) (λ t. simp (t, and-false)) e,
      tested (offset_range c.offset.0) (λ t. simp (t, and-false)) e,
      tested (frequency_range c.frequency.0) (λ t. simp (t, and-false)) e,
      tested (adjustment_range (device_of c.kind) c.adjustment.0) (λ t. simp (t, and-false)) e,
      tested (constant_range c.constant) (λ t. simp (t, and-false)) e,
      tested (flag_range c.updated) (λ t. simp (t, and-false)) e,
      tested (interval_range c.interval) (λ t. simp (t, and-false)) e,
      tested (zero_unless_flag c.updated c.interval) (λ t. simp (t, and-false)) e,
      tested (error_range c.maxerror.0) (λ t. simp (t, and-false)) e,
      tested (error_range c.esterror.0) (λ t. simp (t, and-false)) e,
      tested (status_range c.status) (λ t. simp (t, and-false)) e,
      tested (parts_range (device_of c.kind) c.remainder.0) (λ t. simp (t, and-false)) e,
      tested (parts_range (device_of c.kind) c.leftover.0) (λ t. simp (t, and-false)) e,
    )

parts : (c : Clock) → in_range c ≡ in_parts c
parts c = same (in_range c) (in_parts c) (λ e. ordered c (ok c e)) (back c)

pub returns-then-not-first_fields_in_range : goal.returns-then-not-first_fields_in_range
returns-then-not-first_fields_in_range c = rw (parts c.args.c, sym c.first_fields_in_range.ensures ∙ c.if-not-first_fields_in_range.true)

pub returns-then-not-last_fields_in_range : goal.returns-then-not-last_fields_in_range
returns-then-not-last_fields_in_range c =
    let one = sym c.first_fields_in_range.ensures ∙ c.if-not-first_fields_in_range.false in
    rw (parts c.args.c, one, sym c.last_fields_in_range.ensures ∙ c.if-not-last_fields_in_range.true)

pub returns : goal.returns
returns c =
    let one = sym c.first_fields_in_range.ensures ∙ c.if-not-first_fields_in_range.false in
    let two = sym c.last_fields_in_range.ensures ∙ c.if-not-last_fields_in_range.false in
    rw (parts c.args.c, one, two) c.fields_of_kind_in_range.ensures
