-- `record::read` meets its contract: group by group a reading goes on, or ends with the refusal; and nothing
-- may follow.
use mathlib.Core.Path.{◌≡◌, sym, ◌∙◌, ap}
use mathlib.Core.List.{List}
use Prim.Native.Nat.{ℕ, ◌<◌, ◌≤◌}
use native.Mathlib.Omega.{arith}
use lib.ListN.{length}
use borrow.Author.Tests.{lt-ltb, le-ltb}
use Rattle.std.specs.Prelude.{Result, Err}
use Rattle.state.specs.Refusal.{refused_beyond, refusal_number}
use Rattle.state.specs.declared.refusal.Refusal.{Refusal}
use Rattle.number.specs.Layout.{Layout, whole, failed, read_from}
use Rattle.state.specs.declared.state.Clock.{Clock}
use Rattle.record.specs.Layout.{head_fields, time_fields, loop_fields, rate_fields, update_fields, error_fields, part_fields, clock_of, record_layout}
use Rattle.record.specs.Reading.{accepted, refused_with, restored, reading_of}
use Rattle.record.specs.Inner.{went_on, ReadsGroup}
use Rattle.record.specs.declared.field.Read.{Read}
use Rattle.record.specs.declared.groups.Head.{Head}
use Rattle.record.specs.declared.groups.Time.{Time}
use Rattle.record.specs.declared.groups.Loop.{Loop}
use Rattle.record.specs.declared.groups.Rate.{Rate}
use Rattle.record.specs.declared.groups.Update.{Update}
use Rattle.record.specs.declared.groups.Errors.{Errors}
use Rattle.record.specs.declared.groups.Parts.{Parts}
use Rattle.record.proofs.restore.read.Goals as goal

-- ---- a group of fields and those behind it, after the groups before it

abbrev from-parts : Head → Time → Loop → Rate → Update → Errors → Layout Clock
from-parts h t l a u e = part_fields h (λ p. whole (clock_of h t l a u e p))

abbrev from-errors : Head → Time → Loop → Rate → Update → Layout Clock
from-errors h t l a u = error_fields (λ e. from-parts h t l a u e)

abbrev from-update : Head → Time → Loop → Rate → Layout Clock
from-update h t l a = update_fields h.version (λ u. from-errors h t l a u)

abbrev from-rate : Head → Time → Loop → Layout Clock
from-rate h t l = rate_fields h.kind (λ a. from-update h t l a)

abbrev from-loop : Head → Time → Layout Clock
from-loop h t = loop_fields (λ l. from-rate h t l)

abbrev from-time : Head → Layout Clock
from-time h = time_fields (λ t. from-loop h t)

-- ---- where the reading stands after each group

-- a group at place `at` was read; or it was refused
abbrev Went : {A : Type 0} → ((A → Layout Clock) → Layout Clock) → List ℕ → ℕ → Read A → Type 0
Went {A} fields s at r = (rest : A → Layout Clock) → read_from (fields rest) s at ≡ read_from (rest r.value) s r.next

group_err : {A : Type 0} (fields : (A → Layout Clock) → Layout Clock) (s : List ℕ) (at : ℕ) (rest : A → Layout Clock) {d : Result (Read A) Refusal} {r : Refusal} → ReadsGroup fields s at d → d ≡ Err r
    → read_from (fields rest) s at ≡ failed (refusal_number r)
group_err fields s at rest g q = g rest ∙ ap (λ (x : Result (Read _) Refusal). went_on x rest s) q

module _ (s : List ℕ) (h : Read Head) (gh : Went head_fields s 0 h) where
  at-time : read_from record_layout s 0 ≡ read_from (from-time h.value) s h.next
  unfolding record_layout
  at-time = gh (λ x. from-time x)

  module _ (t : Read Time) (gt : Went time_fields s h.next t) where
    at-loop : read_from record_layout s 0 ≡ read_from (from-loop h.value t.value) s t.next
    at-loop = at-time ∙ gt (λ x. from-loop h.value x)

    module _ (l : Read Loop) (gl : Went loop_fields s t.next l) where
      at-rate : read_from record_layout s 0 ≡ read_from (from-rate h.value t.value l.value) s l.next
      at-rate = at-loop ∙ gl (λ x. from-rate h.value t.value x)

      module _ (a : Read Rate) (ga : Went (rate_fields h.value.kind) s l.next a) where
        at-update : read_from record_layout s 0 ≡ read_from (from-update h.value t.value l.value a.value) s a.next
        at-update = at-rate ∙ ga (λ x. from-update h.value t.value l.value x)

        module _ (u : Read Update) (gu : Went (update_fields h.value.version) s a.next u) where
          at-errors : read_from record_layout s 0 ≡ read_from (from-errors h.value t.value l.value a.value u.value) s u.next
          at-errors = at-update ∙ gu (λ x. from-errors h.value t.value l.value a.value x)

          module _ (e : Read Errors) (ge : Went error_fields s u.next e) where
            at-parts : read_from record_layout s 0 ≡ read_from (from-parts h.value t.value l.value a.value u.value e.value) s e.next
            at-parts = at-errors ∙ ge (λ x. from-parts h.value t.value l.value a.value u.value x)

            module _ (p : Read Parts) (gp : Went (part_fields h.value) s e.next p) where
              at-end : read_from record_layout s 0 ≡ read_from (whole (clock_of h.value t.value l.value a.value u.value e.value p.value)) s p.next
              at-end = at-parts ∙ gp (λ x. whole (clock_of h.value t.value l.value a.value u.value e.value x))

-- behind the last field bytes follow, or none
followed : (c : Clock) (s : List ℕ) (at : ℕ) → at < length s → restored (read_from (whole c) s at) ≡ refused_with refused_beyond
unfolding read_from
followed c s at h = simp (lt-ltb at (length s) h)

ended : (c : Clock) (s : List ℕ) (at : ℕ) → length s ≤ at → restored (read_from (whole c) s at) ≡ accepted c
unfolding read_from
ended c s at h = simp (le-ltb at (length s) h)

pub returns-in_default : goal.returns-in_default
unfolding reading_of record_layout
returns-in_default c =
    c.refused.ensures
    ∙ ap restored
    (sym
    (group_err head_fields _ 0 (λ x. from-time x) c.head_at-d.ensures c.unwrap_err.ensures))

pub returns-in_default-d : goal.returns-in_default-d
unfolding reading_of
returns-in_default-d c =
    c.refused-in_default-d.ensures
    ∙ ap restored
    (sym
    (at-time _ c.in-Ok.h c.in-Ok.ensures
    ∙ group_err time_fields _ _ (λ x. from-loop c.in-Ok.h.value x) c.time_at-d.ensures c.unwrap_err-in_default-d.ensures))

pub returns-in_default-d-2 : goal.returns-in_default-d-2
unfolding reading_of
returns-in_default-d-2 c =
    c.refused-in_default-d-2.ensures
    ∙ ap restored
    (sym
    (at-loop _ c.in-Ok.h c.in-Ok.ensures c.in-Ok-d.t c.in-Ok-d.ensures
    ∙ group_err loop_fields _ _ (λ x. from-rate c.in-Ok.h.value c.in-Ok-d.t.value x) c.loop_at-d.ensures c.unwrap_err-in_default-d-2.ensures))

pub returns-in_default-d-3 : goal.returns-in_default-d-3
unfolding reading_of
returns-in_default-d-3 c =
    c.refused-in_default-d-3.ensures
    ∙ ap restored
    (sym
    (at-rate _ c.in-Ok.h c.in-Ok.ensures c.in-Ok-d.t c.in-Ok-d.ensures c.in-Ok-d-2.l c.in-Ok-d-2.ensures
    ∙ group_err (rate_fields _) _ _ (λ x. from-update c.in-Ok.h.value c.in-Ok-d.t.value c.in-Ok-d-2.l.value x) c.rate_at-d.ensures c.unwrap_err-in_default-d-3.ensures))

pub returns-in_default-d-4 : goal.returns-in_default-d-4
unfolding reading_of
returns-in_default-d-4 c =
    c.refused-in_default-d-4.ensures
    ∙ ap restored
    (sym
    (at-update _ c.in-Ok.h c.in-Ok.ensures c.in-Ok-d.t c.in-Ok-d.ensures c.in-Ok-d-2.l c.in-Ok-d-2.ensures c.in-Ok-d-3.a c.in-Ok-d-3.ensures
    ∙ group_err (update_fields _) _ _ (λ x. from-errors c.in-Ok.h.value c.in-Ok-d.t.value c.in-Ok-d-2.l.value c.in-Ok-d-3.a.value x) c.update_at-d.ensures c.unwrap_err-in_default-d-4.ensures))

pub returns-in_default-d-5 : goal.returns-in_default-d-5
unfolding reading_of
returns-in_default-d-5 c =
    c.refused-in_default-d-5.ensures
    ∙ ap restored
    (sym
    (at-errors _ c.in-Ok.h c.in-Ok.ensures c.in-Ok-d.t c.in-Ok-d.ensures c.in-Ok-d-2.l c.in-Ok-d-2.ensures c.in-Ok-d-3.a c.in-Ok-d-3.ensures c.in-Ok-d-4.u c.in-Ok-d-4.ensures
    ∙ group_err error_fields _ _ (λ x. from-parts c.in-Ok.h.value c.in-Ok-d.t.value c.in-Ok-d-2.l.value c.in-Ok-d-3.a.value c.in-Ok-d-4.u.value x) c.errors_at-d.ensures c.unwrap_err-in_default-d-5.ensures))

pub returns-in_default-d-6 : goal.returns-in_default-d-6
unfolding reading_of
returns-in_default-d-6 c =
    c.refused-in_default-d-6.ensures
    ∙ ap restored
    (sym
    (at-parts _ c.in-Ok.h c.in-Ok.ensures c.in-Ok-d.t c.in-Ok-d.ensures c.in-Ok-d-2.l c.in-Ok-d-2.ensures c.in-Ok-d-3.a c.in-Ok-d-3.ensures c.in-Ok-d-4.u c.in-Ok-d-4.ensures c.in-Ok-d-5.e c.in-Ok-d-5.ensures
    ∙ group_err (part_fields _) _ _ (λ x. whole (clock_of c.in-Ok.h.value c.in-Ok-d.t.value c.in-Ok-d-2.l.value c.in-Ok-d-3.a.value c.in-Ok-d-4.u.value c.in-Ok-d-5.e.value x)) c.parts_at-d.ensures c.unwrap_err-in_default-d-6.ensures))

pub returns-then-p-bytes : goal.returns-then-p-bytes
unfolding reading_of
returns-then-p-bytes c =
    c.refused-then-p-bytes.ensures
    ∙ sym (ap restored (at-end _ c.in-Ok.h c.in-Ok.ensures c.in-Ok-d.t c.in-Ok-d.ensures c.in-Ok-d-2.l c.in-Ok-d-2.ensures c.in-Ok-d-3.a c.in-Ok-d-3.ensures c.in-Ok-d-4.u c.in-Ok-d-4.ensures c.in-Ok-d-5.e c.in-Ok-d-5.ensures c.in-Ok-d-6.p c.in-Ok-d-6.ensures) ∙ followed _ _ _ (omega arith))

pub returns : goal.returns
unfolding reading_of
returns c =
    rw c.clock_of-clock.ensures
    (sym (ap restored (at-end _ c.in-Ok.h c.in-Ok.ensures c.in-Ok-d.t c.in-Ok-d.ensures c.in-Ok-d-2.l c.in-Ok-d-2.ensures c.in-Ok-d-3.a c.in-Ok-d-3.ensures c.in-Ok-d-4.u c.in-Ok-d-4.ensures c.in-Ok-d-5.e c.in-Ok-d-5.ensures c.in-Ok-d-6.p c.in-Ok-d-6.ensures) ∙ ended _ _ _ (omega arith)))
