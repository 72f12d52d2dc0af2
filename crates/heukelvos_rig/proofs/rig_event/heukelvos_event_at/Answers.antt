-- `heukelvos_rig::rig_event::heukelvos_event_at`: by the refusal of the code, that of the place and that of
-- the event.
use borrow.Author.Rules.{rules}
use borrow.Author.Tests.{ne_eqb}
use lib.Dec.{eqb}
use lib.ListN.{length, set}
use Rattle.std.proofs.lemmas.List.{get_or_default, set-get_or}
use mathlib.Core.Bool.{true, false}
use mathlib.Core.List.{List}
use mathlib.Core.Path.{◌≡◌, sym, ◌∙◌, ap}
use Prim.Native.Nat.{ℕ, ◌<◌}
use Rattle.state.specs.Refusal.{refusal_number}
use Rattle.state.specs.declared.refusal.Refusal.{Refusal}
use Rattle.state.specs.declared.state.Clock.{Clock}
use Rattle.event.specs.Event.{step_of}
use Rattle.event.specs.declared.event.Event.{Event}
use Rattle.event.proofs.Kept.{step_same}
use Rattle.rig.specs.declared.rig.Answer.{Answer}
use Rattle.rig.specs.declared.rig.Parted.{Parted}
use Rattle.rig.proofs.OneClock.{answer_passed, answer_refused, table_kept}
use Rattle.rig.proofs.Place.{within}
use Rattle.rig.specs.Rig.{table_refusal, clock_at, parted, bare_answer, answer_at, table_at}
use Rattle.heukelvos_rig.specs.RigEvent.{code_refusal, event_of, coded_answer_at, coded_table_at}
use Rattle.heukelvos_rig.specs.declared.rig_event.CodedEvent.{CodedEvent}
use Rattle.heukelvos_rig.proofs.rig_event.heukelvos_event_at.Goals as goal

not_zero : (r : Refusal) → eqb (refusal_number r) 0 ≡ false
not_zero r = search rules

module _ (ys : List Clock) (i : ℕ) (e : CodedEvent) where
  abbrev Says : Answer → List Clock → Type 0
  Says a zs = (a ≡ coded_answer_at ys i e) × (zs ≡ coded_table_at ys i e)

  -- of an unknown code
  unknown_says : (r : Refusal) → code_refusal e.code ≡ refusal_number r → Says (bare_answer (refusal_number r)) ys
  unfolding coded_answer_at coded_table_at
  unknown_says r p = (simp (p, not_zero r), simp (p, not_zero r))

  -- of a known one, for its event
  module _ (known : Event) (k : code_refusal e.code ≡ 0) (v : known ≡ event_of e) where
    known_says : (a : Answer) (zs : List Clock) → a ≡ answer_at ys i known → zs ≡ table_at ys i known → Says a zs
    unfolding coded_answer_at coded_table_at
    known_says a zs p q = (simp k (p ∙ ap (answer_at ys i) v), simp k (q ∙ ap (table_at ys i) v))

    refused_says : (a : Answer) → a ≡ bare_answer (table_refusal (length ys) i) → eqb a.refusal 0 ≡ false → Says a ys
    refused_says a p f =
        let t : eqb (table_refusal (length ys) i) 0 ≡ false = ap (λ (b : Answer). eqb b.refusal 0) (sym p) ∙ f in
        known_says a ys (p ∙ sym (answer_refused ys i known t)) (sym (table_kept ys i known t))

    -- of the clock h at the place
    module _ (h : Clock) (r : Parted) (z : table_refusal (length ys) i ≡ 0) (at : i < length ys → h ≡ clock_at ys i) (p : r ≡ parted (step_of h known)) where
      abbrev h_is : h ≡ clock_at ys i
      h_is = at (within (length ys) i z)

      table_passed : table_at ys i known ≡ set ys i (step_of (clock_at ys i) known).clock
      unfolding table_at
      table_passed = simp z

      done_says : Says r.answer (set ys i r.clock)
      done_says =
          let q : r ≡ parted (step_of (clock_at ys i) known) = p ∙ ap (λ (d : Clock). parted (step_of d known)) h_is in
          known_says r.answer (set ys i r.clock)
          (ap (λ (s : Parted). s.answer) q ∙ sym (answer_passed ys i known (ap (λ (n : ℕ). eqb n 0) z)))
          (ap (λ (s : Parted). set ys i s.clock) q ∙ sym table_passed)

      kept_says : eqb r.answer.refusal 0 ≡ false → Says r.answer ys
      kept_says f =
          let same : r.clock ≡ h = ap (λ (s : Parted). s.clock) p ∙ step_same h known (ap (λ (s : Parted). eqb s.answer.refusal 0) (sym p) ∙ f) in
          (done_says.0, sym (set-get_or ys i _) ∙ ap (set ys i) (sym (same ∙ h_is)) ∙ done_says.1)

pub returns-in-Err : goal.returns-in-Err
returns-in-Err c =
    rw (c.bare_answer.ensures, c.number.ensures) (unknown_says c.args.table.now c.args.place c.args.e c.in-Err.refusal c.in-Err.ensures)

pub returns-then-refused-ne0 : goal.returns-then-refused-ne0
returns-then-refused-ne0 c =
    refused_says c.args.table.now c.args.place c.args.e c.in-Ok.event c.in-Ok.ensures.0 c.in-Ok.ensures.1 _ c.table_answer-refused.ensures (ne_eqb _ _ c.if-refused-ne0.true)

pub returns : goal.returns
returns c =
    let z = ap (λ (b : Answer). b.refusal) (sym c.table_answer-refused.ensures) ∙ c.if-refused-ne0.false in
    done_says c.args.table.now c.args.place c.args.e c.in-Ok.event c.in-Ok.ensures.0 c.in-Ok.ensures.1 _ _ z (get_or_default _ _ _ _) c.event_on-done.ensures

pub returns-then-done-ne0 : goal.returns-then-done-ne0
returns-then-done-ne0 c =
    let z = ap (λ (b : Answer). b.refusal) (sym c.table_answer-refused.ensures) ∙ c.if-refused-ne0.false in
    kept_says c.args.table.now c.args.place c.args.e c.in-Ok.event c.in-Ok.ensures.0 c.in-Ok.ensures.1 _ _ z (get_or_default _ _ _ _) c.event_on-done.ensures (ne_eqb _ _ c.if-done-ne0.true)
