-- A call with a code, by whether the code is known.
use mathlib.Core.Path.{◌≡◌, refl, ap}
use mathlib.Core.Bool.{Bool, true, false, true≢false}
use mathlib.Core.List.{List}
use Prim.Native.Nat.{ℕ}
use native.Mathlib.Omega.{arith}
use lib.Dec.{eqb, ltb}
use borrow.Author.Tests.{eqb-true, eqb-false}
use Rattle.state.specs.Refusal.{refuse}
use Rattle.state.specs.declared.state.Clock.{Clock}
use Rattle.rig.specs.Rig.{bare_answer, answer_at}
use Rattle.rig.specs.declared.rig.Answer.{Answer}
use Rattle.rig.proofs.OneClock.{refused_leaves_all}
use Rattle.heukelvos_rig.specs.RigEvent.{code_refusal, event_of, coded_answer_at, coded_table_at, the_coded_rig, CodedCall, EveryCodedCall}
use Rattle.heukelvos_rig.specs.declared.rig_event.CodedEvent.{CodedEvent}

-- the only number of a code
twelve : (b : Bool) → eqb (refuse b 12 0) 0 ≡ false → refuse b 12 0 ≡ 12
twelve true t = refl
twelve false t = absurd (true≢false t)

module _ (table : List Clock) (place : ℕ) (e : CodedEvent) where
  by_code : (z : Bool) → eqb (code_refusal e.code) 0 ≡ z → CodedCall the_coded_rig table place e
  unfolding coded_answer_at coded_table_at
  by_code true t =
      let same : coded_answer_at table place e ≡ answer_at table place (event_of e) = simp t in
      record {
        known = λ k. (simp t, simp t);
        unknown = λ u. absurd (omega (arith, u, eqb-true (code_refusal e.code) 0 t));
        kept = λ r. simp t (refused_leaves_all table place (event_of e) (λ z. omega (arith, r, z, ap (λ (a : Answer). a.refusal) same)));
      }
  by_code false t =
      record {
        known = λ k. absurd (eqb-false (code_refusal e.code) 0 t (omega (arith, k)));
        unknown = λ u. (simp t (ap bare_answer (twelve (ltb 4 e.code) t)), simp t);
        kept = λ r. simp t;
      }

pub every_coded_call : EveryCodedCall the_coded_rig
every_coded_call table place e = by_code table place e (eqb (code_refusal e.code) 0) refl
