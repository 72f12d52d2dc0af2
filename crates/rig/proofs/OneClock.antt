-- The proofs of specs/OneClock.antt.
use mathlib.Core.Path.{◌≡◌, refl, sym, ◌∙◌, ap}
use mathlib.Core.Bool.{Bool, true, false}
use mathlib.Core.List.{List}
use Prim.Native.Nat.{ℕ}
use native.Mathlib.Omega.{arith}
use lib.Dec.{eqb}
use lib.ListN.{length, set, length-set}
use lib.Seq.{get_or-set_same, get_or-set_other, set-get_or}
use borrow.Author.Tests.{eqb-true, ne_eqb}
use Rattle.state.specs.declared.state.Clock.{Clock}
use Rattle.event.specs.Event.{step_of}
use Rattle.event.specs.declared.event.Event.{Event}
use Rattle.event.proofs.Kept.{step_same}
use Rattle.rig.specs.Rig.{table_refusal, clock_at, answered, bare_answer, answer_at, table_at}
use Rattle.rig.specs.OneClock.{the_rig, SameThere, NamedClockDecides, OthersAlwaysStay, RefusedLeavesAll}
use Rattle.rig.specs.declared.rig.Answer.{Answer}
use Rattle.rig.proofs.Place.{within}

-- whether the rig passes the event on
abbrev passed : List Clock → ℕ → Bool
passed table place = eqb (table_refusal (length table) place) 0

-- ---- where it does
module _ (table : List Clock) (place : ℕ) (e : Event) (t : passed table place ≡ true) where
  pub answer_passed : answer_at table place e ≡ answered (step_of (clock_at table place) e)
  unfolding answer_at
  answer_passed = simp t

  pub next_passed : clock_at (table_at table place e) place ≡ (step_of (clock_at table place) e).clock
  unfolding table_at
  next_passed = simp t (get_or-set_same table place (step_of (clock_at table place) e).clock _ (within (length table) place (eqb-true _ _ t)))

module _ (table : List Clock) (place : ℕ) (e : Event) (t : passed table place ≡ false) where
  pub table_kept : table_at table place e ≡ table
  unfolding table_at
  table_kept = simp t

  pub answer_refused : answer_at table place e ≡ bare_answer (table_refusal (length table) place)
  unfolding answer_at
  answer_refused = simp t

-- ---- the named clock decides
module _ (a b : List Clock) (place : ℕ) (e : Event) (long : length a ≡ length b) (same : clock_at a place ≡ clock_at b place) where
  both : (z : Bool) → passed a place ≡ z → passed b place ≡ z
  both z t = ap (λ (n : ℕ). eqb (table_refusal n place) 0) (sym long) ∙ t

  by_place : (z : Bool) → passed a place ≡ z → SameThere the_rig a b place e
  by_place true t =
      let u = both true t in
      record {
        answer = simp (answer_passed a place e t, answer_passed b place e u, same);
        next = simp (next_passed a place e t, next_passed b place e u, same);
      }
  by_place false t =
      let u = both false t in
      record {
        answer = simp (answer_refused a place e t, answer_refused b place e u, long);
        next = simp (table_kept a place e t, table_kept b place e u, same);
      }

pub named_clock_decides : NamedClockDecides the_rig
named_clock_decides a b place e long same = by_place a b place e (omega (arith, long)) same (passed a place) refl

-- ---- the others stay
module _ (table : List Clock) (place : ℕ) (e : Event) where
  as_many : (z : Bool) → passed table place ≡ z → length (table_at table place e) ≡ length table
  unfolding table_at
  as_many true t = simp t (length-set table place (step_of (clock_at table place) e).clock)
  as_many false t = ap length (table_kept table place e t)

  other_kept : (z : Bool) → passed table place ≡ z → (other : ℕ) → (other ≡ place → ⊥) → clock_at (table_at table place e) other ≡ clock_at table other
  unfolding table_at
  other_kept true t other apart = simp t (get_or-set_other table place other (step_of (clock_at table place) e).clock _ apart)
  other_kept false t other apart = ap (λ (cs : List Clock). clock_at cs other) (table_kept table place e t)

  leaves_all : ((answer_at table place e).refusal ≡ 0 → ⊥) → (z : Bool) → passed table place ≡ z → table_at table place e ≡ table
  unfolding table_at
  leaves_all refused true t =
      let r = answer_passed table place e t in
      let same = step_same (clock_at table place) e (ne_eqb _ _ (λ z. refused (ap (λ (s : Answer). s.refusal) r ∙ z))) in
      simp t (ap (set table place) same ∙ set-get_or table place _)
  leaves_all refused false t = table_kept table place e t

pub others_always_stay : OthersAlwaysStay the_rig
others_always_stay table place e =
    record {
      length = omega (arith, as_many table place e (passed table place) refl);
      others = λ other apart. other_kept table place e (passed table place) refl other (λ q. omega (arith, apart, q));
    }

pub refused_leaves_all : RefusedLeavesAll the_rig
refused_leaves_all table place e refused = leaves_all table place e (λ z. omega (arith, refused, z)) (passed table place) refl
