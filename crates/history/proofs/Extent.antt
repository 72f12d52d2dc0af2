-- Every event that is read ends after its first byte, and no later than the bytes do.
use mathlib.Core.Path.{◌≡◌, refl}
use mathlib.Core.Bool.{Bool, true, false, cond}
use mathlib.Core.List.{List, []}
use Prim.Native.Nat.{ℕ, ◌%◌}
use native.Mathlib.Omega.{arith}
use lib.Dec.{eqb}
use Rattle.number.specs.Reading.{Found as Number, number, number_at}
use Rattle.number.specs.Reading.{refused as no_number}
use Rattle.number.specs.Sequence.{then}
use Rattle.number.specs.Properties.{Extent}
use Rattle.number.proofs.Extent.{extent}
use Rattle.request.specs.Request.{bit_set}
use Rattle.event.specs.declared.event.Call.TheVariants.{Reading}
use Rattle.history.specs.declared.Event.{Event}
use Rattle.history.specs.declared.Event.TheVariants.{Call}
use Rattle.history.specs.Properties.{Past, EndsPast, ShutOut}
use Rattle.history.specs.Event.{Found, found, refused, field_at, ticks_at, setting_at, request_at, summary_at, arguments_at, event_at}

module _ (s : List ℕ) (at : ℕ) where
  -- what is said of an event at `at`, of whatever it is
  abbrev pub Ends : Found → Type 0
  Ends (found e next) = Past s at next
  Ends (refused n) = Unit {0}

  then_ends : (x : Number) (go : ℕ → ℕ → Found) → ((v k : ℕ) → x ≡ number v k → Ends (go v k)) → Ends (then refused x go)
  unfolding then
  then_ends (number v k) go f = f v k refl
  then_ends (no_number r) go f = tt

  cond_ends : (b : Bool) (x y : Found) → Ends x → Ends y → Ends (cond b x y)
  cond_ends true x y p q = p
  cond_ends false x y p q = q

  first : {v k : ℕ} → number_at s at ≡ number v k → Past s at k
  first {v} {k} e = let x : Extent s at v k = extent s at v k e in record { after = omega arith; within = omega arith }

  number_past : {p v k : ℕ} → Past s at p → number_at s p ≡ number v k → Past s at k
  number_past {p} {v} {k} h e = let x : Extent s p v k = extent s p v k e in record { after = omega arith; within = omega arith }

  chosen_past : (b : Bool) {p v k : ℕ} → Past s at p → cond b (number_at s p) (number 0 p) ≡ number v k → Past s at k
  chosen_past true h e = number_past h e
  chosen_past false {p} {v} {k} h e = let i : p ≡ k = cc in record { after = omega arith; within = omega arith }

  field_past : (mode bit : ℕ) {p v k : ℕ} → Past s at p → field_at mode bit s p ≡ number v k → Past s at k
  unfolding field_at
  field_past mode bit h e = chosen_past (bit_set mode bit) h e

  module _ {p : ℕ} (h : Past s at p) where
    ticks_ends : Ends (ticks_at s p)
    unfolding ticks_at
    ticks_ends = then_ends _ _ (λ v k e. number_past h e)

    setting_ends : Ends (setting_at s p)
    unfolding setting_at
    setting_ends = then_ends _ _ (λ v k e. then_ends _ _ (λ w j f. number_past (number_past h e) f))

    request_ends : Ends (request_at s p)
    unfolding request_at
    request_ends =
        then_ends _ _ (λ mode n0 e0.
        then_ends _ _ (λ _ n1 e1.
        then_ends _ _ (λ _ n2 e2.
        then_ends _ _ (λ _ n3 e3.
        then_ends _ _ (λ _ n4 e4.
        then_ends _ _ (λ _ n5 e5.
        then_ends _ _ (λ _ n6 e6.
        field_past (mode % 64) 32
        (field_past (mode % 64) 16
        (field_past (mode % 64) 8
        (field_past (mode % 64) 4
        (field_past (mode % 64) 2
        (field_past (mode % 64) 1
        (number_past h e0) e1) e2) e3) e4) e5) e6)))))))

    summary_ends : (start : ℕ) → Ends (summary_at start p)
    unfolding summary_at
    summary_ends start = cond_ends (eqb start 0) _ _ h tt

    arguments_end : (start code : ℕ) → Ends (arguments_at start code s p)
    unfolding arguments_at
    arguments_end start code =
        cond_ends (eqb code 0) _ _ ticks_ends
        (cond_ends (eqb code 1) _ _ setting_ends
        (cond_ends (eqb code 2) _ _ request_ends
        (cond_ends (eqb code 3) _ _ h
        (cond_ends (eqb code 4) _ _ (summary_ends start)
        tt))))

  event_ends : Ends (event_at s at)
  unfolding event_at
  event_ends = then_ends _ _ (λ code k e. arguments_end (first e) at code)

  ends_of : (x : Found) {e : Event} {k : ℕ} → x ≡ found e k → Ends x → Past s at k
  ends_of (found f next) {e} {k} i h = let j : next ≡ k = cc in record { after = omega arith; within = omega arith }
  ends_of (refused n) i h = let z : ◌≡◌ {A = ℕ} 0 1 = cc in absurd (omega arith)

pub event_past : EndsPast event_at
event_past s at e k i = ends_of s at (event_at s at) i (event_ends s at)

-- the readers that it shuts out
pub shut_out : ShutOut
shut_out =
    record {
      no_byte = λ h. absurd (omega (arith, (h [] 0 (Call Reading) 0 refl).after));
      behind = λ h. absurd (omega (arith, (h [] 0 (Call Reading) 1 refl).within));
    }
