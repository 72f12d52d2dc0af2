-- What a request answers, by its two cases.
use mathlib.Core.Path.{◌≡◌, refl}
use mathlib.Core.Bool.{Bool, true, false}
use Prim.Native.Nat.{ℕ, ◌<◌}
use native.Mathlib.Omega.{arith}
use lib.Dec.{eqb}
use borrow.Author.Tests.{eqb-true, eqb-false}
use Rattle.state.specs.declared.state.Clock.{Clock}
use Rattle.request.specs.Request.{request_refusal, requested, request_of}
use Rattle.request.specs.declared.request.Request.{Request}
use Rattle.request.proofs.Accepted.{Accepted, accepted}

pub data RequestCase (c : Clock) (r : Request) : Type 0 where
  refused : (n : ℕ) → request_of c r ≡ record { refusal = n; clock = c } → 0 < n → RequestCase c r
  done : Accepted c r → request_of c r ≡ record { refusal = 0; clock = requested c r } → RequestCase c r

module _ (c : Clock) (r : Request) where
  by_refusal : (b : Bool) → eqb (request_refusal c r) 0 ≡ b → RequestCase c r
  unfolding request_of
  by_refusal true e = done (accepted c r (eqb-true _ _ e)) (simp (eqb-true (request_refusal c r) 0 e))
  by_refusal false e = refused (request_refusal c r) (simp e) (omega (arith, eqb-false (request_refusal c r) 0 e))

  pub request_case : RequestCase c r
  request_case = by_refusal (eqb (request_refusal c r) 0) refl
