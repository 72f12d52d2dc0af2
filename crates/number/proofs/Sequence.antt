-- How a reading goes, for any type of answer: where it stands before a number, and what a number that was
-- read, or refused, makes of it.
use mathlib.Core.Path.{◌≡◌, sym, ◌∙◌, ap}
use Prim.Native.Nat.{ℕ}
use Rattle.number.specs.Reading.{Found, number, refused}
use Rattle.number.specs.Sequence.{then}
use Rattle.number.specs.Inner.{refused_as}

-- all of the reading is what the number, and what follows the number, give
pub record Before (A : Type 0) : Type 0 where
  pub all : A
  pub ends : ℕ → A
  pub found : Found
  pub go : ℕ → ℕ → A
  pub is : all ≡ then ends found go

module _ {A : Type 0} (b : Before A) {x : Found} (e : x ≡ b.found) where
  -- the number was read: the reading goes on
  pub went : {value next : ℕ} → x ≡ number value next → b.all ≡ b.go value next
  unfolding then
  went v = b.is ∙ ap (λ (y : Found). then b.ends y b.go) (sym e ∙ v)

  -- it was refused: the reading ends with its number
  pub stopped : {refusal : ℕ} {answer : A} → x ≡ refused refusal → answer ≡ refused_as b.ends x → answer ≡ b.all
  unfolding then
  stopped v p = p ∙ ap (refused_as b.ends) v ∙ ap (λ (y : Found). then b.ends y b.go) (sym v ∙ e) ∙ sym b.is
