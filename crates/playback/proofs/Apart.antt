-- Facts that do not hold, told by a test that computes.
use mathlib.Core.Path.{◌≡◌, ap}
use mathlib.Core.Bool.{false}
use mathlib.Core.List.{List}
use Prim.Native.Nat.{ℕ}
use lib.Dec.{eqb}
use lib.ListN.{length, get_or}
use borrow.Author.Tests.{eqb-false}

pub not_same : {a b : ℕ} → eqb a b ≡ false → a ≡ b → ⊥
not_same {a} {b} e h = eqb-false a b e h

-- two lists of other lengths, and two with another byte at a place
pub length_apart : {a b : List ℕ} → eqb (length a) (length b) ≡ false → a ≡ b → ⊥
length_apart e h = not_same e (ap length h)

pub byte_apart : {a b : List ℕ} (i : ℕ) → eqb (get_or a i 0) (get_or b i 0) ≡ false → a ≡ b → ⊥
byte_apart i e h = not_same e (ap (λ (l : List ℕ). get_or l i 0) h)
