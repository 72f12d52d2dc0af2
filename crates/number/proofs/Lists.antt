-- Laws on tests and on lists that the laws of the number rest on.
use mathlib.Core.Path.{◌≡◌, ◌∙◌, ap}
use mathlib.Core.Bool.{Bool, true, ◌&&◌}
use mathlib.Core.List.{List, [], ◌∷◌, ◌++◌}
use Prim.Native.Nat.{ℕ, zero, suc, ◌+◌, ◌<◌}
use native.Mathlib.Numerals.{add-one}
use native.Mathlib.Omega.{arith}
use lib.Dec.{ltb}
use lib.ListN.{length, get_or, drop, set}
use lib.Seq.{sets, drop-cons}
use borrow.Author.Tests.{ltb-true}
pub use Rattle.std.proofs.lemmas.Bool.{cases_Bool as either}
use Rattle.std.proofs.Common.{Fits, w8}
use Rattle.integers.proofs.Ranges.{and_true}
use Rattle.number.specs.Form.{Bytes}

-- a list from a place on, by what stands there
pub opened : (s : List ℕ) (at x : ℕ) → at < length s → x ≡ get_or s at 0 → drop at s ≡ x ∷ drop (at + 1) s
opened s at x h e = rw (e, add-one) (drop-cons s at 0 h)

-- a byte that was read at a place, and what it was widened to
pub record Byte (s : List ℕ) (at b : ℕ) : Type 0 where
  pub inside : at < length s
  pub item : b ≡ get_or s at 0
  pub small : b < 256

pub byte : {s : List ℕ} {at b x : ℕ} → (at < length s) × ((d : ℕ) → x ≡ get_or s at d) → b ≡ x → ((i : ℕ) → Fits w8 (get_or s i 0)) → Byte s at b
byte {at = at} f e t = record { inside = f.0; item = e ∙ f.1 0; small = omega (arith, f.1 0, t at) }

-- what a list that goes on with x and then xs has at a place
pub record Here (s : List ℕ) (at x : ℕ) (xs : List ℕ) : Type 0 where
  pub inside : at < length s
  pub item : x ≡ get_or s at 0
  pub rest : drop (at + 1) s ≡ xs

pub here : (s : List ℕ) (at x : ℕ) (xs : List ℕ) → drop at s ≡ x ∷ xs → Here s at x xs
here [] zero x xs e = let z : ◌≡◌ {A = ℕ} 0 1 = cc in absurd (omega arith)
here [] (suc at) x xs e = let z : ◌≡◌ {A = ℕ} 0 1 = cc in absurd (omega arith)
here (y ∷ s) zero x xs e = record { inside = omega arith; item = cc; rest = cc }
here (y ∷ s) (suc at) x xs e =
    let h : Here s at x xs = here s at x xs e in
    record { inside = omega arith; item = h.item; rest = rw (add-one) (rw (add-one) at h.rest) }

-- a run of stores after a run of stores is one run
pub sets_append : (l : List ℕ) (i : ℕ) (vs ws : List ℕ) → sets (sets l i vs) (i + length vs) ws ≡ sets l i (vs ++ ws)
sets_append l i [] ws = ap (λ (k : ℕ). sets l k ws) (omega arith)
sets_append l i (v ∷ vs) ws = ap (λ (k : ℕ). sets (sets (set l i v) (suc i) vs) k ws) (omega arith) ∙ sets_append (set l i v) (suc i) vs ws

-- ---- bytes, by a test

unfoldable pub are_bytes : List ℕ → Bool
are_bytes [] = true
are_bytes (b ∷ s) = ltb b 256 && are_bytes s

pub bytes_by : (s : List ℕ) → are_bytes s ≡ true → Bytes s
unfolding are_bytes
bytes_by [] e i = omega arith
bytes_by (b ∷ s) e zero = ltb-true b 256 (and_true (ltb b 256) (are_bytes s) e).0
bytes_by (b ∷ s) e (suc i) = bytes_by s (and_true (ltb b 256) (are_bytes s) e).1 i
