-- An integer as a difference of two naturals: `Diff z p n` says that z is p - n. The difference of a sum is
-- had from those of its summands, so that a linear statement on integers becomes one on naturals, with no
-- case split for `omega`.
use mathlib.Core.Path.{◌≡◌, refl, sym, ap, ◌∙◌}
use Prim.Native.Nat.{ℕ, ◌+◌, ◌*◌, ◌/◌}
use native.Mathlib.Omega.{arith}
use native.Mathlib.Nat.{mul-add, add-mul}
use lib.IntN.{ℤ, pos, neg_ℤ, ◌+ℤ◌, ◌-ℤ◌, ◌*ℤ◌}
use lib.Signed.{quot_z}
use Rattle.integers.proofs.Parts.{pos_part, neg_part, parts}

pub record Diff (z : ℤ) (p n : ℕ) : Type 0 where
  pub eq : pos_part z + n ≡ p + neg_part z

pub self : (z : ℤ) → Diff z (pos_part z) (neg_part z)
self z = record { eq = refl }

pub lit : (n : ℕ) → Diff (pos n) n 0
lit n = record { eq = refl }

pub add : {a b : ℤ} {p n q m : ℕ} → Diff a p n → Diff b q m → Diff (a +ℤ b) (p + q) (n + m)
add {a} {b} x y = record { eq = simp parts (omega (arith, x.eq, y.eq)) }

pub neg : {a : ℤ} {p n : ℕ} → Diff a p n → Diff (neg_ℤ a) n p
neg {a} x = record { eq = simp parts (omega (arith, x.eq)) }

pub sub : {a b : ℤ} {p n q m : ℕ} → Diff a p n → Diff b q m → Diff (a -ℤ b) (p + m) (n + q)
sub x y = add x (neg y)

pub times : (k : ℕ) {a : ℤ} {p n : ℕ} → Diff a p n → Diff (pos k *ℤ a) (k * p) (k * n)
times k {a} {p} {n} x = record { eq = simp parts (sym (mul-add k (pos_part a) n) ∙ ap (λ (t : ℕ). k * t) x.eq ∙ mul-add k p (neg_part a)) }

pub times_r : {a : ℤ} {p n : ℕ} (k : ℕ) → Diff a p n → Diff (a *ℤ pos k) (p * k) (n * k)
times_r {a} {p} {n} k x = record { eq = simp parts (sym (add-mul (pos_part a) n k) ∙ ap (λ (t : ℕ). t * k) x.eq ∙ add-mul p (neg_part a) k) }

pub quot : (a : ℤ) (k : ℕ) → Diff (quot_z a (pos k)) (pos_part a / k) (neg_part a / k)
quot a k = record { eq = simp parts }
