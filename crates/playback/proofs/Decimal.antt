-- Decimal numbers: the last digit after those of a tenth, and how many digits there are.
use mathlib.Core.Path.{◌≡◌, refl, sym, ◌∙◌, ap}
use mathlib.Core.List.{List, [], ◌∷◌, ◌++◌}
use mathlib.Core.Logic.{⊎_elim}
use Prim.Native.Nat.{ℕ, zero, suc, ◌+◌, ◌/◌, ◌^◌, ◌<◌, ◌≤◌}
use native.Mathlib.Nat.{pow-succ'}
use native.Mathlib.Omega.{arith}
use lib.Dec.{ltb}
use lib.ListN.{length, length-append}
use borrow.Author.Tests.{lt-ltb, le-ltb, ltb-true, ltb-false}
use Rattle.label.specs.Label.{digit}
use Rattle.number.proofs.Lists.{either}
use Rattle.playback.specs.Lines.{decimal_from, decimal}

last_from : (k n : ℕ) → n < 10 → decimal_from k n ≡ digit n ∷ []
unfolding decimal_from
last_from zero n h = refl
last_from (suc k) n h = simp (lt-ltb n 10 h)

more_from : (k n : ℕ) → 10 ≤ n → decimal_from (suc k) n ≡ decimal_from k (n / 10) ++ (digit n ∷ [])
unfolding decimal_from
more_from k n h = simp (le-ltb n 10 h)

-- as many digits as n is large are enough
enough : (k j n : ℕ) → n ≤ k → n ≤ j → decimal_from k n ≡ decimal_from j n
enough zero j n h g = last_from zero n (omega arith) ∙ sym (last_from j n (omega arith))
enough (suc k) zero n h g = last_from (suc k) n (omega arith) ∙ sym (last_from zero n (omega arith))
enough (suc k) (suc j) n h g =
    ⊎_elim (λ t. let l : n < 10 = ltb-true n 10 t in last_from (suc k) n l ∙ sym (last_from (suc j) n l))
    (λ t.
    let l : 10 ≤ n = ltb-false n 10 t in
    more_from k n l ∙ ap (λ (ds : List ℕ). ds ++ (digit n ∷ [])) (enough k j (n / 10) (omega arith) (omega arith)) ∙ sym (more_from j n l))
    (either (ltb n 10))

pub decimal_last : (n : ℕ) → n < 10 → decimal n ≡ digit n ∷ []
unfolding decimal
decimal_last n h = last_from n n h

pub decimal_more : (n : ℕ) → 10 ≤ n → decimal n ≡ decimal (n / 10) ++ (digit n ∷ [])
unfolding decimal
decimal_more zero h = absurd (omega arith)
decimal_more (suc m) h =
    more_from m (suc m) h
    ∙ ap (λ (ds : List ℕ). ds ++ (digit (suc m) ∷ [])) (enough m (suc m / 10) (suc m / 10) (omega arith) (omega arith))

pub length_last : (n : ℕ) → n < 10 → length (decimal n) ≡ 1
length_last n h = ap length (decimal_last n h)

pub length_more : (n : ℕ) → 10 ≤ n → length (decimal n) ≡ length (decimal (n / 10)) + 1
length_more n h = ap length (decimal_more n h) ∙ length-append (decimal (n / 10)) (digit n ∷ [])

pub decimal_length : (k n : ℕ) → n < 10 ^ suc k → length (decimal n) ≤ suc k
decimal_length zero n h = omega (arith, length_last n (omega arith))
decimal_length (suc k) n h =
    ⊎_elim (λ t. omega (arith, length_last n (ltb-true n 10 t)))
    (λ t. omega (arith, length_more n (ltb-false n 10 t), decimal_length k (n / 10) (omega (arith, pow-succ' 10 (suc k)))))
    (either (ltb n 10))
