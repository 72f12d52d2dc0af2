-- The written form, a byte at a time; and how many bytes a number takes, by its size.
use mathlib.Core.Path.{◌≡◌, refl, sym, ◌∙◌, ap}
use mathlib.Core.Bool.{true, false, cond}
use mathlib.Core.List.{List, [], ◌∷◌, ◌++◌}
use mathlib.Core.Logic.{⊎_elim}
use Prim.Native.Nat.{ℕ, zero, suc, ◌+◌, ◌*◌, ◌/◌, ◌%◌, ◌^◌, ◌<◌, ◌≤◌}
use native.Mathlib.Nat.{pow-succ', one-le-pow}
use native.Mathlib.Omega.{arith}
use native.Mathlib.Numerals.{add-one}
use lib.Dec.{ltb}
use lib.ListN.{length, get_or, drop, set, length-append, drop_of_length-le}
use lib.Seq.{drop-cons, sets}
use borrow.Author.Tests.{ltb-true, ltb-false, le-ltb, lt-ltb}
use Rattle.number.specs.Form.{limit, bytes_from, bytes_of, bytes_of_all}
use Rattle.number.specs.Properties.{size_of, SizeTable}
use Rattle.number.proofs.Lists.{either, sets_append}

-- ---- the bytes of a number

pub from_last : (f n : ℕ) → n < 128 → bytes_from f n ≡ n ∷ []
unfolding bytes_from
from_last zero n h = refl
from_last (suc f) n h = simp (lt-ltb n 128 h)

pub from_more : (f n : ℕ) → 128 ≤ n → bytes_from (suc f) n ≡ (128 + n % 128) ∷ bytes_from f (n / 128)
unfolding bytes_from
from_more f n h = simp (le-ltb n 128 h)

-- a group less: n / 128 is below 128 ^ f where n is below 128 ^ (f + 1)
pub shorter : (f n : ℕ) → n < 128 ^ suc f → n / 128 < 128 ^ f
shorter f n h = let e : 128 ^ suc f ≡ 128 * 128 ^ f = pow-succ' 128 f in omega arith

-- more bytes than are needed make no difference
enough : (f n : ℕ) → n < 128 ^ suc f → bytes_from (suc f) n ≡ bytes_from f n
enough zero n h = from_last 1 n h ∙ sym (from_last 0 n h)
enough (suc f) n h =
    ⊎_elim (λ t. from_last (suc (suc f)) n (ltb-true n 128 t) ∙ sym (from_last (suc f) n (ltb-true n 128 t)))
    (λ t.
    from_more (suc f) n (ltb-false n 128 t) ∙ ap (λ (l : List ℕ). (128 + n % 128) ∷ l) (enough f (n / 128) (shorter (suc f) n h))
    ∙ sym (from_more f n (ltb-false n 128 t)))
    (either (ltb n 128))

pub bytes_last : (n : ℕ) → n < 128 → bytes_of n ≡ n ∷ []
unfolding bytes_of
bytes_last n h = from_last 4 n h

pub bytes_more : (n : ℕ) → n < limit → 128 ≤ n → bytes_of n ≡ (128 + n % 128) ∷ bytes_of (n / 128)
unfolding bytes_of
bytes_more n b h =
    from_more 3 n h ∙ ap (λ (l : List ℕ). (128 + n % 128) ∷ l) (sym (enough 3 (n / 128) (omega arith)))

-- ---- how many

pub size_last : (n : ℕ) → n < 128 → length (bytes_of n) ≡ 1
size_last n h = ap length (bytes_last n h)

pub size_more : (n : ℕ) → n < limit → 128 ≤ n → length (bytes_of n) ≡ 1 + length (bytes_of (n / 128))
size_more n b h = ap length (bytes_more n b h) ∙ omega arith

-- a number below 128 ^ (k + 1) takes k + 1 bytes at most
from_below : (f k n : ℕ) → n < 128 ^ suc k → length (bytes_from f n) ≤ suc k
unfolding bytes_from
from_below f zero n h = rw (from_last f n h) (omega arith)
from_below zero (suc k) n h = omega arith
from_below (suc f) (suc k) n h =
    ⊎_elim (λ t. rw (from_last (suc f) n (ltb-true n 128 t)) (omega arith))
    (λ t. rw (from_more f n (ltb-false n 128 t)) (omega (arith, from_below f k (n / 128) (shorter (suc k) n h))))
    (either (ltb n 128))

-- a number from 128 ^ k on takes k + 1 bytes at least, where so many are allowed
from_above : (f k n : ℕ) → k ≤ f → 128 ^ k ≤ n → suc k ≤ length (bytes_from f n)
unfolding bytes_from
from_above zero zero n h l = omega arith
from_above zero (suc k) n h l = absurd (omega arith)
from_above (suc f) zero n h l =
    ⊎_elim (λ t. rw (from_last (suc f) n (ltb-true n 128 t)) (omega arith)) (λ t. rw (from_more f n (ltb-false n 128 t)) (omega arith)) (either (ltb n 128))
from_above (suc f) (suc k) n h l =
    let e : 128 ^ suc k ≡ 128 * 128 ^ k = pow-succ' 128 k in
    let o : 1 ≤ 128 ^ k = one-le-pow k 128 (omega arith) in
    rw (from_more f n (omega arith)) (omega (arith, from_above f k (n / 128) (omega arith) (omega arith)))

pub size_below : (k n : ℕ) → n < 128 ^ suc k → length (bytes_of n) ≤ suc k
unfolding bytes_of
size_below k n h = from_below 4 k n h

pub size_above : (k n : ℕ) → k ≤ 4 → 128 ^ k ≤ n → suc k ≤ length (bytes_of n)
unfolding bytes_of
size_above k n h l = from_above 4 k n h l

-- so a number takes exactly k + 1 bytes from 128 ^ k to 128 ^ (k + 1) - 1, and the number 0 takes one
pub size_exact : (k n : ℕ) → k ≤ 4 → 128 ^ k ≤ n → n < 128 ^ suc k → length (bytes_of n) ≡ suc k
size_exact k n h l u = omega (arith, size_below k n u, size_above k n h l)

-- a value that is y below m, and z from m on
by_limit : (n m : ℕ) {x y z : ℕ} → (n < m → x ≡ y) → (m ≤ n → x ≡ z) → x ≡ cond (ltb n m) y z
by_limit n m f g =
    ⊎_elim (λ (t : ltb n m ≡ true). simp t (f (ltb-true n m t))) (λ (t : ltb n m ≡ false). simp t (g (ltb-false n m t))) (either (ltb n m))

pub size_table : SizeTable size_of
size_table n h =
    by_limit n (2 ^ 7) (size_last n) (λ l1.
    by_limit n (2 ^ 14) (size_exact 1 n (omega arith) l1) (λ l2.
    by_limit n (2 ^ 21) (size_exact 2 n (omega arith) l2) (λ l3.
    by_limit n (2 ^ 28) (size_exact 3 n (omega arith) l3) (λ l4.
    size_exact 4 n (omega arith) l4 (omega arith)))))

-- never more than five
from_most : (f n : ℕ) → length (bytes_from f n) ≤ suc f
unfolding bytes_from
from_most zero n = omega arith
from_most (suc f) n =
    ⊎_elim (λ t. rw (from_last (suc f) n (ltb-true n 128 t)) (omega arith)) (λ t. rw (from_more f n (ltb-false n 128 t)) (omega (arith, from_most f (n / 128))))
    (either (ltb n 128))

pub size_most : (n : ℕ) → length (bytes_of n) ≤ 5
unfolding bytes_of
size_most n = from_most 4 n

-- ---- several numbers

-- the bytes of several numbers, from bounds on the first and on the rest
pub sizes_below : (k m n : ℕ) (ns : List ℕ) → n < 128 ^ suc k → length (bytes_of_all ns) ≤ m → length (bytes_of_all (n ∷ ns)) ≤ suc k + m
unfolding bytes_of_all
sizes_below k m n ns h l = omega (arith, length-append (bytes_of n) (bytes_of_all ns), size_below k n h)

pub sizes_none : length (bytes_of_all []) ≤ 0
unfolding bytes_of_all
sizes_none = omega arith

-- no number has more than five
pub sizes_most : (ns : List ℕ) → length (bytes_of_all ns) ≤ 5 * length ns
unfolding bytes_of_all
sizes_most [] = omega arith
sizes_most (n ∷ ns) = omega (arith, length-append (bytes_of n) (bytes_of_all ns), size_most n, sizes_most ns)

-- those from index i on: the number there, and those behind it
all_at : (ns : List ℕ) (i : ℕ) → i < length ns → bytes_of_all (drop i ns) ≡ bytes_of (get_or ns i 0) ++ bytes_of_all (drop (i + 1) ns)
unfolding bytes_of_all
all_at ns i h = ap bytes_of_all (drop-cons ns i 0 h) ∙ ap (λ (k : ℕ). bytes_of (get_or ns i 0) ++ bytes_of_all (drop k ns)) (sym (add-one i))

pub sizes_at : (ns : List ℕ) (i : ℕ) → i < length ns
    → length (bytes_of_all (drop i ns)) ≡ length (bytes_of (get_or ns i 0)) + length (bytes_of_all (drop (i + 1) ns))
sizes_at ns i h = ap length (all_at ns i h) ∙ length-append (bytes_of (get_or ns i 0)) (bytes_of_all (drop (i + 1) ns))

pub all_end : (ns : List ℕ) (i : ℕ) → length ns ≤ i → bytes_of_all (drop i ns) ≡ []
unfolding bytes_of_all
all_end ns i h = ap bytes_of_all (drop_of_length-le ns h)

-- ---- the stores of a number, and of several, with the first of them made

pub sets_last : (l : List ℕ) (p n : ℕ) → n < 128 → sets l p (bytes_of n) ≡ set l p n
sets_last l p n h = ap (sets l p) (bytes_last n h)

pub sets_more : (l : List ℕ) (p n : ℕ) → n < limit → 128 ≤ n → sets l p (bytes_of n) ≡ sets (set l p (128 + n % 128)) (p + 1) (bytes_of (n / 128))
sets_more l p n b h = ap (sets l p) (bytes_more n b h) ∙ ap (λ (k : ℕ). sets (set l p (128 + n % 128)) k (bytes_of (n / 128))) (omega arith)

pub sets_at : (l : List ℕ) (p : ℕ) (ns : List ℕ) (i : ℕ) → i < length ns
    → sets l p (bytes_of_all (drop i ns)) ≡ sets (sets l p (bytes_of (get_or ns i 0))) (p + length (bytes_of (get_or ns i 0))) (bytes_of_all (drop (i + 1) ns))
sets_at l p ns i h = ap (sets l p) (all_at ns i h) ∙ sym (sets_append l p (bytes_of (get_or ns i 0)) (bytes_of_all (drop (i + 1) ns)))
