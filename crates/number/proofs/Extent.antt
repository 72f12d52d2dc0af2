-- What is known of every number that is read, and of every refusal: the number is below 2^35, and its bytes
-- are one to five of those that there are; no refusal is other than 10 or 11.
use mathlib.Core.Path.{◌≡◌, refl, ap}
use mathlib.Core.Bool.{Bool, true, false}
use mathlib.Core.List.{List, [], ◌∷◌}
use mathlib.Core.Logic.{◌⊎◌, inl, inr}
use Prim.Native.Nat.{ℕ, suc, ◌+◌, ◌^◌, ◌<◌, ◌≤◌}
use native.Mathlib.Nat.{pow-succ', pow-le-pow_right}
use native.Mathlib.Omega.{arith}
use lib.Dec.{leb}
use lib.ListN.{length, take, drop, length-drop}
use lib.Seq.{length-take-le}
use borrow.Author.Tests.{leb-false}
use Rattle.number.specs.Properties.{Extends, RefusedOnly}
use Rattle.number.specs.Reading.{Found, number, refused, leading_more, value_of, long_form, judged, number_at}
use Rattle.number.proofs.Steps.{checked, never}

-- where no refusal came, no test held; and a refusal is one of the three
checked_number : (t u w : Bool) (x : Found) {v next : ℕ} → checked t u w x ≡ number v next → (t ≡ false) × ((u ≡ false) × (x ≡ number v next))
checked_number true u w x e = never refl e
checked_number false true w x e = never refl e
checked_number false false true x e = never refl e
checked_number false false false x e = (refl, (refl, e))

checked_refused : (t u w : Bool) (v next : ℕ) {r : ℕ} → checked t u w (number v next) ≡ refused r → (r ≡ 10) ⊎ (r ≡ 11)
checked_refused true u w v next e = inr (cc)
checked_refused false true w v next e = inl (cc)
checked_refused false false true v next e = inr (cc)
checked_refused false false false v next e = never e refl

value_below : (bs : List ℕ) → value_of bs < 128 ^ length bs
unfolding value_of
value_below [] = omega arith
value_below (b ∷ bs) = omega (arith, value_below bs, pow-succ' 128 (length bs))

pub extent : Extends number_at
unfolding number_at judged
extent s at v next e =
    let bs = drop at s in
    let k = leading_more bs in
    let c = checked_number (leb 5 k) (leb (length bs) k) (long_form bs k) (number (value_of (take (suc k) bs)) (at + suc k)) e in
    let five : k < 5 = leb-false 5 k c.0 in
    let some : k < length bs = leb-false (length bs) k c.1.0 in
    let f : number (value_of (take (suc k) bs)) (at + suc k) ≡ number v next = c.1.1 in
    let ev : value_of (take (suc k) bs) ≡ v = cc in
    let en : at + suc k ≡ next = cc in
    let l : length (take (suc k) bs) ≡ suc k = length-take-le (suc k) bs (omega arith) in
    let p : 128 ^ suc k ≤ 128 ^ 5 = pow-le-pow_right (omega arith) {i = suc k} {j = 5} (omega arith) in
    record {
      small = omega (arith, value_below (take (suc k) bs), ap (λ (m : ℕ). 128 ^ m) l);
      after = omega arith;
      most = omega arith;
      within = omega (arith, length-drop at s);
    }

pub refused_only : RefusedOnly number_at
unfolding number_at judged
refused_only s at r e =
    let bs = drop at s in
    let k = leading_more bs in
    checked_refused (leb 5 k) (leb (length bs) k) (long_form bs k) (value_of (take (suc k) bs)) (at + suc k) e
