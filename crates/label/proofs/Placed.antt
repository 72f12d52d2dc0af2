-- What stands in a buffer into which bytes were copied, and others after them; and where 60 was written over
-- a label's seconds.
use Rattle.std.proofs.Common.{◌≡◌, ℕ, suc, ◌<◌, Bool, true, false, cond, List, [], ◌∷◌, ◌++◌, length, drop, set, refl, arith, drop-cons, drop-drop}
use Rattle.std.proofs.lemmas.List.{drop_all}
use borrow.Rule.Slice.PartMut.{put_mid, post_of}
use Rattle.label.specs.Inner.{time_text}
use Rattle.label.specs.Label.{label_of, label_size, digit, two, hyphen, letter_t, letter_z}

-- a mark over the first byte of what is left of a buffer
mark : (n : ℕ) (out : List ℕ) (b : ℕ) → n < length out → set (drop n out) 0 b ≡ b ∷ drop (suc n) out
mark n out b h = rw (drop-cons out n 0 h) refl

-- the bytes of a label, put into a buffer of that length one part after the other
pub filled : (out : List ℕ) {ct yt tt : List ℕ} (c y mo d h mi s : ℕ) → length out ≡ label_size
    → ct ≡ two c → yt ≡ two y ++ (hyphen ∷ two mo) ++ (hyphen ∷ two d) → tt ≡ time_text h mi s
    → set (put_mid 11 8 (set (put_mid 2 8 (ct ++ post_of 0 2 out) yt) 10 letter_t) tt) 19 letter_z
    ≡ two c ++ two y ++ (hyphen ∷ two mo) ++ (hyphen ∷ two d) ++ (letter_t ∷ time_text h mi s) ++ (letter_z ∷ [])
filled out c y mo d h mi s long p q r =
    rw (p, q, r, drop-drop 8 2 out, mark 10 out letter_t (omega arith), drop-drop 8 11 out, mark 19 out letter_z (omega arith), drop_all 20 out (omega arith)) refl

-- the label with a 60, where the second is a day's last
pub sixty : (s : ℕ) (last : Bool) → cond last (set (set (label_of s false) 17 (digit 6)) 18 (digit 0)) (label_of s false) ≡ label_of s last
unfolding label_of
sixty s true = refl
sixty s false = refl
