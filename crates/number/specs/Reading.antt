-- Reading a number at a place of some bytes. Document 01's refusals of a number: 10, "bytes end inside a
-- record or event"; 11, "a number not in its shortest form, or a fifth byte that says more follows"; "a fifth
-- byte that says more is 11 even where the bytes end there".
use Rattle.std.specs.Prelude.{Bool, cond, ◌&&◌, List, [], ◌∷◌, ℕ, suc, ◌+◌, ◌*◌, ◌%◌, leb, ltb, eqb, length, get_or, take, drop, Result, Ok, Err}
use Rattle.state.specs.Refusal.{refused_ended, refused_form, refusal_number}
use Rattle.number.specs.Form.{group, top_bit, most_bytes}
use Rattle.number.specs.declared.decode.Number.{Number}
use Rattle.state.specs.declared.refusal.Refusal.{Refusal}

-- What stands at a place: a number, with the place after it; or none, with its number in document 01's table
-- of refusals.
pub data Found : Type 0 where
  number : (value next : ℕ) → Found
  refused : (refusal : ℕ) → Found

-- the top bit says that more follows
abbrev pub says_more : ℕ → Bool
says_more b = leb top_bit b

-- how many bytes, from the first on, say that more follows
unfoldable pub leading_more : List ℕ → ℕ
leading_more [] = 0
leading_more (b ∷ bs) = cond (says_more b) (suc (leading_more bs)) 0

-- groups of seven bits, lowest first
unfoldable pub value_of : List ℕ → ℕ
value_of [] = 0
value_of (b ∷ bs) = b % group + group * value_of bs

-- not the shortest form: after bytes that say more a last byte of 0, without which the value were the same
abbrev pub long_form : List ℕ → ℕ → Bool
long_form bs more = ltb 0 more && eqb (get_or bs more 0) 0

-- the bytes from place `at` on, of which the first `more` say that more follows: the refusals, and the number
-- that the next byte ends
unfoldable pub judged : ℕ → List ℕ → ℕ → Found
judged at bs more =
    cond (leb most_bytes more) (refused refused_form)
    (cond (leb (length bs) more) (refused refused_ended)
    (cond (long_form bs more) (refused refused_form)
    (number (value_of (take (suc more) bs)) (at + suc more))))

-- what stands at place `at` of s; past the end of s nothing does
unfoldable pub number_at : List ℕ → ℕ → Found
number_at s at = judged at (drop at s) (leading_more (drop at s))

-- what the reader's answer says
abbrev pub told : Result Number Refusal → Found
told (Ok n) = number n.value n.next
told (Err refusal) = refused (refusal_number refusal)
