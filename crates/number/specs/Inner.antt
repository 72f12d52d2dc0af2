-- What private functions answer, of this crate and of those that read numbers one after the other. No public
-- promise names these definitions.
use Rattle.std.specs.Prelude.{cond, List, ℕ, suc, ◌+◌, ◌*◌, leb, ltb, eqb, length, get_or, take, drop}
use Rattle.state.specs.Refusal.{refused_ended, refused_form}
use Rattle.number.specs.Reading.{Found, number, refused, leading_more, value_of}

-- as `judged`, after a byte that says more: `left` bytes may still be read, and a last byte of 0 is not the
-- shortest form
unfoldable pub judged_later : ℕ → ℕ → List ℕ → ℕ → Found
judged_later left at bs more =
    cond (leb left more) (refused refused_form)
    (cond (leb (length bs) more) (refused refused_ended)
    (cond (eqb (get_or bs more 0) 0) (refused refused_form)
    (number (value_of (take (suc more) bs)) (at + suc more))))

-- the rest of a number, from place `at` of s on
unfoldable pub later_at : ℕ → List ℕ → ℕ → Found
later_at left s at = judged_later left at (drop at s) (leading_more (drop at s))

-- the rest on top of what was read before it: `low`, and `scale` for each unit of the rest
abbrev pub onto : ℕ → ℕ → Found → Found
onto low scale (number v k) = number (low + scale * v) k
onto low scale (refused refusal) = refused refusal

-- a number of more than one byte at its end, by its value: below a unit of its last group, that group is 0
abbrev pub ended_of : ℕ → ℕ → ℕ → Found
ended_of value unit next = cond (ltb value unit) (refused refused_form) (number value next)

-- The answer of a reading that a refusal ends. No reading ends with a number, so that the case of one is
-- never reached: it refuses too, with 12.
abbrev pub refused_as : {A : Type 0} → (ℕ → A) → Found → A
refused_as ends (number value next) = ends 12
refused_as ends (refused refusal) = ends refusal
