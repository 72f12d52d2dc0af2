-- A search for a date has one answer; and some answers.
use mathlib.Core.Path.{◌≡◌, refl, sym, ◌∙◌, ap}
use Prim.Native.Nat.{ℕ}
use native.Mathlib.Omega.{arith}
use Rattle.std.specs.Prelude.{Option, Some, None}
use Rattle.calendar.specs.Search.{FoundAs, found, none, OneAnswer, any_answer, Answers}
use Rattle.calendar.proofs.Dates.{on, Sound, sound, one_day}
use Rattle.calendar.proofs.Closed.{date_right}

pub one_answer : OneAnswer FoundAs
one_answer d (Some n) (Some k) (found h p) (found l q) = ap Some (one_day n k (sym p ∙ q))
one_answer d (Some n) None (found h p) (none f) = absurd (f n (omega arith) p)
one_answer d None (Some k) (none f) (found l q) = absurd (f k (omega arith) q)
one_answer d None None (none f) (none g) = refl

-- .. which one that allows every answer has not
no_any_answer : OneAnswer any_answer → ⊥
no_any_answer h =
    let e : ◌≡◌ {A = Option ℕ} None (Some 0) = h (on 2000 2 29) None (Some 0) tt tt in
    let z : ◌≡◌ {A = ℕ} 0 1 = cc in
    absurd (omega arith)

pub answers : Answers FoundAs
answers =
    record {
      leap_day = λ x w. one_answer _ x (Some 11016) w (found (omega arith) (date_right 11016 (omega arith)));
      no_leap_day =
          λ x w.
          let date = on 2100 2 29 in
          one_answer date x None w
          (none (λ n h p. let s : Sound date = rw p (sound n) in omega (arith, s.days.1)));
      last_day = λ x w. one_answer _ x (Some 49710) w (found (omega arith) (date_right 49710 (omega arith)));
      behind =
          λ x w.
          one_answer _ x None w
          (none (λ n h p. omega (arith, one_day n 49711 (sym p ∙ date_right 49711 (omega arith)))));
    }
