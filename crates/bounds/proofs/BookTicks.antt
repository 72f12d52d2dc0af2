-- The book's n grows by each accepted tick, and begins anew at each accepted setting: so it is the number of
-- those since the last of these.
use mathlib.Core.Path.{◌≡◌, refl}
use mathlib.Core.Bool.{Bool, true, false, cond}
use mathlib.Core.List.{List, [], ◌∷◌}
use Prim.Native.Nat.{ℕ, ◌+◌}
use native.Mathlib.Omega.{arith}
use Rattle.clock.specs.Tick.{rolls_over}
use Rattle.state.specs.declared.state.Clock.{Clock}
use Rattle.state.specs.declared.units.AskedMicros.{AskedMicros}
use Rattle.event.specs.declared.event.Call.{Call}
use Rattle.event.specs.declared.event.Call.TheVariants as call
use Rattle.request.specs.Request.{selects_offset}
use Rattle.request.specs.declared.request.Request.{Request}
use Rattle.bounds.specs.Calls.{next, accepted, ticks, sets, ticks_among, never_set}
use Rattle.bounds.specs.Calls.{count_among_by, none_among_by}
use Rattle.bounds.specs.Book.{Book, empty_book, call_book, book_from}
use Rattle.bounds.specs.BookTicks.{ticks_since_setting, TicksOfTheBook}

-- what a call makes of n, where it is an accepted setting, an accepted tick, or neither
abbrev counted : (set tick : Bool) → ℕ → ℕ
counted set tick n = cond set 0 (n + cond tick 1 0)

module _ (c : Clock) (b : Book) where
  tick_n : (t o : Bool) → accepted c call.Tick ≡ t → rolls_over c ≡ o
      → (call_book c call.Tick b).n ≡ counted false t b.n
  tick_n true true t o = simp (t, o) (omega arith)
  tick_n true false t o = simp (t, o) (omega arith)
  tick_n false o t p = simp t (omega arith)

  request_n : (r : Request) (t o : Bool) → accepted c (call.Request r) ≡ t → selects_offset r ≡ o
      → (call_book c (call.Request r) b).n ≡ b.n + 0
  request_n r true true t o = simp (t, o) (omega arith)
  request_n r true false t o = simp (t, o) (omega arith)
  request_n r false o t p = simp t (omega arith)

  set_n : (s : ℕ) (u : AskedMicros) (t : Bool) → accepted c (call.Setting s u) ≡ t
      → (call_book c (call.Setting s u) b).n ≡ counted t false b.n
  set_n s u true t = simp t refl
  set_n s u false t = simp t (omega arith)

  step_n : (e : Call) → (call_book c e b).n ≡ counted (sets c e) (ticks c e) b.n
  step_n call.Tick = tick_n (accepted c call.Tick) (rolls_over c) refl refl
  step_n (call.Setting s u) = set_n s u (accepted c (call.Setting s u)) refl
  step_n (call.Request r) = request_n r (accepted c (call.Request r)) (selects_offset r) refl refl
  step_n call.Reading = omega arith

-- where no call is an accepted setting, all accepted ticks
all_ticks : (c : Clock) (es : List Call) → never_set c es ≡ true → ticks_since_setting c es ≡ ticks_among c es
unfolding ticks_since_setting count_among_by
all_ticks c [] h = refl
all_ticks c (e ∷ es) h = simp h refl

abbrev Run : Clock → Book → List Call → Type 0
Run c b es = (book_from c b es).n ≡ cond (never_set c es) (b.n + ticks_among c es) (ticks_since_setting c es)

-- a call before the others: by whether it is an accepted setting, and whether one of them is
run_first : (c : Clock) (b : Book) (e : Call) (es : List Call) → Run (next c e) (call_book c e b) es
    → (set never : Bool) → sets c e ≡ set → never_set (next c e) es ≡ never → Run c b (e ∷ es)
unfolding book_from count_among_by none_among_by ticks_since_setting
run_first c b e es h true true s t =
    simp (s, t) (omega (arith, simp t at h, simp s at (step_n c b e), all_ticks (next c e) es t))
run_first c b e es h true false s t = simp (s, t) (simp t at h)
run_first c b e es h false true s t = simp (s, t) (omega (arith, simp t at h, simp s at (step_n c b e)))
run_first c b e es h false false s t = simp (s, t) (simp t at h)

run_n : (c : Clock) (b : Book) (es : List Call) → Run c b es
unfolding book_from count_among_by none_among_by
run_n c b [] = omega arith
run_n c b (e ∷ es) =
    run_first c b e es (run_n (next c e) (call_book c e b) es) (sets c e) (never_set (next c e) es) refl refl

from_empty : (c : Clock) (es : List Call) (never : Bool) → never_set c es ≡ never
    → (book_from c empty_book es).n ≡ ticks_since_setting c es
from_empty c es true h = omega (arith, simp h at (run_n c empty_book es), all_ticks c es h)
from_empty c es false h = simp h at (run_n c empty_book es)

pub ticks_of_the_book : TicksOfTheBook
ticks_of_the_book start events = from_empty start _ _ refl
