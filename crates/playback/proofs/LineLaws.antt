-- Which line an event has, and that no line is longer than a print's 30 bytes.
use mathlib.Core.Path.{◌≡◌, refl, sym, ◌∙◌}
use mathlib.Core.Bool.{Bool, true, false, not, cond, ◌&&◌}
use mathlib.Core.List.{List, [], ◌∷◌, ◌++◌, append_assoc}
use Prim.Native.Nat.{ℕ, ◌/◌, ◌<◌, ◌≤◌}
use native.Mathlib.Omega.{arith}
use lib.Dec.{eqb}
use lib.ListN.{length, drop, length-append}
use borrow.Author.Tests.{eq-eqb, le-ltb}
use Rattle.state.specs.State.{in_range}
use Rattle.clock.specs.Reading.{told_of, reading_refusal}
use Rattle.state.specs.Refusal.{refuse}
use Rattle.state.specs.declared.state.Clock.{Clock}
use Rattle.state.proofs.Ok.{ok}
use Rattle.event.specs.Event.{answer_of}
use Rattle.label.specs.Label.{digit, is_sixty, clock_label}
use Rattle.label.specs.Writing.{write_refusal, written_to}
use Rattle.label.proofs.Room.{twenty}
use Rattle.event.specs.declared.event.Call as call
use Rattle.event.specs.declared.event.Call.TheVariants.{Tick, Setting, Request, Reading}
use Rattle.history.specs.declared.Event.TheVariants.{Ticks, Call}
use Rattle.clock.specs.Ticks.{ticks_of}
use Rattle.playback.specs.Lines.{space, newline, refused_line, log_line, print_line, quarter_line, cell_line}
use Rattle.playback.specs.Event.{outcome_of, printed_by, printed, line_of}
use Rattle.playback.specs.Run.{longest_history}
use Rattle.playback.specs.Filling.{longest_line}
use Rattle.playback.specs.Inner.{is_reading, refusal_line}
use Rattle.playback.proofs.Decimal.{decimal_last, length_last, decimal_length}

-- ---- lengths

refused_small : (n : ℕ) → n < 256 → length (refused_line n) ≤ longest_line
unfolding refused_line
refused_small n h = simp length-append (omega (arith, decimal_length 2 n (omega arith)))

by_refusal : (n : ℕ) → n < 256 → (b : Bool) → length (cond b [] (refused_line n)) ≤ longest_line
by_refusal n h true = omega arith
by_refusal n h false = refused_small n h

pub refusal_small : (n : ℕ) → n < 256 → length (refusal_line n) ≤ longest_line
unfolding refusal_line
refusal_small n h = by_refusal n h (eqb n 0)

pub log_small : (n p : ℕ) → n < 256 → p ≤ longest_history → length (log_line n p) ≤ longest_line
unfolding log_line
log_small n p h l = simp length-append (omega (arith, decimal_length 2 n (omega arith), decimal_length 4 p (omega arith)))

by_count : (q n m : ℕ) → n < 65536 → m < 4294967296 → (b : Bool) → length (cond b [] (quarter_line q n m)) ≤ longest_line
unfolding quarter_line
by_count q n m h g true = omega arith
by_count q n m h g false = simp length-append (omega (arith, decimal_length 4 n (omega arith), decimal_length 9 m (omega arith)))

pub cell_small : (q n m : ℕ) → n < 65536 → m < 4294967296 → length (cell_line q n m) ≤ longest_line
unfolding cell_line
cell_small q n m h g = by_count q n m h g (eqb n 0)

pub label_length : (c : Clock) → length (clock_label c) ≡ 20
label_length c = twenty c.seconds (is_sixty c)

one_digit : (c : Clock) → in_range c ≡ true → c.status < 10
one_digit c s = let k : c.status ≤ 4 = (ok c s).status in omega arith

pub print_small : (c : Clock) → in_range c ≡ true → length (print_line c) ≤ longest_line
unfolding print_line
print_small c s = simp length-append (omega (arith, label_length c, length_last c.status (one_digit c s)))

-- ---- the parts of a print

pub label_written : (c : Clock) (buf : List ℕ) → in_range c ≡ true → 20 ≤ length buf → written_to c buf ≡ clock_label c ++ drop (length (clock_label c)) buf
unfolding written_to write_refusal
label_written c buf ok l = rw (label_length c) (simp (ok, le-ltb (length buf) 20 l))

-- the label, and then ten bytes
pub print_parts : (c : Clock) → in_range c ≡ true
    → clock_label c ++ (space ∷ digit (c.micros.0 / 100000) ∷ digit (c.micros.0 / 10000) ∷ digit (c.micros.0 / 1000) ∷ digit (c.micros.0 / 100)
    ∷ digit (c.micros.0 / 10) ∷ digit c.micros.0 ∷ space ∷ digit c.status ∷ newline ∷ []) ≡ print_line c
unfolding print_line
print_parts c s = rw (decimal_last c.status (one_digit c s)) (simp append_assoc)

-- ---- which line

accepted : (b : Bool) → refuse (not b) 1 0 ≡ 0 → b ≡ true
accepted true e = refl
accepted false e = absurd (omega (arith, e))

pub reading_sound : (c : Clock) (e : call.Call) → is_reading e ≡ true → (answer_of c e).refusal ≡ 0 → in_range c ≡ true
unfolding told_of reading_refusal
reading_sound c Tick t z = absurd (let w : ◌≡◌ {A = ℕ} 0 1 = cc in omega arith)
reading_sound c (Setting s u) t z = absurd (let w : ◌≡◌ {A = ℕ} 0 1 = cc in omega arith)
reading_sound c (Request r) t z = absurd (let w : ◌≡◌ {A = ℕ} 0 1 = cc in omega arith)
reading_sound c Reading t z = accepted (in_range c) z

-- what an accepted call prints
by_call : (c : Clock) (e : call.Call) → printed_by c e ≡ cond (is_reading e) (print_line c) []
unfolding printed_by
by_call c Tick = refl
by_call c (Setting s u) = refl
by_call c (Request r) = refl
by_call c Reading = refl

-- the line of many ticks
pub line_ticks : (c : Clock) (n : ℕ) → refusal_line (ticks_of n c).refusal ≡ line_of c (Ticks n)
unfolding refusal_line line_of outcome_of printed
line_ticks c n = refl

-- the line of a call that is an accepted reading, and of any other
module _ (c : Clock) (e : call.Call) where
  by_reading : (b z : Bool) (line : List ℕ) → printed_by c e ≡ cond b (print_line c) [] → (b && z) ≡ false → cond z [] line ≡ cond z (printed_by c e) line
  by_reading true true line p t = absurd (let w : ◌≡◌ {A = ℕ} 0 1 = cc in omega arith)
  by_reading true false line p t = refl
  by_reading false true line p t = sym p
  by_reading false false line p t = refl

  pub line_print : is_reading e ≡ true → (answer_of c e).refusal ≡ 0 → print_line c ≡ line_of c (Call e)
  unfolding line_of outcome_of printed
  line_print t z = simp (eq-eqb _ _ z) (sym (by_call c e ∙ simp t))

  pub line_call : (is_reading e && eqb (answer_of c e).refusal 0) ≡ false → refusal_line (answer_of c e).refusal ≡ line_of c (Call e)
  unfolding refusal_line line_of outcome_of printed
  line_call t = by_reading (is_reading e) (eqb (answer_of c e).refusal 0) _ (by_call c e) t
