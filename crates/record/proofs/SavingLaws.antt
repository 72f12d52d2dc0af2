-- What a write answers, and the buffer afterwards, in the cases of the code.
use mathlib.Core.Path.{◌≡◌, refl, sym, ◌∙◌, ap}
use mathlib.Core.Bool.{true, false}
use mathlib.Core.List.{List, ◌++◌}
use Prim.Native.Nat.{ℕ, ◌+◌, ◌*◌, ◌<◌, ◌≤◌}
use native.Mathlib.Omega.{arith}
use lib.ListN.{length, take, drop, length-append, length-drop}
use lib.Seq.{length-take-le}
use borrow.Author.Tests.{lt-ltb, le-ltb}
use Rattle.number.specs.Writing.{Written, told_written, answered, filled}
use Rattle.number.proofs.Buffer.{answered_room, filled_there}
use Rattle.number.proofs.Sizes.{sizes_most}
use Rattle.state.specs.State.{in_range}
use Rattle.state.specs.declared.state.Clock.{Clock}
use Rattle.std.specs.Prelude.{Result, Ok, Err, IsOk}
use Rattle.state.specs.declared.refusal.Refusal.{Refusal}
use Rattle.state.specs.declared.refusal.Refusal.TheVariants as R
use Rattle.record.specs.Layout.{numbers_of, record_in, record_of}
use Rattle.record.specs.Saving.{told_saved, saving_refusal, saving_of, buffer_after, Saves}

-- ---- the record before it is copied

most : (c : Clock) → length (record_of c) ≤ 5 * length (numbers_of c)
unfolding record_in
most c = sizes_most (numbers_of c)

-- the record of c stands at the beginning of the text, and was found to be as long as it is
pub record Drafted (c : Clock) (n : ℕ) (text : List ℕ) : Type 0 where
  pub size : n ≡ length (record_of c)
  pub bytes : take n text ≡ record_of c

pub drafted : (c : Clock) (blank : List ℕ) → length blank ≡ 5 * length (numbers_of c) → {w : Result ℕ Refusal} {n : ℕ} {text : List ℕ} → told_written w ≡ answered blank 0 (record_of c)
    → w ≡ Ok n → text ≡ filled blank 0 (record_of c) → Drafted c n text
drafted c blank l {n = n} p e q =
    let ws = record_of c in
    let h : 0 + length ws ≤ length blank = omega (arith, most c) in
    let size : n ≡ length ws = ap (λ (x : Written). x.next) (sym (ap told_written e) ∙ p ∙ sym (answered_room blank 0 ws h)) ∙ omega arith in
    record {
      size = size;
      bytes = rw (size, q) (filled_there blank 0 ws h);
    }

-- there is room for it, so that it cannot be refused
never_refused : (w : Result ℕ Refusal) {n : ℕ} → told_written w ≡ told_written (Ok n) → IsOk w
never_refused (Ok m) e = refl
never_refused (Err R.Room) e = absurd (omega (arith, ap (λ (x : Written). x.refusal) e))
never_refused (Err r) e = absurd (omega (arith, ap (λ (x : Written). x.refusal) e))

pub draft_fits : (c : Clock) (blank : List ℕ) → length blank ≡ 5 * length (numbers_of c) → (w : Result ℕ Refusal) → told_written w ≡ answered blank 0 (record_of c) → IsOk w
draft_fits c blank l w p =
    let h : 0 + length (record_of c) ≤ length blank = omega (arith, most c) in
    never_refused w (p ∙ sym (answered_room blank 0 (record_of c) h))

pub copied : (buf : List ℕ) {src ws : List ℕ} {n : ℕ} → src ≡ ws → n ≡ length ws → src ++ drop n buf ≡ ws ++ drop (length ws) buf
copied buf e p = rw (e, p)

-- ---- the answers

module _ (c : Clock) (buf : List ℕ) where
  pub out_of_range : in_range c ≡ false → Saves c buf buf (Err R.State)
  unfolding saving_of buffer_after saving_refusal
  out_of_range e = record { answer = simp e; buffer = simp e; within = omega arith; part = refl; same = refl }

  module _ (e : in_range c ≡ true) where
    pub too_short : length buf < length (record_of c) → Saves c buf buf (Err R.Room)
    unfolding saving_of buffer_after saving_refusal
    too_short h = record { answer = simp (e, lt-ltb _ _ h); buffer = simp (e, lt-ltb _ _ h); within = omega arith; part = refl; same = refl }

    module _ (h : length (record_of c) ≤ length buf) where
      accepted_answer : told_saved (Ok (length (record_of c))) ≡ saving_of c buf
      unfolding saving_of saving_refusal
      accepted_answer = simp (e, le-ltb _ _ h)

      accepted_buffer : record_of c ++ drop (length (record_of c)) buf ≡ buffer_after c buf
      unfolding buffer_after saving_refusal
      accepted_buffer = simp (e, le-ltb _ _ h)

      pub stored : {n : ℕ} {after : List ℕ} → n ≡ length (record_of c) → after ≡ record_of c ++ drop (length (record_of c)) buf
          → Saves c buf after (Ok n)
      stored {n} {after} p q =
          let same : length after ≡ length buf = omega (arith, simp (length-append, length-drop) at (ap length q)) in
          let within : n ≤ length after = omega arith in
          record { answer = rw p accepted_answer; buffer = q ∙ accepted_buffer; within = within; part = sym (length-take-le n after within); same = same }
