-- What `write` leaves a caller who reads the label where it was written.
use Rattle.std.proofs.Common.{◌≡◌, ℕ, ◌+◌, ◌*◌, ◌<◌, ◌≤◌, Bool, true, false, cond, not, eqb, ltb, List, ◌++◌, length, drop, refl, ap, ◌∙◌, arith, length-append, length-drop, length-take, ltb-false, le-ltb, lt-ltb, eqb-true}
use Rattle.state.specs.declared.state.Clock.{Clock}
use Rattle.state.specs.State.{in_range}
use Rattle.label.specs.Label.{label_size, label_of, is_sixty, clock_label}
use Rattle.label.specs.Writing.{write_refusal, written_to, Readable}

-- a label has twenty bytes
pub twenty : (s : ℕ) (sixty : Bool) → length (label_of s sixty) ≡ label_size
unfolding label_of
twenty s sixty = refl

module _ (c : Clock) (out : List ℕ) where
  -- an accepted writing is of a clock in range, into a buffer that has room
  pub wrote : write_refusal c out ≡ 0 → (in_range c ≡ true) × (label_size ≤ length out)
  unfolding write_refusal
  wrote = by_tests (in_range c) (ltb (length out) label_size) refl
    where
      by_tests : (sound short : Bool) → ltb (length out) label_size ≡ short → ◌≡◌ {A = ℕ} (cond (not sound) 1 (cond short 14 0)) 0
          → (sound ≡ true) × (label_size ≤ length out)
      by_tests true false l e = (refl, ltb-false (length out) label_size l)
      by_tests true true l e = absurd (omega arith)
      by_tests false short l e = absurd (omega arith)

  refused_short : label_size ≤ length out + label_size * write_refusal c out
  unfolding write_refusal
  refused_short = by_tests (in_range c) (ltb (length out) label_size) refl
    where
      by_tests : (sound short : Bool) → ltb (length out) label_size ≡ short
          → label_size ≤ length out + label_size * cond (not sound) 1 (cond short 14 0)
      by_tests true false l = omega (arith, ltb-false (length out) label_size l)
      by_tests true true l = omega arith
      by_tests false short l = omega arith

  same_length : length (written_to c out) ≡ length out
  unfolding written_to
  same_length = by_test (eqb (write_refusal c out) 0) refl
    where
      by_test : (t : Bool) → eqb (write_refusal c out) 0 ≡ t → length (cond t (clock_label c ++ drop label_size out) out) ≡ length out
      by_test true e =
          let room = (wrote (eqb-true (write_refusal c out) 0 e)).1 in
          rw (length-append, length-drop, twenty c.seconds (is_sixty c)) (omega arith)
      by_test false e = refl

  -- what `write` promises of an answer and the buffer after it
  abbrev Promised : ℕ → List ℕ → Type 0
  Promised r after = ((r ≡ write_refusal c out) × Readable r out after) × (after ≡ written_to c out)

  promised : {r : ℕ} {after : List ℕ} → r ≡ write_refusal c out → after ≡ written_to c out → Promised r after
  promised {r} {after} p q =
      let kept : length after ≡ length out = ap length q ∙ same_length in
      ((p, record { kept = kept; room = omega (arith, p, refused_short); part = length-take label_size after }), q)

  pub unsound : in_range c ≡ false → Promised 1 out
  unfolding write_refusal written_to
  unsound h = promised {r = 1} {after = out} (simp h) (simp h)

  module _ (sound : in_range c ≡ true) where
    pub short : length out < label_size → Promised 14 out
    unfolding write_refusal written_to
    short l = let e = lt-ltb (length out) label_size l in promised {r = 14} {after = out} (simp (sound, e)) (simp (sound, e))

    pub done : label_size ≤ length out → {text : List ℕ} → text ≡ clock_label c → Promised 0 (text ++ drop label_size out)
    unfolding write_refusal written_to
    done l {text} q =
        let e = le-ltb (length out) label_size l in
        promised {r = 0} {after = text ++ drop label_size out} (simp (sound, e)) (simp (sound, e, q))
