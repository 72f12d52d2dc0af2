-- What the reader answers.
use Rattle.std.specs.Prelude.{◌≡◌, ℕ, Bool, true, false, List}
use Rattle.state.specs.Refusal.{refused_label}
use Rattle.state.specs.declared.state.Clock.{Clock}
use Rattle.state.specs.State.{in_range}
use Rattle.label.specs.declared.UtcSecond.{UtcSecond}
use Rattle.label.specs.Label.{is_sixty, clock_label}

-- the bytes are what the writer writes for the clock c
pub record WrittenFor (c : Clock) (text : List ℕ) : Type 0 where
  pub sound : in_range c ≡ true
  pub bytes : text ≡ clock_label c

-- an accepted label's answer, and that of bytes that are none: 15 "not a label", and "a refused label second
-- 0 and no 60"
abbrev pub label : ℕ → Bool → UtcSecond
label s sixty = record { refusal = 0; seconds = s; sixty = sixty }

abbrev pub no_label : UtcSecond
no_label = record { refusal = refused_label; seconds = 0; sixty = false }

-- "The reader accepts exactly the strings of twenty bytes that the writer can write, and gives seconds and
-- whether it was a 60"
pub data ReadsAs (text : List ℕ) : UtcSecond → Type 0 where
  accepted : {c : Clock} → WrittenFor c text → ReadsAs text (label c.seconds (is_sixty c))
  refused : ((c : Clock) → WrittenFor c text → ⊥) → ReadsAs text no_label
