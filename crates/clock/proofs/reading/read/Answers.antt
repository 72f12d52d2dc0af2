-- `clock::read`: a reading, by whether the clock is in range.
use mathlib.Core.Path.{sym, ◌∙◌}
use Rattle.clock.specs.Reading.{told_of, reading_refusal}
use Rattle.clock.proofs.reading.read.Goals as goal

pub returns-then-not-in_range : goal.returns-then-not-in_range
unfolding told_of reading_refusal
returns-then-not-in_range c =
    let t = sym c.in_range.ensures ∙ c.if-not-in_range.true in
    simp t

pub returns : goal.returns
unfolding told_of reading_refusal
returns c =
    let t = sym c.in_range.ensures ∙ c.if-not-in_range.false in
    simp t
