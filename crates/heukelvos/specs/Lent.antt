-- "The timer handler also wants the clock lent to it and changed in place, with the same answers."
use Rattle.std.specs.Prelude.{◌≡◌, false, ℕ, eqb}
use Rattle.state.specs.declared.state.Clock.{Clock}
use Rattle.clock.specs.declared.run.CaughtUp.{CaughtUp}
use Rattle.heukelvos.specs.declared.lent.Counted.{Counted}

-- "A refused call hands back the state it got": where the refusal is not 0, what was lent is as it was. It
-- follows from what the lent clock is said to hold, and is what a handler rests on.
abbrev pub Kept : ℕ → Clock → Clock → Type 0
Kept refusal before after = eqb refusal 0 ≡ false → after ≡ before

-- what a catch-up answers, without the clock
abbrev pub counted : CaughtUp → Counted
counted r = record { refusal = r.refusal; count = r.count; tick_refusal = r.tick_refusal }
