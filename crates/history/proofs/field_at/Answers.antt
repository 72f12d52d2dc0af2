-- `history::field_at` meets its contract.
use borrow.Author.Tests.{eq-eqb, ne_eqb}
use Rattle.history.specs.Event.{field_at}
use Rattle.history.proofs.field_at.Goals as goal

pub returns-then-mode-bit-eq1 : goal.returns-then-mode-bit-eq1
unfolding field_at
returns-then-mode-bit-eq1 c = simp (eq-eqb _ _ c.if-mode-bit-eq1.true) c.read.ensures

pub returns : goal.returns
unfolding field_at
returns c = simp (ne_eqb _ _ c.if-mode-bit-eq1.false)
