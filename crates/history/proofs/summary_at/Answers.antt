-- `history::summary_at` meets its contract: the test of the code is that of the definition.
use borrow.Author.Tests.{eq-eqb, ne_eqb}
use Rattle.history.specs.Event.{summary_at}
use Rattle.history.proofs.summary_at.Goals as goal

pub returns-then-start-eq0 : goal.returns-then-start-eq0
unfolding summary_at
returns-then-start-eq0 c = simp (eq-eqb _ _ c.if-start-eq0.true)

pub returns : goal.returns
unfolding summary_at
returns c = simp (ne_eqb _ _ c.if-start-eq0.false)
