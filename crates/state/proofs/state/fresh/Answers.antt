-- `state::fresh`: the fresh clock of a kind, or of kind 0 with refusal 1.
use borrow.Author.Tests.{le-leb, lt-leb}
use Rattle.state.specs.Fresh.{fresh_of}
use Rattle.state.proofs.state.fresh.Goals as goal

pub returns-then-kind-gt-KIND_1024 : goal.returns-then-kind-gt-KIND_1024
unfolding fresh_of
returns-then-kind-gt-KIND_1024 c = simp (c.refused.ensures, c.fresh_of.ensures, lt-leb _ _ c.if-kind-gt-KIND_1024.true)

pub returns : goal.returns
unfolding fresh_of
returns c = simp (c.accepted.ensures, c.fresh_of-2.ensures, le-leb _ _ c.if-kind-gt-KIND_1024.false)
