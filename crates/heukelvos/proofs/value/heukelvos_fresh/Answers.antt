-- `heukelvos::heukelvos_fresh`: a number that no byte holds is refused as 255 is.
use borrow.Author.Tests.{lt-leb}
use mathlib.Core.Path.{◌∙◌}
use native.Mathlib.Omega.{arith}
use Rattle.state.specs.Fresh.{fresh_of}
use Rattle.heukelvos.proofs.value.heukelvos_fresh.Goals as goal

pub returns-then-kind-gt-LAST_BYTE : goal.returns-then-kind-gt-LAST_BYTE
unfolding fresh_of
returns-then-kind-gt-LAST_BYTE c = c.fresh.ensures ∙ simp (lt-leb c.args.kind 1 (omega (arith, c.if-kind-gt-LAST_BYTE.true)))
