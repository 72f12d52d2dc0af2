-- `cross_check::form::Draft::put` ends: each byte takes seven bits of the number.
use Rattle.cross_check.proofs.form.Draft.put.Given as goal

abbrev pub decreases-loop-rest : goal.decreases-loop-rest
decreases-loop-rest l = l.rest
