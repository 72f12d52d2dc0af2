-- `summary::counting::count_call`: an accepted request with an offset adds it, and nothing else does.
use mathlib.Core.Path.{◌≡◌, ap}
use mathlib.Core.Bool.{true}
use native.Mathlib.Omega.{arith}
use borrow.Author.Tests.{eq-eqb}
use Rattle.integers.proofs.Ranges.{parts_within}
use Rattle.state.specs.State.{within, greatest_offset}
use Rattle.state.specs.declared.state.Clock.{Clock}
use Rattle.state.specs.declared.outcome.Outcome.{Outcome}
use Rattle.request.specs.Request.{selects_offset}
use Rattle.request.specs.declared.request.Request.{Request}
use Rattle.request.proofs.RequestCases.{RequestCase, done, refused, request_case}
use Rattle.event.specs.Event.{answer_of}
use Rattle.event.specs.declared.event.Call.TheVariants as call
use Rattle.summary.proofs.counting.count_call.Goals as goal

module _ (c : Clock) (r : Request) (z : (answer_of c (call.Request r)).refusal ≡ 0) where
  offset_within : selects_offset r ≡ true → within greatest_offset r.offset.0 ≡ true
  offset_within s = by (request_case c r)
    where
      by : RequestCase c r → within greatest_offset r.offset.0 ≡ true
      by (done a e) =
          let p = a.offset s in
          parts_within greatest_offset greatest_offset r.offset.0 p.0 p.1
      by (refused n e h) = absurd (omega (arith, z, ap (λ (o : Outcome). o.refusal) e))

pub size_of-requires : goal.size_of-requires
size_of-requires c =
    offset_within c.args.c c.in-Request.r (rw c.in-Request.is at c.requires) (eq-eqb _ 1 c.if-r-eq1.true)
