-- `record::write` meets its contract: the record is written into a text of its own, and copied where there is
-- room for it.
use mathlib.Core.Path.{◌≡◌, refl, sym, ◌∙◌, ap}
use mathlib.Core.Bool.{true}
use mathlib.Core.List.{List}
use Prim.Native.Nat.{ℕ}
use native.Mathlib.Omega.{arith}
use Rattle.number.specs.Form.{bytes_of_all}
use Rattle.number.specs.Layout.{written}
use Rattle.number.specs.Writing.{answered, filled}
use Rattle.state.specs.State.{in_range}
use Rattle.state.specs.declared.state.Clock.{Clock}
use Rattle.record.specs.Layout.{record_layout, places_in, numbers_in, record_in, numbers_of, record_of}
use Rattle.record.proofs.SavingLaws.{Drafted, drafted, draft_fits, copied, out_of_range, too_short, stored}
use Rattle.record.proofs.save.write.Goals.{After-unwrap-n}
use Rattle.record.proofs.save.write.Goals as goal

whole : (c : Clock) {ns : List ℕ} → ns ≡ numbers_of c → bytes_of_all ns ≡ record_of c
unfolding record_in
whole c e = ap bytes_of_all e

draft : (c : After-unwrap-n) → Drafted c.args.c c.unwrap-n.result c.write_all.new.buf
unfolding numbers_in written record_layout places_in
draft c =
    drafted c.args.c _ refl
    (c.write_all.ensures.answer ∙ ap (answered _ 0) (whole c.args.c c.numbers.ensures))
    c.unwrap-n.ensures
    (c.write_all.ensures.buffer ∙ ap (filled _ 0) (whole c.args.c c.numbers.ensures))

sound : (c : After-unwrap-n) → in_range c.args.c ≡ true
sound c =
    sym c.in_range.ensures ∙ c.if-not-in_range.false

pub returns-then-not-in_range : goal.returns-then-not-in_range
returns-then-not-in_range c = out_of_range _ _ (sym c.in_range.ensures ∙ c.if-not-in_range.true)

pub unwrap-n-requires : goal.unwrap-n-requires
unfolding numbers_in written record_layout places_in
unwrap-n-requires c =
    draft_fits c.args.c _ refl _ (c.write_all.ensures.answer ∙ ap (answered _ 0) (whole c.args.c c.numbers.ensures))

pub returns-then-buf-n : goal.returns-then-buf-n
returns-then-buf-n c =
    let w = (goal.at.returns-then-buf-n c).After-unwrap-n in
    too_short _ _ (sound w) (omega (arith, (draft w).size, c.if-buf-n.true))

pub returns : goal.returns
returns c =
    let w = (goal.at.returns c).After-unwrap-n in
    let d = draft w in
    stored _ c.args.buf.now (sound w) (omega (arith, d.size, c.if-buf-n.false)) d.size
    (copied c.args.buf.now (c.copy_from_slice.ensures.after ∙ d.bytes) d.size)
