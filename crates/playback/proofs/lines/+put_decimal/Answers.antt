-- `playback::put_decimal` meets its contract: its last digit is behind those that it wrote before.
use mathlib.Core.Path.{sym, ◌∙◌, ap}
use mathlib.Core.List.{[], ◌∷◌, ◌++◌}
use Prim.Native.Nat.{ℕ, ◌/◌}
use native.Mathlib.Omega.{arith}
use Rattle.playback.specs.Lines.{decimal}
use Rattle.playback.proofs.Decimal.{decimal_last, decimal_more, length_last, length_more}
use Rattle.playback.proofs.Buffers.{puts_one, puts_then, puts_as, puts_length}
use Rattle.playback.proofs.lines.+put_decimal.Goals as goal

pub bounds-out-at : goal.bounds-out-at
bounds-out-at t c = omega (arith, length_last c.args.n c.if-n-lt10.true, c.requires)

pub returns-then-n-lt10 : goal.returns-then-n-lt10
returns-then-n-lt10 t c =
    puts_as (ap (λ (x : ℕ). x ∷ []) c.digit.ensures ∙ sym (decimal_last c.args.n c.if-n-lt10.true))
    (puts_one c.args.out.now c.args.at c.digit.result)

pub put_decimal-p-requires : goal.put_decimal-p-requires
put_decimal-p-requires t c =
    (omega (arith, c.decreases, c.if-n-lt10.false), omega (arith, length_more c.args.n c.if-n-lt10.false, c.requires))

pub bounds-out-p : goal.bounds-out-p
bounds-out-p t c =
    let e = c.put_decimal-p.ensures in
    omega (arith, e.place, puts_length e, length_more c.args.n c.if-n-lt10.false, c.requires)

pub overflow_add-result-2 : goal.overflow_add-result-2
overflow_add-result-2 t c =
    let e = c.put_decimal-p.ensures in
    omega (arith, e.place, puts_length e, length_more c.args.n c.if-n-lt10.false, c.requires)

pub returns : goal.returns
returns t c =
    let p = c.put_decimal-p in
    puts_as
    (ap (λ (x : ℕ). decimal (c.args.n / 10) ++ (x ∷ [])) c.digit-2.ensures ∙ sym (decimal_more c.args.n c.if-n-lt10.false))
    (puts_then p.ensures (puts_one p.new.out p.result c.digit-2.result))
