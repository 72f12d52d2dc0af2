-- `number::read` meets its contract: each answer by the laws of the bytes that were read on the way there.
use mathlib.Core.Path.{◌≡◌, refl, sym, ◌∙◌, ap}
use Prim.Native.Nat.{ℕ, ◌+◌, ◌*◌, ◌-◌, ◌%◌, ◌<◌, ◌≤◌}
use native.Mathlib.Omega.{arith}
use Rattle.number.specs.Reading.{Found, number, refused, number_at}
use Rattle.number.specs.Inner.{later_at, onto}
use Rattle.number.proofs.Lists.{byte}
use Rattle.number.proofs.Steps.{before, first_none, first_last, first_more, later_none, later_zero, later_last, later_more}
use Rattle.number.proofs.decode.read.Goals.{Else-b0-lt-SAYS_MORE}
use Rattle.number.proofs.decode.read.Goals as goal

-- two bytes that say more, before the rest
module _ (b₀ b₁ : ℕ) (p : (128 ≤ b₀) × (b₀ < 256)) (q : (128 ≤ b₁) × (b₁ < 256)) where
  twice : (x : Found) → before b₀ (before b₁ x) ≡ onto (b₀ + 128 * b₁ - 16512) 16384 x
  twice (number v k) = ap (λ (m : ℕ). number m k) (omega arith)
  twice (refused n) = refl

-- the first byte says more: what the rest gives
after_first : (c : Else-b0-lt-SAYS_MORE) {x : Found}
    → let a = c.args in
    later_at 4 a.bytes.now (a.at + 1) ≡ x → number_at a.bytes.now a.at ≡ before c.from-b0.result x
after_first c e =
    let b = byte c.in-Some.ensures.lookup.3 c.from-b0.ensures c.type_inv.bytes in
    first_more _ _ c.from-b0.result b.inside b.item c.if-b0-lt-SAYS_MORE.false ∙ ap (before c.from-b0.result) e

pub returns-in_default : goal.returns-in_default
returns-in_default c = sym (first_none _ _ c.in_default.ensures.lookup.3)

pub returns-then-b0-lt-SAYS_MORE : goal.returns-then-b0-lt-SAYS_MORE
returns-then-b0-lt-SAYS_MORE c =
    let b = byte c.in-Some.ensures.lookup.3 c.from-b0.ensures c.type_inv.bytes in
    sym (first_last _ _ c.from-b0.result b.inside b.item (omega arith))

pub returns-in_default-get : goal.returns-in_default-get
returns-in_default-get c =
    sym (after_first (goal.at.returns-in_default-get c).Else-b0-lt-SAYS_MORE (later_none _ _ _ c.in_default-get.ensures.lookup.3))

pub returns-then-b1-ge-SAYS_MORE : goal.returns-then-b1-ge-SAYS_MORE
returns-then-b1-ge-SAYS_MORE c =
    let a = c.args in
    let b₀ = byte c.in-Some.ensures.lookup.3 c.from-b0.ensures c.type_inv.bytes in
    let b₁ = byte c.in-Some-get.ensures.lookup.3 c.from-b1.ensures c.type_inv.bytes in
    c.read_long.ensures
    ∙ sym (after_first (goal.at.returns-then-b1-ge-SAYS_MORE c).Else-b0-lt-SAYS_MORE (later_more _ _ _ c.from-b1.result b₁.inside b₁.item c.if-b1-ge-SAYS_MORE.true)
    ∙ twice c.from-b0.result c.from-b1.result (c.if-b0-lt-SAYS_MORE.false, b₀.small) (c.if-b1-ge-SAYS_MORE.true, b₁.small) (later_at 3 a.bytes.now (a.at + 1 + 1)))

pub returns-then-b1-eq0 : goal.returns-then-b1-eq0
returns-then-b1-eq0 c =
    let b = byte c.in-Some-get.ensures.lookup.3 c.from-b1.ensures c.type_inv.bytes in
    sym (after_first (goal.at.returns-then-b1-eq0 c).Else-b0-lt-SAYS_MORE (later_zero _ _ _ c.from-b1.result b.inside b.item (omega arith)))

pub returns : goal.returns
returns c =
    let a = c.args in
    let b₀ = byte c.in-Some.ensures.lookup.3 c.from-b0.ensures c.type_inv.bytes in
    let b₁ = byte c.in-Some-get.ensures.lookup.3 c.from-b1.ensures c.type_inv.bytes in
    let less : c.from-b0.result + 128 * c.from-b1.result - 128 ≡ c.from-b0.result % 128 + 128 * c.from-b1.result =
    omega (arith, c.if-b0-lt-SAYS_MORE.false, b₀.small) in
    ap (λ (m : ℕ). number m (a.at + 1 + 1)) less
    ∙ sym
    (after_first (goal.at.returns c).Else-b0-lt-SAYS_MORE
    (later_last _ _ _ c.from-b1.result b₁.inside b₁.item (omega arith) (λ z. omega (arith, c.if-b1-eq0.false))))
