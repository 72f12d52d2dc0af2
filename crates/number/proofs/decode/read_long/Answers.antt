-- `number::read_long` meets its contract: each answer by the laws of the bytes that were read on the way
-- there.
use mathlib.Core.Path.{◌≡◌, refl, sym, ◌∙◌, ap}
use mathlib.Core.List.{List}
use Prim.Native.Nat.{ℕ, zero, suc, ◌+◌, ◌*◌, ◌-◌, ◌%◌, ◌<◌, ◌≤◌}
use native.Mathlib.Nat.{le-mul_of_pos_right}
use native.Mathlib.Omega.{arith}
use borrow.Author.Rules.{rules}
use borrow.Author.Tests.{lt-ltb, le-ltb}
use Rattle.number.specs.Inner.{later_at, onto, ended_of}
use Rattle.number.proofs.Lists.{Byte, byte}
use Rattle.number.proofs.Steps.{onto_before, later_none, later_zero, later_last, later_more, later_no_more}
use Rattle.number.proofs.decode.read_long.Goals.{Else-b2-lt-SAYS_MORE, Else-b3-lt-SAYS_MORE}
use Rattle.number.proofs.decode.read_long.Goals as goal

-- ---- the byte at a place, on top of what was read before it

module _ (low unit f : ℕ) {s : List ℕ} {at b : ℕ} (h : Byte s at b) where
  more : 128 ≤ b → onto low unit (later_at (suc f) s at) ≡ onto (low + unit * (b % 128)) (unit * 128) (later_at f s (at + 1))
  more l = ap (onto low unit) (later_more f s at b h.inside h.item l) ∙ onto_before low unit b (later_at f s (at + 1))

last : (low unit f : ℕ) {s : List ℕ} {at : ℕ} (b : ℕ) → Byte s at b → low < unit → b < 128
    → onto low unit (later_at (suc f) s at) ≡ ended_of (low + unit * b) unit (at + 1)
last low unit f {s} {at} zero h u l = ap (onto low unit) (later_zero f s at 0 h.inside h.item refl) ∙ sym (simp (lt-ltb (low + unit * 0) unit (omega arith)))
last low unit f {s} {at} (suc b) h u l =
    let z : suc b ≡ 0 → ⊥ = λ q. omega arith in
    let p : unit ≤ unit * suc b = le-mul_of_pos_right unit (omega arith) in
    ap (onto low unit) (later_last f s at (suc b) h.inside h.item l z) ∙ sym (simp (le-ltb (low + unit * suc b) unit (omega arith)))

-- ---- the third byte says more; so does the fourth

module _ (c : Else-b2-lt-SAYS_MORE) where
  third : Byte c.args.bytes.now c.args.at c.from-b2.result
  third = byte c.in-Some.ensures.lookup.3 c.from-b2.ensures c.type_inv.bytes

  after-third : let a = c.args in
      let low = a.low + 16384 * (c.from-b2.result % 128) in
      onto a.low 16384 (later_at 3 a.bytes.now a.at) ≡ onto low 2097152 (later_at 2 a.bytes.now (a.at + 1))
  after-third = more _ _ _ third c.if-b2-lt-SAYS_MORE.false

module _ (c : Else-b3-lt-SAYS_MORE) where
  fourth : Byte c.args.bytes.now (c.args.at + 1) c.from-b3.result
  fourth = byte c.in-Some-get.ensures.lookup.3 c.from-b3.ensures c.type_inv.bytes

  after-fourth : let a = c.args in
      let low = a.low + 16384 * (c.from-b2.result % 128) + 2097152 * (c.from-b3.result % 128) in
      onto a.low 16384 (later_at 3 a.bytes.now a.at) ≡ onto low 268435456 (later_at 1 a.bytes.now (a.at + 1 + 1))
  after-fourth =
      more _ _ _ (byte c.in-Some.ensures.lookup.3 c.from-b2.ensures c.type_inv.bytes) c.if-b2-lt-SAYS_MORE.false
      ∙ more _ _ _ fourth c.if-b3-lt-SAYS_MORE.false

pub returns-in_default : goal.returns-in_default
returns-in_default c = ap (onto _ 16384) (sym (later_none _ _ _ c.in_default.ensures.lookup.3))

pub returns-then-b2-lt-SAYS_MORE : goal.returns-then-b2-lt-SAYS_MORE
returns-then-b2-lt-SAYS_MORE c =
    let b = byte c.in-Some.ensures.lookup.3 c.from-b2.ensures c.type_inv.bytes in
    c.ended.ensures ∙ sym (last _ _ _ _ b (search rules) c.if-b2-lt-SAYS_MORE.true)

pub returns-in_default-get : goal.returns-in_default-get
returns-in_default-get c =
    sym (after-third (goal.at.returns-in_default-get c).Else-b2-lt-SAYS_MORE ∙ ap (onto _ 2097152) (later_none _ _ _ c.in_default-get.ensures.lookup.3))

pub returns-then-b3-lt-SAYS_MORE : goal.returns-then-b3-lt-SAYS_MORE
returns-then-b3-lt-SAYS_MORE c =
    let a = c.args in
    let b₂ = c.from-b2.result in
    let b₃ = c.from-b3.result in
    let g = (goal.at.returns-then-b3-lt-SAYS_MORE c).Else-b2-lt-SAYS_MORE in
    let less : a.low + 16384 * b₂ + 2097152 * b₃ - 2097152 ≡ a.low + 16384 * (b₂ % 128) + 2097152 * b₃ =
    omega (arith, c.if-b2-lt-SAYS_MORE.false, (third g).small) in
    let b = byte c.in-Some-get.ensures.lookup.3 c.from-b3.ensures c.type_inv.bytes in
    c.ended-then-b3-lt-SAYS_MORE.ensures ∙ ap (λ (m : ℕ). ended_of m 2097152 (a.at + 1 + 1)) less
    ∙ sym (after-third g ∙ last _ _ _ _ b (search rules) c.if-b3-lt-SAYS_MORE.true)

pub returns-in_default-get-2 : goal.returns-in_default-get-2
returns-in_default-get-2 c =
    sym (after-fourth (goal.at.returns-in_default-get-2 c).Else-b3-lt-SAYS_MORE ∙ ap (onto _ 268435456) (later_none _ _ _ c.in_default-get-2.ensures.lookup.3))

pub returns-then-b4-ge-SAYS_MORE : goal.returns-then-b4-ge-SAYS_MORE
returns-then-b4-ge-SAYS_MORE c =
    let b = byte c.in-Some-get-2.ensures.lookup.3 c.from-b4.ensures c.type_inv.bytes in
    sym (after-fourth (goal.at.returns-then-b4-ge-SAYS_MORE c).Else-b3-lt-SAYS_MORE ∙ more _ _ _ b c.if-b4-ge-SAYS_MORE.true ∙ ap (onto _ 34359738368) (later_no_more _ _))

pub returns : goal.returns
returns c =
    let a = c.args in
    let b₂ = c.from-b2.result in
    let b₃ = c.from-b3.result in
    let b₄ = c.from-b4.result in
    let g₃ = (goal.at.returns c).Else-b2-lt-SAYS_MORE in
    let g₄ = (goal.at.returns c).Else-b3-lt-SAYS_MORE in
    let groups = a.low + 16384 * (b₂ % 128) + 2097152 * (b₃ % 128) + 268435456 * b₄ in
    let less : a.low + 16384 * b₂ + 2097152 * b₃ - 2097152 + 268435456 * b₄ - 268435456 ≡ groups =
    omega (arith, c.if-b2-lt-SAYS_MORE.false, (third g₃).small, c.if-b3-lt-SAYS_MORE.false, (fourth g₄).small) in
    let b = byte c.in-Some-get-2.ensures.lookup.3 c.from-b4.ensures c.type_inv.bytes in
    c.ended-2.ensures ∙ ap (λ (m : ℕ). ended_of m 268435456 (a.at + 1 + 1 + 1)) less
    ∙ sym (after-fourth g₄ ∙ last _ _ _ _ b (search rules) c.if-b4-ge-SAYS_MORE.false)
