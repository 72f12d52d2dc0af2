-- Of one call there is one answer: it stops after as many steps as it can make, and these fix all else.
use mathlib.Core.Path.{◌≡◌, refl, ap}
use mathlib.Core.Bool.{Bool, true, false}
use mathlib.Core.List.{List}
use mathlib.Core.Logic.{⊎_elim}
use Prim.Native.Nat.{ℕ, ◌<◌}
use native.Mathlib.Omega.{arith}
use lib.Dec.{ltb}
use lib.ListN.{length, take-append-drop}
use borrow.Author.Tests.{ltb-true, ltb-false}
use Rattle.playback.specs.Run.{lines_of}
use Rattle.playback.specs.Filling.{Fills, Alike, OneFill}
use Rattle.playback.specs.declared.run.Run.{Run}
use Rattle.playback.specs.declared.run.Filling.{Filling}

-- a call stops after no fewer steps than another makes
not_before : {s : List ℕ} {run : Run} {buf b₁ b₂ : List ℕ} {r₁ r₂ : Filling}
    (f : Fills s run buf b₁ r₁) (g : Fills s run buf b₂ r₂) → f.steps < g.steps → ⊥
not_before {s} {run} {r₁ = r₁} f g h =
    let o = g.onward f.steps (omega arith) in
    let n = length (lines_of f.steps s run) in
    let told : r₁.length ≡ n = omega (arith, f.part, ap length f.written) in
    ⊎_elim (λ t. let w : ◌≡◌ {A = ℕ} 0 1 = cc (f.stands, o.going) in omega arith)
    (λ l. omega (arith, o.enough)) f.stopped

module _ {s : List ℕ} {run : Run} {buf b₁ b₂ : List ℕ} {r₁ r₂ : Filling}
    (f : Fills s run buf b₁ r₁) (g : Fills s run buf b₂ r₂) where
  by_order : (b c : Bool) → ltb f.steps g.steps ≡ b → ltb g.steps f.steps ≡ c
      → f.steps ≡ g.steps
  by_order true c t u = absurd (not_before f g (ltb-true _ _ t))
  by_order false true t u = absurd (not_before g f (ltb-true _ _ u))
  by_order false false t u =
      omega (arith, ltb-false f.steps g.steps t, ltb-false g.steps f.steps u)

  same_steps : f.steps ≡ g.steps
  same_steps = by_order (ltb f.steps g.steps) (ltb g.steps f.steps) refl refl

  same_length : r₁.length ≡ r₂.length
  same_length =
      let e : length (lines_of f.steps s run) ≡ length (lines_of g.steps s run) = cc same_steps in
      omega (arith, f.part, g.part, ap length f.written, ap length g.written)

filling : ℕ → Run → ℕ → Filling
filling n run length = record { refusal = n; run = run; length = length }

same_filling : (a b : Filling) → a.refusal ≡ b.refusal → a.run ≡ b.run → a.length ≡ b.length → a ≡ b
unfolding filling
same_filling a b x y z =
    let e : filling a.refusal a.run a.length ≡ filling b.refusal b.run b.length = cc in
    e

same_fill : {s : List ℕ} {run : Run} {buf b₁ b₂ : List ℕ} {r₁ r₂ : Filling}
    (f : Fills s run buf b₁ r₁) (g : Fills s run buf b₂ r₂) → Alike f g
same_fill {b₁ = b₁} {b₂ = b₂} {r₁ = r₁} {r₂ = r₂} f g =
    let k = same_steps f g in
    let n = same_length f g in
    record {
      steps = cc k;
      answer = cc (same_filling r₁ r₂ (cc (f.refusal, g.refusal)) (cc (f.stands, g.stands)) n);
      left =
          cc (
            take-append-drop r₁.length b₁,
            take-append-drop r₂.length b₂,
            f.written,
            g.written,
            f.later,
            g.later,
          );
    }

pub one_fill : OneFill
one_fill = record { alike = same_fill }
