-- A buffer that is filled by steps of a run, one after the other.
use mathlib.Core.Path.{◌≡◌, refl, sym, ◌∙◌, ap}
use mathlib.Core.Bool.{Bool, true, false}
use mathlib.Core.List.{List, ◌++◌, append-nil}
use mathlib.Core.Logic.{◌⊎◌, inl, inr, ⊎_elim}
use Prim.Native.Nat.{ℕ, zero, suc, ◌+◌, ◌-◌, ◌<◌, ◌≤◌}
use native.Mathlib.Omega.{arith}
use lib.Dec.{leb}
use lib.ListN.{length, length-append}
use lib.Seq.{length-take-le}
use borrow.Author.Tests.{lt-ltb, le-ltb, leb-true, leb-false}
use Rattle.playback.specs.Run.{Advanced, step, run_after, lines_of}
use Rattle.playback.specs.Filling.{longest_line, fill_refusal, Fills}
use Rattle.playback.specs.Inner.{Puts, Steps, Going, Made}
use Rattle.playback.specs.declared.run.Run.{Run}
use Rattle.playback.specs.declared.run.Filling.{Filling}
use Rattle.playback.proofs.Buffers.{puts_none, puts_then, puts_as, puts_take, puts_drop, puts_length}
use Rattle.playback.proofs.RunLaws.{run_append, lines_append, left, steps_less}

-- a step by what it leads to and what it prints
pub stepped : {s : List ℕ} {run now : Run} {buf buf' : List ℕ} {at q : ℕ} {a : Advanced} → step s run ≡ a → now ≡ a.run
    → Puts a.line buf at buf' q → length a.line ≤ longest_line → Steps s run buf at buf' now q
stepped e i p l = record { line = rw (e) p; small = rw (e) l; stands = i ∙ ap (λ (x : Advanced). x.run) (sym e) }

module _ (s : List ℕ) where
  -- no step
  pub made_none : (run : Run) (buf : List ℕ) (at : ℕ) → at ≤ length buf → Made s run buf at buf run at
  unfolding run_after lines_of
  made_none run buf at h =
      record { steps = 0; onward = λ k h. absurd (omega arith); stands = refl; lines = puts_none buf at; within = omega arith }

  -- one step, where there is room for a line
  pub made_one : {run now : Run} {buf buf' : List ℕ} {at next : ℕ} → run.ended ≡ false → at + longest_line ≤ length buf
      → Steps s run buf at buf' now next → Made s run buf at buf' now next
  unfolding run_after lines_of
  made_one {run} {now} {buf} {buf'} {at} {next} going room x =
      record {
        steps = 1;
        onward = λ k h. first k (omega arith);
        stands = x.stands;
        lines = puts_as (sym (append-nil (step s run).line)) x.line;
        within = omega (arith, x.line.place, x.small);
      }
    where
      first : (k : ℕ) → k ≡ 0 → Going s run (length buf) at k
      first k e = rw (e) (record { going = going; enough = omega arith })

  -- some steps, and then others
  module _ {run mid now : Run} {buf buf₁ buf₂ : List ℕ} {at p q : ℕ} (a : Made s run buf at buf₁ mid p) (b : Made s mid buf₁ p buf₂ now q) where
    same : length buf₁ ≡ length buf
    same = puts_length a.lines

    later : (k : ℕ) → a.steps ≤ k → k < a.steps + b.steps → Going s run (length buf) at k
    later k l h =
        let j = k - a.steps in
        let e : a.steps + j ≡ k = omega arith in
        let g = b.onward j (omega arith) in
        let r : run_after (a.steps + j) s run ≡ run_after j s mid = run_append s a.steps j run ∙ ap (run_after j s) (sym a.stands) in
        let w : lines_of (a.steps + j) s run ≡ lines_of a.steps s run ++ lines_of j s mid =
        lines_append s a.steps j run ∙ ap (λ (x : Run). lines_of a.steps s run ++ lines_of j s x) (sym a.stands) in
        let there : Going s run (length buf) at (a.steps + j) = record {
          going = ap (λ (x : Run). x.ended) r ∙ g.going;
          enough = rw (w, length-append (lines_of a.steps s run) (lines_of j s mid)) (omega (arith, g.enough, a.lines.place, same));
        } in
        rw (e) at there

    each : (k : ℕ) → k < a.steps + b.steps → (t : Bool) → leb a.steps k ≡ t → Going s run (length buf) at k
    each k h true t = later k (leb-true _ _ t) h
    each k h false t = a.onward k (leb-false _ _ t)

    pub made_then : Made s run buf at buf₂ now q
    made_then =
        record {
          steps = a.steps + b.steps;
          onward = λ k h. each k h (leb a.steps k) refl;
          stands = b.stands ∙ ap (run_after b.steps s) a.stands ∙ sym (run_append s a.steps b.steps run);
          lines =
              puts_as
              (ap (λ (x : Run). lines_of a.steps s run ++ lines_of b.steps s x) a.stands
              ∙ sym (lines_append s a.steps b.steps run))
              (puts_then a.lines b.lines);
          within = omega (arith, b.within, same);
        }

module _ (s : List ℕ) (run : Run) (buf : List ℕ) where
  -- what was made in a whole buffer, where it stopped: the run has ended, or there is no room for one
  -- more line
  pub made_all : {out : List ℕ} {now : Run} {n : ℕ} {r : Filling} → run.ended ≡ false → longest_line ≤ length buf
      → Made s run buf 0 out now n → (now.ended ≡ true) ⊎ (length buf < n + longest_line)
      → r ≡ record { refusal = 0; run = now; length = n } → Fills s run buf out r
  made_all {out} {now} {n} {r} going l m stop e =
      let none : 0 ≡ fill_refusal run (length buf) = simp (going, le-ltb _ _ l) in
      let fits : 0 + length (lines_of m.steps s run) ≤ length buf = omega (arith, m.lines.place, m.within) in
      let same = puts_length m.lines in
      rw (e) (record {
        refusal = cc none;
        steps = m.steps;
        onward = λ k h. let g = m.onward k h in record { going = g.going; enough = omega (arith, g.enough) };
        stopped = stop;
        stands = m.stands;
        written = puts_take m.lines fits;
        later = puts_drop m.lines fits;
        same = same;
        within = omega (arith, same, m.within);
        part = sym (length-take-le n out (omega (arith, same, m.within)));
      })

  -- no step is made
  none_made : (n : ℕ) → n ≡ fill_refusal run (length buf) → (run.ended ≡ true) ⊎ (length buf < longest_line)
      → Fills s run buf buf (record { refusal = n; run = run; length = 0 })
  unfolding run_after lines_of
  none_made n e h =
      record {
        refusal = cc e;
        steps = 0;
        onward = λ k h. absurd (omega arith);
        stopped = ⊎_elim (λ t. inl t) (λ l. inr (omega arith)) h;
        stands = refl;
        written = refl;
        later = refl;
        same = refl;
        within = omega arith;
        part = refl;
      }

  pub put_ended : run.ended ≡ true → Fills s run buf buf (record { refusal = 0; run = run; length = 0 })
  put_ended t = none_made 0 (simp t) (inl t)

  pub put_short : run.ended ≡ false → length buf < longest_line → Fills s run buf buf (record { refusal = 14; run = run; length = 0 })
  put_short going h = none_made 14 (simp (going, lt-ltb _ _ h)) (inr h)

-- a call with room for a line, on a run that has not ended
module _ (s : List ℕ) {run : Run} {buf buf' : List ℕ} {r : Filling} (l : longest_line ≤ length buf)
    (going : run.ended ≡ false) (f : Fills s run buf buf' r) where
  not_none : (k : ℕ) → f.steps ≡ k → 0 < k
  unfolding run_after lines_of
  not_none zero e =
      let stays : r.run ≡ run = cc (f.stands, ap (λ (k : ℕ). run_after k s run) e) in
      let none : length (lines_of f.steps s run) ≡ 0 = ap (λ (k : ℕ). length (lines_of k s run)) e in
      let empty : r.length ≡ 0 = omega (arith, f.part, ap length f.written) in
      absurd (⊎_elim (λ t. let w : ◌≡◌ {A = ℕ} 0 1 = cc in omega arith) (λ h. omega arith) f.stopped)
  not_none (suc k) e = omega arith

  -- makes a step
  pub some_steps : 0 < f.steps
  some_steps = not_none f.steps refl

  -- so that less is left
  pub filled_less : left s r.run < left s run
  filled_less = rw f.stands (steps_less s f.steps run going some_steps)
