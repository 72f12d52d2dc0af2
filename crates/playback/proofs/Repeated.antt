-- Repeating the call ends, and gives the replay of the history.
use mathlib.Core.Path.{◌≡◌, refl, sym, ◌∙◌, ap}
use mathlib.Core.Bool.{Bool, true, false}
use mathlib.Core.List.{List, ◌++◌}
use Prim.Native.Nat.{ℕ, suc, ◌+◌, ◌<◌, ◌≤◌}
use native.Mathlib.Omega.{arith}
use lib.ListN.{length, take}
use Rattle.playback.specs.Run.{start_of_run, run_after, lines_of, quarters_asked, steps_to_end, replay_of}
use Rattle.playback.specs.Filling.{longest_line, Fills}
use Rattle.playback.specs.Repeated.{Repeated, none, more, RepeatedCallsReplay}
use Rattle.playback.specs.declared.run.Run.{Run}
use Rattle.playback.specs.declared.run.Filling.{Filling}
use Rattle.playback.proofs.RunLaws.{run_append, lines_append, run_ended, same_end, start_ends}
use Rattle.playback.proofs.FillLaws.{some_steps}

module _ (s : List ℕ) where
  -- the steps of calls one after the other
  record Made (n : ℕ) (run : Run) (ws : List ℕ) (end : Run) : Type 0 where
    steps : ℕ
    stands : end ≡ run_after steps s run
    written : ws ≡ lines_of steps s run
    enough : end.ended ≡ false → n ≤ steps

  -- a run that goes on in the end went on before
  going_before : (k : ℕ) (run end : Run) → end ≡ run_after k s run → end.ended ≡ false → (b : Bool) → run.ended ≡ b → run.ended ≡ false
  going_before k run end e g true t = absurd (let i : end ≡ run = e ∙ run_ended s k run t in let w : ◌≡◌ {A = ℕ} 0 1 = cc in omega arith)
  going_before k run end e g false t = t

  -- one call, and then others
  joined : {n : ℕ} {run end : Run} {buf buf' ws : List ℕ} {r : Filling} → longest_line ≤ length buf → Fills s run buf buf' r → Made n r.run ws end
      → Made (suc n) run (take r.length buf' ++ ws) end
  joined {run = run} {end = end} l f m =
      let e : end ≡ run_after (f.steps + m.steps) s run = m.stands ∙ ap (run_after m.steps s) f.stands ∙ sym (run_append s f.steps m.steps run) in
      record {
        steps = f.steps + m.steps;
        stands = e;
        written = rw (f.written, m.written, f.stands) (sym (lines_append s f.steps m.steps run));
        enough = λ g. omega (arith, m.enough g, some_steps s l (going_before _ run end e g run.ended refl) f);
      }

  made : {n : ℕ} {run end : Run} {ws : List ℕ} → Repeated s n run ws end → Made n run ws end
  unfolding run_after lines_of
  made none = record { steps = 0; stands = refl; written = refl; enough = λ g. omega arith }
  made (more l f rest) = joined (omega arith) f (made rest)

-- what calls from the start come to
module _ (s : List ℕ) {n : ℕ} {ws : List ℕ} {end : Run} (m : Made s n start_of_run ws end) where
  ended_by : (b : Bool) → end.ended ≡ b → length s + quarters_asked s < n → end.ended ≡ true
  ended_by true t h = t
  ended_by false t h = ap (λ (r : Run). r.ended) m.stands ∙ start_ends s m.steps (omega (arith, m.enough t))

  whole : end.ended ≡ true → replay_of s ≡ record { output = ws; clock = end.clock; summary = end.summary }
  unfolding replay_of
  whole t =
      let e = same_end s (steps_to_end s) m.steps start_of_run (start_ends s (steps_to_end s) (omega arith)) (ap (λ (r : Run). r.ended) (sym m.stands) ∙ t) in
      rw (e.run, e.lines, m.written, m.stands)

pub repeated_calls_replay : RepeatedCallsReplay
repeated_calls_replay s n ws end c =
    let m = made s c in
    record { ends = λ h. ended_by s m end.ended refl (omega arith); whole = λ t. cc (whole s m t) }
