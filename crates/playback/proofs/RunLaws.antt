-- Steps of a run: what each kind of step does, steps one after the other, and that every run ends.
use mathlib.Core.Path.{◌≡◌, refl, sym, ap}
use mathlib.Core.Bool.{Bool, true, false, cond, ◌&&◌}
use mathlib.Core.List.{List, [], ◌++◌, append_assoc, append-nil}
use Prim.Native.Nat.{ℕ, zero, suc, ◌+◌, ◌-◌, ◌<◌, ◌≤◌}
use native.Mathlib.Omega.{arith}
use lib.Dec.{leb, ltb}
use lib.ListN.{length}
use borrow.Author.Tests.{le-leb, lt-leb, lt-ltb, le-ltb, leb-true, leb-false, ltb-true, ltb-false}
use Rattle.integers.proofs.Ranges.{and_true}
use Rattle.history.specs.Event.{Found, found, refused, event_at, asks_summary}
use Rattle.history.specs.Properties.{Past}
use Rattle.history.proofs.Extent.{event_past}
use Rattle.summary.specs.Summary.{quarters}
use Rattle.playback.specs.Lines.{log_line, summary_line}
use Rattle.playback.specs.Run.{longest_history, start_of_run, end_of, past_quarter, step_at, step_at_end, step}
use Rattle.playback.specs.Run.{run_after, lines_of, quarters_asked, steps_to_end}
use Rattle.playback.specs.declared.run.Run.{Run}

module _ (s : List ℕ) where
  pub step_ended : (r : Run) → r.ended ≡ true → step s r ≡ record { run = r; line = [] }
  unfolding step
  step_ended r t = simp t

  module _ (r : Run) (going : r.ended ≡ false) where
    pub step_long : longest_history < length s → step s r ≡ record { run = end_of r; line = log_line 13 longest_history }
    unfolding step
    step_long h = simp (going, lt-ltb _ _ h)

    module _ (fits : length s ≤ longest_history) where
      module _ (over : length s ≤ r.place) where
        pub step_end : (asks_summary s && ltb r.quarter quarters) ≡ false → step s r ≡ record { run = end_of r; line = [] }
        unfolding step step_at_end
        step_end t = simp (going, le-ltb _ _ fits, le-leb _ _ over, t)

        pub step_quarter : (asks_summary s && ltb r.quarter quarters) ≡ true
            → step s r ≡ record { run = past_quarter r; line = summary_line r.summary r.quarter }
        unfolding step step_at_end
        step_quarter t = simp (going, le-ltb _ _ fits, le-leb _ _ over, t)

      pub step_found : r.place < length s → {x : Found} → event_at s r.place ≡ x → step s r ≡ step_at r x
      unfolding step
      step_found within i = simp (going, le-ltb _ _ fits, lt-leb _ _ within, i)

  -- ---- steps one after the other

  pub run_append : (j k : ℕ) (r : Run) → run_after (j + k) s r ≡ run_after k s (run_after j s r)
  unfolding run_after
  run_append zero k r = let e : zero + k ≡ k = omega arith in rw (e)
  run_append (suc j) k r = let e : suc j + k ≡ suc (j + k) = omega arith in rw (e) (run_append j k (step s r).run)

  pub lines_append : (j k : ℕ) (r : Run) → lines_of (j + k) s r ≡ lines_of j s r ++ lines_of k s (run_after j s r)
  unfolding run_after lines_of
  lines_append zero k r = let e : zero + k ≡ k = omega arith in rw (e)
  lines_append (suc j) k r =
      let e : suc j + k ≡ suc (j + k) = omega arith in
      rw (e, lines_append j k (step s r).run) (sym (append_assoc (step s r).line _ _))

  -- one step more
  pub run_more : (k : ℕ) (r : Run) → run_after (suc k) s r ≡ (step s (run_after k s r)).run
  unfolding run_after
  run_more zero r = refl
  run_more (suc k) r = run_more k (step s r).run

  pub lines_more : (k : ℕ) (r : Run) → lines_of (suc k) s r ≡ lines_of k s r ++ (step s (run_after k s r)).line
  unfolding run_after lines_of
  lines_more zero r = append-nil (step s r).line
  lines_more (suc k) r = rw (lines_more k (step s r).run) (sym (append_assoc (step s r).line _ _))

  -- a run that has ended stays, and prints nothing
  pub run_ended : (k : ℕ) (r : Run) → r.ended ≡ true → run_after k s r ≡ r
  unfolding run_after
  run_ended zero r t = refl
  run_ended (suc k) r t = rw (step_ended r t) (run_ended k r t)

  lines_ended : (k : ℕ) (r : Run) → r.ended ≡ true → lines_of k s r ≡ []
  unfolding lines_of
  lines_ended zero r t = refl
  lines_ended (suc k) r t = rw (step_ended r t) (lines_ended k r t)

  -- where a run has ended after some steps, it has the same end and the same lines after any others that end
  -- it
  pub record SameEnd (j k : ℕ) (r : Run) : Type 0 where
    pub run : run_after j s r ≡ run_after k s r
    pub lines : lines_of j s r ≡ lines_of k s r

  pub same_end : (j k : ℕ) (r : Run) → (run_after j s r).ended ≡ true → (run_after k s r).ended ≡ true → SameEnd j k r
  unfolding run_after lines_of
  same_end zero k r t u = record { run = sym (run_ended k r t); lines = sym (lines_ended k r t) }
  same_end (suc j) zero r t u = record { run = run_ended (suc j) r u; lines = lines_ended (suc j) r u }
  same_end (suc j) (suc k) r t u =
      let e = same_end j k (step s r).run t u in
      record { run = e.run; lines = ap (λ (ws : List ℕ). (step s r).line ++ ws) e.lines }

  -- ---- every run ends

  -- what is left to run: the bytes, the quarter-hours that are asked for, and one for the end
  unfoldable pub left : Run → ℕ
  left r = cond r.ended 0 (suc ((length s - r.place) + (quarters_asked s - r.quarter)))

  -- with every step of a run that has not ended less is left
  by_found : (r : Run) → r.ended ≡ false → length s ≤ longest_history → r.place < length s → (x : Found) → event_at s r.place ≡ x
      → left (step_at r x).run < left r
  unfolding left
  by_found r going fits within (found e next) i =
      let p : Past s r.place next = event_past s r.place _ _ i in
      simp going (omega arith)
  by_found r going fits within (refused n) i = simp going (omega arith)

  by_quarter : (r : Run) → r.ended ≡ false → length s ≤ longest_history → length s ≤ r.place
      → (b : Bool) → (asks_summary s && ltb r.quarter quarters) ≡ b → left (step s r).run < left r
  unfolding left
  by_quarter r going fits over true t =
      let u = and_true (asks_summary s) (ltb r.quarter quarters) t in
      rw (step_quarter r going fits over t) (simp (going, u.0) (omega (arith, ltb-true r.quarter quarters u.1)))
  by_quarter r going fits over false t = rw (step_end r going fits over t) (simp going (omega arith))

  by_place : (r : Run) → r.ended ≡ false → length s ≤ longest_history → (b : Bool) → leb (length s) r.place ≡ b → left (step s r).run < left r
  by_place r going fits true t = by_quarter r going fits (leb-true _ _ t) _ refl
  by_place r going fits false t =
      let within = leb-false _ _ t in
      rw (step_found r going fits within refl) (by_found r going fits within (event_at s r.place) refl)

  by_length : (r : Run) → r.ended ≡ false → (b : Bool) → ltb longest_history (length s) ≡ b → left (step s r).run < left r
  unfolding left
  by_length r going true t = rw (step_long r going (ltb-true _ _ t)) (simp going (omega arith))
  by_length r going false t = by_place r going (ltb-false _ _ t) (leb (length s) r.place) refl

  pub left_less : (r : Run) → r.ended ≡ false → left (step s r).run < left r
  left_less r going = by_length r going (ltb longest_history (length s)) refl

  -- and more steps leave no more
  by_going : (k : ℕ) (r : Run) → left (run_after k s (step s r).run) ≤ left (step s r).run → (b : Bool) → r.ended ≡ b
      → left (run_after (suc k) s r) ≤ left r
  unfolding run_after
  by_going k r h true t = rw (run_ended (suc k) r t) (omega arith)
  by_going k r h false t = omega (arith, h, left_less r t)

  steps_most : (k : ℕ) (r : Run) → left (run_after k s r) ≤ left r
  unfolding run_after
  steps_most zero r = omega arith
  steps_most (suc k) r = by_going k r (steps_most k (step s r).run) r.ended refl

  pub steps_less : (k : ℕ) (r : Run) → r.ended ≡ false → 0 < k → left (run_after k s r) < left r
  unfolding run_after
  steps_less zero r going h = absurd (omega arith)
  steps_less (suc k) r going h = omega (arith, steps_most k (step s r).run, left_less r going)

  -- so that as many steps as are left end the run
  by_ended : (k : ℕ) (r : Run) → (left (step s r).run ≤ k → (run_after k s (step s r).run).ended ≡ true) → left r ≤ suc k
      → (b : Bool) → r.ended ≡ b → (run_after (suc k) s r).ended ≡ true
  unfolding run_after
  by_ended k r f h true t = rw (run_ended (suc k) r t) t
  by_ended k r f h false t = f (omega (arith, left_less r t))

  none_left : (r : Run) → left r ≤ 0 → (b : Bool) → r.ended ≡ b → r.ended ≡ true
  unfolding left
  none_left r h true t = t
  none_left r h false t = absurd (omega (arith, simp t at h))

  run_ends : (k : ℕ) (r : Run) → left r ≤ k → (run_after k s r).ended ≡ true
  unfolding run_after
  run_ends zero r h = none_left r h r.ended refl
  run_ends (suc k) r h = by_ended k r (run_ends k (step s r).run) h r.ended refl

  pub start_ends : (k : ℕ) → steps_to_end s ≤ k → (run_after k s start_of_run).ended ≡ true
  unfolding left
  start_ends k h = run_ends k start_of_run (omega arith)
