-- The summary of a run is the one worked out afresh from the calls of its history, and its lines follow
-- those of the events.
use mathlib.Core.Path.{◌≡◌, refl, sym, ◌∙◌, ap}
use mathlib.Core.Bool.{Bool, true, false, cond, ◌&&◌}
use mathlib.Core.List.{List, [], ◌++◌, append-nil}
use Prim.Native.Nat.{ℕ, zero, suc, ◌+◌, ◌<◌, ◌≤◌}
use native.Mathlib.Omega.{arith}
use lib.Dec.{leb, ltb}
use lib.ListN.{length}
use borrow.Author.Tests.{lt-ltb, le-ltb, leb-true, leb-false, ltb-true, ltb-false}
use Rattle.state.specs.Device.{kind256}
use Rattle.state.specs.State.{fresh_clock}
use Rattle.history.specs.Event.{Found, found, refused, event_at, asks_summary}
use Rattle.history.specs.Properties.{Past}
use Rattle.history.specs.declared.Event.{Event}
use Rattle.history.proofs.Extent.{event_past}
use Rattle.summary.specs.Summary.{quarters}
use Rattle.summary.proofs.Carried.{carried_is_afresh}
use Rattle.playback.specs.Lines.{log_line, summary_line}
use Rattle.playback.specs.Run.{Advanced, longest_history, start_of_run, past, past_quarter, run_after, lines_of}
use Rattle.playback.specs.Run.{steps_to_end, replay_of}
use Rattle.playback.specs.Calls.{calls_of_first, all_calls}
use Rattle.playback.specs.Summaries.{summary_of_calls, lines_from, summary_lines, EventsDone, Undecodable}
use Rattle.playback.specs.Summaries.{SummaryOfEveryHistory, Comes, too_long, done, stops, EveryHistoryComes}
use Rattle.playback.specs.declared.run.Run.{Run}
use Rattle.playback.proofs.RunLaws.{step_long, step_end, step_quarter, step_found}
use Rattle.playback.proofs.RunLaws.{run_more, lines_append, run_append, same_end, start_ends}
use Rattle.playback.proofs.Calls.{rests, summaries}

module _ (s : List ℕ) (fits : length s ≤ longest_history) where
  -- a run at the end of the bytes
  record Ending (r : Run) : Type 0 where
    going : r.ended ≡ false
    over : length s ≤ r.place

  -- so many steps end it, and print these lines
  record Ends (n : ℕ) (r : Run) (ws : List ℕ) : Type 0 where
    ended : (run_after n s r).ended ≡ true
    lines : lines_of n s r ≡ ws

  end_now : (r : Run) → Ending r → (asks_summary s && ltb r.quarter quarters) ≡ false → Ends 1 r []
  unfolding run_after lines_of
  end_now r e t =
      let x = step_end s r e.going fits e.over t in
      record { ended = ap (λ (z : Advanced). z.run.ended) x; lines = ap (λ (z : Advanced). z.line ++ []) x }

  quarters_end : (n : ℕ) (r : Run) → Ending r → asks_summary s ≡ true → r.quarter + n ≡ quarters
      → Ends (suc n) r (lines_from r.summary r.quarter n)
  unfolding run_after lines_of lines_from
  quarters_end zero r e a i = end_now r e (simp (a, le-ltb r.quarter quarters (omega arith)))
  quarters_end (suc n) r e a i =
      let t : (asks_summary s && ltb r.quarter quarters) ≡ true = simp (a, lt-ltb r.quarter quarters (omega arith)) in
      let x = step_quarter s r e.going fits e.over t in
      let y = quarters_end n (past_quarter r) (record { going = refl; over = e.over }) a (omega arith) in
      record {
        ended = ap (λ (z : Advanced). (run_after (suc n) s z.run).ended) x ∙ y.ended;
        lines = ap (λ (z : Advanced). z.line ++ lines_of (suc n) s z.run) x ∙ ap (λ (ws : List ℕ). summary_line r.summary r.quarter ++ ws) y.lines;
      }

module _ (s : List ℕ) where
  -- what is printed, where so many steps after k others end the run
  all_lines : (k n : ℕ) {ws : List ℕ} → (run_after n s (run_after k s start_of_run)).ended ≡ true → lines_of n s (run_after k s start_of_run) ≡ ws
      → (replay_of s).output ≡ lines_of k s start_of_run ++ ws
  unfolding replay_of
  all_lines k n e l =
      let i : (run_after (k + n) s start_of_run).ended ≡ true = ap (λ (r : Run). r.ended) (run_append s k n start_of_run) ∙ e in
      let same = same_end s (steps_to_end s) (k + n) start_of_run (start_ends s (steps_to_end s) (omega arith)) i in
      same.lines ∙ lines_append s k n start_of_run ∙ ap (λ (ws : List ℕ). lines_of k s start_of_run ++ ws) l

  steps : (k : ℕ) → (run_after k s start_of_run).summary ≡ summary_of_calls (calls_of_first k s)
  steps k = summaries s k ∙ carried_is_afresh (fresh_clock kind256) (calls_of_first k s)

  -- the summary rests after the last event
  at_end_lem : (k : ℕ) → EventsDone s k → (run_after k s start_of_run).summary ≡ summary_of_calls (all_calls s)
  at_end_lem k d =
      let all = steps_to_end s in
      let i : (run_after (k + all) s start_of_run).ended ≡ true = start_ends s (k + all) (omega arith) in
      let same = same_end s (k + all) all start_of_run i (start_ends s all (omega arith)) in
      sym (rests s d.fits all (run_after k s start_of_run) d.over).summary
      ∙ ap (λ (r : Run). r.summary) (sym (run_append s k all start_of_run) ∙ same.run)
      ∙ steps all

  printed : (k : ℕ) → EventsDone s k → (b : Bool) → asks_summary s ≡ b
      → (replay_of s).output ≡ lines_of k s start_of_run ++ cond b (summary_lines (summary_of_calls (all_calls s))) []
  printed k d true t =
      let r = run_after k s start_of_run in
      let e = quarters_end s d.fits quarters r (record { going = d.going; over = d.over }) t (omega (arith, d.first)) in
      all_lines k (suc quarters) e.ended
      (e.lines ∙ ap (λ (q : ℕ). lines_from r.summary q quarters) d.first ∙ ap summary_lines (at_end_lem k d))
  printed k d false t =
      let e = end_now s d.fits (run_after k s start_of_run) (record { going = d.going; over = d.over }) (simp t) in
      all_lines k 1 e.ended e.lines

  logged : (k n : ℕ) → Undecodable s k n → (replay_of s).output ≡ lines_of k s start_of_run ++ log_line n (run_after k s start_of_run).place
  unfolding run_after lines_of
  logged k n u =
      let x = step_found s (run_after k s start_of_run) u.going u.fits u.before u.none in
      all_lines k 1 (ap (λ (z : Advanced). z.run.ended) x) (append-nil _ ∙ ap (λ (z : Advanced). z.line) x)

  beyond : longest_history < length s → (replay_of s).output ≡ log_line 13 longest_history
  unfolding run_after lines_of
  beyond h =
      let x = step_long s start_of_run refl h in
      all_lines 0 1 (ap (λ (z : Advanced). z.run.ended) x) (append-nil _ ∙ ap (λ (z : Advanced). z.line) x)

pub summary_of_history : SummaryOfEveryHistory
unfolding replay_of
summary_of_history s =
    record {
      steps = λ k. cc (steps s k);
      whole = cc (steps s (steps_to_end s));
      printed = λ k d. printed s k d _ refl;
      logged = logged s;
      beyond = λ h. beyond s h;
    }

-- ---- every history comes to an end of its events

module _ (s : List ℕ) (fits : length s ≤ longest_history) where
  -- the run after k steps has not ended, and no quarter-hour has been printed
  record Onward (k : ℕ) : Type 0 where
    going : (run_after k s start_of_run).ended ≡ false
    first : (run_after k s start_of_run).quarter ≡ 0

  module _ (k : ℕ) (o : Onward k) where
    abbrev now : Run
    now = run_after k s start_of_run

    -- after an event too
    moved : {e : Event} {next : ℕ} → now.place < length s → event_at s now.place ≡ found e next
        → run_after (suc k) s start_of_run ≡ past now e next
    moved h i = run_more s k start_of_run ∙ ap (λ (a : Advanced). a.run) (step_found s now o.going fits h i)

    by_event : (n : ℕ) → length s ≤ now.place + suc n → now.place < length s
        → (Onward (suc k) → length s ≤ (run_after (suc k) s start_of_run).place + n → Comes s)
        → (x : Found) → event_at s now.place ≡ x → Comes s
    by_event n l h rest (found e next) i =
        let x = moved h i in
        let p : Past s now.place next = event_past s now.place _ _ i in
        let there : (run_after (suc k) s start_of_run).place ≡ next = ap (λ (r : Run). r.place) x in
        rest (record { going = ap (λ (r : Run). r.ended) x; first = ap (λ (r : Run). r.quarter) x ∙ o.first })
        (omega (arith, there, p.after))
    by_event n l h rest (refused m) i = stops k m (record { fits = fits; going = o.going; before = h; none = i })

    over_there : length s ≤ now.place → Comes s
    over_there h = done k (record { fits = fits; going = o.going; over = h; first = o.first })

  by_place : (n k : ℕ) → ((j : ℕ) → Onward j → length s ≤ (run_after j s start_of_run).place + n → Comes s) → (o : Onward k)
      → length s ≤ (run_after k s start_of_run).place + suc n → (b : Bool) → leb (length s) (run_after k s start_of_run).place ≡ b → Comes s
  by_place n k f o l true t = over_there k o (leb-true _ _ t)
  by_place n k f o l false t = by_event k o n l (leb-false _ _ t) (f (suc k)) _ refl

  -- with so many bytes left at most
  comes : (n k : ℕ) → Onward k → length s ≤ (run_after k s start_of_run).place + n → Comes s
  comes zero k o l = over_there k o (omega arith)
  comes (suc n) k o l = by_place n k (comes n) o l _ refl

by_length : (s : List ℕ) (b : Bool) → ltb longest_history (length s) ≡ b → Comes s
unfolding run_after
by_length s true t = too_long (ltb-true _ _ t)
by_length s false t = comes s (ltb-false _ _ t) (length s) 0 (record { going = refl; first = refl }) (omega arith)

pub every_history_comes : EveryHistoryComes
every_history_comes s = by_length s _ refl
