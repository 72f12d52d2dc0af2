-- Bytes written into a lent buffer: the answer and the buffer by the room that there is, and what is read
-- there afterwards.
use mathlib.Core.Path.{◌≡◌, refl, sym, ◌∙◌, ap}
use mathlib.Core.List.{List, ◌++◌, append_assoc}
use mathlib.Core.Logic.{⊎_elim}
use Prim.Native.Nat.{ℕ, ◌+◌, ◌<◌, ◌≤◌}
use native.Mathlib.Omega.{arith}
use lib.ListN.{length, take, drop}
use lib.Seq.{sets, sets-eq, length-sets, drop_at, length-take-le, take-append_seam}
use borrow.Author.Tests.{le-leb, lt-leb, leb-true, leb-false}
use Rattle.std.specs.Prelude.{Ok, Err}
use Rattle.state.specs.declared.refusal.Refusal.TheVariants as R
use Rattle.number.specs.Writing.{room, told_written, answered, filled, Writes}
use Rattle.number.proofs.Lists.{either}

module _ (buf : List ℕ) (at : ℕ) (ws : List ℕ) where
  module _ (h : at + length ws ≤ length buf) where
    filled_room : filled buf at ws ≡ take at buf ++ ws ++ drop (at + length ws) buf
    unfolding filled
    filled_room = simp (le-leb _ _ h)

    pub filled_sets : sets buf at ws ≡ filled buf at ws
    filled_sets = sets-eq ws buf at h ∙ sym filled_room

    pub answered_room : told_written (Ok (at + length ws)) ≡ answered buf at ws
    unfolding answered
    answered_room = simp (le-leb _ _ h)

    filled_at : drop at (filled buf at ws) ≡ ws ++ drop (at + length ws) buf
    filled_at = ap (drop at) filled_room ∙ rw append_assoc (drop_at (take at buf) _ at (length-take-le at buf (omega arith)))

    pub filled_there : take (length ws) (drop at (filled buf at ws)) ≡ ws
    filled_there = ap (take (length ws)) filled_at ∙ take-append_seam ws _

  pub filled_short : length buf < at + length ws → buf ≡ filled buf at ws
  unfolding filled
  filled_short h = simp (lt-leb _ _ h)

  pub answered_short : length buf < at + length ws → told_written (Err R.Room) ≡ answered buf at ws
  unfolding answered
  answered_short h = simp (lt-leb _ _ h)

-- with room or without, the buffer keeps its length
pub filled_length : (buf : List ℕ) (at : ℕ) (ws : List ℕ) → length (filled buf at ws) ≡ length buf
filled_length buf at ws =
    ⊎_elim (λ t. ap length (sym (filled_sets buf at ws (leb-true _ _ t))) ∙ length-sets buf at ws)
    (λ t. sym (ap length (filled_short buf at ws (leb-false _ _ t))))
    (either (room buf at ws))

-- what a writer promises, with room and without
module _ (buf : List ℕ) (at : ℕ) (ws : List ℕ) where
  pub writes_room : at + length ws ≤ length buf → {next : ℕ} {after : List ℕ} → next ≡ at + length ws → after ≡ sets buf at ws
      → Writes buf after at ws (Ok next)
  writes_room h {next} {after} p q =
      let same : length after ≡ length buf = ap length q ∙ length-sets buf at ws in
      let within : next ≤ length after = omega arith in
      record {
        answer = rw p (answered_room buf at ws h);
        buffer = q ∙ filled_sets buf at ws h;
        within = within;
        part = sym (length-take-le next after within);
        same = same;
      }

  pub writes_short : length buf < at + length ws → Writes buf buf at ws (Err R.Room)
  writes_short h =
      record { answer = answered_short buf at ws h; buffer = filled_short buf at ws h; within = omega arith; part = refl; same = refl }
