-- What the writer answers, and what it leaves in the lent buffer.
use Rattle.std.specs.Prelude.{◌≡◌, ℕ, ◌+◌, ◌*◌, ◌≤◌, min, cond, not, List, ◌++◌, length, take, drop, ◌==◌, nat_lt}
use Rattle.state.specs.declared.state.Clock.{Clock}
use Rattle.state.specs.State.{in_range}
use Rattle.state.specs.Refusal.{refused_state, refused_room, refuse}
use Rattle.label.specs.Label.{label_size, clock_label}

-- "a writer checks 1, then 14": 1 "a state field lies outside its range", 14 "lent buffer shorter than what
-- is to be written"
unfoldable pub write_refusal : Clock → List ℕ → ℕ
write_refusal c out = refuse (not (in_range c)) refused_state (refuse (nat_lt (length out) label_size) refused_room 0)

-- "fills the buffer's first twenty bytes; later ones stay"; a refused call hands every lent buffer back
-- unchanged
unfoldable pub written_to : Clock → List ℕ → List ℕ
written_to c out = cond (write_refusal c out == 0) (clock_label c ++ drop label_size out) out

-- What a caller needs that goes on to read `&out[..20]`; all of it follows from the two definitions above. It
-- is stated in numbers, so that the check finds it and the caller writes no proof.
pub record Readable (refusal : ℕ) (before after : List ℕ) : Type 0 where
  -- the buffer keeps its length
  pub kept : length after ≡ length before
  -- where the refusal is 0, the buffer has the twenty bytes
  pub room : label_size ≤ length after + label_size * refusal
  pub part : length (take label_size after) ≡ min label_size (length after)
