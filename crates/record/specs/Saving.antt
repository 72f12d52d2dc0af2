-- Writing a record into a lent buffer. Document 01: "a writer checks 1, then 14"; "The writer fills the first
-- bytes of the buffer and leaves the later ones."; a refused call hands every lent buffer back unchanged.
use Rattle.std.specs.Prelude.{◌≡◌, cond, not, List, ◌++◌, ℕ, ◌≤◌, ltb, eqb, length, take, drop, Result, Ok, Err}
use Rattle.state.specs.State.{in_range}
use Rattle.state.specs.Refusal.{refused_state, refused_room, refuse, refusal_number}
use Rattle.state.specs.declared.state.Clock.{Clock}
use Rattle.record.specs.Layout.{record_of}
use Rattle.state.specs.declared.refusal.Refusal.{Refusal}

-- What a write's answer says: refusal 0 and how many bytes were written, or the refusal's number and 0.
pub record Saved : Type 0 where
  pub refusal : ℕ
  pub length : ℕ

abbrev pub told_saved : Result ℕ Refusal → Saved
told_saved (Ok n) = record { refusal = 0; length = n }
told_saved (Err refusal) = record { refusal = refusal_number refusal; length = 0 }

-- 1 "a state field lies outside its range", 14 "lent buffer shorter than what is to be written"
unfoldable pub saving_refusal : Clock → List ℕ → ℕ
saving_refusal c buf = refuse (not (in_range c)) refused_state (refuse (ltb (length buf) (length (record_of c))) refused_room 0)

-- what a write answers: how many bytes were written, 0 where it was refused
unfoldable pub saving_of : Clock → List ℕ → Saved
saving_of c buf =
    record { refusal = saving_refusal c buf; length = cond (eqb (saving_refusal c buf) 0) (length (record_of c)) 0 }

-- the buffer afterwards: the record in its first bytes, the later ones as they were; refused, all of it as it
-- was
unfoldable pub buffer_after : Clock → List ℕ → List ℕ
buffer_after c buf = cond (eqb (saving_refusal c buf) 0) (record_of c ++ drop (length (record_of c)) buf) buf

-- What a write promises: its answer and the buffer afterwards. The rest follows from these, and is stated so
-- that a caller can go on with `&buf[..length]` and write no proof: the length counts bytes of the buffer,
-- and the buffer keeps its own.
pub record Saves (c : Clock) (buf after : List ℕ) (r : Result ℕ Refusal) : Type 0 where
  pub answer : told_saved r ≡ saving_of c buf
  pub buffer : after ≡ buffer_after c buf
  pub within : (told_saved r).length ≤ length after
  pub part : (told_saved r).length ≡ length (take (told_saved r).length after)
  pub same : length after ≡ length buf
