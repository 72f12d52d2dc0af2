-- Writing bytes into a lent buffer. Document 01's refusal 14: "lent buffer shorter than what is to be
-- written". A refused call leaves the buffer as it was.
use Rattle.std.specs.Prelude.{◌≡◌, Bool, cond, List, ◌++◌, ℕ, ◌+◌, ◌≤◌, leb, length, take, drop, Result, Ok, Err}
use Rattle.state.specs.Refusal.{refused_room, refusal_number}
use Rattle.state.specs.declared.refusal.Refusal.{Refusal}

-- What a writer's answer says: refusal 0 and the place after what was written, or the refusal's number and 0.
pub record Written : Type 0 where
  pub refusal : ℕ
  pub next : ℕ

abbrev pub told_written : Result ℕ Refusal → Written
told_written (Ok next) = record { refusal = 0; next = next }
told_written (Err refusal) = record { refusal = refusal_number refusal; next = 0 }

-- the buffer has room for the bytes ws from place `at` on
abbrev pub room : List ℕ → ℕ → List ℕ → Bool
room buf at ws = leb (at + length ws) (length buf)

-- the answer: the place after ws, or 14
unfoldable pub answered : List ℕ → ℕ → List ℕ → Written
answered buf at ws = cond (room buf at ws) (record { refusal = 0; next = at + length ws }) (record { refusal = refused_room; next = 0 })

-- the buffer afterwards: ws from place `at` on, and every other byte as it was; with too little room all of
-- it as it was
unfoldable pub filled : List ℕ → ℕ → List ℕ → List ℕ
filled buf at ws = cond (room buf at ws) (take at buf ++ ws ++ drop (at + length ws) buf) buf

-- What a writer of the bytes ws at place `at` promises: its answer and the buffer afterwards. The rest
-- follows from these, and is stated so that a caller can go on with `&buf[..next]` and write no proof: the
-- place counts bytes of the buffer, and the buffer keeps its length.
pub record Writes (buf after : List ℕ) (at : ℕ) (ws : List ℕ) (r : Result ℕ Refusal) : Type 0 where
  pub answer : told_written r ≡ answered buf at ws
  pub buffer : after ≡ filled buf at ws
  pub within : (told_written r).next ≤ length after
  pub part : (told_written r).next ≡ length (take (told_written r).next after)
  pub same : length after ≡ length buf
