-- What holds of every event: the statement that the crate proves of `event_at`, said of any reader, and
-- readers that it shuts out.
use Rattle.std.specs.Prelude.{◌≡◌, cond, List, ℕ, ◌+◌, ◌<◌, ◌≤◌, leb, length}
use Rattle.event.specs.declared.event.Call.TheVariants.{Reading}
use Rattle.history.specs.declared.Event.{Event}
use Rattle.history.specs.declared.Event.TheVariants.{Call}
use Rattle.history.specs.Event.{Found, found, refused}

-- what stands at a place of some bytes
abbrev pub Reader : Type 0
Reader = List ℕ → ℕ → Found

-- a place after `at`, at most at the end
pub record Past (s : List ℕ) (at k : ℕ) : Type 0 where
  pub after : at < k
  pub within : k ≤ length s

-- every event that is read ends after its first byte, and no later than the bytes do
abbrev pub EndsPast : Reader → Type 0
EndsPast read = (s : List ℕ) (at : ℕ) (e : Event) (k : ℕ) → read s at ≡ found e k → Past s at k

-- a print of k bytes, where there are so many; and one of a byte, behind the end too
abbrev pub prints : ℕ → Reader
prints k s at = cond (leb (at + k) (length s)) (found (Call Reading) (at + k)) (refused 10)

abbrev pub prints_behind : Reader
prints_behind s at = found (Call Reading) (at + 1)

pub record ShutOut : Type 0 where
  pub no_byte : EndsPast (prints 0) → ⊥
  pub behind : EndsPast prints_behind → ⊥
