-- Readers and writers that the statements of `Properties` shut out: each is wrong in one way, and right but
-- for that where it can be. So none of the statements is empty.
use Rattle.std.specs.Prelude.{cond, List, ℕ, eqb}
use Rattle.state.specs.Device.{kind256, kind1024}
use Rattle.state.specs.State.{fresh_clock}
use Rattle.state.specs.declared.state.Clock.{Clock}
use Rattle.record.specs.Layout.{record_in, record_of}
use Rattle.record.specs.Reading.{reading_of, accepted, refused_with}
use Rattle.record.specs.Saving.{saving_of}
use Rattle.record.specs.Properties.{Reader, Writer, ReadsBack, NothingFollows, WritesNewest, OneForm, OneNewest}
use Rattle.record.specs.Properties.{Version1, Version2, Version3, RefusedIsFresh, ExactlyWhen, SavedIsKept}

-- every reading is refused with n
abbrev pub refuses_with : ℕ → Reader
refuses_with n s = refused_with n

-- bytes that are no record are accepted too, as the fresh clock of kind 0
abbrev pub takes_damaged : Reader
takes_damaged s = cond (eqb (reading_of s).refusal 0) (reading_of s) (accepted (fresh_clock kind256))

-- a refused reading gives the fresh clock of kind 1
abbrev pub gives_kind1 : Reader
gives_kind1 s =
    cond (eqb (reading_of s).refusal 0) (reading_of s)
    (record { refusal = (reading_of s).refusal; clock = fresh_clock kind1024 })

-- records of version 3 are still written
abbrev pub writes_version3 : Writer
writes_version3 c = record_in 3 c c.updated c.interval

-- a write is answered, and leaves the buffer as it was
abbrev pub leaves_all : Clock → List ℕ → List ℕ
leaves_all c buf = buf

-- what stood behind the record is lost
abbrev pub cuts_off : Clock → List ℕ → List ℕ
cuts_off c buf = record_of c

pub record ShutOut : Type 0 where
  pub refusing : ReadsBack (refuses_with 10) → ⊥
  pub following : NothingFollows takes_damaged → ⊥
  pub not_newest : WritesNewest writes_version3 → ⊥
  pub formless : OneForm takes_damaged → ⊥
  pub formless_newest : OneNewest takes_damaged record_of → ⊥
  pub old_written : OneNewest reading_of writes_version3 → ⊥
  -- of each older version: a record refused, what is none accepted, and one written again in an older version
  pub refusing3 : Version3 (refuses_with 10) record_of → ⊥
  pub refusing2 : Version2 (refuses_with 10) record_of → ⊥
  pub refusing1 : Version1 (refuses_with 10) record_of → ⊥
  pub taking3 : Version3 takes_damaged record_of → ⊥
  pub taking2 : Version2 takes_damaged record_of → ⊥
  pub taking1 : Version1 takes_damaged record_of → ⊥
  pub writing3 : Version3 reading_of writes_version3 → ⊥
  pub writing2 : Version2 reading_of writes_version3 → ⊥
  pub writing1 : Version1 reading_of writes_version3 → ⊥
  -- refusals: numbers next to 10 and 13, another clock, one that is given too often, and one that is not
  -- given
  pub nine : RefusedIsFresh (refuses_with 9) → ⊥
  pub fourteen : RefusedIsFresh (refuses_with 14) → ⊥
  pub other_kind : RefusedIsFresh gives_kind1 → ⊥
  pub too_often : ExactlyWhen (refuses_with 10) → ⊥
  pub not_given : ExactlyWhen takes_damaged → ⊥
  -- a write that puts nothing into the buffer, and one that puts too much
  pub unwritten : SavedIsKept saving_of leaves_all → ⊥
  pub cut_off : SavedIsKept saving_of cuts_off → ⊥
