-- Reading a record from any bytes: what the reader answers. Document 01: "a refused record reading gives the
-- fresh state"; document 02: "replay and refused record readings use kind 0".
use Rattle.std.specs.Prelude.{List, ℕ}
use Rattle.number.specs.Layout.{Outcome, got, failed, read_from}
use Rattle.state.specs.Device.{kind256}
use Rattle.state.specs.State.{fresh_clock}
use Rattle.state.specs.declared.state.Clock.{Clock}
use Rattle.record.specs.Layout.{record_layout}
use Rattle.record.specs.declared.restore.Restored.{Restored}

abbrev pub refused_with : ℕ → Restored
refused_with n = record { refusal = n; clock = fresh_clock kind256 }

abbrev pub accepted : Clock → Restored
accepted c = record { refusal = 0; clock = c }

-- the answer for each outcome of a reading
abbrev pub restored : Outcome Clock → Restored
restored (got c) = accepted c
restored (failed n) = refused_with n

-- what a reading of the bytes s answers: the fields of a record from place 0 on, and nothing behind them
unfoldable pub reading_of : List ℕ → Restored
reading_of s = restored (read_from record_layout s 0)
