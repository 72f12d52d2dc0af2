-- What a program ends with, by whether its last write failed.
use Rattle.std.specs.Prelude.{◌≡◌, ◌≢◌, Ok, Err, Result}
use Rattle.std.specs.Process.{exit_status}
use Rattle.std.specs.declared.process.ExitCode.{ExitCode}

-- 0, but where a write failed by a kind of error, `unread`: a pipe that nobody reads. Then it is 128 and
-- 13, the number of SIGPIPE
abbrev pub EndsWith : {A E K : Type 0} → (E → K) → K → Result A E → ExitCode → Type 0
EndsWith kind unread (Ok _) code = exit_status code ≡ 0
EndsWith kind unread (Err e) code = (kind e ≡ unread → exit_status code ≡ 141) × (kind e ≢ unread → exit_status code ≡ 0)
