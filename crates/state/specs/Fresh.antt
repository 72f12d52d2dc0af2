-- The fresh clock of a kind, as it is handed out.
use Rattle.std.specs.Prelude.{ℕ, not, cond}
use Rattle.state.specs.Device.{kind_range, kind256}
use Rattle.state.specs.State.{fresh_clock}
use Rattle.state.specs.Refusal.{refused_state, refuse}
use Rattle.state.specs.declared.outcome.Outcome.{Outcome}

-- "Any other kind in a state is refusal 1": of another number there is no fresh clock, and one of kind 0 is
-- answered
unfoldable pub fresh_of : ℕ → Outcome
fresh_of kind = record { refusal = refuse (not (kind_range kind)) refused_state 0; clock = fresh_clock (cond (kind_range kind) kind kind256) }
