-- Every event has a code.
use mathlib.Core.Path.{refl}
use mathlib.Core.Bool.{Bool, false}
use Prim.Native.Nat.{ℕ}
use lib.IntN.{pos}
use Rattle.state.specs.declared.units.AskedMicros.{AskedMicros}
use Rattle.request.specs.declared.request.Request as asked
use Rattle.event.specs.declared.event.Call.TheVariants.{Tick, Setting, Request, Reading}
use Rattle.event.specs.declared.event.Event.TheVariants.{Call, CatchUp}
use Rattle.heukelvos_rig.specs.RigEvent.{EveryEventCoded}
use Rattle.heukelvos_rig.specs.declared.rig_event.CodedEvent.{CodedEvent}

-- an event of a code and these numbers
abbrev pub coded_with : ℕ → ℕ → AskedMicros → asked.Request → ℕ → Bool → CodedEvent
coded_with code s u r n stop = record { code = code; seconds = s; micros = u; request = r; ceiling = n; stop = stop }

-- zeros, where a code does not look
abbrev no_micros : AskedMicros
no_micros = record { 0 = 0 }

abbrev no_request : asked.Request
no_request =
    record {
      mode = 0;
      offset = record { 0 = pos 0 };
      frequency = record { 0 = pos 0 };
      maxerror = no_micros;
      esterror = no_micros;
      status = 0;
      constant = 0;
    }

-- an event of a code that looks at no number
abbrev pub coded_by : ℕ → CodedEvent
coded_by code = coded_with code 0 no_micros no_request 0 false

pub every_event_coded : EveryEventCoded
every_event_coded (Call Tick) = record { coded = coded_by 0; known = refl; event = refl }
every_event_coded (Call (Setting s u)) = record { coded = coded_with 1 s u no_request 0 false; known = refl; event = refl }
every_event_coded (Call (Request r)) = record { coded = coded_with 2 0 no_micros r 0 false; known = refl; event = refl }
every_event_coded (Call Reading) = record { coded = coded_by 3; known = refl; event = refl }
every_event_coded (CatchUp n stop) = record { coded = coded_with 4 0 no_micros no_request n stop; known = refl; event = refl }
