-- The constants of the two recorders, in one record for each: what the rules take from a device they take by
-- its name.
use Rattle.std.specs.Prelude.{ℕ, Bool, not, cond, leb, eqb, pos, neg_ℤ}
use Rattle.state.specs.Units.{micros, phase_units}
use Rattle.state.specs.Refusal.{refused_state, refuse}
use Rattle.state.specs.declared.device.Device.{Device}
use Rattle.state.specs.declared.device.Constants.{Constants}

-- The timer runs at 256 Hz. A tick has 3,906 whole us; the 64 us that 256 x 3,906 lacks are 67,108,864 phase
-- units a tick.
abbrev pub recorder256 : Device
recorder256 =
    record {
      rate = 256;
      tick = micros 3906;
      scale = 64;
      divisor = 16;
      base = phase_units (pos 67108864);
      least = phase_units (neg_ℤ (pos 168819712));
      most = phase_units (pos 303037440);
    }

-- document 02: "A second device has ticks of 976 us and lacks 576 us a second", which are 150,994,944 phase
-- units a tick at 1,024 Hz.
abbrev pub recorder1024 : Device
recorder1024 =
    record {
      rate = 1024;
      tick = micros 976;
      scale = 16;
      divisor = 64;
      base = phase_units (pos 150994944);
      least = phase_units (pos 92012800);
      most = phase_units (pos 209977088);
    }

-- "its device kind, 0 or 1"
abbrev pub kind256 : ℕ
kind256 = 0

abbrev pub kind1024 : ℕ
kind1024 = 1

abbrev pub kind_range : ℕ → Bool
kind_range n = leb n kind1024

-- the constants that the rules take for a clock of this kind; of a number that is no kind, those of kind 0
unfoldable pub device_of : ℕ → Device
device_of kind = cond (eqb kind kind1024) recorder1024 recorder256

-- what is told of a kind's constants; of a number that is no kind refusal 1, as of a clock that carries one,
-- and the constants of kind 0
abbrev pub constants_of : ℕ → Constants
constants_of kind = record { refusal = refuse (not (kind_range kind)) refused_state 0; device = device_of kind }
