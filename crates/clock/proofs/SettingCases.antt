-- What a setting answers, by its two cases.
use mathlib.Core.Path.{◌≡◌, refl}
use mathlib.Core.Bool.{Bool, true, false}
use Prim.Native.Nat.{ℕ, ◌<◌}
use native.Mathlib.Omega.{arith}
use borrow.Author.Rules.{rules}
use lib.Dec.{leb, lit<}
use lib.IntN.{pos}
use borrow.Author.Tests.{leb-true}
use Rattle.integers.proofs.Ranges.{and_true}
use Rattle.state.specs.State.{in_range, last_second, last_micro}
use Rattle.state.specs.declared.state.Clock.{Clock}
use Rattle.state.specs.declared.units.AskedMicros.{AskedMicros}
use Rattle.state.specs.Device.{device_of}
use Rattle.state.proofs.DeviceLaws.{divisor_pos}
use Rattle.state.proofs.Ok.{Parts, Ok, ok}
use Rattle.clock.specs.Setting.{set_to, settable, setting_refusal, setting_of}
use Rattle.clock.proofs.RollLaws.{adjustment_ok, remainder_ok}

pub data SettingCase (c : Clock) (s : ℕ) (u : AskedMicros) : Type 0 where
  refused : (n : ℕ) → setting_of c s u ≡ record { refusal = n; clock = c } → 0 < n → SettingCase c s u
  done : Ok (set_to c s u) → setting_of c s u ≡ record { refusal = 0; clock = set_to c s u } → SettingCase c s u

-- no leftover
none_within : (kind : ℕ) → Parts (device_of kind) (pos 0)
none_within kind = record { up = divisor_pos kind; down = divisor_pos kind }

pub set_ok : (c : Clock) (s : ℕ) (u : AskedMicros) → Ok c → settable s u ≡ true → Ok (set_to c s u)
set_ok c s u k h =
    let a = and_true (leb s last_second) (leb u.0 last_micro) h in
    search (
      rules,
      leb-true s last_second a.0,
      leb-true u.0 last_micro a.1,
      adjustment_ok c.kind (pos 0) c.frequency.0 (omega arith) k.frequency,
      remainder_ok c.kind c.frequency.0,
      none_within c.kind,
    )

module _ (c : Clock) (s : ℕ) (u : AskedMicros) where
  by_tests : (a b : Bool) → in_range c ≡ a → settable s u ≡ b → SettingCase c s u
  unfolding setting_of setting_refusal
  by_tests true true t h = done (set_ok c s u (ok c t) h) (simp (t, h))
  by_tests true false t h = refused 2 (simp (t, h)) (lit< tt)
  by_tests false b t h = refused 1 (simp t) (lit< tt)

  pub setting_case : SettingCase c s u
  setting_case = by_tests (in_range c) (settable s u) refl refl
