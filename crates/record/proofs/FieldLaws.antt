-- A field, by what the number reader told: one law for each case of the code. And what is known of every
-- field that was read.
use mathlib.Core.Path.{◌≡◌, refl, sym, ◌∙◌, ap}
use mathlib.Core.Bool.{Bool, true, false, cond}
use mathlib.Core.List.{List}
use mathlib.Core.Logic.{⊎_elim}
use Prim.Native.Nat.{ℕ}
use native.Mathlib.Omega.{arith}
use mir.Syntax.{w32}
use mir.Val.{to_z, of_z}
use mir.Facts.{to_z-of_z}
use Rattle.std.specs.Prelude.{Result, Ok, Err, IsErrAnd}
use Rattle.std.proofs.lemmas.Result.{err_from_is_err_and}
use Rattle.number.specs.Reading.{Found, number, refused, number_at}
use Rattle.number.proofs.Lists.{either}
use Rattle.state.specs.Device.{device_of}
use Rattle.state.specs.State.{phase_range, offset_range, frequency_range, adjustment_range, parts_range}
use Rattle.state.specs.declared.device.Device.{Device}
use Rattle.state.proofs.DeviceLaws.{fits_least, fits_most}
use Rattle.number.specs.Layout.{Layout, place, judged_by, field_at, place_at, suits, mapped_range, failed, read_from}
use Rattle.record.specs.Layout.{last_range}
use Rattle.record.specs.Inner.{told_field, up_to, between_z, mapped_phase, mapped_offset, mapped_frequency, mapped_parts, last_most}
use Rattle.record.proofs.Ranges.{phase_test, offset_test, frequency_test, parts_test, last_test}
use Rattle.record.specs.declared.field.Read.{Read}
use Rattle.number.proofs.Layouts.{field_went, field_stopped}
use Rattle.state.specs.Refusal.{refusal_number}
use Rattle.state.specs.declared.refusal.Refusal.{Refusal}

-- a refusal that `?` hands on is the one that it got
pub passed_on : {T E : Type 0} (x : Result T E) (e : E) → IsErrAnd x (λ y. y ≡ e) → x ≡ Err e
passed_on x e h = let w = err_from_is_err_and x h in w.1 ∙ ap Err w.2

module _ (range : ℕ → Bool) (s : List ℕ) (at : ℕ) where
  pub field_no : {r : ℕ} → refused r ≡ number_at s at → refused r ≡ field_at range s at
  unfolding field_at judged_by
  field_no e = ap (judged_by range) e

  pub field_in : {v next : ℕ} → number v next ≡ number_at s at → range v ≡ true → number v next ≡ field_at range s at
  unfolding field_at judged_by
  field_in e w = simp w at (ap (judged_by range) e)

  pub field_out : {v next : ℕ} → number v next ≡ number_at s at → range v ≡ false → refused 12 ≡ field_at range s at
  unfolding field_at judged_by
  field_out e w = simp w at (ap (judged_by range) e)

-- two ranges that agree are one
judged_same : (p q : ℕ → Bool) → ((n : ℕ) → p n ≡ q n) → (x : Found) → judged_by p x ≡ judged_by q x
unfolding judged_by
judged_same p q h (number v k) = rw (h v) refl
judged_same p q h (refused r) = refl

field_same : (p q : ℕ → Bool) (s : List ℕ) (at : ℕ) → ((n : ℕ) → p n ≡ q n) → field_at p s at ≡ field_at q s at
unfolding field_at
field_same p q s at h = judged_same p q h (number_at s at)

pub phase_field : (s : List ℕ) (at : ℕ) → field_at (up_to mapped_phase) s at ≡ field_at (mapped_range phase_range) s at
phase_field s at = field_same _ _ s at phase_test

pub offset_field : (s : List ℕ) (at : ℕ) → field_at (up_to mapped_offset) s at ≡ field_at (mapped_range offset_range) s at
offset_field s at = field_same _ _ s at offset_test

pub frequency_field : (s : List ℕ) (at : ℕ) → field_at (up_to mapped_frequency) s at ≡ field_at (mapped_range frequency_range) s at
frequency_field s at = field_same _ _ s at frequency_test

-- the adjustment, tested by the ends of the device that is told of the record's kind
pub adjustment_field : (s : List ℕ) (at kind : ℕ) {d : Device} → d ≡ device_of kind
    → field_at (mapped_range (between_z (to_z w32 (of_z w32 d.least.0)) (to_z w32 (of_z w32 d.most.0)))) s at ≡ field_at (mapped_range (adjustment_range (device_of kind))) s at
adjustment_field s at kind e = rw e (rw (to_z-of_z (fits_least kind), to_z-of_z (fits_most kind)))

-- tested by a largest number that was computed
most_field : (range : ℕ → Bool) (s : List ℕ) (at : ℕ) {m most : ℕ} → m ≡ most → ((n : ℕ) → up_to most n ≡ range n) → field_at (up_to m) s at ≡ field_at range s at
most_field range s at e h = ap (λ (m : ℕ). field_at (up_to m) s at) e ∙ field_same _ _ s at h

-- what follows the flag of the earlier update: what version and flag allow
pub last_field : (s : List ℕ) (at version flag : ℕ) {m : ℕ} → m ≡ last_most version flag → field_at (up_to m) s at ≡ field_at (last_range version flag) s at
last_field s at version flag e = most_field _ s at e (last_test version flag)

-- a remainder or a leftover, where it is held: what the record's kind allows
pub parts_field : (here : Bool) (s : List ℕ) (at kind : ℕ) {m : ℕ} → m ≡ mapped_parts kind
    → place_at here (up_to m) s at ≡ place_at here (mapped_range (parts_range (device_of kind))) s at
parts_field here s at kind e = ap (λ (x : Found). cond here x (number 0 at)) (most_field _ s at e (parts_test kind))

-- a field that was read is in its range
judged_in : (range : ℕ → Bool) (x : Found) {v k : ℕ} → number v k ≡ judged_by range x → range v ≡ true
unfolding judged_by
judged_in range (number n j) {v} {k} e =
    ⊎_elim
    (λ (t : range n ≡ true).
    let f : number v k ≡ number n j = simp t at e in
    let g : v ≡ n = cc in
    ap range g ∙ t)
    (λ (t : range n ≡ false).
    let f : number v k ≡ refused 12 = simp t at e in
    let z : ◌≡◌ {A = ℕ} 0 1 = cc in
    absurd (omega arith))
    (either (range n))
judged_in range (refused r) e = let z : ◌≡◌ {A = ℕ} 0 1 = cc in absurd (omega arith)

pub read_in : (range : ℕ → Bool) (s : List ℕ) (at : ℕ) {v next : ℕ} → number v next ≡ field_at range s at → range v ≡ true
unfolding field_at
read_in range s at e = judged_in range (number_at s at) e

-- .. and at a place that may not be there it suits the place
pub read_suits : (here : Bool) (range : ℕ → Bool) (s : List ℕ) (at : ℕ) {v next : ℕ} → number v next ≡ place_at here range s at → suits here range v ≡ true
read_suits true range s at e = read_in range s at e
read_suits false range s at {v = v} e =
    let h : v ≡ 0 = cc in
    rw h

-- ---- how a reading goes on after a field

module _ {A : Type 0} (here : Bool) (range : ℕ → Bool) (rest : ℕ → Layout A) (s : List ℕ) (at : ℕ) {d : Result (Read ℕ) Refusal} where
  pub field_ok : {f : Read ℕ} → d ≡ Ok f → told_field d ≡ place_at here range s at → read_from (place here range rest) s at ≡ read_from (rest f.value) s f.next
  field_ok q p = field_went here range rest s at (ap told_field (sym q) ∙ p)

  pub field_err : {r : Refusal} → d ≡ Err r → told_field d ≡ place_at here range s at → read_from (place here range rest) s at ≡ failed (refusal_number r)
  field_err q p = field_stopped here range rest s at (ap told_field (sym q) ∙ p)
