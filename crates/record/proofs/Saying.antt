-- A record that says a clock in range is one whose numbers the layout allows, and every choice of such
-- numbers says a clock.
use mathlib.Core.Path.{◌≡◌, refl, sym, ◌∙◌, ap}
use mathlib.Core.Bool.{Bool, true, false, ◌&&◌, false≢true, and_assoc, and-false}
use mathlib.Core.Bool.{and-true as and_one}
use mathlib.Core.List.{List, ◌++◌}
use mathlib.Core.Logic.{⊎_elim}
use Prim.Native.Nat.{ℕ}
use lib.Dec.{eqb}
use lib.IntN.{ℤ}
use borrow.Author.Tests.{le-leb}
use Rattle.integers.proofs.Ranges.{and_true, true_and}
use Rattle.number.specs.Form.{bytes_of_all}
use Rattle.number.specs.Layout.{suits, written}
use Rattle.number.specs.Mapping.{mapped}
use Rattle.number.proofs.Lists.{either}
use Rattle.number.proofs.Chain.{Ahead}
use Rattle.number.proofs.Layouts.{Choice, picked, stands, chosen, allows, joined, allows_joined, choose, choose_picked, picked_allowed, known}
use Rattle.number.proofs.Mapping.{unmapped_mapped, mapped_unmapped}
use Rattle.state.specs.Device.{kind_range, device_of}
use Rattle.state.specs.State.{in_range, flag_range, interval_range, zero_unless_flag, parts_range}
use Rattle.state.specs.declared.state.Clock.{Clock}
use Rattle.state.proofs.Ok.{ok}
use Rattle.record.specs.Layout.{known_version, holds_kind, count_range, last_range, kept_update, record_layout, places_in, numbers_in, record_in}
use Rattle.record.specs.Properties.{suits_parts, Says}
use Rattle.record.proofs.Ranges.{kind_within, parts_within}
use Rattle.record.proofs.FieldSizes.{sizes}

-- the tests of a clock's earlier update
abbrev update_range : ℕ → ℕ → Bool
update_range flag last = flag_range flag && interval_range last && zero_unless_flag flag last

update_apart : (flag last : ℕ) → update_range flag last ≡ flag_range flag && count_range flag last
update_apart flag last = and_assoc (flag_range flag) (interval_range last) (zero_unless_flag flag last)

-- what is kept of flag and last passes them
kept_sound : (version flag last : ℕ) → flag_range flag ≡ true → last_range version flag last ≡ true
    → update_range (kept_update version flag last).updated (kept_update version flag last).interval ≡ true
kept_sound version flag last flagged ranged =
    ⊎_elim (λ (t : eqb version 1 ≡ true). simp t)
    (λ (t : eqb version 1 ≡ false).
    let w : count_range flag last ≡ true = simp t at ranged in
    simp t (update_apart flag last ∙ true_and flagged w))
    (either (eqb version 1))

-- a test without which another fails passes with it
tested : (b : Bool) {all : Bool} → (b ≡ false → all ≡ false) → all ≡ true → b ≡ true
tested true f e = refl
tested false f e = absurd (false≢true (sym (f refl) ∙ e))

update_sound : (c : Clock) → in_range c ≡ true → update_range c.updated c.interval ≡ true
unfolding in_range
update_sound c = tested (update_range c.updated c.interval) (λ t. simp (t, and-false))

pub update_parts : (c : Clock) → in_range c ≡ true → (flag_range c.updated ≡ true) × (count_range c.updated c.interval ≡ true)
update_parts c e = and_true (flag_range c.updated) (count_range c.updated c.interval) (sym (update_apart c.updated c.interval) ∙ update_sound c e)

pub kind_sound : (c : Clock) → in_range c ≡ true → kind_range c.kind ≡ true
kind_sound c e = le-leb _ _ (ok c e).kind

pub parts_sound : (c : Clock) → in_range c ≡ true → (parts_range (device_of c.kind) c.remainder.0 ≡ true) × (parts_range (device_of c.kind) c.leftover.0 ≡ true)
unfolding in_range
parts_sound c e = (
  tested (parts_range (device_of c.kind) c.remainder.0) (λ t. simp (t, and-false)) e,
  tested (parts_range (device_of c.kind) c.leftover.0) (λ t. simp (t, and-false)) e,
)

-- both parts are what a record of the version can hold
abbrev pub PartsSuit : ℕ → Clock → Type 0
PartsSuit version c = (suits_parts version c.kind c.remainder.0 ≡ true) × (suits_parts version c.kind c.leftover.0 ≡ true)

-- .. and are then in their range
held_parts : (version kind : ℕ) (z : ℤ) → suits_parts version kind z ≡ true → parts_range (device_of kind) z ≡ true
held_parts version kind z e = rw unmapped_mapped at (parts_within version kind (mapped z) e)

allowed : (version : ℕ) (c : Clock) (flag last : ℕ) → known_version version ≡ true → suits (holds_kind version) kind_range c.kind ≡ true → flag_range flag ≡ true → last_range version flag last ≡ true → update_range c.updated c.interval ≡ true
    → PartsSuit version c → allows record_layout (places_in version c flag last) ≡ in_range c
unfolding joined record_layout places_in in_range
allowed version c flag last known kind flagged ranged update parts =
    allows_joined true record_layout (places_in version c flag last)
    ∙ simp (parts.0, parts.1)
    (simp (unmapped_mapped, known, kind, flagged, ranged, update, held_parts version c.kind c.remainder.0 parts.0, held_parts version c.kind c.leftover.0 parts.1, and_one)
    (simp (kind_within version c.kind kind)))

-- what a record says, as a choice of numbers, which stands for the clock
module _ {version : ℕ} {c : Clock} {flag last : ℕ} (w : Says version c flag last) where
  pub says_allowed : allows record_layout (places_in version c flag last) ≡ true
  says_allowed = allowed version c flag last w.known w.kind w.flagged w.ranged (update_sound c w.sound) (w.remainder, w.leftover) ∙ w.sound

  unfoldable pub choice : Choice record_layout
  choice = choose record_layout sizes (places_in version c flag last) says_allowed

  pub choice_numbers : chosen record_layout choice ≡ numbers_in version c flag last
  unfolding choice numbers_in
  choice_numbers = ap (written record_layout) (choose_picked record_layout sizes (places_in version c flag last) says_allowed)

  pub choice_clock : stands record_layout choice ≡ c
  unfolding choice choose stands Choice record_layout places_in
  choice_clock = rw (sym w.update) (simp unmapped_mapped)

  -- the record, and what follows it
  pub ahead : {s rest : List ℕ} → s ≡ record_in version c flag last ++ rest → Ahead s 0 (chosen record_layout choice) rest
  unfolding record_in
  ahead {rest = rest} h = record { is = h ∙ ap (λ (ns : List ℕ). bytes_of_all ns ++ rest) (sym choice_numbers) }

-- and every choice is the numbers of a record that says the clock
module _ (k : Choice record_layout) where
  abbrev pub version_chosen : ℕ
  unfolding Choice record_layout
  version_chosen = k.n

  abbrev pub flag_of : ℕ
  unfolding Choice record_layout
  flag_of = k.more.more.more.more.more.more.more.more.more.n

  abbrev pub last_of : ℕ
  unfolding Choice record_layout
  last_of = k.more.more.more.more.more.more.more.more.more.more.n

  pub places_picked : picked record_layout k ≡ places_in version_chosen (stands record_layout k) flag_of last_of
  unfolding picked stands Choice record_layout places_in
  places_picked = simp mapped_unmapped

  pub said : Says version_chosen (stands record_layout k) flag_of last_of
  unfolding stands Choice record_layout
  said =
      let known = k.fits in
      let kind = k.more.fits in
      let flag = k.more.more.more.more.more.more.more.more.more in
      let update = kept_sound version_chosen flag_of last_of flag.fits flag.more.fits in
      let parts = flag.more.more.more.more.more in
      let remainder = rw (sym (mapped_unmapped parts.n)) at parts.fits in
      let leftover = rw (sym (mapped_unmapped parts.more.n)) at parts.more.fits in
      record {
        known = known;
        sound = sym (allowed version_chosen (stands record_layout k) flag_of last_of known kind flag.fits flag.more.fits update (remainder, leftover)) ∙ ap (allows record_layout) (sym places_picked) ∙ picked_allowed record_layout k;
        kind = kind;
        flagged = flag.fits;
        ranged = flag.more.fits;
        update = refl;
        remainder = remainder;
        leftover = leftover;
      }
