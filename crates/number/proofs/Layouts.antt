-- The laws of every layout of a record, by induction on it: no field is named here. `read_back` reads what
-- was written, `taken` says what was written where a reading was accepted, `known` which refusals there are,
-- `layout_exactly_when` when each is given, `no_longer` how long a record can be.
use mathlib.Core.Path.{◌≡◌, refl, sym, ◌∙◌, ap}
use mathlib.Core.Bool.{Bool, true, false, cond, ◌&&◌, false≢true, and_assoc, and-false}
use mathlib.Core.Bool.{and-true as and_one}
use mathlib.Core.List.{List, [], ◌∷◌}
use mathlib.Core.Logic.{◌⊎◌, inl, inr, ⊎_elim}
use Prim.Native.Nat.{ℕ, suc, ◌+◌, ◌^◌, ◌<◌, ◌≤◌}
use native.Mathlib.Nat.{pow-le-pow_right}
use native.Mathlib.Omega.{arith}
use lib.Dec.{ltb}
use lib.ListN.{length}
use borrow.Author.Tests.{ltb-true, ltb-false, lt-ltb, le-ltb, eqb-true}
use Rattle.integers.proofs.Ranges.{and_true, true_and}
use Rattle.number.specs.Form.{limit, Bytes, bytes_of_all}
use Rattle.number.specs.Reading.{Found, number, refused, number_at}
use Rattle.number.specs.Sequence.{then}
use Rattle.number.specs.Layout.{judged_by, field_at, suits, written, place_at, Layout, place, whole, Outcome, got, failed, read_from}
use Rattle.number.specs.Stopping.{Stops, reads_layout, LayoutExactlyWhen, Outside, FieldExactlyWhen}
use Rattle.number.proofs.Lists.{either}
use Rattle.number.proofs.WrittenRead.{Holds, written_read}
use Rattle.number.proofs.Chain.{Ahead, ahead_first, ahead_rest, ahead_end, ◌◂◌, ahead_none}
use Rattle.number.proofs.Extent.{refused_only}
use Rattle.number.proofs.Sizes.{sizes_below, sizes_none}
use Rattle.number.proofs.Sequence.{Before, went, stopped}

-- ---- the numbers of a record

-- a number for each place
unfoldable pub Choice : {A : Type 0} → Layout A → Type 0
Choice (place here range rest) = record { n : ℕ; small : n < limit; fits : suits here range n ≡ true; more : Choice (rest n) }
Choice (whole saved) = record {}

unfoldable pub picked : {A : Type 0} (l : Layout A) → Choice l → List ℕ
unfolding Choice
picked (place here range rest) k = k.n ∷ picked (rest k.n) k.more
picked (whole saved) k = []

-- what they stand for
unfoldable pub stands : {A : Type 0} (l : Layout A) → Choice l → A
unfolding Choice
stands (place here range rest) k = stands (rest k.n) k.more
stands (whole saved) k = saved

-- those that are written
abbrev pub chosen : {A : Type 0} (l : Layout A) → Choice l → List ℕ
chosen l k = written l (picked l k)

-- ---- numbers that a layout allows, one for each place

unfoldable pub allows : {A : Type 0} → Layout A → List ℕ → Bool
allows (place here range rest) [] = false
allows (place here range rest) (n ∷ ns) = suits here range n && allows (rest n) ns
allows (whole saved) [] = true
allows (whole saved) (n ∷ ns) = false

-- the same tests, joined from the first on, after others
unfoldable pub joined : {A : Type 0} → Bool → Layout A → List ℕ → Bool
joined so (place here range rest) [] = false
joined so (place here range rest) (n ∷ ns) = joined (so && suits here range n) (rest n) ns
joined so (whole saved) [] = so
joined so (whole saved) (n ∷ ns) = false

pub allows_joined : {A : Type 0} (so : Bool) (l : Layout A) (ns : List ℕ) → so && allows l ns ≡ joined so l ns
unfolding allows joined
allows_joined so (place here range rest) [] = and-false so
allows_joined so (place here range rest) (n ∷ ns) =
    sym (and_assoc so (suits here range n) (allows (rest n) ns)) ∙ allows_joined (so && suits here range n) (rest n) ns
allows_joined so (whole saved) [] = and_one so
allows_joined so (whole saved) (n ∷ ns) = and-false so

-- .. are small: at each place they have k + 1 bytes at most, and never more than five
unfoldable pub Sized : {A : Type 0} → Layout A → Type 0
Sized (place here range rest) = record { k : ℕ; five : k < 5; small : (n : ℕ) → range n ≡ true → n < 128 ^ suc k; more : (n : ℕ) → Sized (rest n) }
Sized (whole saved) = Unit {0}

unfoldable pub sized : {A : Type 0} (k : ℕ) (here : Bool) (range : ℕ → Bool) (rest : ℕ → Layout A) → k < 5 → ((n : ℕ) → range n ≡ true → n < 128 ^ suc k)
    → ((n : ℕ) → Sized (rest n)) → Sized (place here range rest)
unfolding Sized
sized k here range rest five small more = record { k = k; five = five; small = small; more = more }

unfoldable pub sized_end : {A : Type 0} (saved : A) → Sized (whole saved)
unfolding Sized
sized_end saved = tt

pub suits_small : (k : ℕ) (here : Bool) (range : ℕ → Bool) (n : ℕ) → k < 5 → ((m : ℕ) → range m ≡ true → m < 128 ^ suc k) → suits here range n ≡ true → n < limit
suits_small k true range n five small e =
    let p : 128 ^ suc k ≤ 128 ^ 5 = pow-le-pow_right (omega arith) {i = suc k} {j = 5} (omega arith) in
    omega (arith, small n e)
suits_small k false range n five small e = omega (arith, eqb-true n 0 e)

-- so they are a choice
unfoldable pub choose : {A : Type 0} (l : Layout A) → Sized l → (ns : List ℕ) → allows l ns ≡ true → Choice l
unfolding Choice Sized allows
choose (place here range rest) b [] e = absurd (false≢true e)
choose (place here range rest) b (n ∷ ns) e =
    let w = and_true (suits here range n) (allows (rest n) ns) e in
    record { n = n; small = suits_small b.k here range n b.five b.small w.0; fits = w.0; more = choose (rest n) (b.more n) ns w.1 }
choose (whole saved) b [] e = record {}
choose (whole saved) b (n ∷ ns) e = absurd (false≢true e)

pub choose_picked : {A : Type 0} (l : Layout A) (b : Sized l) (ns : List ℕ) (e : allows l ns ≡ true) → picked l (choose l b ns e) ≡ ns
unfolding choose picked Choice Sized allows
choose_picked (place here range rest) b [] e = absurd (false≢true e)
choose_picked (place here range rest) b (n ∷ ns) e =
    ap (λ (x : List ℕ). n ∷ x) (choose_picked (rest n) (b.more n) ns (and_true (suits here range n) (allows (rest n) ns) e).1)
choose_picked (whole saved) b [] e = refl
choose_picked (whole saved) b (n ∷ ns) e = absurd (false≢true e)

-- and a choice is allowed
pub picked_allowed : {A : Type 0} (l : Layout A) (k : Choice l) → allows l (picked l k) ≡ true
unfolding picked Choice allows
picked_allowed (place here range rest) k = true_and k.fits (picked_allowed (rest k.n) k.more)
picked_allowed (whole saved) k = refl

-- how many bytes the places of a choice have at most, and so how long its record can be
unfoldable pub most : {A : Type 0} (l : Layout A) → Sized l → Choice l → ℕ
unfolding Sized Choice
most (place here range rest) b k = cond here (suc b.k) 0 + most (rest k.n) (b.more k.n) k.more
most (whole saved) b k = 0

pub no_longer : {A : Type 0} (l : Layout A) (b : Sized l) (k : Choice l) → length (bytes_of_all (chosen l k)) ≤ most l b k
unfolding written picked Choice Sized most
no_longer (place true range rest) b k =
    sizes_below b.k _ k.n _ (b.small k.n k.fits) (no_longer (rest k.n) (b.more k.n) k.more)
no_longer (place false range rest) b k = omega (arith, no_longer (rest k.n) (b.more k.n) k.more)
no_longer (whole saved) b k = sizes_none

-- ---- a field, by the number that stands there

opened : {A : Type 0} (here : Bool) (range : ℕ → Bool) (rest : ℕ → Layout A) (s : List ℕ) (at : ℕ)
    → read_from (place here range rest) s at ≡ then failed (place_at here range s at) (λ n next. read_from (rest n) s next)
unfolding read_from
opened here range rest s at = refl

module _ {A : Type 0} (range : ℕ → Bool) (s : List ℕ) (at : ℕ) (go : ℕ → ℕ → Outcome A) where
  on_read : {v next : ℕ} → number_at s at ≡ number v next → range v ≡ true → then failed (field_at range s at) go ≡ go v next
  unfolding then field_at judged_by
  on_read e w = ap (λ (x : Found). then failed (judged_by range x) go) e ∙ simp w

  on_outside : {v next : ℕ} → number_at s at ≡ number v next → range v ≡ false → then failed (field_at range s at) go ≡ failed 12
  unfolding then field_at judged_by
  on_outside e w = ap (λ (x : Found). then failed (judged_by range x) go) e ∙ simp w

  on_refused : {r : ℕ} → number_at s at ≡ refused r → then failed (field_at range s at) go ≡ failed r
  unfolding then field_at judged_by
  on_refused e = ap (λ (x : Found). then failed (judged_by range x) go) e

-- ---- what was written is read

read_on : {A : Type 0} (l : Layout A) (k : Choice l) {s after : List ℕ} {at : ℕ} {x : Outcome A} → Ahead s at (chosen l k) after
    → ((end : ℕ) → Ahead s end [] after → read_from (whole (stands l k)) s end ≡ x) → read_from l s at ≡ x
unfolding read_from written picked stands Choice then
read_on (place true range rest) k {s} {after} {at} a end =
    on_read range s at (λ n next. read_from (rest n) s next) (ahead_first a k.small) k.fits ∙ read_on (rest k.n) k.more (ahead_rest a) end
read_on (place false range rest) k {s} {at = at} a end =
    ap (λ (n : ℕ). read_from (rest n) s at) (sym (eqb-true k.n 0 k.fits)) ∙ read_on (rest k.n) k.more a end
read_on (whole saved) k {at = at} a end = end at a

pub read_back : {A : Type 0} (l : Layout A) (k : Choice l) {s : List ℕ} {at : ℕ} → Ahead s at (chosen l k) [] → read_from l s at ≡ got (stands l k)
unfolding read_from
read_back l k {s} a = read_on l k a (λ end e. simp (le-ltb end (length s) (omega (arith, ahead_end e))))

pub read_more : {A : Type 0} (l : Layout A) (k : Choice l) {s after : List ℕ} {at : ℕ} → 0 < length after → Ahead s at (chosen l k) after
    → read_from l s at ≡ failed 13
unfolding read_from
read_more l k {s} h a = read_on l k a (λ end e. simp (lt-ltb end (length s) (omega (arith, ahead_end e))))

-- ---- what is read was written

-- the choice that was read
pub record Taken {A : Type 0} (l : Layout A) (s : List ℕ) (at : ℕ) (saved : A) : Type 0 where
  pub choice : Choice l
  pub ahead : Ahead s at (chosen l choice) []
  pub is : stands l choice ≡ saved

-- no failure is what was saved
pub not_failed : {A P : Type 0} {x : Outcome A} {r : ℕ} {saved : A} → x ≡ failed r → x ≡ got saved → P
not_failed e f = let z : ◌≡◌ {A = ℕ} 0 1 = cc in absurd (omega arith)

module _ {A : Type 0} (s : List ℕ) (bytes : Bytes s) (saved : A) where
  was_found : {P : Type 0} (range : ℕ → Bool) (at : ℕ) (go : ℕ → ℕ → Outcome A) (x : Found) → number_at s at ≡ x
      → then failed (field_at range s at) go ≡ got saved
      → ((n next : ℕ) → Holds s at n next → range n ≡ true → go n next ≡ got saved → P) → P
  was_found range at go (number n k) e f on =
      ⊎_elim (λ w. on n k (written_read s bytes at n k e) w (sym (on_read range s at go e w) ∙ f))
      (λ w. not_failed (on_outside range s at go e w) f)
      (either (range n))
  was_found range at go (refused r) e f on = not_failed (on_refused range s at go e) f

  was_end : (at : ℕ) (a : A) → read_from (whole a) s at ≡ got saved → Ahead s at [] [] × (a ≡ saved)
  unfolding read_from
  was_end at a e =
      ⊎_elim (λ (t : ltb at (length s) ≡ true). not_failed {r = 13} (simp t) e)
      (λ (t : ltb at (length s) ≡ false).
      let f : got a ≡ got saved = simp t at e in
      (ahead_none s at (ltb-false at (length s) t), cc))
      (either (ltb at (length s)))

  pub taken : (l : Layout A) (at : ℕ) → read_from l s at ≡ got saved → Taken l s at saved
  unfolding read_from written picked stands Choice then
  taken (place true range rest) at e =
      was_found range at (λ n next. read_from (rest n) s next) (number_at s at) refl e (λ n next h w e'.
      let t = taken (rest n) next e' in
      record { choice = record { n = n; small = h.small; fits = w; more = t.choice }; ahead = h ◂ t.ahead; is = t.is })
  taken (place false range rest) at e =
      let t = taken (rest 0) at e in
      record { choice = record { n = 0; small = omega arith; fits = refl; more = t.choice }; ahead = t.ahead; is = t.is }
  taken (whole a) at e = let w = was_end at a e in record { choice = record {}; ahead = w.0; is = w.1 }

-- ---- which refusals there are

abbrev pub Known : {A : Type 0} → Outcome A → Type 0
Known (got saved) = Unit {0}
Known (failed r) = (10 ≤ r) × (r ≤ 13)

refused_known : (s : List ℕ) (at : ℕ) {r : ℕ} → number_at s at ≡ refused r → (10 ≤ r) × (r ≤ 13)
refused_known s at e = ⊎_elim (λ h. (omega arith, omega arith)) (λ h. (omega arith, omega arith)) (refused_only s at _ e)

module _ {A : Type 0} (s : List ℕ) where
  known_found : (range : ℕ → Bool) (at : ℕ) (go : ℕ → ℕ → Outcome A) (x : Found) → number_at s at ≡ x → ((n next : ℕ) → Known (go n next))
      → Known (then failed (field_at range s at) go)
  known_found range at go (number n k) e on =
      ⊎_elim (λ w. rw (on_read range s at go e w) (on n k))
      (λ w. rw (on_outside range s at go e w) (omega arith, omega arith))
      (either (range n))
  known_found range at go (refused r) e on = rw (on_refused range s at go e) (refused_known s at e)

  pub known : (l : Layout A) (at : ℕ) → Known (read_from l s at)
  unfolding read_from then
  known (place true range rest) at = known_found range at (λ n next. read_from (rest n) s next) (number_at s at) refl (λ n next. known (rest n) next)
  known (place false range rest) at = known (rest 0) at
  known (whole saved) at =
      ⊎_elim (λ (t : ltb at (length s) ≡ true). simp t (omega arith, omega arith)) (λ (t : ltb at (length s) ≡ false). simp t tt)
      (either (ltb at (length s)))

-- ---- where a reading stops

module _ (range : ℕ → Bool) (s : List ℕ) (at r : ℕ) where
  fails_only : (x : Found) → number_at s at ≡ x → judged_by range x ≡ refused r → (number_at s at ≡ refused r) ⊎ (Outside range s at × (r ≡ 12))
  unfolding judged_by
  fails_only (number v k) e f =
      ⊎_elim
      (λ (t : range v ≡ true).
      let g : number v k ≡ refused r = simp t at f in
      let z : ◌≡◌ {A = ℕ} 0 1 = cc in
      absurd (omega arith))
      (λ (t : range v ≡ false).
      let g : refused 12 ≡ refused r = simp t at f in
      inr (record { value = v; next = k; read = e; out = t }, cc))
      (either (range v))
  fails_only (refused n) e f = inl (e ∙ f)

pub field_exactly_when : FieldExactlyWhen field_at
unfolding field_at judged_by
field_exactly_when range s at r =
    record {
      only = fails_only range s at r (number_at s at) refl;
      unread = λ e. ap (judged_by range) e;
      outside = λ o. ap (judged_by range) o.read ∙ simp o.out;
    }

module _ {A : Type 0} (s : List ℕ) (r : ℕ) where
  stops_found : (go : ℕ → ℕ → Outcome A) (Later : ℕ → ℕ → Type 0) (x y : Found) → x ≡ y → then failed y go ≡ failed r
      → ((n next : ℕ) → go n next ≡ failed r → Later n next) → (x ≡ refused r) ⊎ record { n : ℕ; next : ℕ; read : x ≡ number n next; later : Later n next }
  unfolding then
  stops_found go Later x (number n k) e f on = inr (record { n = n; next = k; read = e; later = on n k f })
  stops_found go Later x (refused q) e f on =
      let g : ◌≡◌ {A = Outcome A} (failed q) (failed r) = f in
      inl (e ∙ ap refused (cc))

  stops : (l : Layout A) (at : ℕ) → read_from l s at ≡ failed r → Stops l s at r
  unfolding read_from Stops
  stops (place here range rest) at e =
      stops_found (λ n next. read_from (rest n) s next) (λ n next. Stops (rest n) s next r) (place_at here range s at) (place_at here range s at) refl e (λ n next. stops (rest n) next)
  stops (whole saved) at e =
      ⊎_elim
      (λ (t : ltb at (length s) ≡ true).
      let f : ◌≡◌ {A = Outcome A} (failed 13) (failed r) = simp t at e in
      (ltb-true at (length s) t, cc))
      (λ (t : ltb at (length s) ≡ false). not_failed {saved = saved} e (simp t))
      (either (ltb at (length s)))

  stops_so : (l : Layout A) (at : ℕ) → Stops l s at r → read_from l s at ≡ failed r
  unfolding read_from Stops then
  stops_so (place here range rest) at h =
      ⊎_elim (λ e. ap (λ (x : Found). then failed x (λ n next. read_from (rest n) s next)) e)
      (λ k. ap (λ (x : Found). then failed x (λ n next. read_from (rest n) s next)) k.read ∙ stops_so (rest k.n) k.next k.later)
      h
  stops_so (whole saved) at h = simp (lt-ltb at (length s) h.0) (ap failed (sym h.1))

pub layout_exactly_when : LayoutExactlyWhen reads_layout
layout_exactly_when A l s at r = record { only = stops s r l at; always = stops_so s r l at }

-- ---- how the reading of a record goes on from a place, by what was found there: the laws of `Sequence` at
-- a field

module _ {A : Type 0} (here : Bool) (range : ℕ → Bool) (rest : ℕ → Layout A) (s : List ℕ) (at : ℕ) where
  abbrev before : Before (Outcome A)
  before =
      record {
        all = read_from (place here range rest) s at;
        ends = failed;
        found = place_at here range s at;
        go = λ n next. read_from (rest n) s next;
        is = opened here range rest s at;
      }

  -- the field was read
  pub field_went : {n next : ℕ} → number n next ≡ place_at here range s at → read_from (place here range rest) s at ≡ read_from (rest n) s next
  field_went e = went before e refl

  -- it was refused
  pub field_stopped : {r : ℕ} → refused r ≡ place_at here range s at → read_from (place here range rest) s at ≡ failed r
  field_stopped e = sym (stopped before e refl refl)
