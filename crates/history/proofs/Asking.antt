-- Code 4 at place 0 asks for the summary, and nothing else does.
use mathlib.Core.Path.{◌≡◌, refl, sym, ap}
use mathlib.Core.Bool.{Bool, true, false, cond}
use mathlib.Core.List.{List, [], ◌∷◌}
use Prim.Native.Nat.{ℕ, ◌<◌}
use native.Mathlib.Omega.{arith}
use lib.Dec.{eqb}
use lib.ListN.{length, get_or, take, drop}
use borrow.Author.Tests.{eqb-true, eqb-false, ne_eqb}
use denote.Bor.{Bor}
use Rattle.std.specs.Prelude.{Option, None, Some, slice_get}
use Rattle.std.specs.Option.{option_copied, option_eq}
use Rattle.number.specs.Form.{Bytes, bytes_of, bytes_from}
use Rattle.number.specs.Reading.{Found as Number, number, number_at}
use Rattle.number.specs.Reading.{refused as no_number}
use Rattle.number.specs.Sequence.{then}
use Rattle.number.specs.Properties.{Extent}
use Rattle.number.proofs.Extent.{extent}
use Rattle.number.proofs.Steps.{first_last}
use Rattle.number.proofs.WrittenRead.{one_form}
use Rattle.history.specs.Event.{Found, refused, ticks_at, setting_at, request_at, summary_at, arguments_at, event_at}
use Rattle.history.specs.Event.{is_summary, asks_summary}

-- what stands at a place is not what asks for the summary
abbrev Other : Found → Type 0
Other x = is_summary x ≡ false

then_other : (x : Number) (go : ℕ → ℕ → Found) → ((v k : ℕ) → Other (go v k)) → Other (then refused x go)
unfolding then
then_other (number v k) go f = f v k
then_other (no_number r) go f = refl

cond_other : (b : Bool) (x y : Found) → Other x → Other y → Other (cond b x y)
cond_other true x y p q = p
cond_other false x y p q = q

module _ (s : List ℕ) (p : ℕ) where
  ticks_other : Other (ticks_at s p)
  unfolding ticks_at
  ticks_other = then_other _ _ (λ _ _. refl)

  setting_other : Other (setting_at s p)
  unfolding setting_at
  setting_other = then_other _ _ (λ _ _. then_other _ _ (λ _ _. refl))

  request_other : Other (request_at s p)
  unfolding request_at
  request_other =
      then_other _ _ (λ _ _.
      then_other _ _ (λ _ _.
      then_other _ _ (λ _ _.
      then_other _ _ (λ _ _.
      then_other _ _ (λ _ _.
      then_other _ _ (λ _ _.
      then_other _ _ (λ _ _. refl)))))))

  -- the code 4 asks, and no other
  code_asks : (code : ℕ) → code ≡ 4 → is_summary (arguments_at 0 code s p) ≡ true
  unfolding arguments_at summary_at
  code_asks code e = rw (e)

  other_code : (code : ℕ) → eqb code 4 ≡ false → Other (arguments_at 0 code s p)
  unfolding arguments_at summary_at
  other_code code t =
      cond_other (eqb code 0) _ _ ticks_other
      (cond_other (eqb code 1) _ _ setting_other
      (cond_other (eqb code 2) _ _ request_other
      (cond_other (eqb code 3) _ _ refl
      (simp t))))

head : (s : List ℕ) {b : ℕ} → 0 < length s → take 1 (drop 0 s) ≡ b ∷ [] → get_or s 0 0 ≡ b
head [] h e = absurd (omega arith)
head (a ∷ s) h e = ap (λ (l : List ℕ). get_or l 0 0) e

module _ (s : List ℕ) where
  -- what is read at place 0 asks where its code is 4
  number_asks : {code next : ℕ} → number_at s 0 ≡ number code next → code ≡ 4 → asks_summary s ≡ true
  unfolding event_at then
  number_asks {code} {next} i e = rw (i) (code_asks s next code e)

  by_number : (x : Number) → number_at s 0 ≡ x → ((next : ℕ) → x ≡ number 4 next → ⊥) → Other (event_at s 0)
  unfolding event_at then
  by_number (number code next) i f =
      rw (i) (other_code s next code (ne_eqb _ _ (λ e. f next (ap (λ (n : ℕ). number n next) e))))
  by_number (no_number n) i f = rw (i)

  pub asks_none : length s ≡ 0 → asks_summary s ≡ false
  asks_none e = by_number (number_at s 0) refl (λ next i. let x : Extent s 0 4 next = extent s 0 4 next i in omega arith)

  module _ (bytes : Bytes s) (some : 0 < length s) where
    -- the code 4 has one written form
    first_is_4 : (next : ℕ) → number_at s 0 ≡ number 4 next → get_or s 0 0 ≡ 4
    unfolding bytes_of bytes_from
    first_is_4 next i = head s some (one_form s bytes 0 4 next i)

    -- the first byte decides
    pub asks_byte : (b : Bool) → eqb (get_or s 0 0) 4 ≡ b → asks_summary s ≡ b
    asks_byte true t = let e = eqb-true _ _ t in number_asks (first_last s 0 (get_or s 0 0) some refl (omega arith)) e
    asks_byte false t = by_number (number_at s 0) refl (λ next i. eqb-false _ _ t (first_is_4 next i))

-- and so it does where it is looked up: there is none, or it is the byte 4
pub asks_first : (s : List ℕ) → Bytes s → (x : Option (Bor ℕ)) (b : Bor ℕ) → b.now ≡ 4 → option_copied x ≡ slice_get s 0
    → option_eq (λ y z. eqb y.now z.now) x (Some b) ≡ asks_summary s
asks_first [] bytes None b f e = sym (asks_none [] refl)
asks_first [] bytes (Some y) b f e = absurd (let w : ◌≡◌ {A = ℕ} 0 1 = cc in omega arith)
asks_first (a ∷ s) bytes None b f e = absurd (let w : ◌≡◌ {A = ℕ} 0 1 = cc in omega arith)
asks_first (a ∷ s) bytes (Some y) b f e =
    let i : y.now ≡ a = cc in
    rw (f, i) (sym (asks_byte (a ∷ s) bytes (omega arith) (eqb a 4) refl))
