-- Lists of calls taken apart, and what every call of a list leaves in range.
use mathlib.Core.Path.{◌≡◌, refl, ◌∙◌}
use mathlib.Core.List.{List, [], ◌∷◌, ◌++◌}
use Prim.Native.Nat.{ℕ, ◌≤◌}
use native.Mathlib.Omega.{arith}
use borrow.Author.Rules.{rules}
use Rattle.state.specs.Device.{device_of}
use Rattle.state.specs.State.{fresh_clock}
use Rattle.clock.specs.Rollover.{rolled_over}
use Rattle.clock.specs.Tick.{tick_of}
use Rattle.clock.specs.Setting.{setting_of}
use Rattle.clock.specs.Reading.{told_of, reading_refusal, shown}
use Rattle.state.specs.declared.state.Clock.{Clock}
use Rattle.state.specs.declared.units.AskedMicros.{AskedMicros}
use Rattle.state.proofs.DeviceLaws.{laws}
use Rattle.state.proofs.Ok.{adjusted, Ok, ok_back}
use Rattle.clock.proofs.SettingCases.{SettingCase, refused, done, setting_case}
use Rattle.clock.proofs.TickCases.{TickCase, out, last, plain, rolls, tick_case}
use Rattle.request.specs.Request.{requested, request_of}
use Rattle.request.specs.declared.request.Request.{Request}
use Rattle.request.proofs.RequestCases as req
use Rattle.event.specs.declared.event.Call.{Call}
use Rattle.event.specs.declared.event.Call.TheVariants as call
use Rattle.event.specs.declared.event.Stepped.{Stepped}
use Rattle.bounds.specs.Calls.{next, after_by, after}
use Rattle.bounds.specs.Book.{Book, call_book, book_from}

pub after_append : {E : Type 0} (answers : Clock → E → Stepped) (c : Clock) (xs ys : List E) → after_by answers c (xs ++ ys) ≡ after_by answers (after_by answers c xs) ys
unfolding after_by
after_append answers c [] ys = refl
after_append answers c (e ∷ xs) ys = after_append answers (answers c e).clock xs ys

pub book_from_append : (c : Clock) (b : Book) (xs ys : List Call) → book_from c b (xs ++ ys) ≡ book_from (after c xs) (book_from c b xs) ys
unfolding after_by book_from
book_from_append c b [] ys = refl
book_from_append c b (e ∷ xs) ys = book_from_append (next c e) (call_book c e b) xs ys

pub fresh_ok : (kind : ℕ) → kind ≤ 1 → Ok (fresh_clock kind)
fresh_ok kind h = search (rules, h, laws kind, adjusted kind (device_of kind).base.0 (omega (arith, laws kind)))

-- a clock in range is read
pub read_ok : (c : Clock) → Ok c → told_of c ≡ record { refusal = 0; reading = shown c }
unfolding told_of reading_refusal
read_ok c k = simp (ok_back c k)

-- no call changes the kind
module _ (c : Clock) where
  tick_kind : TickCase c → (tick_of c).clock.kind ≡ c.kind
  unfolding rolled_over
  tick_kind (out t e) = simp e
  tick_kind (last k l e) = simp e
  tick_kind (plain k t l e) = simp e
  tick_kind (rolls k t l s e) = simp e

  set_kind : (s : ℕ) (u : AskedMicros) → SettingCase c s u → (setting_of c s u).clock.kind ≡ c.kind
  set_kind s u (refused n e h) = simp e
  set_kind s u (done k e) = simp e

  request_kind : (r : Request) → req.RequestCase c r → (request_of c r).clock.kind ≡ c.kind
  unfolding requested
  request_kind r (req.refused n e h) = simp e
  request_kind r (req.done a e) = simp e

  pub next_kind : (e : Call) → (next c e).kind ≡ c.kind
  next_kind call.Tick = tick_kind (tick_case c)
  next_kind (call.Setting s u) = set_kind s u (setting_case c s u)
  next_kind (call.Request r) = request_kind r (req.request_case c r)
  next_kind call.Reading = refl

pub after_kind : (c : Clock) (es : List Call) → (after c es).kind ≡ c.kind
unfolding after_by
after_kind c [] = refl
after_kind c (e ∷ es) = after_kind (next c e) es ∙ next_kind c e
