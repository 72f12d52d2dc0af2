-- What `?` hands on.
use mathlib.Core.Path.{◌≡◌, ◌∙◌, ap}
use Rattle.std.proofs.lemmas.Result.{err_from_is_err_and}
use Rattle.std.specs.Prelude.{Result}
use Rattle.std.specs.Result.{IsErrAnd}
use Rattle.state.specs.Refusal.{refusal_number}
use Rattle.state.specs.declared.refusal.Refusal.{Refusal}
use Rattle.history.specs.Event.{Found, refused, told}
use Rattle.history.specs.declared.Entry.{Entry}

-- the refusal of a number is that of the event, whatever stands there
pub passed_on : (x : Result Entry Refusal) (e : Refusal) {there : Found} → IsErrAnd x (λ y. y ≡ e) → refused (refusal_number e) ≡ there → told x ≡ there
passed_on x e h i =
    let w = err_from_is_err_and x h in
    ap told w.1 ∙ ap (λ (r : Refusal). refused (refusal_number r)) w.2 ∙ i
