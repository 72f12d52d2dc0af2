-- A list of events and its ticks made singly: clock, answers and book agree.
use mathlib.Core.Path.{◌≡◌, refl, sym, ◌∙◌, ap, subst}
use mathlib.Core.List.{List, [], ◌∷◌, ◌++◌, append_assoc, append-nil}
use Rattle.state.specs.declared.state.Clock.{Clock}
use Rattle.event.specs.Event.{answer_of, step_of}
use Rattle.event.specs.declared.event.Call as call
use Rattle.event.specs.declared.event.Event.{Event}
use Rattle.bounds.specs.Calls.{after_by, after, clock_from}
use Rattle.bounds.specs.Singly.{single_calls, singly_from}
use Rattle.bounds.specs.Book.{empty_book, book_from}
use Rattle.bounds.specs.Demand.{book_on}
use Rattle.bounds.specs.MadeSingly.{AnswersAs, InPlace, EveryListMadeSingly}
use Rattle.bounds.proofs.Runs.{after_append, book_from_append}
use Rattle.bounds.proofs.Ticked.{answers_as, clock_singly}

pub after_singly : (c : Clock) (es : List Event) → after_by step_of c es ≡ after c (singly_from c es)
unfolding after_by singly_from
after_singly c [] = refl
after_singly c (e ∷ es) =
    after_singly (step_of c e).clock es
    ∙ ap (λ (d : Clock). after d (singly_from (step_of c e).clock es)) (clock_singly c e)
    ∙ sym (after_append answer_of c (single_calls c e) (singly_from (step_of c e).clock es))

pub singly_append : (c : Clock) (xs ys : List Event) → singly_from c (xs ++ ys) ≡ singly_from c xs ++ singly_from (after_by step_of c xs) ys
unfolding after_by singly_from
singly_append c [] ys = refl
singly_append c (e ∷ xs) ys =
    ap (λ (ks : List call.Call). single_calls c e ++ ks) (singly_append (step_of c e).clock xs ys)
    ∙ sym (append_assoc (single_calls c e) (singly_from (step_of c e).clock xs) _)

-- the clock after an event of a list, and after those behind it
module _ (start : Clock) (before : List Event) (e : Event) where
  pub clock_last : clock_from start (before ++ (e ∷ [])) ≡ (step_of (clock_from start before) e).clock
  unfolding after_by
  clock_last = after_append step_of start before (e ∷ [])

  pub clock_then : (between : List Event)
      → let c = (step_of (clock_from start before) e).clock in
      clock_from start (before ++ (e ∷ between)) ≡ after c (singly_from c between)
  unfolding after_by
  clock_then between = after_append step_of start before (e ∷ between) ∙ after_singly (step_of (clock_from start before) e).clock between

module _ (start : Clock) (before : List Event) (e : Event) where
  singly_last : singly_from start (before ++ (e ∷ [])) ≡ singly_from start before ++ single_calls (clock_from start before) e
  unfolding singly_from
  singly_last =
      singly_append start before (e ∷ [])
      ∙ ap (λ (ks : List call.Call). singly_from start before ++ ks) (append-nil (single_calls (clock_from start before) e))

  pub book_last : book_on start (before ++ (e ∷ [])) ≡ book_from (clock_from start before) (book_on start before) (single_calls (clock_from start before) e)
  book_last =
      ap (λ (ks : List call.Call). book_from start empty_book ks) singly_last
      ∙ book_from_append start empty_book (singly_from start before) (single_calls (clock_from start before) e)
      ∙ ap (λ (c : Clock). book_from c (book_on start before) (single_calls (clock_from start before) e)) (sym (after_singly start before))

  in_place : (later : List Event) → InPlace step_of start before later e
  unfolding singly_from after_by
  in_place later =
      record {
        place = rw (after_append step_of start before (e ∷ [])) (singly_append start before (e ∷ later));
        answered =
            subst (λ (c : Clock). AnswersAs step_of (clock_from start before) c e) (after_singly start before)
            (answers_as (clock_from start before) e);
        book = book_last;
      }

pub made_singly : EveryListMadeSingly
made_singly start events = record { clock = after_singly start events; each = λ before later e _. in_place start before e later }
