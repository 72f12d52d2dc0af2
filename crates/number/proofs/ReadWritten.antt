-- What was written is read: where the bytes of a number stand, that number is read, up to the place after
-- them.
use mathlib.Core.Path.{◌≡◌, sym, ◌∙◌, ap}
use mathlib.Core.List.{List, ◌++◌}
use mathlib.Core.Logic.{⊎_elim}
use Prim.Native.Nat.{ℕ, zero, suc, ◌+◌, ◌*◌, ◌/◌, ◌%◌, ◌^◌, ◌<◌, ◌≤◌}
use native.Mathlib.Omega.{arith}
use lib.Dec.{ltb}
use lib.ListN.{length, drop}
use lib.Seq.{drop-drop, drop-append_seam}
use borrow.Author.Tests.{ltb-true, ltb-false}
use Rattle.number.specs.Form.{bytes_from, bytes_of}
use Rattle.number.specs.Properties.{ReadsWritten}
use Rattle.number.specs.Reading.{number, number_at}
use Rattle.number.specs.Inner.{later_at}
use Rattle.number.proofs.Lists.{either, Here, here}
use Rattle.number.proofs.Sizes.{from_last, from_more, shorter}
use Rattle.number.proofs.Steps.{before, first_last, first_more, later_last, later_more}

-- a byte that says more, and what the rest gave, are the number again
joined : (n at l : ℕ) → before (128 + n % 128) (number (n / 128) (at + 1 + l)) ≡ number n (at + suc l)
joined n at l =
    let e : (128 + n % 128) % 128 + 128 * (n / 128) ≡ n = omega arith in
    let k : at + 1 + l ≡ at + suc l = omega arith in
    cc

module _ (s rest : List ℕ) where
  -- after a byte that says more: the last byte
  later_ends : (f n at : ℕ) → 0 < n → n < 128 → drop at s ≡ bytes_from f n ++ rest
      → later_at (suc f) s at ≡ number n (at + length (bytes_from f n))
  later_ends f n at p b e =
      let h : Here s at n rest = here s at n rest (rw (from_last f n b) at e) in
      rw (from_last f n b) (later_last f s at n h.inside h.item b (λ z. omega arith))

  -- .. or one that says more again
  later_read : (f n at : ℕ) → 0 < n → n < 128 ^ suc f → drop at s ≡ bytes_from f n ++ rest
      → later_at (suc f) s at ≡ number n (at + length (bytes_from f n))
  later_read zero n at p b e = later_ends zero n at p b e
  later_read (suc f) n at p b e =
      ⊎_elim (λ t. later_ends (suc f) n at p (ltb-true n 128 t) e)
      (λ t.
      let l : 128 ≤ n = ltb-false n 128 t in
      let h : Here s at (128 + n % 128) (bytes_from f (n / 128) ++ rest) = here s at _ _ (rw (from_more f n l) at e) in
      rw (from_more f n l)
      (later_more (suc f) s at (128 + n % 128) h.inside h.item (omega arith)
      ∙ ap (before (128 + n % 128)) (later_read f (n / 128) (at + 1) (omega arith) (shorter (suc f) n b) h.rest)
      ∙ joined n at (length (bytes_from f (n / 128)))))
      (either (ltb n 128))

  -- what stood behind a number follows it
  pub behind_written : (n at : ℕ) → drop at s ≡ bytes_of n ++ rest → drop (at + length (bytes_of n)) s ≡ rest
  behind_written n at e = sym (drop-drop (length (bytes_of n)) at s) ∙ ap (drop (length (bytes_of n))) e ∙ drop-append_seam (bytes_of n) rest

pub read_written : ReadsWritten number_at
unfolding bytes_of
read_written s rest n at b e =
    ⊎_elim
    (λ t.
    let l : n < 128 = ltb-true n 128 t in
    let h : Here s at n rest = here s at _ _ (rw (from_last 4 n l) at e) in
    rw (from_last 4 n l) (first_last s at n h.inside h.item l))
    (λ t.
    let l : 128 ≤ n = ltb-false n 128 t in
    let h : Here s at (128 + n % 128) (bytes_from 3 (n / 128) ++ rest) = here s at _ _ (rw (from_more 3 n l) at e) in
    rw (from_more 3 n l)
    (first_more s at (128 + n % 128) h.inside h.item (omega arith)
    ∙ ap (before (128 + n % 128)) (later_read s rest 3 (n / 128) (at + 1) (omega arith) (shorter 4 n (omega arith)) h.rest)
    ∙ joined n at (length (bytes_from 3 (n / 128)))))
    (either (ltb n 128))
