-- The summary that was carried along is the one worked out afresh.
use mathlib.Core.Path.{◌≡◌, refl, sym, ◌∙◌, ap}
use mathlib.Core.Bool.{Bool, true, false}
use mathlib.Core.List.{List, [], ◌∷◌}
use Prim.Native.Nat.{ℕ, zero, suc, ◌+◌, ◌≤◌, ◌<◌, min, max}
use native.Mathlib.Omega.{arith}
use lib.Dec.{eqb}
use lib.ListN.{length, get_or, set, replicate, length-set, length-replicate, get_or-replicate}
use lib.Seq.{ext_get_or, get_or-set_same, get_or-set_other}
use borrow.Author.Tests.{eqb-true, eqb-false}
use Rattle.summary.specs.Summary.{quarters, quarter_of, greatest_count, empty_summary, summary_of}
use Rattle.summary.specs.Summary.{with_offset, after_event}
use Rattle.summary.specs.Afresh.{Taken, sizes_in, largest_of, list_of, afresh, CarriedIsAfresh}
use Rattle.summary.specs.Afresh.{count_afresh, largest_afresh}
use Rattle.summary.specs.declared.cells.Summary.{Summary}
use Rattle.summary.proofs.Carrying.{with_all, carried_with}

-- One of the two arrays: an offset of a size makes `grown n size` of the number n of its quarter-hour.
module _ (grown : ℕ → ℕ → ℕ) where
  -- the array after an offset, and after some
  abbrev put : Taken → List ℕ → List ℕ
  put t l = set l (quarter_of t.seconds) (grown (get_or l (quarter_of t.seconds) 0) t.size)

  along : List Taken → List ℕ → List ℕ
  along [] l = l
  along (t ∷ ts) l = along ts (put t l)

  -- the number of one quarter-hour after the sizes in it
  grown_by : List ℕ → ℕ → ℕ
  grown_by [] n = n
  grown_by (s ∷ ss) n = grown_by ss (grown n s)

  along_length : (ts : List Taken) (l : List ℕ) → length (along ts l) ≡ length l
  unfolding along
  along_length [] l = refl
  along_length (t ∷ ts) l = along_length ts (put t l) ∙ length-set l _ _

  module _ (q : ℕ) where
    abbrev here : Taken → Bool
    here t = eqb (quarter_of t.seconds) q

    put_here : (t : Taken) (l : List ℕ) → q < length l → here t ≡ true → get_or (put t l) q 0 ≡ grown (get_or l q 0) t.size
    put_here t l h e = rw (eqb-true (quarter_of t.seconds) q e) (get_or-set_same l q _ 0 h)

    put_elsewhere : (t : Taken) (l : List ℕ) → here t ≡ false → get_or (put t l) q 0 ≡ get_or l q 0
    put_elsewhere t l e = get_or-set_other l _ q _ 0 (λ i. eqb-false _ _ e (sym i))

    abbrev At : List Taken → List ℕ → Type 0
    At ts l = get_or (along ts l) q 0 ≡ grown_by (sizes_in q ts) (get_or l q 0)

    first_at : (t : Taken) (ts : List Taken) (l : List ℕ) → q < length l → At ts (put t l) → (b : Bool) → here t ≡ b → At (t ∷ ts) l
    unfolding along grown_by sizes_in
    first_at t ts l h i true e = simp e (i ∙ ap (grown_by (sizes_in q ts)) (put_here t l h e))
    first_at t ts l h i false e = simp e (i ∙ ap (grown_by (sizes_in q ts)) (put_elsewhere t l e))

    along_at : (ts : List Taken) (l : List ℕ) → q < length l → At ts l
    unfolding along grown_by sizes_in
    along_at [] l h = refl
    along_at (t ∷ ts) l h = first_at t ts l h (along_at ts (put t l) (rw (length-set l _ _) h)) (here t) refl

-- ---- the two arrays

abbrev counted : ℕ → ℕ → ℕ
counted n size = min greatest_count (n + 1)

count_grown : (ss : List ℕ) (n : ℕ) → n ≤ greatest_count → grown_by counted ss n ≡ min greatest_count (n + length ss)
unfolding grown_by
count_grown [] n h = omega arith
count_grown (s ∷ ss) n h = omega (arith, count_grown ss (counted n s) (omega arith))

largest_grown : (ss : List ℕ) (n : ℕ) → grown_by max ss n ≡ max n (largest_of ss)
unfolding grown_by largest_of
largest_grown [] n = omega arith
largest_grown (s ∷ ss) n = omega (arith, largest_grown ss (max n s))

-- a summary moves by its two arrays
with_along : (ts : List Taken) (m : Summary)
    → with_all ts m ≡ summary_of (along counted ts m.counts) (along max ts m.largest)
unfolding with_all along with_offset
with_along [] m = refl
with_along (t ∷ ts) m = with_along ts (with_offset (quarter_of t.seconds) t.size m)

-- ---- an array as the list of a function's values

length_list : (f : ℕ → ℕ) (k n : ℕ) → length (list_of f k n) ≡ n
unfolding list_of
length_list f k zero = refl
length_list f k (suc n) = ap suc (length_list f (suc k) n)

get_d_list : (f : ℕ → ℕ) (k n i : ℕ) → i < n → get_or (list_of f k n) i 0 ≡ f (k + i)
unfolding list_of
get_d_list f k zero i h = absurd (omega arith)
get_d_list f k (suc n) zero h = ap f (omega arith)
get_d_list f k (suc n) (suc i) h = get_d_list f (suc k) n i (omega arith) ∙ ap f (omega arith)

-- the array that starts with zeros, quarter-hour by quarter-hour
module _ (grown : ℕ → ℕ → ℕ) (ts : List Taken) (f : ℕ → ℕ) where
  abbrev zeros : List ℕ
  zeros = replicate quarters 0

  from_zeros : ((q : ℕ) → grown_by grown (sizes_in q ts) 0 ≡ f q) → along grown ts zeros ≡ list_of f 0 quarters
  from_zeros g =
      ext_get_or 0 (along grown ts zeros) (list_of f 0 quarters) (long ∙ sym (length_list f 0 quarters)) λ q h.
      let i : q < quarters = omega (arith, long) in
      let z : get_or {A = ℕ} zeros q 0 ≡ 0 = get_or-replicate {A = ℕ} quarters q 0 0 i in
      let a = along_at grown q ts zeros (omega (arith, length-replicate {A = ℕ} quarters 0)) in
      a ∙ ap (grown_by grown (sizes_in q ts)) z ∙ g q ∙ sym (get_d_list f 0 quarters q i ∙ ap f (omega arith))
    where
      long : length (along grown ts zeros) ≡ quarters
      long = along_length grown ts zeros ∙ length-replicate {A = ℕ} quarters 0

module _ (ts : List Taken) where
  counts_from : along counted ts empty_summary.counts ≡ list_of (count_afresh ts) 0 quarters
  counts_from =
      from_zeros counted ts (count_afresh ts) (λ q. count_grown (sizes_in q ts) 0 (omega arith) ∙ omega arith)

  largest_from : along max ts empty_summary.largest ≡ list_of (largest_afresh ts) 0 quarters
  largest_from = from_zeros max ts (largest_afresh ts) (λ q. largest_grown (sizes_in q ts) 0 ∙ omega arith)

  all_afresh : with_all ts empty_summary ≡ afresh ts
  unfolding afresh
  all_afresh = with_along ts empty_summary ∙ rw (counts_from, largest_from)

pub carried_is_afresh : CarriedIsAfresh after_event
carried_is_afresh c events = carried_with _ _ empty_summary ∙ all_afresh _
