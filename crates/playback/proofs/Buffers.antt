-- Texts that are put into a buffer one after the other.
use mathlib.Core.Path.{◌≡◌, refl, sym, ◌∙◌, ap}
use mathlib.Core.List.{List, [], ◌∷◌, ◌++◌, append_assoc, append-nil}
use Prim.Native.Nat.{ℕ, ◌+◌, ◌-◌, ◌≤◌}
use native.Mathlib.Omega.{arith}
use lib.ListN.{length, take, drop, set, length-append, length-drop, drop_of_length-le}
use lib.Seq.{sets, sets-eq, length-sets, take_all, drop-drop, drop_at, take_at, length-take-le, drop-append_seam}
use borrow.Rule.Slice.PartMut.{mid_of, put_mid}
use Rattle.number.proofs.Lists.{sets_append}
use Rattle.playback.specs.Inner.{Puts}

pub puts_none : (buf : List ℕ) (at : ℕ) → Puts [] buf at buf at
puts_none buf at = record { stores = refl; place = omega arith }

pub puts_one : (buf : List ℕ) (at x : ℕ) → Puts (x ∷ []) buf at (set buf at x) (at + 1)
puts_one buf at x = record { stores = refl; place = refl }

-- one text after another
pub puts_then : {vs ws buf mid end : List ℕ} {at p q : ℕ} → Puts vs buf at mid p → Puts ws mid p end q → Puts (vs ++ ws) buf at end q
puts_then {vs} {ws} {buf} {mid} {end} {at} {p} {q} a b =
    record {
      stores = b.stores ∙ ap (λ (m : List ℕ). sets m p ws) a.stores ∙ ap (λ (k : ℕ). sets (sets buf at vs) k ws) a.place ∙ sets_append buf at vs ws;
      place = omega (arith, a.place, b.place, length-append vs ws);
    }

-- a text by another name
pub puts_as : {vs ws buf end : List ℕ} {at q : ℕ} → vs ≡ ws → Puts vs buf at end q → Puts ws buf at end q
puts_as e a = rw (e) at a

pub puts_length : {ws buf end : List ℕ} {at q : ℕ} → Puts ws buf at end q → length end ≡ length buf
puts_length {ws} {buf} {end} {at} a = ap length a.stores ∙ length-sets buf at ws

-- a text that was copied into the part of the buffer from a place on
module _ (ws buf : List ℕ) (at : ℕ) (room : at + length ws ≤ length buf) where
  whole_part : mid_of at (length buf - at) buf ≡ drop at buf
  whole_part = take_all (length buf - at) (drop at buf) (simp length-drop (omega arith))

  none_after : drop (length buf - at) (drop at buf) ≡ []
  none_after = drop_of_length-le (drop at buf) {i = length buf - at} (simp length-drop (omega arith))

  pub puts_part : {mid : List ℕ} {q : ℕ} → mid ≡ ws ++ drop (length ws) (mid_of at (length buf - at) buf) → q ≡ at + length ws
      → Puts ws buf at (put_mid at (length buf - at) buf mid) q
  puts_part copied end =
      record {
        stores =
            rw (none_after, copied, whole_part, drop-drop (length ws) at buf)
            (simp append-nil (sym (append_assoc (take at buf) ws (drop (at + length ws) buf)) ∙ sym (sets-eq ws buf at room)));
        place = end;
      }

  -- a text that was copied into a part of the buffer that is as long
  pub puts_copied : {mid : List ℕ} {q : ℕ} → mid ≡ ws → q ≡ at + length ws → Puts ws buf at (put_mid at (at + length ws - at) buf mid) q
  puts_copied copied end =
      let size : at + length ws - at ≡ length ws = omega arith in
      record {
        stores =
            rw (size, copied, drop-drop (length ws) at buf)
            (sym (append_assoc (take at buf) ws (drop (at + length ws) buf)) ∙ sym (sets-eq ws buf at room));
        place = end;
      }

module _ {ws buf end : List ℕ} {at q : ℕ} (a : Puts ws buf at end q) (room : at + length ws ≤ length buf) where
  spread : end ≡ take at buf ++ (ws ++ drop (at + length ws) buf)
  spread = a.stores ∙ sets-eq ws buf at room ∙ append_assoc (take at buf) ws (drop (at + length ws) buf)

  front : length (take at buf) ≡ at
  front = length-take-le at buf (omega arith)

  from_at : drop at end ≡ ws ++ drop (at + length ws) buf
  from_at = ap (drop at) spread ∙ drop_at (take at buf) _ at front

  -- what was written up to the place before the text, and the text, is what was written up to the place after
  -- it
  pub puts_take : take q end ≡ take at buf ++ ws
  puts_take =
      ap (take q) (a.stores ∙ sets-eq ws buf at room)
      ∙ take_at (take at buf ++ ws) _ q (omega (arith, length-append (take at buf) ws, front, a.place))

  -- and later bytes stay
  pub puts_drop : drop q end ≡ drop q buf
  puts_drop =
      ap (λ (k : ℕ). drop k end) a.place
      ∙ sym (drop-drop (length ws) at end)
      ∙ ap (drop (length ws)) from_at
      ∙ drop-append_seam ws _
      ∙ ap (λ (k : ℕ). drop k buf) (sym a.place)
