-- Several numbers one after the other, as a record has them. Both laws of the number, stated from a place on,
-- so that they chain with no sum of lengths: `ahead_first` and `ahead_rest` read what was written, `◌◂◌` and
-- `ahead_none` put together what was read.
use mathlib.Core.Path.{◌≡◌, sym, ◌∙◌, ap}
use mathlib.Core.List.{List, [], ◌∷◌, ◌++◌, append_assoc}
use Prim.Native.Nat.{ℕ, ◌+◌, ◌-◌, ◌<◌, ◌≤◌}
use native.Mathlib.Omega.{arith}
use lib.ListN.{length, drop, drop_of_length-le, length-drop}
use Rattle.number.specs.Form.{limit, bytes_of, bytes_of_all}
use Rattle.number.specs.Reading.{number, number_at}
use Rattle.number.proofs.ReadWritten.{read_written, behind_written}
use Rattle.number.proofs.WrittenRead.{Holds}

-- from place at on, s is the numbers ns, and then the bytes after them
pub record Ahead (s : List ℕ) (at : ℕ) (ns after : List ℕ) : Type 0 where
  pub is : drop at s ≡ bytes_of_all ns ++ after

-- ---- what was written is read

module _ {s : List ℕ} {at n : ℕ} {ns after : List ℕ} (a : Ahead s at (n ∷ ns) after) where
  apart : drop at s ≡ bytes_of n ++ (bytes_of_all ns ++ after)
  unfolding bytes_of_all
  apart = a.is ∙ append_assoc (bytes_of n) (bytes_of_all ns) after

  pub ahead_first : n < limit → number_at s at ≡ number n (at + length (bytes_of n))
  ahead_first b = read_written s (bytes_of_all ns ++ after) n at (omega arith) apart

  pub ahead_rest : Ahead s (at + length (bytes_of n)) ns after
  ahead_rest = record { is = behind_written s (bytes_of_all ns ++ after) n at apart }

-- after the last number: as many bytes are left as follow it
pub ahead_end : {s : List ℕ} {at : ℕ} {after : List ℕ} → Ahead s at [] after → length s - at ≡ length after
unfolding bytes_of_all
ahead_end {s} {at} a = sym (length-drop at s) ∙ ap length a.is

-- ---- what is read was written

-- a number that was read, before the numbers that follow it
infixr 5 ◌◂◌
pub ◌◂◌ : {s : List ℕ} {at n next : ℕ} {ns after : List ℕ} → Holds s at n next → Ahead s next ns after → Ahead s at (n ∷ ns) after
unfolding bytes_of_all
◌◂◌ {n = n} {ns = ns} {after = after} w a =
    record { is = w.bytes ∙ ap (λ (x : List ℕ). bytes_of n ++ x) a.is ∙ sym (append_assoc (bytes_of n) (bytes_of_all ns) after) }

pub ahead_none : (s : List ℕ) (at : ℕ) → length s ≤ at → Ahead s at [] []
unfolding bytes_of_all
ahead_none s at h = record { is = drop_of_length-le s h }
