-- Laws of digits: a value is below 16, and one more pair.
use Prim.Native.Nat.{ℕ, zero, suc, ◌+◌, ◌-◌, ◌*◌, ◌<◌}
use mathlib.Core.Bool.{Bool, true, false, cond}
use mathlib.Core.List.{List, [], ◌∷◌, ◌++◌, append_assoc}
use mathlib.Core.Path.{◌≡◌, refl}
use native.Mathlib.Numerals.{add-one}
use native.Mathlib.Omega.{arith}
use borrow.Author.Tests.{ltb-true}
use lib.Dec.{ltb}
use lib.ListN.{length, get_or, drop, set, length-append}
use lib.Seq.{drop-cons, set_at}
use Rattle.text.specs.Digits.{digit, pairs}

pub digit_lt : (b : ℕ) → digit b < 16
unfolding digit
digit_lt b = go (ltb b 48) (ltb b 58) refl (ltb b 97) (ltb b 103) refl
  where
    go : (w x : Bool) → ltb b 58 ≡ x → (y z : Bool) → ltb b 103 ≡ z → cond w 0 (cond x (b - 48) (cond y 0 (cond z (b - 87) 0))) < 16
    go true x p y z q = omega arith
    go false true p y z q = omega (arith, ltb-true b 58 p)
    go false false p true z q = omega arith
    go false false p false true q = omega (arith, ltb-true b 103 q)
    go false false p false false q = omega arith

length_pairs : (s : List ℕ) (n : ℕ) → length (pairs s n) ≡ n
unfolding pairs
length_pairs s zero = refl
length_pairs s (suc n) = rw (length-append, length_pairs s n) (omega arith)

-- one more element over the front
pub front-more : (xs old : List ℕ) (i v : ℕ) → length xs ≡ i → i < length old → set (xs ++ drop i old) i v ≡ (xs ++ (v ∷ [])) ++ drop (suc i) old
front-more xs old i v e l = rw (drop-cons old i 0 l, set_at xs (get_or old i 0) (drop (suc i) old) v i e, append_assoc)

pub pairs-more : (s old : List ℕ) (i : ℕ) → i < length old
    → set (pairs s i ++ drop i old) i (16 * digit (get_or s (2 * i) 0) + digit (get_or s (2 * i + 1) 0)) ≡ pairs s (i + 1) ++ drop (i + 1) old
unfolding pairs
pairs-more s old i l = rw (add-one i) (front-more (pairs s i) old i _ (length_pairs s i) l)
