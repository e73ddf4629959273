-- Laws of words: one more character, and one more word.
use Prim.Native.Nat.{ℕ, suc, ◌+◌, ◌-◌, ◌≤◌, ◌<◌}
use mathlib.Core.Bool.{true, false}
use mathlib.Core.List.{List, [], ◌∷◌, ◌++◌}
use mathlib.Core.Path.{◌≡◌, refl, ap}
use native.Mathlib.Nat.{add-zero}
use native.Mathlib.Numerals.{add-one}
use native.Mathlib.Omega.{arith}
use lib.ListN.{length, get_or, take, drop, length-drop}
use lib.Seq.{take-suc, drop-cons, get_or-drop, length-take-le}
use Rattle.text.specs.Words.{separates, closed, words_from, words, spelled, numbers, Starts, Stops}

module _ (s : List ℕ) (i : ℕ) (l : i < length s) where
  pub separator-passed : separates (get_or s i 0) ≡ true → words (drop i s) ≡ words (drop (i + 1) s)
  unfolding words_from closed
  separator-passed e = rw (drop-cons s i 0, e, add-one)

  pub character-joined : (p : ℕ) → p ≤ i → separates (get_or s i 0) ≡ false → words_from (take (i - p) (drop p s)) (drop i s) ≡ words_from (take (i + 1 - p) (drop p s)) (drop (i + 1) s)
  unfolding words_from
  character-joined p h e =
      let k : i + 1 - p ≡ suc (i - p) = omega arith in
      let n : i - p < length (drop p s) = rw length-drop (omega arith) in
      let q : p + (i - p) ≡ i = omega arith in
      rw (k, take-suc (drop p s) (i - p) 0 n, get_or-drop p s (i - p) 0, q, drop-cons s i 0, e, add-one)

-- a word is closed by a separator, or by the end
closes : (w r : List ℕ) → 0 < length w → (0 < length r → separates (get_or r 0 0) ≡ true) → words_from w r ≡ w ∷ words r
unfolding words_from closed
closes [] r h e = absurd (omega arith)
closes (b ∷ w) [] h e = refl
closes (b ∷ w) (x ∷ r) h e = rw (e (omega arith))

pub word-closed : (s : List ℕ) (p i : ℕ) → p < i → i ≤ length s → (i < length s → separates (get_or s i 0) ≡ true) → words_from (take (i - p) (drop p s)) (drop i s) ≡ take (i - p) (drop p s) ∷ words (drop i s)
word-closed s p i h l e =
    let w = take (i - p) (drop p s) in
    let long : length w ≡ i - p = length-take-le (i - p) (drop p s) (rw length-drop (omega arith)) in
    closes w (drop i s) (omega arith) (λ n. rw (get_or-drop i s 0 0, add-zero) (e (omega (arith, length-drop i s))))

-- the numbers of a text that begins with a word
pub numbers-next : (s : List ℕ) (p e q v : ℕ) → Stops s p e → Starts s e q → v ≡ spelled (take (e - p) (drop p s)) → numbers (drop p s) ≡ v ∷ numbers (drop q s)
unfolding numbers
numbers-next s p e q v a b h = rw (a.word, b.passes, h)

-- the first of the numbers that are left
pub next-number : (ns t : List ℕ) (n v : ℕ) → drop n ns ≡ v ∷ t → (n < length ns) × (take (n + 1) ns ≡ take n ns ++ (v ∷ [])) × (drop (n + 1) ns ≡ t)
next-number ns t n v e =
    let long = length-drop n ns in
    let l : n < length ns = omega (arith, ap length e) in
    let c = drop-cons ns n 0 l in
    let first : get_or ns n 0 ≡ v = cc in
    let rest : drop (suc n) ns ≡ t = cc in
    (l, rw (add-one, take-suc ns n 0, first), rw add-one rest)
