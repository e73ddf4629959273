-- The items of a list, cut off one by one: n of w numbers each, from a place on.
use Rattle.std.specs.Prelude.{ℕ, ◌+◌, ◌-◌, ◌*◌, ◌≤◌, ◌<◌, List, ◌++◌, ◌≡◌, length, take, drop}
use Rattle.std.proofs.Common.{sym, ap, ◌∙◌, arith, add_assoc, suc-mul, length-drop, length-take-le, length-append, mul-le-mul_right}
use Rattle.std.proofs.lemmas.List.{get_or-drop, get_or-take, get_or_append_left, drop_at, drop-drop}
use Rattle.std.proofs.Math.Decide.{dec_lt}
use Rattle.ids.specs.Ids.{at}

module _ (vs : List ℕ) (place n w : ℕ) where
  -- the numbers behind the first k items
  abbrev pub behind : ℕ → List ℕ
  behind k = drop (k * w) (take (n * w) (drop place vs))

  module _ (fits : place + n * w ≤ length vs) where
    length-behind : (k : ℕ) → length (behind k) ≡ n * w - k * w
    length-behind k = length-drop (k * w) (take (n * w) (drop place vs)) ∙ ap (λ (x : ℕ). x - k * w) (length-take-le (n * w) (drop place vs) (omega (arith, length-drop place vs, fits)))

    -- where no item is left, all are passed
    pub all-passed : (k : ℕ) → k ≤ n → length (behind k) < w → k ≡ n
    all-passed k l s = elim (dec_lt k n) [
      | yes m ↦ absurd (omega (arith, length-behind k, s, mul-le-mul_right w (let z : k + 1 ≤ n = omega arith in z), suc-mul k w))
      | no m ↦ omega arith
    ]

    -- one that is cut off
    module _ (k : ℕ) (item rest : List ℕ) (some : 0 < w) (cut : behind k ≡ item ++ rest) (long : length item ≡ w) where
      pub one-more : k < n
      one-more = elim (dec_lt k n) [
        | yes m ↦ m
        | no m ↦ absurd (omega (arith, length-behind k, ap length cut, length-append item rest, long, some, mul-le-mul_right w (let z : n ≤ k = omega arith in z)))
      ]

      pub rest-is : rest ≡ behind (k + 1)
      rest-is =
          let next : (k + 1) * w ≡ k * w + w = omega (arith, suc-mul k w) in
          sym (drop_at item rest w long) ∙ ap (drop w) (sym cut) ∙ drop-drop w (k * w) (take (n * w) (drop place vs)) ∙ ap (λ (x : ℕ). drop x (take (n * w) (drop place vs))) (sym next)

      pub field-at : (f : ℕ) → f < w → at item f ≡ at vs (place + k * w + f)
      field-at f l =
          let inside : k * w + f < n * w = omega (arith, length-behind k, ap length cut, length-append item rest, long, l) in
          sym (get_or_append_left item rest 0 f (omega (arith, l, long))) ∙ ap (λ (xs : List ℕ). at xs f) (sym cut) ∙ get_or-drop (k * w) (take (n * w) (drop place vs)) f 0
          ∙ get_or-take (n * w) (drop place vs) (k * w + f) 0 inside ∙ get_or-drop place vs (k * w + f) 0 ∙ ap (at vs) (sym (add_assoc place (k * w) f))
