-- The sizes of a statement: each value fits its field, and the largest statement has 2830 bits.
use Rattle.std.specs.Prelude.{ℕ, zero, suc, ◌+◌, ◌*◌, ◌^◌, ◌≤◌, ◌<◌, Bool, true, false, cond, List, [], ◌∷◌, ◌++◌, ◌≡◌, length}
use native.Mathlib.Omega.{arith}
use Rattle.std.proofs.lemmas.List.{length-map}
use Rattle.ids.specs.Ids.{count_to, tabulate}
use Rattle.ids.specs.Sums.{count_most}
use Rattle.limits.specs.Limits.{parties, sellers, statement_limit}
use Rattle.bits.specs.Table.{Valid}
use Rattle.bits.specs.Pack.{bytes_for}
use Rattle.bits.specs.PackLaws.{length-encode}
use Rattle.year.specs.declared.Terms.{Terms}
use Rattle.year.specs.declared.Amounts.{Amounts}
use Rattle.year.specs.Year.{lse_count}
use Rattle.year.specs.Sound.{SoundTerms}
use Rattle.year.specs.Limits.{lse-count-is}
use Rattle.statement.specs.Statement.{Field, widths_of, values_of, difference, has_registration, has_obligation, seller_columns, amount_field, line_fields, seller_fields, lse_fields, lines_to, statement_fields, statement_of}
use Rattle.statement.specs.Lines.{bits_in, bits-append, lines-bits}

-- each value fits its width
abbrev pub Fitting : List Field → Type 0
Fitting fs = Valid (widths_of fs) (values_of fs)

fitting-append : (a b : List Field) → Fitting a → Fitting b → Fitting (a ++ b)
fitting-append [] b h k = k
fitting-append (f ∷ a) b h k = (h.0, fitting-append a b h.1 k)

pub same_length : (fs : List Field) → length (values_of fs) ≡ length (widths_of fs)
same_length fs = rw (length-map fs (λ f. f.1), length-map fs (λ f. f.0))

pub difference_below : (now before : ℕ) → difference now before < 2 ^ 42
unfolding difference
difference_below now before = omega arith

fitting-amounts : (n : ℕ) (now before : List ℕ) (i : ℕ) → Fitting (tabulate n (amount_field now before i))
unfolding tabulate
fitting-amounts zero now before i = tt
fitting-amounts (suc n) now before i =
    fitting-append (tabulate n (amount_field now before i)) (amount_field now before i n ∷ []) (fitting-amounts n now before i) (difference_below _ _, tt)

fitting-lines : (m n : ℕ) (p : ℕ → Bool) (now before : List ℕ) → m ≤ parties → Fitting (lines_to m p (line_fields n now before))
unfolding lines_to line_fields
fitting-lines zero n p now before l = tt
fitting-lines (suc m) n p now before l =
    fitting-append (lines_to m p (line_fields n now before)) (cond (p m) (line_fields n now before m) []) (fitting-lines m n p now before (omega arith)) (go (p m))
  where
    go : (b : Bool) → Fitting (cond b (line_fields n now before m) [])
    go true = (omega arith, fitting-amounts n now before m)
    go false = tt

module _ {T : Terms} (s : SoundTerms T) (k : ℕ) (now before : Amounts) where
  pub statement-fits : k < 16 → Fitting (statement_fields T k now before)
  unfolding statement_fields
  statement-fits l =
      let m = lse-count-is s in
      let p = has_registration T in
      let q = has_obligation T in
      let A = lines_to sellers p (seller_fields now before) in
      let B = lines_to (lse_count T) q (lse_fields now before) in
      let a : Fitting A = fitting-lines sellers 3 p (seller_columns now) (seller_columns before) (omega arith) in
      let b : Fitting B = fitting-lines (lse_count T) 1 q now.lse before.lse (omega arith) in
      (omega arith, (omega (arith, count_most sellers p), (omega (arith, count_most (lse_count T) q), fitting-append A B a b)))

  -- a month of 4 bits and two counts of 5, and the lines
  pub bits-counted : bits_in (statement_fields T k now before) ≡ 14 + 130 * count_to sellers (has_registration T) + 46 * count_to (lse_count T) (has_obligation T)
  unfolding statement_fields
  bits-counted =
      let p = has_registration T in
      let q = has_obligation T in
      let A = lines_to sellers p (seller_fields now before) in
      let B = lines_to (lse_count T) q (lse_fields now before) in
      omega (arith, bits-append A B, lines-bits 3 (seller_columns now) (seller_columns before) p sellers, lines-bits 1 now.lse before.lse q (lse_count T))

  pub statement-bits : bits_in (statement_fields T k now before) ≤ 2830
  statement-bits =
      let m = lse-count-is s in
      omega (arith, bits-counted, count_most sellers (has_registration T), count_most (lse_count T) (has_obligation T))

  pub statement-length : length (statement_of T k now before) ≡ bytes_for (bits_in (statement_fields T k now before))
  unfolding statement_of
  statement-length = length-encode _ _ (same_length (statement_fields T k now before))

  pub statement-most : length (statement_of T k now before) ≤ statement_limit
  statement-most = omega (arith, statement-length, statement-bits)
