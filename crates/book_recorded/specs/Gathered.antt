-- Laws of what is gathered from a list of records, when one record more is accepted.
use Rattle.std.specs.Prelude.{ℕ, suc, ◌+◌, ◌-◌, ◌<◌, Bool, true, false, cond, ◌≡◌, eqb, ltb, length, set, get_or, replicate}
use mathlib.Core.List.{List, [], ◌∷◌, ◌++◌, append_assoc, append-nil}
use Rattle.std.proofs.Math.Path.{refl, ap}
use Rattle.std.proofs.Common.{sym, ◌∙◌, arith, length-set, length-append, get_or-set_same, get_or-set_other, lt-ltb, eqb-true}
use Rattle.std.proofs.lemmas.Bool.{eqb-false}
use Rattle.ids.specs.Ids.{tabulate}
use Rattle.ids.specs.Tables.{length-tabulate, get_or-tabulate, is-tabulate, tabulate-same}
use Rattle.book_recorded.specs.Recorded.{gather, last_or, sum_over}

module _ {A : Type 0} where
  pub gather-more : {B : Type 0} (f : B → List A) (xs : List B) (x : B) → gather f (xs ++ x ∷ []) ≡ gather f xs ++ f x
  unfolding gather
  gather-more f [] x = append-nil (f x)
  gather-more f (y ∷ xs) x = rw (gather-more f xs x) (sym (append_assoc (f y) (gather f xs) (f x)))

  pub gather-each : (xs : List A) → gather (λ x. x ∷ []) xs ≡ xs
  unfolding gather
  gather-each [] = refl
  gather-each (x ∷ xs) = ap (λ l. x ∷ l) (gather-each xs)

  pub some_more : (xs : List A) (x : A) → ltb 0 (length (xs ++ x ∷ [])) ≡ true
  some_more xs x = lt-ltb 0 (length (xs ++ x ∷ [])) (omega (arith, length-append xs (x ∷ [])))

  pub last_more : (d : A) (xs : List A) (x : A) → last_or d (xs ++ x ∷ []) ≡ x
  unfolding last_or
  last_more d [] x = refl
  last_more d (y ∷ xs) x = last_more y xs x

  pub last-alone : (d : A) (xs : List A) (b : Bool) (x : A) → last_or d (xs ++ cond b (x ∷ []) []) ≡ cond b x (last_or d xs)
  last-alone d xs true x = last_more d xs x
  last-alone d xs false x = rw (append-nil xs)

  -- a table with one element anew
  pub set-table : (n : ℕ) (f : ℕ → A) (i : ℕ) (v : A) → set (tabulate n f) i v ≡ tabulate n (λ j. cond (eqb i j) v (f j))
  set-table n f i v =
      is-tabulate (λ j. cond (eqb i j) v (f j)) n v (set (tabulate n f) i v) (length-set (tabulate n f) i v ∙ length-tabulate f n)
      (λ j l. go j l (eqb i j) refl)
    where
      go : (j : ℕ) → j < n → (b : Bool) → eqb i j ≡ b → get_or (set (tabulate n f) i v) j v ≡ cond b v (f j)
      go j l true q = rw (eqb-true i j q) (get_or-set_same (tabulate n f) j v v (omega (arith, length-tabulate f n)))
      go j l false q =
          get_or-set_other (tabulate n f) i j v v (λ z. eqb-false i j q (sym z)) ∙ get_or-tabulate f n j v l

  -- and with one element changed
  pub set-changed : (n : ℕ) (f : ℕ → A) (i : ℕ) (d : A) (g : A → A) → set (tabulate n f) i (g (get_or (tabulate n f) i d)) ≡ tabulate n (λ j. cond (eqb i j) (g (f j)) (f j))
  set-changed n f i d g =
      set-table n f i (g (get_or (tabulate n f) i d)) ∙ tabulate-same n (λ j l. go j l (eqb i j) refl)
    where
      go : (j : ℕ) → j < n → (b : Bool) → eqb i j ≡ b → cond b (g (get_or (tabulate n f) i d)) (f j) ≡ cond b (g (f j)) (f j)
      go j l true q = rw (eqb-true i j q, get_or-tabulate f n j d l)
      go j l false q = refl

  -- and with other elements at the ids that are picked
  pub over-table : (n : ℕ) (f : ℕ → A) (d : A) (picked : ℕ → Bool) (g : ℕ → A)
      → tabulate n (λ i. cond (picked i) (g i) (get_or (tabulate n f) i d)) ≡ tabulate n (λ i. cond (picked i) (g i) (f i))
  over-table n f d picked g = tabulate-same n (λ i l. rw (get_or-tabulate f n i d l))

-- rows behind a list, the first of them taken
set_next : {A : Type 0} (xs : List A) (n : ℕ) (d v : A) → set (xs ++ replicate (suc n) d) (length xs) v ≡ (xs ++ v ∷ []) ++ replicate n d
set_next [] n d v = refl
set_next (x ∷ xs) n d v = ap (λ l. x ∷ l) (set_next xs n d v)

pub sum_more : {A : Type 0} (f : A → ℕ) (xs : List A) (x : A) → sum_over f (xs ++ x ∷ []) ≡ sum_over f xs + f x
unfolding sum_over
sum_more f [] x = omega arith
sum_more f (y ∷ xs) x = omega (arith, sum_more f xs x)

pub length_more : {A : Type 0} (xs : List A) (x : A) → length (xs ++ x ∷ []) ≡ length xs + 1
length_more xs x = length-append xs (x ∷ [])

pub set-filled : {A : Type 0} (xs : List A) (n : ℕ) (d v : A) → length xs < n
    → set (xs ++ replicate (n - length xs) d) (length xs) v ≡ (xs ++ v ∷ []) ++ replicate (n - length (xs ++ v ∷ [])) d
set-filled xs n d v l =
    let m : n - length xs ≡ suc (n - length (xs ++ v ∷ [])) = omega (arith, length_more xs v) in
    rw m (set_next xs (n - length (xs ++ v ∷ [])) d v)
