-- The allotment along a list of weights, by running sum: it is the allotment by place, and one over some of the parties is one over all.
use Rattle.std.specs.Prelude.{ℕ, zero, suc, ◌+◌, ◌*◌, ◌-◌, ◌/◌, Bool, ◌≡◌, length}
use Rattle.std.proofs.Math.Bool.{true, false, cond}
use mathlib.Core.List.{List, [], ◌∷◌, map}
use Rattle.std.proofs.Math.Path.{refl}
use Rattle.std.proofs.Common.{sym, add-zero, zero-add, add_assoc}
use native.Mathlib.Omega.{arith}
use Rattle.std.proofs.Math.Nat.{sub_self}
use Rattle.ids.specs.Ids.{at, sum_to}
use Rattle.allotment.specs.Allot.{share}

unfoldable pub sum : List ℕ → ℕ
sum [] = 0
sum (x ∷ xs) = x + sum xs

-- a by weights of sum W, of which s stand before these
unfoldable pub shares : ℕ → ℕ → ℕ → List ℕ → List ℕ
shares a W s [] = []
shares a W s (x ∷ xs) = (a * (s + x) / W - a * s / W) ∷ shares a W (s + x) xs

unfoldable pub allot : ℕ → List ℕ → List ℕ
allot a ws = shares a (sum ws) 0 ws

sum-cons : (x : ℕ) (xs : List ℕ) (k : ℕ) → sum_to (suc k) (at (x ∷ xs)) ≡ x + sum_to k (at xs)
unfolding sum_to
sum-cons x xs zero = omega arith
sum-cons x xs (suc k) = omega (arith, sum-cons x xs k)

pub sum-places : (ws : List ℕ) → sum ws ≡ sum_to (length ws) (at ws)
unfolding sum sum_to
sum-places [] = refl
sum-places (x ∷ xs) = omega (arith, sum-places xs, sum-cons x xs (length xs))

-- what goes along a list of weights by running sum, whatever it is
record Running (a W : ℕ) (f : ℕ → List ℕ → List ℕ) : Type 0 where
  none : (s : ℕ) → f s [] ≡ []
  more : (s x : ℕ) (xs : List ℕ) → f s (x ∷ xs) ≡ (a * (s + x) / W - a * s / W) ∷ f (s + x) xs

running_at : {a W : ℕ} {f : ℕ → List ℕ → List ℕ} → Running a W f → (ws : List ℕ) (s i : ℕ)
    → at (f s ws) i ≡ a * (s + sum_to (suc i) (at ws)) / W - a * (s + sum_to i (at ws)) / W
unfolding sum_to
running_at {a} {W} r [] s i = rw (r.none s) (sym (rw (add-zero (sum_to i (at []))) (sub_self (a * (s + sum_to i (at [])) / W))))
running_at r (x ∷ xs) s zero = rw (r.more s x xs, zero-add x, add-zero s)
running_at r (x ∷ xs) s (suc i) =
    rw (r.more s x xs, sum-cons x xs (suc i), sum-cons x xs i, ← add_assoc s x (sum_to (suc i) (at xs)), ← add_assoc s x (sum_to i (at xs)))
    (running_at r xs (s + x) i)

shares_at : (a W : ℕ) (ws : List ℕ) (s i : ℕ)
    → at (shares a W s ws) i ≡ a * (s + sum_to (suc i) (at ws)) / W - a * (s + sum_to i (at ws)) / W
unfolding shares
shares_at a W = running_at {f = shares a W} (record { none = λ s. refl; more = λ s x xs. refl })

-- each share along the list is the share by place
pub allot-at : (a : ℕ) (ws : List ℕ) (i : ℕ) → at (allot a ws) i ≡ share (length ws) (at ws) a i
unfolding allot shares share
allot-at a ws i =
    let each = running_at {f = shares a (sum ws)} (record { none = λ s. refl; more = λ s x xs. refl }) ws 0 i in
    rw (← (sum-places ws)) (rw (zero-add (sum_to (suc i) (at ws)), zero-add (sum_to i (at ws))) at each)

-- parties of any type, of which p picks some
module _ {E : Type 0} (p : E → Bool) where
  unfoldable pub filter : List E → List E
  filter [] = []
  filter (x ∷ xs) = cond (p x) (x ∷ filter xs) (filter xs)

  -- of a list beside the parties, what stands beside those that p picks
  unfoldable pub beside : List E → List ℕ → List ℕ
  beside [] vs = []
  beside (x ∷ xs) [] = []
  beside (x ∷ xs) (v ∷ vs) = cond (p x) (v ∷ beside xs vs) (beside xs vs)

-- allotted over the chosen alone, and over all with weight 0 for the others
module _ {E : Type 0} (p : E → Bool) (w : E → ℕ) where
  abbrev pub others0 : List E → List ℕ
  others0 = map (λ x. cond (p x) (w x) 0)

  filter-sum : (es : List E) → sum (map w (filter p es)) ≡ sum (others0 es)
  unfolding sum filter
  filter-sum [] = refl
  filter-sum (x ∷ xs) = go (p x) (filter-sum xs)
    where
      go : (b : Bool) → sum (map w (filter p xs)) ≡ sum (others0 xs) → sum (map w (cond b (x ∷ filter p xs) (filter p xs))) ≡ cond b (w x) 0 + sum (others0 xs)
      go true h = omega arith
      go false h = omega arith

  filter-running : {a W : ℕ} {f : ℕ → List ℕ → List ℕ} → Running a W f → (es : List E) (s : ℕ) → f s (map w (filter p es)) ≡ beside p es (f s (others0 es))
  unfolding filter beside
  filter-running r [] s = r.none s
  filter-running {a} {W} {f} r (x ∷ xs) s = rw (r.more s (cond (p x) (w x) 0) (others0 xs)) (go (p x) (filter-running r xs))
    where
      go : (b : Bool) → ((s : ℕ) → f s (map w (filter p xs)) ≡ beside p xs (f s (others0 xs)))
          → f s (map w (cond b (x ∷ filter p xs) (filter p xs)))
          ≡ cond b ((a * (s + cond b (w x) 0) / W - a * s / W) ∷ beside p xs (f (s + cond b (w x) 0) (others0 xs))) (beside p xs (f (s + cond b (w x) 0) (others0 xs)))
      go true h = rw (r.more s (w x) (map w (filter p xs)), h (s + w x))
      go false h = rw (add-zero s) (h s)

  filter-shares : (a W : ℕ) (es : List E) (s : ℕ) → shares a W s (map w (filter p es)) ≡ beside p es (shares a W s (others0 es))
  unfolding shares
  filter-shares a W = filter-running {f = shares a W} (record { none = λ s. refl; more = λ s x xs. refl })

  pub filter-allot : (a : ℕ) (es : List E) → allot a (map w (filter p es)) ≡ beside p es (allot a (others0 es))
  unfolding allot shares
  filter-allot a es =
      rw (filter-sum es) (filter-running {f = shares a (sum (others0 es))} (record { none = λ s. refl; more = λ s x xs. refl }) es 0)
