-- What the loops over a row by id compute is what the questions ask.
use Rattle.std.specs.Prelude.{ℕ, ◌+◌, ◌<◌, ◌≡◌, refl, Bool, true, ◌&&◌, ◌||◌, List, eqb, length, set, replicate}
use Rattle.std.proofs.Common.{sym, ◌∙◌, arith, length-set, get_or-set_same, get_or-set_other, eqb-true}
use Rattle.std.proofs.Math.Bool.{false, or-true, or-false}
use Rattle.std.proofs.Math.ListN.{length-replicate, get_or-replicate}
use Rattle.std.proofs.lemmas.Bool.{eqb-false}
use Rattle.ids.specs.Ids.{holds, any_to, all_to, tabulate}
use Rattle.ids.specs.Tests.{any_step, all_same}
use Rattle.ids.specs.Tables.{get_or-tabulate, is-tabulate}
use Rattle.limits.specs.Limits.{sellers}
use Rattle.year.specs.declared.Listing.{Listing}
use Rattle.year.specs.declared.Terms.{Terms}
use Rattle.year.specs.Year.{listed, deficit, seller, size}
use Rattle.question_conditions.specs.Entries.{has_entry, deficits_listed}

-- each seller is marked that has an entry among the first i registrations
pub record Marked (T : Terms) (l : Listing) (marks : List Bool) (i : ℕ) : Type 0 where
  pub long : length marks ≡ sellers
  pub marked : (s : ℕ) → s < sellers → holds marks s ≡ any_to i (λ j. listed l j && eqb (seller T j) s)

module _ (T : Terms) (l : Listing) where
  pub marked-none : Marked T l (replicate sellers false) 0
  unfolding any_to
  marked-none = record { long = length-replicate sellers false; marked = λ s m. get_or-replicate sellers s false false m }

  module _ {marks : List Bool} (i : ℕ) (h : Marked T l marks i) where
    -- a registration that is not listed, and one that is
    pub marked-same : listed l i ≡ false → Marked T l marks (i + 1)
    marked-same e =
        record { long = h.long; marked = λ s m. h.marked s m ∙ sym (any_step i _ ∙ rw e (or-false _)) }

    pub marked_more : listed l i ≡ true → seller T i < sellers → Marked T l (set marks (seller T i) true) (i + 1)
    marked_more e b =
        record { long = length-set marks (seller T i) true ∙ h.long; marked = λ s m. go s m (eqb (seller T i) s) refl }
      where
        go : (s : ℕ) → s < sellers → (t : Bool) → eqb (seller T i) s ≡ t → holds (set marks (seller T i) true) s ≡ any_to (i + 1) (λ j. listed l j && eqb (seller T j) s)
        go s m true q =
            let here : seller T i ≡ s = eqb-true (seller T i) s q in
            rw (any_step i (λ j. listed l j && eqb (seller T j) s), e, q, or-true (any_to i (λ j. listed l j && eqb (seller T j) s)), here)
            (get_or-set_same marks s true false (omega (arith, h.long)))
        go s m false q =
            rw (any_step i (λ j. listed l j && eqb (seller T j) s), e, q, or-false (any_to i (λ j. listed l j && eqb (seller T j) s)))
            (get_or-set_other marks (seller T i) s true false (λ z. eqb-false (seller T i) s q (sym z)) ∙ h.marked s m)

  pub marked_all : {marks : List Bool} {i : ℕ} → Marked T l marks i → i ≡ size T
      → marks ≡ tabulate sellers (has_entry T l)
  marked_all {marks} {i} h e =
      is-tabulate (has_entry T l) sellers false marks h.long (λ s m. rw e at (h.marked s m))

  -- every deficit's seller is marked
  pub deficits-listed : {marks : List Bool} → marks ≡ tabulate sellers (has_entry T l)
      → all_to sellers (λ s. eqb (deficit l s) 0 || holds marks s) ≡ deficits_listed T l
  unfolding deficits_listed
  deficits-listed e = rw e (all_same sellers (λ s m. rw (get_or-tabulate (has_entry T l) sellers s _ m)))
