-- What questions 10, 11, 14 and 21 ask of a record's entries and deficits.
use Rattle.std.specs.Prelude.{ℕ, Bool, not, ◌&&◌, ◌||◌, eqb}
use Rattle.std.specs.Bool.{beq}
use Rattle.ids.specs.Ids.{any_to, all_to}
use Rattle.limits.specs.Limits.{sellers}
use Rattle.year.specs.declared.Listing.{Listing}
use Rattle.year.specs.declared.Terms.{Terms}
use Rattle.year.specs.Year.{listed, deficit, known, seller, area, zone, product, size}

module _ (T : Terms) where
  -- is registration i known, and in the area; and of the zone and product
  unfoldable pub in_area : ℕ → ℕ → Bool
  in_area a i = known T i && eqb (area T i) a

  unfoldable pub in_group : ℕ → ℕ → ℕ → Bool
  in_group z p i = known T i && (eqb (zone T i) z && eqb (product T i) p)

  -- does p hold of every listed registration
  unfoldable pub every_listed : Listing → (ℕ → Bool) → Bool
  every_listed l p = all_to (size T) (λ i. not (listed l i) || p i)

  -- is a registration of seller s listed
  abbrev pub has_entry : Listing → ℕ → Bool
  has_entry l s = any_to (size T) (λ i. listed l i && eqb (seller T i) s)

  -- has every deficit's seller an entry
  unfoldable pub deficits_listed : Listing → Bool
  deficits_listed l = all_to sellers (λ s. eqb (deficit l s) 0 || has_entry l s)

  -- are exactly the registrations listed of which p holds
  unfoldable pub lists_exactly : Listing → (ℕ → Bool) → Bool
  lists_exactly l p = all_to (size T) (λ i. beq (listed l i) (p i))
