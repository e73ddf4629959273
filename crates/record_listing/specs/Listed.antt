-- A record that questions 1 and 3 pass: its items are there, with ids and kilowatts within their limits, and so what it lists is sound.
use Rattle.std.specs.Prelude.{ℕ, ◌+◌, ◌≤◌, ◌<◌, Bool, true, false, ◌&&◌, cond, ◌⊎◌, ◌≡◌, leb, ltb, eqb, length, get_or}
use mathlib.Core.List.{List, [], ◌∷◌}
use Rattle.std.proofs.Math.Logic.{inl, inr}
use Rattle.std.proofs.Math.Path.{refl}
use Rattle.std.proofs.Math.Nat.{add_assoc}
use Rattle.std.proofs.Common.{arith}
use borrow.Author.Tests.{leb-true, ltb-true, ne_eqb, eqb-false}
use Rattle.ids.specs.Ids.{at}
use Rattle.ids.specs.Tests.{and_parts}
use Rattle.limits.specs.Limits.{registrations, sellers, nominated_limit, obligation_limit}
use Rattle.record_layouts.specs.Layout.{Rule, no_rule, no_items, bare, layouts, head, lists, list_at, items_in, rules_for, item_at, item_in, most_numbers}
use Rattle.record_layouts.specs.LayoutLaws.{every, every-at, every_in, rules-long}
use Rattle.record_layouts.specs.ListLaws.{rule-item}
use Rattle.record_layouts.specs.Parts.{Stated}
use Rattle.record_layouts.specs.Questions.{is_kind, permitted, rules_by}
use Rattle.record_layouts.specs.QuestionLaws.{kind-in, permitted-at, head-permitted, stated-bits, few-numbers}
use Rattle.year.specs.declared.Listing.{Listing}
use Rattle.year.specs.Sound.{SoundListing}
use Rattle.year.specs.Listing.{with_entry, with_second, with_deficit}
use Rattle.year.specs.StaysSound.{sound-no-listing}
use Rattle.year.specs.ListingLaws.{sound-entry, sound-second, sound-deficit}
use Rattle.record_heads.specs.Record.{with_item, listing_in}
use Rattle.record_heads.specs.RecordLaws.{listing-keeps}

pub record Permitted (vs : List ℕ) : Type 0 where
  pub kind : is_kind (at vs 0) ≡ true
  pub fields : permitted (rules_by vs) vs ≡ true

-- with an entry's second reduction, field t, where it has one
abbrev pub with_any : ℕ → (ℕ → ℕ) → Listing → Listing
with_any t item l = cond (eqb t 0) l (with_second l (item 0) (item t))

-- an item is kept as an entry of a registration below 64 and of up to 100,000 kW, twice where it has two, or as a deficit of a seller below 16 and of up to 1,000,000 kW
module _ (rs : List ℕ) (fs : List Rule) (item : ℕ → ℕ) where
  pub record EntryLimits : Type 0 where
    pub some : 1 ≤ at rs 0
    pub inside : at rs 0 < length fs
    pub id : item 0 < registrations
    pub kilowatts : item (at rs 0) ≤ nominated_limit
    pub second : at rs 1 < length fs
    pub more : (at rs 1 ≡ 0 → ⊥) → item (at rs 1) ≤ nominated_limit
    pub keeps : (v : ℕ → ℕ) (l : Listing) → with_item rs v l ≡ with_any (at rs 1) v (with_entry l (v 0) (v (at rs 0)))

  pub record DeficitLimits : Type 0 where
    pub none : rs ≡ []
    pub inside : 1 < length fs
    pub id : item 0 < sellers
    pub kilowatts : item 1 ≤ obligation_limit
    pub keeps : (v : ℕ → ℕ) (l : Listing) → with_item rs v l ≡ with_deficit l (v 0) (v 1)

abbrev below : List Rule → ℕ → ℕ → Bool
below fs f n = ltb f (length fs) && leb (get_or fs f no_rule).high n

-- every list of the table is of one or the other
unfoldable item_limits : List ℕ → List Rule → Bool
item_limits [] fs = below fs 0 15 && below fs 1 obligation_limit
item_limits (r ∷ []) fs = leb 1 r && (below fs 0 63 && below fs r nominated_limit)
item_limits (r ∷ t ∷ ts) fs = (leb 1 r && (below fs 0 63 && below fs r nominated_limit)) && (leb 1 t && below fs t nominated_limit)

module _ (fs : List Rule) (item : ℕ → ℕ) (within : (f : ℕ) → f < length fs → item f ≤ (get_or fs f no_rule).high) where
  is_below : (f n : ℕ) → below fs f n ≡ true → (f < length fs) × (item f ≤ n)
  is_below f n e =
      let a = and_parts (ltb f (length fs)) (leb (get_or fs f no_rule).high n) e in
      let l = ltb-true f (length fs) a.0 in
      (l, omega (arith, within f l, leb-true (get_or fs f no_rule).high n a.1))

  an-entry : (r : ℕ) → (leb 1 r && (below fs 0 63 && below fs r nominated_limit)) ≡ true
      → (1 ≤ r) × ((0 < length fs) × (item 0 ≤ 63)) × ((r < length fs) × (item r ≤ nominated_limit))
  an-entry r e =
      let a = and_parts (leb 1 r) (below fs 0 63 && below fs r nominated_limit) e in
      let b = and_parts (below fs 0 63) (below fs r nominated_limit) a.1 in
      (leb-true 1 r a.0, is_below 0 63 b.0, is_below r nominated_limit b.1)

  kept-as : (rs : List ℕ) → item_limits rs fs ≡ true → EntryLimits rs fs item ⊎ DeficitLimits rs fs item
  unfolding item_limits with_item
  kept-as [] e =
      let a = and_parts (below fs 0 15) (below fs 1 obligation_limit) e in
      let id = is_below 0 15 a.0 in
      let kw = is_below 1 obligation_limit a.1 in
      inr (record { none = refl; inside = kw.0; id = omega (arith, id.1); kilowatts = kw.1; keeps = λ v l. refl })
  kept-as (r ∷ []) e =
      let a = an-entry r e in
      inl (record { some = a.0; inside = a.2.0; id = omega (arith, a.1.1); kilowatts = a.2.1; second = a.1.0; more = λ o. absurd (o refl); keeps = λ v l. refl })
  kept-as (r ∷ t ∷ ts) e =
      let both = and_parts (leb 1 r && (below fs 0 63 && below fs r nominated_limit)) (leb 1 t && below fs t nominated_limit) e in
      let a = an-entry r both.0 in
      let b = and_parts (leb 1 t) (below fs t nominated_limit) both.1 in
      let kw = is_below t nominated_limit b.1 in
      let some = ne_eqb t 0 (λ z. omega (arith, leb-true 1 t b.0)) in
      inl (record { some = a.0; inside = a.2.0; id = omega (arith, a.1.1); kilowatts = a.2.1; second = kw.0; more = λ o. kw.1; keeps = λ v l. rw some })

item-limits-at : (k i : ℕ) → i < length (lists k) → item_limits (list_at k i).reductions (list_at k i).fields ≡ true
unfolding every item_limits
item-limits-at k i l =
    every_in (λ x. item_limits x.reductions x.fields) (lists k) no_items i
    (every-at (λ l. every (λ x. item_limits x.reductions x.fields) l.lists) layouts (bare []) k refl refl) l

sound-any : (t : ℕ) (item : ℕ → ℕ) {l : Listing} → ((t ≡ 0 → ⊥) → item t ≤ nominated_limit) → SoundListing l → SoundListing (with_any t item l)
sound-any t item {l} h s = go (eqb t 0) refl
  where
    go : (b : Bool) → eqb t 0 ≡ b → SoundListing (cond b l (with_second l (item 0) (item t)))
    go true e = s
    go false e = sound-second s (item 0) (item t) (h (eqb-false t 0 e))

module _ {vs : List ℕ} (p : Permitted vs) where
  yes-head : permitted (head (at vs 0)) vs ≡ true
  unfolding rules_by
  yes-head = head-permitted (at vs 0) vs vs p.fields

  pub numbers-few : length (rules_for (at vs 0) vs) ≤ most_numbers
  numbers-few = few-numbers (at vs 0) vs yes-head

  pub stated : length vs ≡ most_numbers → Stated (at vs 0) vs
  stated e =
      record { kind = kind-in (at vs 0) p.kind; head = omega (arith, rules-long (at vs 0) vs, numbers-few); bits = stated-bits (at vs 0) vs yes-head }

  -- item m of list i, and that its fields are there
  module _ (i m : ℕ) (l : i < length (lists (at vs 0))) (h : m < items_in (at vs 0) vs i) where
    field_at : (f : ℕ) → f < length (list_at (at vs 0) i).fields
        → (item_in (at vs 0) vs i m f ≤ (get_or (list_at (at vs 0) i).fields f no_rule).high) × (item_at (at vs 0) vs i m + f < length (rules_for (at vs 0) vs))
    unfolding rules_by
    field_at f g =
        let r = rule-item (at vs 0) vs i l m f h g in
        let high = (permitted-at (rules_for (at vs 0) vs) vs p.fields _ r.1).1 in
        rw add_assoc (rw r.0 at high, r.1)

    pub item-as : EntryLimits (list_at (at vs 0) i).reductions (list_at (at vs 0) i).fields (item_in (at vs 0) vs i m)
        ⊎ DeficitLimits (list_at (at vs 0) i).reductions (list_at (at vs 0) i).fields (item_in (at vs 0) vs i m)
    item-as = kept-as (list_at (at vs 0) i).fields (item_in (at vs 0) vs i m) (λ f g. (field_at f g).0) (list_at (at vs 0) i).reductions (item-limits-at (at vs 0) i l)

  pub sound-listed : SoundListing (listing_in vs)
  sound-listed =
      listing-keeps (λ l n. SoundListing l) vs vs refl (λ j l. refl) (λ i m l h n o s.
      elim (item-as i m l h) [
        | inl e ↦ rw (e.keeps _ n) (sound-any (at (list_at (at vs 0) i).reductions 1) (item_in (at vs 0) vs i m) e.more (sound-entry s _ _ e.kilowatts))
        | inr d ↦ rw (d.keeps _ n) (sound-deficit s _ _ d.kilowatts)
      ])
      sound-no-listing
