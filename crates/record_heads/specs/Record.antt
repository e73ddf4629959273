-- A record with names (document 01, 'Record layouts'; document 02, C-11, C-15 and C-17): its head by kind, and what it lists.
use Rattle.std.specs.Prelude.{ℕ, zero, suc, Bool, true, false, cond, List, [], ◌∷◌, length, eqb}
use Rattle.ids.specs.Ids.{at}
use Rattle.record_layouts.specs.Layout.{lists, list_at, items_in, item_in}
use Rattle.year.specs.declared.Listing.{Listing}
use Rattle.year.specs.Year.{no_listing}
use Rattle.year.specs.Listing.{with_entry, with_second, with_deficit}
use Rattle.record_heads.specs.declared.OpeningHead.{OpeningHead}
use Rattle.record_heads.specs.declared.RegistrationHead.{RegistrationHead}
use Rattle.record_heads.specs.declared.LseHead.{LseHead}
use Rattle.record_heads.specs.declared.EventHead.{EventHead}
use Rattle.record_heads.specs.declared.TestHead.{TestHead}
use Rattle.record_heads.specs.declared.CloseHead.{CloseHead}
use Rattle.record_heads.specs.declared.ClearingHead.{ClearingHead}
use Rattle.record_heads.specs.declared.RetestHead.{RetestHead}
use Rattle.record_heads.specs.declared.Head.{Head}
use Rattle.record_heads.specs.declared.Head.TheVariants.{Opening, Registration, Lse, Event, Test, Close, Clearing, Retest}

-- entries by registration and deficits by seller; nothing for the kinds without lists
pub record Record : Type 0 where
  pub head : Head
  pub listing : Listing

-- the head of a record with these numbers, by its kind; kind 8 is an event of period 3 that is dual, with two figures an entry; a number that is none, which question 1 does not let pass, reads as a close of no month
unfoldable pub head_of : List ℕ → Head
head_of vs =
    let v = at vs in
    cond (eqb (v 0) 1) (Opening (record { leap = v 1; factor = v 2; requirement = v 3 }))
    (cond (eqb (v 0) 2) (Registration (record { id = v 1; seller = v 2; area = v 3; zone = v 4; product = v 5; committed = v 6; rate = v 7 }))
    (cond (eqb (v 0) 3) (Lse (record { id = v 1; obligation = v 2 }))
    (cond (eqb (v 0) 4) (Event (record { area = v 1; month = v 2; period = v 3; dual = false }))
    (cond (eqb (v 0) 5) (Test (record { zone = v 1; product = v 2; month = v 3 }))
    (cond (eqb (v 0) 6) (Close (record { month = v 1 }))
    (cond (eqb (v 0) 7) (Clearing (record { registration = v 1; price = v 2; kw = v 3 }))
    (cond (eqb (v 0) 8) (Event (record { area = v 1; month = v 2; period = 3; dual = true }))
    (cond (eqb (v 0) 9) (Retest (record { seller = v 1; zone = v 2; product = v 3; month = v 4 }))
    (Close (record { month = 0 }))))))))))

-- a listing with one item more, its id first: an entry where it has a reduction or two, else a deficit
unfoldable pub with_item : List ℕ → (ℕ → ℕ) → Listing → Listing
with_item [] item l = with_deficit l (item 0) (item 1)
with_item (r ∷ []) item l = with_entry l (item 0) (item r)
with_item (r ∷ t ∷ ts) item l = with_second (with_entry l (item 0) (item r)) (item 0) (item t)

-- with the first n items of list i of a record of kind k
unfoldable pub with_items : ℕ → List ℕ → ℕ → Listing → ℕ → Listing
with_items k vs i l zero = l
with_items k vs i l (suc n) = with_item (list_at k i).reductions (item_in k vs i n) (with_items k vs i l n)

-- what the first i lists of the record leave, and all of them
unfoldable pub listing_to : ℕ → List ℕ → ℕ → Listing
listing_to k vs zero = no_listing
listing_to k vs (suc i) = with_items k vs i (listing_to k vs i) (items_in k vs i)

unfoldable pub listing_in : List ℕ → Listing
listing_in vs = listing_to (at vs 0) vs (length (lists (at vs 0)))

abbrev pub record_of : List ℕ → Record
record_of vs = record { head = head_of vs; listing = listing_in vs }

-- f of the head of one kind, and for the others what g says
module _ {A : Type 0} where
  abbrev pub for_opening : (OpeningHead → A) → (Head → A) → Head → A
  for_opening f g h = elim h [ Opening t ↦ f t | Registration t ↦ g (Registration t) | Lse t ↦ g (Lse t) | Event t ↦ g (Event t) | Test t ↦ g (Test t) | Close t ↦ g (Close t) | Clearing t ↦ g (Clearing t) | Retest t ↦ g (Retest t) ]

  abbrev pub for_registration : (RegistrationHead → A) → (Head → A) → Head → A
  for_registration f g h = elim h [ Opening t ↦ g (Opening t) | Registration t ↦ f t | Lse t ↦ g (Lse t) | Event t ↦ g (Event t) | Test t ↦ g (Test t) | Close t ↦ g (Close t) | Clearing t ↦ g (Clearing t) | Retest t ↦ g (Retest t) ]

  abbrev pub for_lse : (LseHead → A) → (Head → A) → Head → A
  for_lse f g h = elim h [ Opening t ↦ g (Opening t) | Registration t ↦ g (Registration t) | Lse t ↦ f t | Event t ↦ g (Event t) | Test t ↦ g (Test t) | Close t ↦ g (Close t) | Clearing t ↦ g (Clearing t) | Retest t ↦ g (Retest t) ]

  abbrev pub for_event : (EventHead → A) → (Head → A) → Head → A
  for_event f g h = elim h [ Opening t ↦ g (Opening t) | Registration t ↦ g (Registration t) | Lse t ↦ g (Lse t) | Event t ↦ f t | Test t ↦ g (Test t) | Close t ↦ g (Close t) | Clearing t ↦ g (Clearing t) | Retest t ↦ g (Retest t) ]

  abbrev pub for_test : (TestHead → A) → (Head → A) → Head → A
  for_test f g h = elim h [ Opening t ↦ g (Opening t) | Registration t ↦ g (Registration t) | Lse t ↦ g (Lse t) | Event t ↦ g (Event t) | Test t ↦ f t | Close t ↦ g (Close t) | Clearing t ↦ g (Clearing t) | Retest t ↦ g (Retest t) ]

  abbrev pub for_close : (CloseHead → A) → (Head → A) → Head → A
  for_close f g h = elim h [ Opening t ↦ g (Opening t) | Registration t ↦ g (Registration t) | Lse t ↦ g (Lse t) | Event t ↦ g (Event t) | Test t ↦ g (Test t) | Close t ↦ f t | Clearing t ↦ g (Clearing t) | Retest t ↦ g (Retest t) ]

  abbrev pub for_clearing : (ClearingHead → A) → (Head → A) → Head → A
  for_clearing f g h = elim h [ Opening t ↦ g (Opening t) | Registration t ↦ g (Registration t) | Lse t ↦ g (Lse t) | Event t ↦ g (Event t) | Test t ↦ g (Test t) | Close t ↦ g (Close t) | Clearing t ↦ f t | Retest t ↦ g (Retest t) ]

  abbrev pub for_retest : (RetestHead → A) → (Head → A) → Head → A
  for_retest f g h = elim h [ Opening t ↦ g (Opening t) | Registration t ↦ g (Registration t) | Lse t ↦ g (Lse t) | Event t ↦ g (Event t) | Test t ↦ g (Test t) | Close t ↦ g (Close t) | Clearing t ↦ g (Clearing t) | Retest t ↦ f t ]

-- is it a close, and is it a retest of seller s; the month that it names, 0 where it names none
abbrev pub is_close : Head → Bool
is_close = for_close (λ c. true) (λ h. false)

abbrev pub is_retest_of : ℕ → Head → Bool
is_retest_of s = for_retest (λ t. eqb t.seller s) (λ h. false)

abbrev pub month_of : Head → ℕ
month_of = for_event (λ e. e.month) (for_test (λ t. t.month) (for_close (λ c. c.month) (for_retest (λ t. t.month) (λ h. 0))))
