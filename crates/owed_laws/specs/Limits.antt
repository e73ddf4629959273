-- Limits of the facts of a sound year, at every id.
use Rattle.std.specs.Prelude.{ℕ, ◌+◌, ◌*◌, ◌≤◌, ◌<◌, Bool, List, ◌≡◌, refl, eqb, ltb, length, get_or}
use Rattle.std.proofs.Math.Bool.{true, false, cond}
use Rattle.std.proofs.Common.{sym, arith, le_trans, le_refl, le_of_eq, lit≤, lt-ltb, le-ltb, eq-eqb}
use Rattle.ids.specs.Ids.{count_to}
use Rattle.ids.specs.Sums.{sum-le, sum-at}
use Rattle.ids.specs.Sets.{get_or-replicate-same}
use Rattle.limits.specs.Limits.{registrations, parties, sellers, test_groups, event_limit, nominated_limit, obligation_limit, rate_limit, factor_limit}
use Rattle.year.specs.declared.Event.{Event}
use Rattle.year.specs.declared.Test.{Test}
use Rattle.year.specs.declared.Listing.{Listing}
use Rattle.year.specs.declared.Year.{Year}
use Rattle.year.specs.Year.{no_listing, no_event, no_test, zone, product, test_group, obligation}
use Rattle.year.specs.Year as year
use Rattle.year.specs.Sound.{SoundListing, AtMost, Sound}
use Rattle.year.specs.Limits.{each-anywhere, clearings-sound, seller-below, area-below, zone-below, product-below, committed-most, committed-some, committed-blank, field-rate-most, retest-most, reduction-most, second-most}
use Rattle.owed.specs.Facts.{Facts, facts_of}
use Rattle.owed.specs.Owed.{own, rate, result}
use Rattle.owed_laws.specs.Rates.{own-le, rate-le}

pub record Limits (F : Facts) : Type 0 where
  pub leap : F.terms.leap ≤ 1
  pub factor : F.terms.factor ≤ factor_limit
  pub requirement : F.terms.requirement ≤ factor_limit
  pub seller : (i : ℕ) → F.seller i < sellers
  pub area : (i : ℕ) → year.area F.terms i < 8
  pub product : (i : ℕ) → year.product F.terms i < 3
  pub committed : (i : ℕ) → year.committed F.terms i ≤ nominated_limit
  pub own : (i : ℕ) → own F i ≤ rate_limit
  pub rate : (i : ℕ) → rate F i ≤ rate_limit
  pub some : (i : ℕ) → year.known F.terms i ≡ true → 1 ≤ year.committed F.terms i
  pub blank : (i : ℕ) → year.known F.terms i ≡ false → year.committed F.terms i ≡ 0
  pub obligation : (j : ℕ) → year.obligation F.terms j ≤ obligation_limit
  pub events : F.events ≤ event_limit
  pub month : (ev : ℕ) → (F.event ev).month ≤ 12
  pub reduction : (ev i : ℕ) → year.reduction (F.event ev).listing i ≤ nominated_limit
  pub deficit : (ev s : ℕ) → year.deficit (F.event ev).listing s ≤ obligation_limit
  pub off_peak : (ev i : ℕ) → year.second (F.event ev).listing i ≤ nominated_limit
  pub result : (p i : ℕ) → result F p i ≤ nominated_limit
  pub test_deficit : (p s : ℕ) → year.deficit (F.test p).listing s ≤ obligation_limit
  -- no registration is in two tests
  pub once : (i : ℕ) → i < registrations → count_to test_groups (λ p. year.listed (F.test p).listing i) ≤ 1

-- a registration is known just where it commits something
pub known_is : {F : Facts} → Limits F → (i : ℕ) → year.known F.terms i ≡ ltb 0 (year.committed F.terms i)
known_is {F} L i = go (year.known F.terms i) refl
  where
    go : (b : Bool) → year.known F.terms i ≡ b → b ≡ ltb 0 (year.committed F.terms i)
    go true e = sym (lt-ltb 0 (year.committed F.terms i) (L.some i e))
    go false e = sym (le-ltb 0 (year.committed F.terms i) (omega (arith, L.blank i e)))

-- a listing's numbers, at every id
record Within (l : Listing) : Type 0 where
  reduction : (i : ℕ) → year.reduction l i ≤ nominated_limit
  second : (i : ℕ) → year.second l i ≤ nominated_limit
  deficit : (s : ℕ) → year.deficit l s ≤ obligation_limit

within : {l : Listing} → SoundListing l → Within l
unfolding year.deficit
within h = record { reduction = reduction-most h; second = second-most h; deficit = each-anywhere (AtMost obligation_limit) (lit≤ tt) h.deficits }

within_none : Within no_listing
unfolding year.reduction year.second year.deficit
within_none =
    record { reduction = λ i. rw (get_or-replicate-same {A = ℕ} registrations i 0) (lit≤ tt); second = λ i. rw (get_or-replicate-same {A = ℕ} registrations i 0) (lit≤ tt); deficit = λ s. rw (get_or-replicate-same {A = ℕ} parties s 0) (lit≤ tt) }

-- what holds past the end and of each element holds of what is read anywhere
everywhere : {A : Type 0} (P : A → Type 0) (d : A) (l : List A) {n : ℕ} → P d → length l ≡ n → ((k : ℕ) → k < n → P (get_or l k d)) → (i : ℕ) → P (get_or l i d)
everywhere P d l h e f = each-anywhere P {d = d} h {l = l} (record { long = e; at = f })

module _ {y : Year} (S : Sound y) where
  event-within : (ev : ℕ) → Within (get_or y.events ev no_event).listing
  event-within =
      everywhere (λ (x : Event). Within x.listing) no_event y.events within_none S.events.long (λ k l. within (S.events.at k l).listing)

  test-within : (p : ℕ) → Within (get_or y.tests p no_test).listing
  test-within = everywhere (λ (x : Test). Within x.listing) no_test y.tests within_none S.groups (λ k l. within (S.tests k l).listing)

  month-most : (ev : ℕ) → (get_or y.events ev no_event).month ≤ 12
  month-most =
      everywhere (λ (x : Event). x.month ≤ 12) no_event y.events (lit≤ tt) S.events.long (λ k l. (S.events.at k l).month)

  obligation-most : (j : ℕ) → obligation y.terms j ≤ obligation_limit
  unfolding obligation
  obligation-most = each-anywhere (AtMost obligation_limit) (lit≤ tt) S.terms.obligations

  -- a registration is in the test of its zone and product alone
  in-one-test : (i : ℕ) → i < registrations → count_to test_groups (λ p. year.listed ((facts_of y).test p).listing i) ≤ 1
  in-one-test i l =
      let own = test_group (zone y.terms i) (product y.terms i) in
      le_trans (sum-le test_groups (λ p b. go p (year.listed ((facts_of y).test p).listing i) ((S.tests p b).own i l)))
      (le_of_eq (sum-at test_groups own 1 (omega (arith, zone-below S.terms i, product-below S.terms i))))
    where
      go : (p : ℕ) (b : Bool) → (b ≡ true → test_group (zone y.terms i) (product y.terms i) ≡ p)
          → cond b 1 0 ≤ cond (eqb (test_group (zone y.terms i) (product y.terms i)) p) 1 0
      go p true h = rw (eq-eqb (test_group (zone y.terms i) (product y.terms i)) p (h refl)) (le_refl 1)
      go p false h = omega arith

  own-most : (i : ℕ) → own (facts_of y) i ≤ rate_limit
  own-most i = own-le (facts_of y) i (field-rate-most S.terms i) (clearings-sound S i).value

  result-most : (p i : ℕ) → result (facts_of y) p i ≤ nominated_limit
  unfolding result
  result-most p i = go ((facts_of y).retest i).taken
    where
      go : (b : Bool) → cond b ((facts_of y).retest i).reduction (year.reduction ((facts_of y).test p).listing i) ≤ nominated_limit
      go true = retest-most S i
      go false = (test-within p).reduction i

  pub limits : Limits (facts_of y)
  limits =
      record {
        leap = S.terms.factors.leap;
        factor = S.terms.factors.factor;
        requirement = S.terms.factors.requirement;
        seller = seller-below S.terms;
        area = area-below S.terms;
        product = product-below S.terms;
        committed = committed-most S.terms;
        own = own-most;
        rate = rate-le (facts_of y) own-most;
        some = committed-some S.terms;
        blank = committed-blank S.terms;
        obligation = obligation-most;
        events = S.accepted;
        month = month-most;
        reduction = λ ev. (event-within ev).reduction;
        deficit = λ ev. (event-within ev).deficit;
        off_peak = λ ev. (event-within ev).second;
        result = result-most;
        test_deficit = λ p. (test-within p).deficit;
        once = in-one-test;
      }
