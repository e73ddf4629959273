-- A new year is sound, and each step keeps it so.
use Rattle.std.specs.Prelude.{ℕ, ◌<◌, ◌≤◌, ◌≡◌, refl, Bool, cond, List, get_or, replicate}
use Rattle.std.proofs.Common.{◌∙◌, le_refl, mul-le-mul, arith, lit≤, lit<, length-set}
use Rattle.std.proofs.Math.Bool.{true, false}
use Rattle.std.proofs.lemmas.List.{length-replicate, get_or-replicate}
use Rattle.ids.specs.Each.{Each, each_set, each-replicate, each-tabulate}
use Rattle.limits.specs.Limits.{registrations, parties, test_groups, event_limit, clearing_limit, close_limit, nominated_limit, obligation_limit, rate_limit}
use Rattle.year.specs.declared.Registration.{Registration}
use Rattle.year.specs.declared.Clearings.{Clearings}
use Rattle.year.specs.declared.Listing.{Listing}
use Rattle.year.specs.declared.Event.{Event}
use Rattle.year.specs.declared.Test.{Test}
use Rattle.year.specs.declared.Terms.{Terms}
use Rattle.year.specs.declared.Amounts.{Amounts}
use Rattle.year.specs.declared.Year.{Year}
use Rattle.year.specs.Year.{no_registration, no_clearings, no_listing, no_event, no_test, no_retest, no_terms, no_amounts, new_year, clearings_of, retest_of, listed, reduction, zone, product}
use Rattle.year.specs.Steps.{with_terms, with_opening, with_registration, with_lse, cleared_by, with_clearing, with_event, with_test, retest_by, with_retest, with_close}
use Rattle.year.specs.Sound.{SoundRegistration, SoundClearings, AtMost, SoundListing, SoundEvent, SoundTest, SoundRetest, Factors, SoundTerms, Fits42, SoundAmounts, Sound}
use Rattle.ids.specs.Sets.{kept_set}

false-true : {X : Type 0} {b : Bool} → b ≡ false → b ≡ true → X
false-true e t = absurd (let z : ◌≡◌ {A = ℕ} 0 1 = cc in omega arith)

pub sound-no-listing : SoundListing no_listing
sound-no-listing =
    record { listed = length-replicate registrations false; reductions = each-replicate (AtMost nominated_limit) 0 registrations (lit≤ tt); second = each-replicate (AtMost nominated_limit) 0 registrations (lit≤ tt); deficits = each-replicate (AtMost obligation_limit) 0 parties (lit≤ tt); unlisted = λ i l e. get_or-replicate registrations i 0 0 l }

sound-no-event : SoundEvent no_event
sound-no-event = record { month = lit≤ tt; listing = sound-no-listing }

pub sound-no-registration : SoundRegistration no_registration
sound-no-registration =
    record { seller = lit< tt; area = lit< tt; zone = lit< tt; product = lit< tt; committed = lit≤ tt; rate = lit≤ tt; some = λ e. false-true refl e; blank = λ e. refl }

pub sound-no-clearings : SoundClearings no_clearings
sound-no-clearings = record { few = lit≤ tt; some = lit≤ tt; kw = lit≤ tt; value = lit≤ tt }

sound-no-terms : SoundTerms no_terms
sound-no-terms =
    record { factors = record { leap = lit≤ tt; factor = lit≤ tt; requirement = lit≤ tt }; registrations = each-replicate SoundRegistration no_registration registrations sound-no-registration; obligations = each-replicate (AtMost obligation_limit) 0 parties (lit≤ tt) }

sound-no-amounts : SoundAmounts no_amounts
sound-no-amounts =
    let none = each-replicate Fits42 0 parties (lit< tt) in
    record { compliance = none; test = none; credit = none; lse = none }

-- the tests, each at its place
abbrev SoundTests : Terms → List Test → Type 0
SoundTests T ts = (k : ℕ) → k < test_groups → SoundTest T k (get_or ts k no_test)

-- blank tests list nothing, so they suit all terms
sound-no-tests : (T : Terms) {ts : List Test} → ts ≡ replicate test_groups no_test → SoundTests T ts
unfolding listed
sound-no-tests T e k l =
    rw (e, get_or-replicate test_groups k no_test no_test l)
    (record { listing = sound-no-listing; own = λ i m t. false-true (get_or-replicate registrations i false false m) t; untaken = λ e i m. get_or-replicate registrations i false false m })

pub sound-new : Sound new_year
sound-new =
    record { closed = lit≤ tt; accepted = lit≤ tt; terms = sound-no-terms; clearings = each-replicate SoundClearings no_clearings registrations sound-no-clearings; events = each-replicate SoundEvent no_event event_limit sound-no-event; groups = length-replicate test_groups no_test; tests = sound-no-tests no_terms refl; retests = each-replicate SoundRetest no_retest registrations (lit≤ tt); billed = sound-no-amounts; fresh = λ e. (refl, refl, refl, refl) }

module _ {y : Year} (s : Sound y) where
  sound-terms : {opened : Bool} {T : Terms} {cs : List Clearings} → SoundTerms T → Each SoundClearings no_clearings registrations cs → SoundTests T y.tests → Sound (with_terms y opened T cs)
  sound-terms t c h =
      record { closed = s.closed; accepted = s.accepted; terms = t; clearings = c; events = s.events; groups = s.groups; tests = h; retests = s.retests; billed = s.billed; fresh = s.fresh }

  -- other terms with the same registrations
  sound-others : {opened : Bool} {T : Terms} → T.registrations ≡ y.terms.registrations → SoundTerms T → Sound (with_terms y opened T y.clearings)
  unfolding zone product
  sound-others e t =
      sound-terms t s.clearings (λ k l. record { listing = (s.tests k l).listing; own = λ i m h. rw e ((s.tests k l).own i m h); untaken = (s.tests k l).untaken })

  pub sound-opening : {leap factor requirement : ℕ} → Factors leap factor requirement → Sound (with_opening y leap factor requirement)
  sound-opening f =
      sound-others refl (record { factors = f; registrations = s.terms.registrations; obligations = s.terms.obligations })

  pub sound-registration : y.started ≡ false → (id : ℕ) {r : Registration} → SoundRegistration r → Sound (with_registration y id r)
  sound-registration e id h =
      sound-terms
      (record { factors = s.terms.factors; registrations = each_set SoundRegistration no_registration s.terms.registrations id h; obligations = s.terms.obligations })
      s.clearings
      (sound-no-tests _ (s.fresh e).2)

  pub sound-lse : (id : ℕ) {kw : ℕ} → kw ≤ obligation_limit → Sound (with_lse y id kw)
  sound-lse id l =
      sound-others refl
      (record { factors = s.terms.factors; registrations = s.terms.registrations; obligations = each_set (AtMost obligation_limit) 0 s.terms.obligations id l })

  pub sound-clearing : (id : ℕ) {price kw : ℕ} → (clearings_of y id).count < clearing_limit → SoundClearings (clearings_of y id) → price ≤ rate_limit → 1 ≤ kw → kw ≤ rate_limit → Sound (with_clearing y id price kw)
  sound-clearing id {price} {kw} l c p m k =
      let more : SoundClearings (cleared_by (clearings_of y id) price kw) = record { few = omega arith; some = omega (arith, c.some); kw = omega (arith, c.kw); value = omega (arith, c.value, mul-le-mul p (le_refl kw)) } in
      sound-terms s.terms (each_set SoundClearings no_clearings s.clearings id more) s.tests

  pub sound-event : y.accepted < event_limit → {e : Event} → SoundEvent e → Sound (with_event y e)
  sound-event l h =
      record { closed = s.closed; accepted = omega arith; terms = s.terms; clearings = s.clearings; events = each_set SoundEvent no_event s.events y.accepted h; groups = s.groups; tests = s.tests; retests = s.retests; billed = s.billed; fresh = λ e. false-true e refl }

  pub sound-test : (group : ℕ) {t : Test} → SoundTest y.terms group t → Sound (with_test y group t)
  sound-test group {t} h =
      record { closed = s.closed; accepted = s.accepted; terms = s.terms; clearings = s.clearings; events = s.events; groups = length-set y.tests group t ∙ s.groups; tests = kept_set (λ k u. k < test_groups → SoundTest y.terms k u) no_test y.tests group (λ l. h) s.tests; retests = s.retests; billed = s.billed; fresh = λ e. false-true e refl }

  -- a retest comes after a test, so the year has begun
  pub sound-retest : y.started ≡ true → {l : Listing} → SoundListing l → Sound (with_retest y l)
  unfolding reduction
  sound-retest e {l} h =
      record { closed = s.closed; accepted = s.accepted; terms = s.terms; clearings = s.clearings; events = s.events; groups = s.groups; tests = s.tests; retests = each-tabulate SoundRetest no_retest registrations (λ i m. go i m (listed l i)); billed = s.billed; fresh = λ f. false-true f e }
    where
      go : (i : ℕ) → i < registrations → (b : Bool) → SoundRetest (cond b (retest_by l i) (retest_of y i))
      go i m true = h.reductions.at i m
      go i m false = s.retests.at i m

  pub sound-close : y.closed < close_limit → {billed : Amounts} → SoundAmounts billed → Sound (with_close y billed)
  sound-close l h =
      record { closed = omega arith; accepted = s.accepted; terms = s.terms; clearings = s.clearings; events = s.events; groups = s.groups; tests = s.tests; retests = s.retests; billed = h; fresh = λ e. false-true e refl }
