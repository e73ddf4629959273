-- Two years that are the same for all sellers but s. Steps that are the same for these keep them so.
use Rattle.std.specs.Prelude.{ℕ, ◌+◌, ◌<◌, Bool, false, List, ◌≡◌, get_or, replicate}
use Rattle.std.proofs.Math.Bool.{cond}
use Rattle.std.proofs.Math.Path.{refl, ap}
use Rattle.std.proofs.Common.{sym, ◌∙◌, not-suc-le-zero, arith}
use Rattle.std.proofs.Math.Decide.{dec_lt}
use Rattle.std.proofs.Math.ListN.{get_or-eq_default}
use Rattle.ids.specs.Ids.{at, any_to, tabulate}
use Rattle.ids.specs.Sets.{related-set, related-next}
use Rattle.ids.specs.Tests.{any_same}
use Rattle.ids.specs.Tables.{length-tabulate, get_or-tabulate}
use Rattle.limits.specs.Limits.{registrations, sellers, test_groups, event_limit}
use Rattle.year.specs.declared.Clearings.{Clearings}
use Rattle.year.specs.declared.Listing.{Listing}
use Rattle.year.specs.declared.Event.{Event}
use Rattle.year.specs.declared.Test.{Test}
use Rattle.year.specs.declared.Retest.{Retest}
use Rattle.year.specs.declared.Terms.{Terms}
use Rattle.year.specs.declared.Year.{Year}
use Rattle.year.specs.Year.{new_year, no_test, no_retest, retest_of, no_event, listed, reduction, second, deficit, seller}
use Rattle.year.specs.Listing.{single}
use Rattle.year.specs.Steps.{with_terms, with_event, with_test, with_retests, retest_by, with_retest, with_close}
use Rattle.year.specs.Sound.{Sound}
use Rattle.year.specs.Year as year
use Rattle.owed.specs.Facts.{facts_of}
use Rattle.owed.specs.Owed.{own, of_area, area_rate, rate, dispatched, compliance, test, amounts}
use Rattle.owed_laws.specs.Independent as independent

-- what two records list is the same but for the reductions of seller s's registrations
module _ (T : Terms) (s : ℕ) where
  pub record SameListing (a b : Listing) : Type 0 where
    pub listed : a.listed ≡ b.listed
    pub deficits : a.deficits ≡ b.deficits
    pub reductions : (i : ℕ) → (seller T i ≡ s → ⊥) → reduction a i ≡ reduction b i
    pub seconds : (i : ℕ) → (seller T i ≡ s → ⊥) → second a i ≡ second b i

  pub record SameEvent (a b : Event) : Type 0 where
    pub month : a.month ≡ b.month
    pub period : a.period ≡ b.period
    pub dual : a.dual ≡ b.dual
    pub listing : SameListing a.listing b.listing

  pub record SameTest (a b : Test) : Type 0 where
    pub taken : a.taken ≡ b.taken
    pub month : a.month ≡ b.month
    pub listing : SameListing a.listing b.listing

  pub listing-refl : (a : Listing) → SameListing a a
  listing-refl a = record { listed = refl; deficits = refl; reductions = λ i n. refl; seconds = λ i n. refl }

  -- without second reductions too
  pub same-single : {a b : Listing} → SameListing a b → SameListing (single a) (single b)
  unfolding reduction second
  same-single q = record { listed = q.listed; deficits = q.deficits; reductions = q.reductions; seconds = λ i n. refl }

  test_refl : (a : Test) → SameTest a a
  test_refl a = record { taken = refl; month = refl; listing = listing-refl a.listing }

-- what two years have of retests is the same but for those of seller s's registrations
abbrev pub SameRetests : Terms → ℕ → List Retest → List Retest → Type 0
SameRetests T s rs ts = (i : ℕ) → (seller T i ≡ s → ⊥) → get_or rs i no_retest ≡ get_or ts i no_retest

-- and so are two years, but for seller s's amounts, and all credits
pub record Same (s : ℕ) (y z : Year) : Type 0 where
  pub opened : y.opened ≡ z.opened
  pub started : y.started ≡ z.started
  pub closed : y.closed ≡ z.closed
  pub accepted : y.accepted ≡ z.accepted
  pub terms : y.terms ≡ z.terms
  pub clearings : y.clearings ≡ z.clearings
  pub events : (ev : ℕ) → ev < y.accepted → SameEvent y.terms s (get_or y.events ev no_event) (get_or z.events ev no_event)
  pub tests : (p : ℕ) → SameTest y.terms s (get_or y.tests p no_test) (get_or z.tests p no_test)
  pub retests : SameRetests y.terms s y.retests z.retests
  pub pays : (r : ℕ) → (r ≡ s → ⊥) → at y.billed.compliance r ≡ at z.billed.compliance r
  pub fails : (r : ℕ) → (r ≡ s → ⊥) → at y.billed.test r ≡ at z.billed.test r

pub same_new : (s : ℕ) → Same s new_year new_year
same_new s =
    record { opened = refl; started = refl; closed = refl; accepted = refl; terms = refl; clearings = refl; events = λ ev l. absurd (not-suc-le-zero l); tests = λ p. test_refl new_year.terms s (get_or new_year.tests p no_test); retests = λ i n. refl; pays = λ r n. refl; fails = λ r n. refl }

-- two tables at one place
pub table_at : {A : Type 0} (n : ℕ) (d : A) (f g : ℕ → A) (i : ℕ) → f i ≡ g i → get_or (tabulate n f) i d ≡ get_or (tabulate n g) i d
table_at n d f g i e = elim (dec_lt i n) [
  | yes l ↦ get_or-tabulate f n i d l ∙ e ∙ sym (get_or-tabulate g n i d l)
  | no l ↦ get_or-eq_default (tabulate n f) d (omega (arith, length-tabulate f n)) ∙ sym (get_or-eq_default (tabulate n g) d (omega (arith, length-tabulate g n)))
]

module _ {s : ℕ} {y z : Year} (h : Same s y z) where
  listed_same : (ev : ℕ) → ev < y.accepted → (i : ℕ) → year.listed ((facts_of y).event ev).listing i ≡ year.listed ((facts_of z).event ev).listing i
  unfolding listed
  listed_same ev l i = rw (h.events ev l).listing.listed

  -- their facts agree in what is another seller's
  pub same-facts : (r : ℕ) → (r ≡ s → ⊥) → independent.Same r (facts_of y) (facts_of z)
  unfolding listed deficit own of_area area_rate rate
  same-facts r n =
      record {
        leap = rw h.terms;
        factor = rw h.terms;
        requirement = rw h.terms;
        seller = λ i. rw h.terms;
        events = h.accepted;
        month = λ ev l. (h.events ev l).month;
        period = λ ev l. (h.events ev l).period;
        dual = λ ev l. (h.events ev l).dual;
        deficit = λ ev l. rw (h.events ev l).listing.deficits;
        test_deficit = λ p. rw (h.tests p).listing.deficits;
        product = λ i own. rw h.terms;
        committed = λ i own. rw h.terms;
        rate = λ i own. rw (h.terms, h.clearings);
        listed = λ ev l i own. listed_same ev l i;
        reduction = λ ev l i own. (h.events ev l).listing.reductions i (λ q. n (sym own ∙ q));
        off_peak = λ ev l i own. (h.events ev l).listing.seconds i (λ q. n (sym own ∙ q));
        tested = λ p i own. rw (h.tests p).listing.listed;
        test_reduction = λ p i own. (h.tests p).listing.reductions i (λ q. n (sym own ∙ q));
        retested = λ i own. ap (λ (x : Retest). x.taken) (h.retests i (λ q. n (sym own ∙ q)));
        retest_reduction = λ i own. ap (λ (x : Retest). x.reduction) (h.retests i (λ q. n (sym own ∙ q)));
      }

  -- every registration is dispatched in both or in neither
  pub same-dispatched : (i : ℕ) → dispatched (facts_of y) i ≡ dispatched (facts_of z) i
  unfolding dispatched
  same-dispatched i =
      any_same y.accepted {q = λ ev. year.listed ((facts_of z).event ev).listing i} (λ ev l. listed_same ev l i)
      ∙ ap (λ n. any_to n (λ ev. year.listed ((facts_of z).event ev).listing i)) h.accepted

  -- before the first event, test or close
  pub same-terms : Sound y → Sound z → y.started ≡ false → (o : Bool) (T : Terms) (cs : List Clearings) → Same s (with_terms y o T cs) (with_terms z o T cs)
  same-terms S U e o T cs =
      let f = S.fresh e in
      let g = U.fresh (sym h.started ∙ e) in
      record {
        opened = refl;
        started = h.started;
        closed = h.closed;
        accepted = h.accepted;
        terms = refl;
        clearings = refl;
        events = λ ev l. absurd (omega (arith, f.0));
        tests = rw (f.2, g.2) (λ p. test_refl T s (get_or (replicate test_groups no_test) p no_test));
        retests = rw (f.3, g.3) (λ i n. refl);
        pays = h.pays;
        fails = h.fails;
      }

  pub same-event : Sound y → Sound z → y.accepted < event_limit → {e g : Event} → SameEvent y.terms s e g → Same s (with_event y e) (with_event z g)
  same-event S U l {e} {g} q =
      record {
        opened = h.opened;
        started = refl;
        closed = h.closed;
        accepted = ap (λ n. n + 1) h.accepted;
        terms = h.terms;
        clearings = h.clearings;
        events =
            rw (← h.accepted)
            (related-next (SameEvent y.terms s) no_event y.events z.events y.accepted (omega (arith, S.events.long)) (omega (arith, U.events.long)) q h.events);
        tests = h.tests;
        retests = h.retests;
        pays = h.pays;
        fails = h.fails;
      }

  pub same_test : Sound y → Sound z → (group : ℕ) {t u : Test} → SameTest y.terms s t u → Same s (with_test y group t) (with_test z group u)
  same_test S U group q =
      record {
        opened = h.opened;
        started = refl;
        closed = h.closed;
        accepted = h.accepted;
        terms = h.terms;
        clearings = h.clearings;
        events = h.events;
        tests = related-set (SameTest y.terms s) no_test y.tests z.tests group (S.groups ∙ sym U.groups) q h.tests;
        retests = h.retests;
        pays = h.pays;
        fails = h.fails;
      }

  pub same-retests : {rs ts : List Retest} → SameRetests y.terms s rs ts → Same s (with_retests y rs) (with_retests z ts)
  same-retests q =
      record {
        opened = h.opened;
        started = h.started;
        closed = h.closed;
        accepted = h.accepted;
        terms = h.terms;
        clearings = h.clearings;
        events = h.events;
        tests = h.tests;
        retests = q;
        pays = h.pays;
        fails = h.fails;
      }

  -- by retests that list the same but for seller s's reductions
  pub same-retest : {l m : Listing} → SameListing y.terms s l m → Same s (with_retest y l) (with_retest z m)
  unfolding listed
  same-retest {l} {m} q =
      same-retests (λ i n. table_at registrations no_retest (λ j. cond (listed l j) (retest_by l j) (retest_of y j)) (λ j. cond (listed m j) (retest_by m j) (retest_of z j)) i
      (cc (q.listed, q.reductions i n, h.retests i n)))

  pub same-close : (k : ℕ) → Same s (with_close y (amounts (facts_of y) k)) (with_close z (amounts (facts_of z) k))
  unfolding amounts
  same-close k =
      record {
        opened = h.opened;
        started = refl;
        closed = ap (λ n. n + 1) h.closed;
        accepted = h.accepted;
        terms = h.terms;
        clearings = h.clearings;
        events = h.events;
        tests = h.tests;
        retests = h.retests;
        pays = λ r n. table_at sellers 0 (compliance (facts_of y) k) (compliance (facts_of z) k) r (independent.same-compliance (same-facts r n) k);
        fails = λ r n. table_at sellers 0 (test (facts_of y) k) (test (facts_of z) k) r (independent.same_test (same-facts r n) k);
      }
