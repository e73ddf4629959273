-- What a list of accepted records says (document 01, 'The lists of demand 3'), read off the list: terms, clearings, events, tests, retests, and the year that has just these.
use Rattle.std.specs.Prelude.{ℕ, ◌+◌, ◌*◌, Bool, true, cond, List, [], ◌∷◌, ◌++◌, eqb, ltb, length}
use Rattle.ids.specs.Ids.{tabulate}
use Rattle.limits.specs.Limits.{registrations, lses, test_groups}
use Rattle.year.specs.declared.Registration.{Registration}
use Rattle.year.specs.declared.Clearings.{Clearings}
use Rattle.year.specs.declared.Event.{Event}
use Rattle.year.specs.declared.Test.{Test}
use Rattle.year.specs.declared.Retest.{Retest}
use Rattle.year.specs.declared.Terms.{Terms}
use Rattle.year.specs.declared.Year.{Year}
use Rattle.year.specs.Year.{no_registration, no_test, no_retest, no_amounts, test_group, listed}
use Rattle.year.specs.Steps.{retest_by}
use Rattle.record_heads.specs.declared.OpeningHead.{OpeningHead}
use Rattle.record_heads.specs.declared.CloseHead.{CloseHead}
use Rattle.record_heads.specs.declared.ClearingHead.{ClearingHead}
use Rattle.record_heads.specs.declared.Head.{Head}
use Rattle.record_heads.specs.Record.{Record, for_opening, for_registration, for_lse, for_event, for_test, for_close, for_clearing, for_retest}
use Rattle.record_heads.specs.Events.{event_of}
use Rattle.book_recorded.specs.After.{registration_of, recorded_test}

-- what f takes out of each element, in order
unfoldable pub gather : {A B : Type 0} → (A → List B) → List A → List B
gather f [] = []
gather f (x ∷ xs) = f x ++ gather f xs

-- the last of a list, or d
unfoldable pub last_or : {A : Type 0} → A → List A → A
last_or d [] = d
last_or d (x ∷ xs) = last_or x xs

-- what f says of each element, summed
unfoldable pub sum_over : {A : Type 0} → (A → ℕ) → List A → ℕ
sum_over f [] = 0
sum_over f (x ∷ xs) = f x + sum_over f xs

-- x alone if b, else nothing
abbrev pub alone : {A : Type 0} → Bool → A → List A
alone b x = cond b (x ∷ []) []

abbrev none : {A : Type 0} → Head → List A
none h = []

-- what clearings come to: how many, the sum of price × kW, and of kW
unfoldable pub summed : List ClearingHead → Clearings
summed cs = record { count = length cs; value = sum_over (λ c. c.price * c.kw) cs; kw = sum_over (λ c. c.kw) cs }

-- of one record: an opening, the registration of id i, LSE j's obligation, a clearing of registration i, an event, the test of a group, registration i's retest, a close
abbrev pub opening : Record → List OpeningHead
opening r = for_opening (λ o. o ∷ []) none r.head

abbrev pub registration_for : ℕ → Record → List Registration
registration_for i r = for_registration (λ q. alone (eqb q.id i) (registration_of q)) none r.head

abbrev pub obligation_for : ℕ → Record → List ℕ
obligation_for j r = for_lse (λ q. alone (eqb q.id j) q.obligation) none r.head

abbrev pub clearing_for : ℕ → Record → List ClearingHead
clearing_for i r = for_clearing (λ c. alone (eqb c.registration i) c) none r.head

abbrev pub event : Record → List Event
event r = for_event (λ e. event_of e r.listing ∷ []) none r.head

abbrev pub test_for : ℕ → Record → List Test
test_for p r = for_test (λ t. alone (eqb (test_group t.zone t.product) p) (recorded_test t r.listing)) none r.head

abbrev pub retest_for : ℕ → Record → List Retest
retest_for i r = for_retest (λ t. alone (listed r.listing i) (retest_by r.listing i)) none r.head

abbrev pub close : Record → List CloseHead
close r = for_close (λ c. c ∷ []) none r.head

-- is it an event, a test or a close
abbrev pub begins : Record → List Bool
begins r = for_event (λ e. true ∷ []) (for_test (λ t. true ∷ []) (for_close (λ c. true ∷ []) none)) r.head

-- of a list of accepted records. Ids are new where they are accepted, and so is a test's zone and product, and a seller retests an entry once, so there is at most one of each
module _ (rs : List Record) where
  unfoldable pub terms_in : Terms
  terms_in =
      let o = last_or (record { leap = 0; factor = 0; requirement = 0 }) (gather opening rs) in
      record {
        leap = o.leap;
        factor = o.factor;
        requirement = o.requirement;
        registrations = tabulate registrations (λ i. last_or no_registration (gather (registration_for i) rs));
        obligations = tabulate lses (λ j. last_or 0 (gather (obligation_for j) rs));
      }

  -- by registration
  unfoldable pub clearings_in : List Clearings
  clearings_in = tabulate registrations (λ i. summed (gather (clearing_for i) rs))

  -- in order of acceptance
  unfoldable pub events_in : List Event
  events_in = gather event rs

  -- by group
  unfoldable pub tests_in : List Test
  tests_in = tabulate test_groups (λ p. last_or no_test (gather (test_for p) rs))

  -- by registration
  unfoldable pub retests_in : List Retest
  retests_in = tabulate registrations (λ i. last_or no_retest (gather (retest_for i) rs))

  -- the year of these; what is billed, which neither the questions nor the rules read, stays out
  unfoldable pub recorded : Year
  recorded =
      record {
        opened = ltb 0 (length (gather opening rs));
        started = ltb 0 (length (gather begins rs));
        closed = length (gather close rs);
        terms = terms_in;
        clearings = clearings_in;
        events = events_in;
        accepted = length events_in;
        tests = tests_in;
        retests = retests_in;
        billed = no_amounts;
      }
