-- What an accepted record does to a year, with what its questions say of it: the one place where the kinds are told apart.
use Rattle.std.specs.Prelude.{ℕ, ◌<◌, Bool, not, ◌&&◌, ◌||◌, List, eqb, get_or, set}
use Rattle.std.proofs.Math.Bool.{true, false}
use Rattle.std.proofs.Math.Path.{◌≡◌, refl}
use Rattle.std.proofs.Common.{arith, ltb-true}
use Rattle.std.proofs.Math.Dec.{ltb}
use Rattle.std.proofs.lemmas.Bool.{not-true}
use Rattle.ids.specs.Ids.{sum_to, any_to}
use Rattle.ids.specs.Sums.{sum_one}
use Rattle.ids.specs.Tests.{and_parts, all-at, any_some}
use Rattle.limits.specs.Limits.{close_limit}
use Rattle.year.specs.declared.Clearings.{Clearings}
use Rattle.year.specs.declared.Listing.{Listing}
use Rattle.year.specs.declared.Terms.{Terms}
use Rattle.year.specs.declared.Year.{Year}
use Rattle.year.specs.Year.{no_clearings, listed, known, area, zone, product, obligation, size, lse_count}
use Rattle.year.specs.Steps.{with_terms, cleared_by}
use Rattle.record_heads.specs.declared.OpeningHead.{OpeningHead}
use Rattle.record_heads.specs.declared.EventHead.{EventHead}
use Rattle.record_heads.specs.declared.TestHead.{TestHead}
use Rattle.record_heads.specs.declared.CloseHead.{CloseHead}
use Rattle.record_heads.specs.declared.RetestHead.{RetestHead}
use Rattle.record_heads.specs.declared.Head.{Head}
use Rattle.record_heads.specs.declared.Head.TheVariants as head
use Rattle.record_heads.specs.Record.{is_close}
use Rattle.book_recorded.specs.After.{registration_of, year_by}
use Rattle.question_list.specs.Questions.{month_begun, q6, q7, q8, q10}
use Rattle.question_conditions.specs.Entries.{in_area, in_group, every_listed, deficits_listed}
use Rattle.question_list.specs.Admitted.{Admitted, not-started, test-group}

-- is each listed registration known
abbrev pub Knows : Terms → Listing → Type 0
Knows T l = (i : ℕ) → i < size T → listed l i ≡ true → known T i ≡ true

-- an opening, a registration, an LSE and a clearing change the terms or the clearings of a year that is not begun
pub record Sets (h : Head) : Type 0 where
  pub opened : Bool → Bool
  pub new : Terms → Terms
  pub clearings : List Clearings → List Clearings
  pub is : (y : Year) (l : Listing) → year_by y l h ≡ with_terms y (opened y.opened) (new y.terms) (clearings y.clearings)
  pub fresh : {y : Year} {l : Listing} {room : ℕ} → (y.started ≡ true → y.opened ≡ true) → Admitted month_begun y (record { head = h; listing = l }) room → y.started ≡ false
  pub other : is_close h ≡ false

-- the others add an event, a test, a close or a retest
pub data StepCases (h : Head) : Type 0 where
  terms : Sets h → StepCases h
  event : (e : EventHead) → h ≡ head.Event e → StepCases h
  test : (t : TestHead) → h ≡ head.Test t → StepCases h
  close : (c : CloseHead) → h ≡ head.Close c → StepCases h
  retest : (t : RetestHead) → h ≡ head.Retest t → StepCases h

every-known : (T : Terms) (l : Listing) (p : ℕ → Bool) → ((i : ℕ) → p i ≡ true → known T i ≡ true) → every_listed T l p ≡ true → Knows T l
unfolding every_listed
every-known T l p k e i b h = k i (rw h at (all-at (size T) (λ j. not (listed l j) || p j) e i b))

in-area-known : (T : Terms) (a i : ℕ) → in_area T a i ≡ true → known T i ≡ true
unfolding in_area
in-area-known T a i e = (and_parts (known T i) (eqb (area T i) a) e).0

in-group-known : (T : Terms) (z p i : ℕ) → in_group T z p i ≡ true → known T i ≡ true
unfolding in_group
in-group-known T z p i e = (and_parts (known T i) (eqb (zone T i) z && eqb (product T i) p) e).0

some-obligation : (T : Terms) → any_to (lse_count T) (λ j. ltb 0 (obligation T j)) ≡ true → 0 < sum_to (lse_count T) (obligation T)
some-obligation T e =
    let r = any_some (lse_count T) (λ j. ltb 0 (obligation T j)) e in
    omega (arith, ltb-true 0 (obligation T r.0) r.2, sum_one {n = lse_count T} {i = r.0} (obligation T) r.1)

is_open : (y : Year) → (y.opened && ltb y.closed close_limit) ≡ true → y.opened ≡ true
is_open y e = (and_parts y.opened (ltb y.closed close_limit) e).0

module _ {y : Year} {l : Listing} {room : ℕ} where
  -- the terms change before the first event, test or close alone: a year that is not opened is not begun
  unopened : {o : OpeningHead} → (y.started ≡ true → y.opened ≡ true) → Admitted month_begun y (record { head = head.Opening o; listing = l }) room → y.started ≡ false
  unfolding q6
  unopened b a = go y.started b (not-true y.opened a.six)
    where
      go : (s : Bool) → (s ≡ true → y.opened ≡ true) → y.opened ≡ false → s ≡ false
      go false h q = refl
      go true h q = absurd (let z : ◌≡◌ {A = ℕ} 0 1 = cc (h refl) in omega arith)

  -- an event, a test and a close are of a year that is opened; what they list is known, and a close has an LSE to credit
  module _ {e : EventHead} (a : Admitted month_begun y (record { head = head.Event e; listing = l }) room) where
    pub event-open : y.opened ≡ true
    unfolding q6
    event-open = is_open y a.six

    pub event-knows : Knows y.terms l
    unfolding q10
    event-knows =
        every-known y.terms l (in_area y.terms e.area) (in-area-known y.terms e.area)
        (and_parts (every_listed y.terms l (in_area y.terms e.area)) (deficits_listed y.terms l) a.ten).0

  module _ {t : TestHead} (a : Admitted month_begun y (record { head = head.Test t; listing = l }) room) where
    pub test-open : y.opened ≡ true
    unfolding q6
    test-open = is_open y a.six

    pub test-knows : Knows y.terms l
    test-knows =
        every-known y.terms l (in_group y.terms t.zone t.product) (in-group-known y.terms t.zone t.product) (test-group a)

  module _ {c : CloseHead} (a : Admitted month_begun y (record { head = head.Close c; listing = l }) room) where
    pub close_open : y.opened ≡ true
    unfolding q6
    close_open = is_open y a.six

    pub close-obliged : 0 < sum_to (lse_count y.terms) (obligation y.terms)
    unfolding q8
    close-obliged =
        some-obligation y.terms
        (and_parts (any_to (size y.terms) (known y.terms)) (any_to (lse_count y.terms) (λ j. ltb 0 (obligation y.terms j))) a.eight).1

pub does : (h : Head) → StepCases h
unfolding year_by q7
does (head.Opening o) =
    terms
    (record {
      opened = λ b. true;
      new = λ T. record { leap = o.leap; factor = o.factor; requirement = o.requirement; registrations = T.registrations; obligations = T.obligations };
      clearings = λ cs. cs;
      is = λ y l. refl;
      fresh = unopened;
      other = refl;
    })
does (head.Registration r) =
    terms
    (record {
      opened = λ b. b;
      new = λ T. record { leap = T.leap; factor = T.factor; requirement = T.requirement; registrations = set T.registrations r.id (registration_of r); obligations = T.obligations };
      clearings = λ cs. cs;
      is = λ y l. refl;
      fresh = λ b a. not-started refl a;
      other = refl;
    })
does (head.Lse j) =
    terms
    (record {
      opened = λ b. b;
      new = λ T. record { leap = T.leap; factor = T.factor; requirement = T.requirement; registrations = T.registrations; obligations = set T.obligations j.id j.obligation };
      clearings = λ cs. cs;
      is = λ y l. refl;
      fresh = λ b a. not-started refl a;
      other = refl;
    })
does (head.Event e) = event e refl
does (head.Test t) = test t refl
does (head.Close c) = close c refl
does (head.Clearing c) =
    terms
    (record {
      opened = λ b. b;
      new = λ T. T;
      clearings = λ cs. set cs c.registration (cleared_by (get_or cs c.registration no_clearings) c.price c.kw);
      is = λ y l. refl;
      fresh = λ b a. not-started refl a;
      other = refl;
    })
does (head.Retest t) = retest t refl
