-- What a record that passes questions 6 to 17, 20 and 21 has: each question's yes, and what it says of the year.
use Rattle.std.specs.Prelude.{ℕ, ◌+◌, ◌≤◌, ◌<◌, ◌≡◌, refl, Bool, true, false, not, ltb, get_or}
use Rattle.std.proofs.Common.{ap, sym, ◌∙◌, arith}
use Rattle.std.proofs.Math.Dec.{eqb}
use borrow.Author.Tests.{not-true, ltb-true, leb-true, eqb-true}
use Rattle.ids.specs.Tests.{and_parts}
use Rattle.limits.specs.Limits.{test_groups, event_limit, clearing_limit, close_limit, statement_limit}
use Rattle.record_layouts.specs.Questions.{first_failed}
use Rattle.record_numbers.specs.Accepted.{passed}
use Rattle.ids.specs.Sets.{get_or-replicate-same}
use Rattle.year.specs.declared.Listing.{Listing}
use Rattle.year.specs.declared.Test as test
use Rattle.year.specs.declared.Year.{Year}
use Rattle.year.specs.Year.{clearings_of, seller, no_test, test_group}
use Rattle.year.specs.Sound.{Sound}
use Rattle.record_heads.specs.declared.EventHead.{EventHead}
use Rattle.record_heads.specs.declared.TestHead.{TestHead}
use Rattle.record_heads.specs.declared.CloseHead.{CloseHead}
use Rattle.record_heads.specs.declared.ClearingHead.{ClearingHead}
use Rattle.record_heads.specs.declared.RetestHead.{RetestHead}
use Rattle.record_heads.specs.declared.Head.TheVariants.{Event, Test, Close, Clearing, Retest}
use Rattle.record_heads.specs.Record.{Record}
use Rattle.question_conditions.specs.Entries.{in_group, every_listed, deficits_listed}
use Rattle.question_list.specs.Questions.{q6, q7, q8, q9, q10, q17, q11, q20, q21, q12, q13, q14, q15, q16, questions}

pub record Admitted (rule : ℕ → ℕ → Bool) (y : Year) (r : Record) (room : ℕ) : Type 0 where
  pub six : q6 y r.head ≡ true
  pub seven : q7 y r.head ≡ true
  pub eight : q8 y r.head ≡ true
  pub nine : q9 y r.head ≡ true
  pub ten : q10 y r.listing r.head ≡ true
  pub seventeen : q17 y r.head ≡ true
  pub eleven : q11 y rule r.listing r.head ≡ true
  pub twenty : q20 y r.head ≡ true
  pub twenty-one : q21 y r.listing r.head ≡ true
  pub twelve : q12 y r.head ≡ true
  pub thirteen : q13 y r.head ≡ true
  pub fourteen : q14 y r.listing r.head ≡ true
  pub fifteen : q15 y r.head ≡ true
  pub sixteen : q16 room r.head ≡ true

pub admitted : (rule : ℕ → ℕ → Bool) (y : Year) (r : Record) (room : ℕ) → first_failed (questions rule y r room) ≡ 0 → Admitted rule y r room
unfolding questions first_failed
admitted rule y r room e =
    let h = r.head in
    let l = r.listing in
    let p6 = passed 5 (q6 y h) _ e in
    let p7 = passed 6 (q7 y h) _ p6.1 in
    let p8 = passed 7 (q8 y h) _ p7.1 in
    let p9 = passed 8 (q9 y h) _ p8.1 in
    let p10 = passed 9 (q10 y l h) _ p9.1 in
    let p17 = passed 16 (q17 y h) _ p10.1 in
    let p11 = passed 10 (q11 y rule l h) _ p17.1 in
    let p20 = passed 19 (q20 y h) _ p11.1 in
    let p21 = passed 20 (q21 y l h) _ p20.1 in
    let p12 = passed 11 (q12 y h) _ p21.1 in
    let p13 = passed 12 (q13 y h) _ p12.1 in
    let p14 = passed 13 (q14 y l h) _ p13.1 in
    let p15 = passed 14 (q15 y h) _ p14.1 in
    let p16 = passed 15 (q16 room h) _ p15.1 in
    record { six = p6.0; seven = p7.0; eight = p8.0; nine = p9.0; ten = p10.0; seventeen = p17.0; eleven = p11.0; twenty = p20.0; twenty-one = p21.0; twelve = p12.0; thirteen = p13.0; fourteen = p14.0; fifteen = p15.0; sixteen = p16.0 }

-- what question 7 is put to comes before the first event, test or close
pub not-started : {rule : ℕ → ℕ → Bool} {y : Year} {r : Record} {room : ℕ} → q7 y r.head ≡ not y.started → Admitted rule y r room → y.started ≡ false
not-started {y = y} e a = not-true y.started (sym e ∙ a.seven)

module _ {rule : ℕ → ℕ → Bool} {y : Year} {l : Listing} {room : ℕ} where
  pub event-room : {e : EventHead} → Admitted rule y (record { head = Event e; listing = l }) room → y.accepted < event_limit
  unfolding q12
  event-room a = ltb-true y.accepted event_limit a.twelve

  pub test-group : {t : TestHead} → Admitted rule y (record { head = Test t; listing = l }) room → every_listed y.terms l (in_group y.terms t.zone t.product) ≡ true
  unfolding q10
  test-group {t} a = (and_parts (every_listed y.terms l (in_group y.terms t.zone t.product)) (deficits_listed y.terms l) a.ten).0

  pub test-free : {t : TestHead} → Admitted rule y (record { head = Test t; listing = l }) room → (get_or y.tests (test_group t.zone t.product) no_test).taken ≡ false
  unfolding q13
  test-free a = not-true _ a.thirteen

  -- a retest lists registrations of its seller alone, and comes after a test
  module _ {t : RetestHead} (a : Admitted rule y (record { head = Retest t; listing = l }) room) where
    pub retest-own : every_listed y.terms l (λ i. eqb (seller y.terms i) t.seller) ≡ true
    unfolding q10
    retest-own =
        (and_parts (every_listed y.terms l (in_group y.terms t.zone t.product)) (every_listed y.terms l (λ i. eqb (seller y.terms i) t.seller)) a.ten).1

    pub retest-tested : (get_or y.tests (test_group t.zone t.product) no_test).taken ≡ true
    unfolding q20
    retest-tested = (and_parts (get_or y.tests (test_group t.zone t.product) no_test).taken _ a.twenty).0

    pub retest-started : Sound y → y.started ≡ true
    retest-started S = go y.started refl
      where
        go : (b : Bool) → y.started ≡ b → b ≡ true
        go true e = refl
        go false e =
            let blank = ap (λ (x : test.Test). x.taken) (get_or-replicate-same test_groups (test_group t.zone t.product) no_test) in
            absurd (let z : ◌≡◌ {A = ℕ} 0 1 = cc (retest-tested, (S.fresh e).2, blank) in omega arith)

  pub clearings-few : {c : ClearingHead} → Admitted rule y (record { head = Clearing c; listing = l }) room → (clearings_of y c.registration).count < clearing_limit
  unfolding q17
  clearings-few {c} a = ltb-true (clearings_of y c.registration).count clearing_limit a.seventeen

  module _ {c : CloseHead} (a : Admitted rule y (record { head = Close c; listing = l }) room) where
    pub not-finished : y.closed < close_limit
    unfolding q6
    not-finished = ltb-true y.closed close_limit (and_parts y.opened (ltb y.closed close_limit) a.six).1

    pub next-month : c.month ≡ y.closed + 1
    unfolding q15
    next-month = eqb-true c.month (y.closed + 1) a.fifteen

    pub room-to-close : statement_limit ≤ room
    unfolding q16
    room-to-close = leb-true statement_limit room a.sixteen
