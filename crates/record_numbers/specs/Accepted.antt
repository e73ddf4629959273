-- What an accepted record has: each question answered yes, its numbers within their rules, and its length consumed.
use Rattle.std.specs.Prelude.{ℕ, zero, suc, ◌≤◌, ◌<◌, Bool, true, false, cond, List, [], ◌∷◌, ◌++◌, ◌≡◌, leb, eqb, length, get_or}
use Rattle.std.proofs.Math.Path.{refl}
use Rattle.std.proofs.Common.{sym, ap, ◌∙◌, arith, leb-true, eq-eqb, ne_eqb}
use Rattle.ids.specs.Ids.{at}
use Rattle.ids.specs.Tests.{and_parts}
use Rattle.limits.specs.Limits.{registrations, sellers, lses, areas, zones, close_limit, nominated_limit, obligation_limit, rate_limit, factor_limit}
use Rattle.bits.specs.TableLaws.{length_fields}
use Rattle.record_layouts.specs.Layout.{no_rule, head, rules_for, widths, size_of, most_numbers}
use Rattle.record_layouts.specs.LayoutLaws.{every, length-widths, rules-long, rule-head}
use Rattle.record_layouts.specs.Questions.{first_failed, kind_of, rules_of, numbers_of, rules_by, is_kind, is_whole, permitted, is_filled, ids_rise, record_questions, record_number, numbers_taken, consumed, row}
use Rattle.record_layouts.specs.QuestionLaws.{at_row, permitted-at, head-permitted, few-numbers, numbers-kind, rules-by}

-- questions 1 to 5, each answered yes
pub record Accepted (bytes : List ℕ) : Type 0 where
  pub kind : is_kind (kind_of bytes) ≡ true
  pub whole : is_whole bytes ≡ true
  pub permits : permitted (rules_of bytes) (numbers_of bytes) ≡ true
  pub filled : is_filled bytes ≡ true
  pub rise : ids_rise (numbers_of bytes) ≡ true

-- a question that does not fail, and those behind it
pub passed : (n : ℕ) (b : Bool) (m : ℕ) → cond b m (suc n) ≡ 0 → (b ≡ true) × (m ≡ 0)
passed n true m e = (refl, e)
passed n false m e = absurd (omega arith)

one_more : (b : Bool) (n x y : ℕ) {z : ℕ} → leb 1 n ≡ true → z ≡ cond (eqb x 0) y x → cond b z n ≡ (let m = cond b x n in cond (eqb m 0) y m)
one_more true n x y l e = e
one_more false n x y l e = rw (ne_eqb n 0 (λ z. omega (arith, leb-true 1 n l)))

-- two lists of questions in a row, no number of the first being 0: the first's number, and where it has none the second's
failed-append : (qs rs : List (ℕ × Bool)) → every (λ q. leb 1 q.0) qs ≡ true → first_failed (qs ++ rs) ≡ cond (eqb (first_failed qs) 0) (first_failed rs) (first_failed qs)
unfolding first_failed every
failed-append [] rs e = refl
failed-append (q ∷ qs) rs e =
    let a = and_parts (leb 1 q.0) (every (λ q. leb 1 q.0) qs) e in
    one_more q.1 q.0 (first_failed qs) (first_failed rs) a.0 (failed-append qs rs a.1)

both-none : (m n : ℕ) → cond (eqb m 0) n m ≡ 0 → (m ≡ 0) × (n ≡ 0)
both-none zero n e = (refl, e)
both-none (suc m) n e = absurd (omega (arith, rw (ne_eqb (suc m) 0 (λ z. omega arith)) at e))

-- questions put behind a record's five
module _ (bytes : List ℕ) (later : List (ℕ × Bool)) where
  behind : first_failed (record_questions bytes ++ later) ≡ cond (eqb (record_number bytes) 0) (first_failed later) (record_number bytes)
  unfolding record_number record_questions every
  behind = failed-append (record_questions bytes) later refl

  pub number-first : (record_number bytes ≡ 0 → ⊥) → first_failed (record_questions bytes ++ later) ≡ record_number bytes
  number-first e = behind ∙ rw (ne_eqb (record_number bytes) 0 e)

  pub number-later : record_number bytes ≡ 0 → first_failed (record_questions bytes ++ later) ≡ first_failed later
  number-later e = behind ∙ rw (eq-eqb (record_number bytes) 0 e)

  pub number-none : first_failed (record_questions bytes ++ later) ≡ 0 → (record_number bytes ≡ 0) × (first_failed later ≡ 0)
  number-none e = both-none (record_number bytes) (first_failed later) (sym behind ∙ e)

-- the numbers that a record is taken for
pub taken-numbers : (bytes : List ℕ) → record_number bytes ≡ 0 → numbers_taken bytes ≡ numbers_of bytes
unfolding numbers_taken
taken-numbers bytes e = rw (eq-eqb (record_number bytes) 0 e)

pub taken_none : (bytes : List ℕ) → (record_number bytes ≡ 0 → ⊥) → numbers_taken bytes ≡ []
unfolding numbers_taken
taken_none bytes e = rw (ne_eqb (record_number bytes) 0 e)

pub accepted : (bytes : List ℕ) → record_number bytes ≡ 0 → Accepted bytes
unfolding record_number record_questions first_failed
accepted bytes e =
    let a = passed 0 (is_kind (kind_of bytes)) _ e in
    let b = passed 1 (is_whole bytes) _ a.1 in
    let c = passed 2 (permitted (rules_of bytes) (numbers_of bytes)) _ b.1 in
    let d = passed 3 (is_filled bytes) _ c.1 in
    let f = passed 4 (ids_rise (numbers_of bytes)) _ d.1 in
    record { kind = a.0; whole = b.0; permits = c.0; filled = d.0; rise = f.0 }

pub not-failed : (bytes : List ℕ) → Accepted bytes → record_number bytes ≡ 0
unfolding record_number record_questions first_failed
not-failed bytes a = rw (a.kind, a.whole, a.permits, a.filled, a.rise)

pub consumed-size : (bytes : List ℕ) → Accepted bytes → consumed bytes ≡ size_of (rules_of bytes)
unfolding consumed
consumed-size bytes a = rw (a.kind, a.whole)

pub numbers-count : (bytes : List ℕ) → length (numbers_of bytes) ≡ length (rules_of bytes)
unfolding numbers_of
numbers-count bytes = length_fields bytes 0 (widths (rules_of bytes)) ∙ length-widths (rules_of bytes)

-- the bounds of each kind's numbers
pub record Opening (vs : List ℕ) : Type 0 where
  pub leap : at vs 1 ≤ 1
  pub factor : (1 ≤ at vs 2) × (at vs 2 ≤ factor_limit)
  pub requirement : (1 ≤ at vs 3) × (at vs 3 ≤ factor_limit)

pub record Registration (vs : List ℕ) : Type 0 where
  pub id : at vs 1 < registrations
  pub seller : at vs 2 < sellers
  pub area : at vs 3 < areas
  pub zone : at vs 4 < zones
  pub product : at vs 5 ≤ 2
  pub committed : (1 ≤ at vs 6) × (at vs 6 ≤ nominated_limit)
  pub rate : at vs 7 ≤ rate_limit

pub record Lse (vs : List ℕ) : Type 0 where
  pub id : at vs 1 < lses
  pub obligation : (1 ≤ at vs 2) × (at vs 2 ≤ obligation_limit)

pub record Event (vs : List ℕ) : Type 0 where
  pub area : at vs 1 < areas
  pub month : (1 ≤ at vs 2) × (at vs 2 ≤ 12)
  pub period : (1 ≤ at vs 3) × (at vs 3 ≤ 3)

pub record Test (vs : List ℕ) : Type 0 where
  pub zone : at vs 1 < zones
  pub product : at vs 2 ≤ 2
  pub month : (1 ≤ at vs 3) × (at vs 3 ≤ 12)

pub record Close (vs : List ℕ) : Type 0 where
  pub month : (1 ≤ at vs 1) × (at vs 1 ≤ close_limit)

pub record Clearing (vs : List ℕ) : Type 0 where
  pub registration : at vs 1 < registrations
  pub price : at vs 2 ≤ rate_limit
  pub kw : (1 ≤ at vs 3) × (at vs 3 ≤ nominated_limit)

pub record Retest (vs : List ℕ) : Type 0 where
  pub zone : at vs 2 < zones
  pub product : at vs 3 ≤ 2

module _ (bytes : List ℕ) (a : Accepted bytes) where
  -- the kind and the counts, as the numbers say them
  abbrev vs : List ℕ
  vs = numbers_of bytes

  pub kind-number : at (row vs) 0 ≡ kind_of bytes
  kind-number = at_row vs 0 ∙ numbers-kind bytes a.kind

  rules : rules_for (kind_of bytes) vs ≡ rules_of bytes
  unfolding rules_by
  rules = rw (numbers-kind bytes a.kind) at (rules-by bytes a.kind)

  pub numbers-few : length vs ≤ most_numbers
  numbers-few =
      let k = kind_of bytes in
      let yes-head : permitted (head k) vs ≡ true = head-permitted k vs vs (rw rules a.permits) in
      omega (arith, numbers-count bytes, ap length rules, few-numbers k vs yes-head)

  -- each number is within its rule
  number-within : (j : ℕ) → j < length vs → ((get_or (rules_of bytes) j no_rule).low ≤ at (row vs) j) × (at (row vs) j ≤ (get_or (rules_of bytes) j no_rule).high)
  number-within j l = rw (at_row vs j) (permitted-at (rules_of bytes) vs a.permits j (omega (arith, numbers-count bytes)))

  -- in the head, by the kind's own rules
  head-within : (j : ℕ) → j < length (head (kind_of bytes)) → ((get_or (head (kind_of bytes)) j no_rule).low ≤ at (row vs) j) × (at (row vs) j ≤ (get_or (head (kind_of bytes)) j no_rule).high)
  head-within j l =
      let m : j < length vs = omega (arith, numbers-count bytes, ap length rules, rules-long (kind_of bytes) vs) in
      rw (← rules, rule-head (kind_of bytes) vs j l) at (number-within j m)

  head_as : (k j : ℕ) → kind_of bytes ≡ k → j < length (head k) → ((get_or (head k) j no_rule).low ≤ at (row vs) j) × (at (row vs) j ≤ (get_or (head k) j no_rule).high)
  head_as k j e l = rw e at (head-within j (rw e l))

  pub opening : kind_of bytes ≡ 1 → Opening (row vs)
  opening e =
      let h : (j : ℕ) → j < 4 → ((get_or (head 1) j no_rule).low ≤ at (row vs) j) × (at (row vs) j ≤ (get_or (head 1) j no_rule).high) = λ j l. head_as 1 j e l in
      record { leap = (h 1 (omega arith)).1; factor = h 2 (omega arith); requirement = h 3 (omega arith) }

  pub registration : kind_of bytes ≡ 2 → Registration (row vs)
  registration e =
      let h : (j : ℕ) → j < 8 → ((get_or (head 2) j no_rule).low ≤ at (row vs) j) × (at (row vs) j ≤ (get_or (head 2) j no_rule).high) = λ j l. head_as 2 j e l in
      record {
        id = omega (arith, (h 1 (omega arith)).1);
        seller = omega (arith, (h 2 (omega arith)).1);
        area = omega (arith, (h 3 (omega arith)).1);
        zone = omega (arith, (h 4 (omega arith)).1);
        product = (h 5 (omega arith)).1;
        committed = h 6 (omega arith);
        rate = (h 7 (omega arith)).1;
      }

  pub lse : kind_of bytes ≡ 3 → Lse (row vs)
  lse e =
      let h : (j : ℕ) → j < 3 → ((get_or (head 3) j no_rule).low ≤ at (row vs) j) × (at (row vs) j ≤ (get_or (head 3) j no_rule).high) = λ j l. head_as 3 j e l in
      record { id = omega (arith, (h 1 (omega arith)).1); obligation = h 2 (omega arith) }

  pub event : kind_of bytes ≡ 4 → Event (row vs)
  event e =
      let h : (j : ℕ) → j < 6 → ((get_or (head 4) j no_rule).low ≤ at (row vs) j) × (at (row vs) j ≤ (get_or (head 4) j no_rule).high) = λ j l. head_as 4 j e l in
      record { area = omega (arith, (h 1 (omega arith)).1); month = h 2 (omega arith); period = h 3 (omega arith) }

  pub test : kind_of bytes ≡ 5 → Test (row vs)
  test e =
      let h : (j : ℕ) → j < 6 → ((get_or (head 5) j no_rule).low ≤ at (row vs) j) × (at (row vs) j ≤ (get_or (head 5) j no_rule).high) = λ j l. head_as 5 j e l in
      record { zone = omega (arith, (h 1 (omega arith)).1); product = (h 2 (omega arith)).1; month = h 3 (omega arith) }

  pub close : kind_of bytes ≡ 6 → Close (row vs)
  close e = record { month = head_as 6 1 e (omega arith) }

  pub clearing : kind_of bytes ≡ 7 → Clearing (row vs)
  clearing e =
      let h : (j : ℕ) → j < 4 → ((get_or (head 7) j no_rule).low ≤ at (row vs) j) × (at (row vs) j ≤ (get_or (head 7) j no_rule).high) = λ j l. head_as 7 j e l in
      record { registration = omega (arith, (h 1 (omega arith)).1); price = (h 2 (omega arith)).1; kw = h 3 (omega arith) }

  -- the month of an event of two reductions
  pub dual-month : kind_of bytes ≡ 8 → at (row vs) 2 ≤ 12
  dual-month e = (head_as 8 2 e (omega arith)).1

  pub retest : kind_of bytes ≡ 9 → Retest (row vs)
  retest e = record { zone = omega (arith, (head_as 9 2 e (omega arith)).1); product = (head_as 9 3 e (omega arith)).1 }
