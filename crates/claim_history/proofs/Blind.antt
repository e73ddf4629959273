-- The questions are answered alike in years that are the same for all sellers but one, whatever the record, if it is no retest of that seller's.
use Rattle.std.specs.Prelude.{ℕ, Bool, true, false, ◌≡◌, get_or}
use Rattle.std.proofs.Math.Path.{fun_ext}
use Rattle.year.specs.declared.Listing.{Listing}
use Rattle.year.specs.declared.Year.{Year}
use Rattle.year.specs.Year.{no_test, test_group}
use Rattle.owed.specs.Facts.{facts_of}
use Rattle.owed.specs.Owed.{dispatched}
use Rattle.owed.specs.Retests.{failed}
use Rattle.owed_laws.specs.Retested.{same-failed, same-tested-kw, same-failed-kw, same-had-retest}
use Rattle.record_heads.specs.declared.Head.{Head}
use Rattle.record_heads.specs.Record.{Record, is_retest_of}
use Rattle.record_heads.specs.RecordLaws.{other-retests}
use Rattle.question_list.specs.Questions.{q6, q7, q8, q9, q10, q17, q11, q20, q21, q12, q13, q14, q15, questions}
use Rattle.claim_history.proofs.Same.{Same, same-facts, same-dispatched}

module _ {s : ℕ} {y z : Year} (h : Same s y z) where
  taken : (k : ℕ) → (get_or y.tests k no_test).taken ≡ (get_or z.tests k no_test).taken
  taken k = (h.tests k).taken

  month : (k : ℕ) → (get_or y.tests k no_test).month ≡ (get_or z.tests k no_test).month
  month k = (h.tests k).month

  same-calls : dispatched (facts_of y) ≡ dispatched (facts_of z)
  same-calls = fun_ext (same-dispatched h)

  -- what the seller of a retest has failed and tested
  twenty : (k : Head) → is_retest_of s k ≡ false → q20 y k ≡ q20 z k
  unfolding q20
  twenty k e =
      other-retests (λ x. true) s k e (λ t n.
      let f = same-facts h t.seller n in
      let p = test_group t.zone t.product in
      rw (taken p, same-had-retest f p, same-tested-kw f p, same-failed-kw f p))

  twenty-one : (l : Listing) (k : Head) → is_retest_of s k ≡ false → q21 y l k ≡ q21 z l k
  unfolding q21
  twenty-one l k e =
      other-retests (λ x. true) s k e (λ t n.
      let all : failed (facts_of y) (test_group t.zone t.product) t.seller ≡ failed (facts_of z) (test_group t.zone t.product) t.seller = fun_ext (same-failed (same-facts h t.seller n) (test_group t.zone t.product)) in
      rw (all, h.terms))

  pub years-blind : (rule : ℕ → ℕ → Bool) (room : ℕ) (r : Record) → is_retest_of s r.head ≡ false → questions rule y r room ≡ questions rule z r room
  unfolding questions q6 q7 q8 q9 q10 q17 q11 q12 q13 q14 q15
  years-blind rule room r e =
      rw (twenty r.head e, twenty-one r.listing r.head e, same-calls) (simp (h.opened, h.started, h.closed, h.accepted, h.terms, h.clearings, taken, month))
