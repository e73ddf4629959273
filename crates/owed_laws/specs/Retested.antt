-- Facts that agree in what is seller r's decide alike whether it may retest, and what it has to list.
use Rattle.std.specs.Prelude.{ℕ, Bool, ◌&&◌, cond, ◌≡◌, refl, ltb}
use Rattle.std.proofs.Math.Bool.{true, false, and-false}
use Rattle.std.proofs.Math.Dec.{eqb}
use borrow.Author.Tests.{eqb-true}
use Rattle.ids.specs.Sums.{sum_same}
use Rattle.ids.specs.Tests.{and_parts, any_same}
use Rattle.limits.specs.Limits.{registrations}
use Rattle.year.specs.Year as year
use Rattle.owed.specs.Facts.{Facts}
use Rattle.owed.specs.Retests.{test_entry, failed, tested_kw, failed_kw, had_retest}
use Rattle.owed_laws.specs.Independent.{Same}

module _ {r : ℕ} {F G : Facts} (h : Same r F G) (p : ℕ) where
  same-entry : (i : ℕ) → test_entry F p r i ≡ test_entry G p r i
  unfolding test_entry
  same-entry i = rw (← (h.seller i)) (go (eqb (F.seller i) r) refl)
    where
      go : (b : Bool) → eqb (F.seller i) r ≡ b → (year.listed (F.test p).listing i && b) ≡ (year.listed (G.test p).listing i && b)
      go true q = rw (h.tested p i (eqb-true (F.seller i) r q))
      go false q = rw (and-false (year.listed (F.test p).listing i), and-false (year.listed (G.test p).listing i))

  -- an entry of the seller's is of its registration
  own : (i : ℕ) → test_entry F p r i ≡ true → F.seller i ≡ r
  unfolding test_entry
  own i e = eqb-true (F.seller i) r (and_parts (year.listed (F.test p).listing i) (eqb (F.seller i) r) e).1

  -- tests and kilowatts of such entries
  same-and : (i : ℕ) {a b : Bool} → (F.seller i ≡ r → a ≡ b) → (test_entry F p r i && a) ≡ (test_entry G p r i && b)
  same-and i {a} {b} e = rw (← (same-entry i)) (go (test_entry F p r i) refl)
    where
      go : (t : Bool) → test_entry F p r i ≡ t → (t && a) ≡ (t && b)
      go true q = e (own i q)
      go false q = refl

  pub same-failed : (i : ℕ) → failed F p r i ≡ failed G p r i
  unfolding failed
  same-failed i = same-and i (λ o. rw (h.test_reduction p i o, h.committed i o))

  same-kw : {t u : Bool} (i : ℕ) → t ≡ u → (t ≡ true → F.seller i ≡ r) → cond t (year.committed F.terms i) 0 ≡ cond u (year.committed G.terms i) 0
  same-kw {t} i e o = rw (← e) (go t refl)
    where
      go : (b : Bool) → t ≡ b → cond b (year.committed F.terms i) 0 ≡ cond b (year.committed G.terms i) 0
      go true q = h.committed i (o q)
      go false q = refl

  pub same-tested-kw : tested_kw F p r ≡ tested_kw G p r
  unfolding tested_kw
  same-tested-kw = sum_same registrations (λ i l. same-kw i (same-entry i) (own i))

  pub same-failed-kw : failed_kw F p r ≡ failed_kw G p r
  unfolding failed_kw failed
  same-failed-kw =
      sum_same registrations (λ i l. same-kw i (same-failed i) (λ e. own i (and_parts (test_entry F p r i) (ltb (year.reduction (F.test p).listing i) (year.committed F.terms i)) e).0))

  pub same-had-retest : had_retest F p r ≡ had_retest G p r
  unfolding had_retest
  same-had-retest = any_same registrations (λ i l. same-and i (h.retested i))
