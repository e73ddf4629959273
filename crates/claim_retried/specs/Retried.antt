-- What an accepted record makes of 'has this seller had a retest of that zone and product', which question 20 reads off the registrations: it is so from its retest of that on.
use Rattle.std.specs.Prelude.{ℕ, ◌*◌, ◌<◌, Bool, not, ◌&&◌, ◌||◌, List, ◌≡◌, ltb, length, get_or}
use Rattle.std.proofs.Math.Bool.{true, false, beq, cond, and-false, or-true, or-false}
use Rattle.std.proofs.Math.Logic.{inl, inr}
use Rattle.std.proofs.Math.Path.{refl, sym}
use Rattle.std.proofs.Common.{◌∙◌, arith, get_or-set_other}
use Rattle.std.proofs.Math.Decide.{dec_lt, ℕ_discrete}
use Rattle.std.proofs.Math.Dec.{eqb}
use Rattle.std.proofs.Math.ListN.{get_or-eq_default}
use borrow.Author.Tests.{eqb-true, eq-eqb, ltb-true}
use Rattle.ids.specs.Ids.{sum_to, any_to, only}
use Rattle.ids.specs.Each.{each-replicate}
use Rattle.ids.specs.Sums.{sum-zero}
use Rattle.ids.specs.Tests.{and_parts, any_same, any_at, any_some, none-at, all-at}
use Rattle.ids.specs.Tables.{get_or-tabulate}
use Rattle.ids.specs.Sets.{get_or-replicate-same}
use Rattle.limits.specs.Limits.{registrations, test_groups}
use Rattle.year.specs.declared.Listing.{Listing}
use Rattle.year.specs.declared.Retest.{Retest}
use Rattle.year.specs.declared.Year.{Year}
use Rattle.year.specs.Year.{no_retest, no_test, retest_of, listed, zone, product, size, test_group}
use Rattle.year.specs.Steps.{with_terms, retest_by}
use Rattle.year.specs.Sound.{Sound}
use Rattle.year.specs.Limits.{each-anywhere, size_is}
use Rattle.year.specs.Year as year
use Rattle.owed.specs.Facts.{Facts, facts_of}
use Rattle.owed.specs.Retests.{below_quarter, test_entry, failed, tested_kw, failed_kw, had_retest}
use Rattle.record_heads.specs.declared.Head.{Head}
use Rattle.record_heads.specs.declared.Head.TheVariants as head
use Rattle.record_heads.specs.declared.TestHead.{TestHead}
use Rattle.record_heads.specs.declared.RetestHead.{RetestHead}
use Rattle.record_heads.specs.Record.{Record, for_retest}
use Rattle.record_heads.specs.RecordLaws.{retest-or-not}
use Rattle.question_conditions.specs.Entries.{lists_exactly}
use Rattle.book_recorded.specs.After.{recorded_test, year_by}
use Rattle.book_recorded.specs.Recorded.{gather, alone}
use Rattle.question_list.specs.Questions.{month_begun, q20, q21}
use Rattle.question_list.specs.Admitted.{Admitted, test-free, retest-started}
use Rattle.claim_history.proofs.StepInvariants.{StepInvariants, never}
use Rattle.claim_history.proofs.StepCases.{StepCases, terms, event, test, close, retest}

-- is a retest seller s's in the zone and product of group p, and is a record such a retest
abbrev is_at : ℕ → ℕ → RetestHead → Bool
is_at p s t = eqb (test_group t.zone t.product) p && eqb t.seller s

abbrev pub is_retest_at : ℕ → ℕ → Head → Bool
is_retest_at p s = for_retest (is_at p s) (λ h. false)

-- is a retest of seller s's in the zone and product of group p among these
abbrev pub any_retest : ℕ → ℕ → List Record → Bool
any_retest p s rs = ltb 0 (length (gather (λ r. alone (is_retest_at p s r.head) r) rs))

same_bool : (a b : Bool) → (a ≡ true → b ≡ true) → (b ≡ true → a ≡ true) → a ≡ b
same_bool true b f g = sym (f refl)
same_bool false true f g = g refl
same_bool false false f g = refl

or_elim : {X : Type 0} (a b : Bool) → (a || b) ≡ true → (a ≡ true → X) → (b ≡ true → X) → X
or_elim true b e f g = f refl
or_elim false b e f g = g e

beq-true : (a b : Bool) → beq a b ≡ true → a ≡ b
beq-true true true e = refl
beq-true false false e = refl
beq-true true false e = never refl e
beq-true false true e = never refl e

-- a registration's group; each retested one is in the test of its group
abbrev placed : Year → ℕ → ℕ
placed y i = test_group (zone y.terms i) (product y.terms i)

abbrev pub InTest : Year → Type 0
InTest y = (i : ℕ) → i < registrations → (retest_of y i).taken ≡ true → year.listed ((facts_of y).test (placed y i)).listing i ≡ true

-- a test lists registrations of its group alone
own-group : {y : Year} → Sound y → (p i : ℕ) → i < registrations → year.listed ((facts_of y).test p).listing i ≡ true → placed y i ≡ p
unfolding listed
own-group {y} S p i l e = elim (dec_lt p test_groups) [
  | yes b ↦ (S.tests p b).own i l e
  | no b ↦ never (get_or-replicate-same registrations i false) (rw (get_or-eq_default y.tests no_test {n = p} (omega (arith, S.groups))) at e)
]

-- one that is not taken lists none
not_listed : {y : Year} → Sound y → (p i : ℕ) → i < registrations → (get_or y.tests p no_test).taken ≡ false → year.listed ((facts_of y).test p).listing i ≡ false
unfolding listed
not_listed {y} S p i l e = elim (dec_lt p test_groups) [
  | yes b ↦ (S.tests p b).untaken e i l
  | no b ↦ rw (get_or-eq_default y.tests no_test {n = p} (omega (arith, S.groups))) (get_or-replicate-same registrations i false)
]

-- where none is retested, nobody has had a retest
pub none-had : (y : Year) → ((i : ℕ) → (retest_of y i).taken ≡ false) → (p s : ℕ) → had_retest (facts_of y) p s ≡ false
unfolding had_retest
none-had y none p s = go (any_to registrations had) refl
  where
    had : ℕ → Bool
    had i = test_entry (facts_of y) p s i && (retest_of y i).taken

    go : (b : Bool) → any_to registrations had ≡ b → b ≡ false
    go true e =
        let r = any_some registrations had e in
        never (none r.0) (and_parts (test_entry (facts_of y) p s r.0) (retest_of y r.0).taken r.2).1
    go false e = refl

-- before the first event, test or close there is no retest
pub blank : {y : Year} → Sound y → y.started ≡ false → (i : ℕ) → (retest_of y i).taken ≡ false
blank S e i =
    rw (S.fresh e).3 (each-anywhere (λ (x : Retest). x.taken ≡ false) {d = no_retest} refl (each-replicate (λ (x : Retest). x.taken ≡ false) no_retest registrations {v = no_retest} refl) i)

module _ {y : Year} (k : StepInvariants y) (b : InTest y) {l : Listing} {room : ℕ} where
  -- a test comes where none of its registrations is retested
  module _ {t : TestHead} (a : Admitted month_begun y (record { head = head.Test t; listing = l }) room) (S : Sound (year_by y l (head.Test t))) where
    abbrev q : ℕ
    q = test_group t.zone t.product

    same-tested : (p i : ℕ) → i < registrations → (retest_of y i).taken ≡ true → year.listed ((facts_of y).test p).listing i ≡ year.listed ((facts_of (year_by y l (head.Test t))).test p).listing i
    unfolding year_by
    same-tested p i m e = elim (ℕ_discrete p q) [
      | yes h ↦ same_bool _ _
          (λ o. never (not_listed k.sound q i m (test-free a)) (rw h at o))
          (λ n. rw (own-group S p i m n) at (b i m e))
      | no n ↦ rw (get_or-set_other y.tests q p (recorded_test t l) no_test n)
    ]

    test-had : (p s : ℕ) → had_retest (facts_of y) p s ≡ had_retest (facts_of (year_by y l (head.Test t))) p s
    unfolding had_retest test_entry year_by
    test-had p s = any_same registrations (λ i m. go i m (retest_of y i).taken refl)
      where
        go : (i : ℕ) → i < registrations → (d : Bool) → (retest_of y i).taken ≡ d → (test_entry (facts_of y) p s i && d) ≡ (test_entry (facts_of (year_by y l (head.Test t))) p s i && d)
        go i m true e = rw (same-tested p i m e)
        go i m false e = and-false (test_entry (facts_of y) p s i) ∙ sym (and-false (test_entry (facts_of (year_by y l (head.Test t))) p s i))

  -- a retest lists exactly the entries that failed, of which there are some
  module _ {t : RetestHead} (a : Admitted month_begun y (record { head = head.Retest t; listing = l }) room) where
    abbrev r : ℕ
    r = test_group t.zone t.product

    abbrev z : Year
    z = year_by y l (head.Retest t)

    lists-failed : (i : ℕ) → i < registrations → listed l i ≡ failed (facts_of y) r t.seller i
    unfolding q21 lists_exactly
    lists-failed i m =
        beq-true (listed l i) (failed (facts_of y) r t.seller i)
        (all-at (size y.terms) (λ j. beq (listed l j) (failed (facts_of y) r t.seller j)) a.twenty-one i (omega (arith, size_is k.sound.terms)))

    -- so a registration that it lists is in that test, and the seller's
    listed-entry : (i : ℕ) → i < registrations → listed l i ≡ true → (year.listed ((facts_of y).test r).listing i ≡ true) × ((facts_of y).seller i ≡ t.seller)
    unfolding failed test_entry
    listed-entry i m e =
        let entry = (and_parts (test_entry (facts_of y) r t.seller i) (ltb (year.reduction ((facts_of y).test r).listing i) (year.committed (facts_of y).terms i)) (sym (lists-failed i m) ∙ e)).0 in
        let parts = and_parts (year.listed ((facts_of y).test r).listing i) (eqb ((facts_of y).seller i) t.seller) entry in
        (parts.0, eqb-true ((facts_of y).seller i) t.seller parts.1)

    some-listed : (i : ℕ) × (i < registrations) × (listed l i ≡ true)
    unfolding q20 below_quarter failed_kw
    some-listed = go (any_to registrations (failed (facts_of y) r t.seller)) refl
      where
        F : Facts
        F = facts_of y

        below : below_quarter (failed_kw F r t.seller) (tested_kw F r t.seller) ≡ true
        below =
            let twice = not (had_retest F r t.seller) in
            let quarter = below_quarter (failed_kw F r t.seller) (tested_kw F r t.seller) in
            (and_parts twice quarter (and_parts (get_or y.tests r no_test).taken (twice && quarter) a.twenty).1).1

        some : 0 < failed_kw F r t.seller * 4
        some =
            ltb-true 0 (failed_kw F r t.seller * 4) (and_parts (ltb 0 (failed_kw F r t.seller * 4)) (ltb (failed_kw F r t.seller * 4) (tested_kw F r t.seller)) below).0

        go : (d : Bool) → any_to registrations (failed (facts_of y) r t.seller) ≡ d → (i : ℕ) × (i < registrations) × (listed l i ≡ true)
        go true e =
            let f = any_some registrations (failed (facts_of y) r t.seller) e in
            (f.0, f.1, lists-failed f.0 f.1 ∙ f.2)
        go false e =
            let none : sum_to registrations (only (failed (facts_of y) r t.seller) (year.committed (facts_of y).terms)) ≡ 0 =
            sum-zero registrations (λ i m. rw (none-at registrations (failed (facts_of y) r t.seller) e i m)) in
            absurd (omega (arith, some, none))

    -- after it those are retested that were, and those that it lists
    taken_is : (i : ℕ) → i < registrations → (retest_of z i).taken ≡ (listed l i || (retest_of y i).taken)
    unfolding year_by
    taken_is i m = rw (get_or-tabulate (λ j. cond (listed l j) (retest_by l j) (retest_of y j)) registrations i no_retest m) (go (listed l i))
      where
        go : (d : Bool) → (cond d (retest_by l i) (retest_of y i)).taken ≡ (d || (retest_of y i).taken)
        go true = refl
        go false = refl

    retest-in-test : InTest z
    unfolding year_by
    retest-in-test i m e = go (listed l i) refl (sym (taken_is i m) ∙ e)
      where
        go : (d : Bool) → listed l i ≡ d → (d || (retest_of y i).taken) ≡ true → year.listed ((facts_of y).test (placed y i)).listing i ≡ true
        go true o f = let in-test = (listed-entry i m o).0 in rw (own-group k.sound r i m in-test) in-test
        go false o f = b i m f

    retest-had : (p s : ℕ) → had_retest (facts_of z) p s ≡ (had_retest (facts_of y) p s || (eqb r p && eqb t.seller s))
    unfolding had_retest test_entry year_by
    retest-had p s =
        same_bool _ _
        (λ e.
        let f = any_some registrations (λ i. test_entry (facts_of y) p s i && (retest_of z i).taken) e in
        let i = f.0 in
        let parts = and_parts (test_entry (facts_of y) p s i) (retest_of z i).taken f.2 in
        there i f.1 parts.0 (listed l i) refl (sym (taken_is i f.1) ∙ parts.1))
        (λ e. or_elim (had_retest (facts_of y) p s) (eqb r p && eqb t.seller s) e had again)
      where
        there : (i : ℕ) → i < registrations → test_entry (facts_of y) p s i ≡ true → (d : Bool) → listed l i ≡ d → (d || (retest_of y i).taken) ≡ true
            → (had_retest (facts_of y) p s || (eqb r p && eqb t.seller s)) ≡ true
        there i m entry true o g =
            let mine = listed-entry i m o in
            let parts = and_parts (year.listed ((facts_of y).test p).listing i) (eqb ((facts_of y).seller i) s) entry in
            let group : r ≡ p = sym (own-group k.sound r i m mine.0) ∙ own-group k.sound p i m parts.0 in
            let seller : t.seller ≡ s = sym mine.1 ∙ eqb-true ((facts_of y).seller i) s parts.1 in
            rw (eq-eqb r p group, eq-eqb t.seller s seller) (or-true (had_retest (facts_of y) p s))
        there i m entry false o g =
            rw (any_at registrations (λ j. test_entry (facts_of y) p s j && (retest_of y j).taken) i m (rw (entry, g)))

        had : had_retest (facts_of y) p s ≡ true → any_to registrations (λ i. test_entry (facts_of y) p s i && (retest_of z i).taken) ≡ true
        had e =
            let f = any_some registrations (λ i. test_entry (facts_of y) p s i && (retest_of y i).taken) e in
            let parts = and_parts (test_entry (facts_of y) p s f.0) (retest_of y f.0).taken f.2 in
            any_at registrations (λ i. test_entry (facts_of y) p s i && (retest_of z i).taken) f.0 f.1 (rw (parts.0, taken_is f.0 f.1, parts.1) (or-true (listed l f.0)))

        again : (eqb r p && eqb t.seller s) ≡ true → any_to registrations (λ i. test_entry (facts_of y) p s i && (retest_of z i).taken) ≡ true
        again e =
            let f = some-listed in
            let mine = listed-entry f.0 f.1 f.2 in
            let parts = and_parts (eqb r p) (eqb t.seller s) e in
            let group = eqb-true r p parts.0 in
            let seller = eqb-true t.seller s parts.1 in
            any_at registrations (λ i. test_entry (facts_of y) p s i && (retest_of z i).taken) f.0 f.1
            (rw (taken_is f.0 f.1, f.2, ← group, mine.0, eq-eqb ((facts_of y).seller f.0) s (mine.1 ∙ seller)))

  -- what an accepted record makes of it
  pub had_by : {h : Head} → StepCases h → Admitted month_begun y (record { head = h; listing = l }) room → Sound (year_by y l h)
      → InTest (year_by y l h) × ((p s : ℕ) → had_retest (facts_of (year_by y l h)) p s ≡ (had_retest (facts_of y) p s || is_retest_at p s h))
  unfolding year_by had_retest test_entry
  had_by {h} (terms x) = λ a S.
      let begun = x.fresh k.begun a in
      let none = blank k.sound begun in
      let other : (p s : ℕ) → is_retest_at p s h ≡ false = λ p s. elim (retest-or-not h) [
        | inl m ↦ never begun (retest-started {l = l} {t = m.0} (rw m.1 at a) k.sound)
        | inr o ↦ o (is_at p s) (λ g. false)
      ] in
      rw (x.is y l) (
        (λ i m e. never (none i) e),
        λ p s. none-had (with_terms y (x.opened y.opened) (x.new y.terms) (x.clearings y.clearings)) none p s ∙ sym (rw (none-had y none p s, other p s)),
      )
  had_by (event e n) = rw n (λ a S. (b, λ p s. sym (or-false (had_retest (facts_of y) p s))))
  had_by (test t n) = rw n (λ a S. ((λ i m e. sym (same-tested a S (placed y i) i m e) ∙ b i m e), λ p s. sym (test-had a S p s) ∙ sym (or-false (had_retest (facts_of y) p s))))
  had_by (close c n) = rw n (λ a S. (b, λ p s. sym (or-false (had_retest (facts_of y) p s))))
  had_by (retest t n) = rw n (λ a S. (retest-in-test a, retest-had a))
