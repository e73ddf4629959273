-- Replacing one seller's reductions changes neither which records are accepted, but for that seller's retests, nor another seller's charge lines: two runs whose years are the same for all sellers but that one.
use Rattle.std.specs.Prelude.{ℕ, Bool, ◌&&◌, ◌||◌, cond, length}
use Rattle.std.proofs.Math.Bool.{true, false, and-false, or-true}
use mathlib.Core.List.{List, [], ◌∷◌}
use Rattle.std.proofs.Math.Path.{◌≡◌, refl, ap, sym}
use Rattle.std.proofs.Common.{◌∙◌, arith}
use Rattle.std.proofs.Math.Dec.{eqb}
use Rattle.ids.specs.Ids.{at}
use Rattle.record_layouts.specs.Questions.{first_failed}
use Rattle.year.specs.declared.Listing.{Listing}
use Rattle.year.specs.declared.Year.{Year}
use Rattle.year.specs.Year.{new_year}
use Rattle.owed.specs.Facts.{facts_of}
use Rattle.owed.specs.Owed.{amounts}
use Rattle.record_heads.specs.declared.Head.{Head}
use Rattle.record_heads.specs.Record.{Record, is_close, month_of}
use Rattle.record_heads.specs.RecordLaws.{is-retest}
use Rattle.book_recorded.specs.After.{year_by, year_with}
use Rattle.book_recorded.specs.Recorded.{gather, alone, terms_in, recorded}
use Rattle.book_recorded.specs.Booked.{booked, booked-new}
use Rattle.question_list.specs.Questions.{month_begun}
use Rattle.question_list.specs.Admitted.{Admitted, event-room}
use Rattle.question_list.specs.Blind.{records-blind}
use Rattle.book_outcome.specs.Outcome.{record_in}
use Rattle.book_outcome.specs.Numbers.{same_post}
use Rattle.claim_history.specs.Runs.{Call, Answered, is_accepted, is_closing, acceptances, Variant, done, next}
use Rattle.claim_history.specs.Taking.{buffered, shown, step, answered, answers, accepts, closes}
use Rattle.claim_history.specs.Claim.{charge_line, charge_lines}
use Rattle.claim_history.proofs.YearFollowsRecords.{step_by, step-booked}
use Rattle.claim_history.specs.Admitted.{accepted-admitted}
use Rattle.claim_history.proofs.StepCases.{StepCases, terms, event, test, close, retest, does}
use Rattle.claim_history.specs.Columns.{Column, pays, tests, column, line_in}
use Rattle.claim_history.proofs.StepInvariants.{StepInvariants, kept_new, kept_step}
use Rattle.claim_history.proofs.Closes.{close-line}
use Rattle.claim_history.proofs.Same.{SameListing, same-single, Same, same_new, same-terms, same-event, same_test, same-retests, same-retest, same-close}
use Rattle.claim_history.proofs.Blind.{years-blind}
use Rattle.claim_history.proofs.OwnRetests.{is_own_retest, own-retest}
use Rattle.claim_history.proofs.Paired.{Paired, paired}
use Rattle.claim_history.proofs.TwoRuns.{PairedCalls, none, both, two_runs}

-- the relation: two years that are the same for all sellers but s, along two runs
record Related (s : ℕ) (y z : Year) : Type 0 where
  same : Same s y z
  left : StepInvariants y
  right : StepInvariants z

module _ {s : ℕ} {y z : Year} (h : Related s y z) where
  -- accepted records that are alike
  same-record : {l m : Listing} {room : ℕ} {k : Head} → StepCases k → Admitted month_begun y (record { head = k; listing = l }) room → SameListing y.terms s l m → Same s (year_by y l k) (year_by z m k)
  unfolding year_by
  same-record {l} {m} (terms x) = λ a q.
      rw (x.is y l, x.is z m, ← h.same.terms, ← h.same.clearings, ← h.same.opened) (same-terms h.same h.left.sound h.right.sound (x.fresh h.left.begun a) _ _ _)
  same-record (event e n) = rw n (λ a q. same-event h.same h.left.sound h.right.sound (event-room a) (record { month = refl; period = refl; dual = refl; listing = q }))
  same-record (test t n) = rw n (λ a q. same_test h.same h.left.sound h.right.sound _ (record { taken = refl; month = refl; listing = same-single y.terms s q }))
  same-record (close c n) = rw n (λ a q. same-close h.same c.month)
  same-record (retest t n) = rw n (λ a q. same-retest h.same q)

  -- a call and its variant, if it is no retest of s's: accepted alike, and the years after them related
  module _ {c d : Call} (p : Paired s y c d) where
    same-accepts : is_own_retest s c ≡ false → accepts y c ≡ accepts z d
    unfolding is_accepted
    same-accepts o =
        let records = records-blind month_begun (length c.buffer) y (record_in c.bytes) (record_in d.bytes) p.alike.heads p.alike.listings.listed p.alike.listings.deficits in
        let years = years-blind h.same month_begun (length d.buffer) (record_in d.bytes) (rw p.alike.heads at o) in
        ap (λ n. eqb n 0) (same_post y z c.bytes d.bytes (length c.buffer) (length d.buffer) p.number (ap first_failed (records ∙ rw p.room years)))

    same_step : is_own_retest s c ≡ false → Same s (step y c) (step z d)
    same_step o = rw (step_by y c, step_by z d, ← (same-accepts o)) (go (accepts y c) refl)
      where
        go : (b : Bool) → accepts y c ≡ b → Same s (cond b (year_with y (record_in c.bytes)) y) (cond b (year_with z (record_in d.bytes)) z)
        go false e = h.same
        go true e = rw (← p.alike.heads) (same-record (does (record_in c.bytes).head) (accepted-admitted y c e) p.alike.listings)

    -- a retest of s's may be accepted otherwise: it changes s's retests alone
    own-step : is_own_retest s c ≡ true → Same s (step y c) (step z d)
    own-step o =
        let first = own-retest s y c h.left.sound o in
        let second = own-retest s z d h.right.sound (rw p.alike.heads at o) in
        rw (first.1, second.1) (same-retests h.same (λ i n. sym (first.2 i n) ∙ h.same.retests i n ∙ second.2 i (rw h.same.terms at n)))

    related-step : Related s (step y c) (step z d)
    related-step = record { same = go (is_own_retest s c) refl; left = kept_step h.left c; right = kept_step h.right d }
      where
        go : (b : Bool) → is_own_retest s c ≡ b → Same s (step y c) (step z d)
        go false o = same_step o
        go true o = own-step o

    -- at each position: accepted, or s's retest
    same-position : (accepts y c || is_own_retest s c) ≡ (accepts z d || is_own_retest s d)
    same-position = rw (← p.alike.heads) (go (is_own_retest s c) refl)
      where
        go : (b : Bool) → is_own_retest s c ≡ b → (accepts y c || b) ≡ (accepts z d || b)
        go false o = rw (same-accepts o)
        go true o = or-true (accepts y c) ∙ sym (or-true (accepts z d))

    same-closes : closes y c ≡ closes z d
    unfolding is_closing
    same-closes = rw (← p.alike.heads) (go (is_own_retest s c) refl)
      where
        go : (b : Bool) → is_own_retest s c ≡ b → (accepts y c && is_close (record_in c.bytes).head) ≡ (accepts z d && is_close (record_in c.bytes).head)
        go false o = rw (same-accepts o)
        go true o = rw (is-retest s (record_in c.bytes).head o).1 (and-false (accepts y c) ∙ sym (and-false (accepts z d)))

    -- what a close says of another seller
    module _ {r : ℕ} (n : r ≡ s → ⊥) where
      same_line : (col : Column) → closes y c ≡ true
          → at (column col (amounts (facts_of y) (month_of (record_in c.bytes).head))) r ≡ at (column col (amounts (facts_of z) (month_of (record_in c.bytes).head))) r
          → at (column col y.billed) r ≡ at (column col z.billed) r → line_in col (buffered y c) r ≡ line_in col (buffered z d) r
      same_line col o now before =
          rw (close-line y c h.left.sound o col r, close-line z d h.right.sound (sym same-closes ∙ o) col r, ← p.alike.heads, now, before, h.same.terms)

      same_lines : alone (closes y c) (charge_line r (buffered y c)) ≡ alone (closes z d) (charge_line r (buffered z d))
      unfolding line_in column
      same_lines = rw (← same-closes) (go (closes y c) refl)
        where
          go : (b : Bool) → closes y c ≡ b → alone b (charge_line r (buffered y c)) ≡ alone b (charge_line r (buffered z d))
          go false o = refl
          go true o =
              let k = same-close h.same (month_of (record_in c.bytes).head) in
              cc (same_line pays o (k.pays r n) (h.same.pays r n), same_line tests o (k.fails r n) (h.same.fails r n))

booked-terms : (rs : List Record) {y : Year} → y ≡ booked rs → y.terms ≡ terms_in rs
unfolding booked recorded
booked-terms rs b = rw b

module _ (s : ℕ) where
  abbrev P : Year → Year → Call → Call → Type 0
  P y z c d = Paired s y c d

  -- G's calls are paired with H's
  all-paired : {rs : List Record} {xs : List Answered} {G : List Call} → Variant s rs xs G → (H : List Call) (y z : Year) → y ≡ booked rs → xs ≡ answers y H
      → PairedCalls shown shown step step (Related s) P y z H G
  unfolding answered
  all-paired done [] y z b e = none
  all-paired done (c ∷ cs) y z b e = absurd (let n : ◌≡◌ {A = ℕ} 0 1 = cc in omega arith)
  all-paired (next v w) [] y z b e = absurd (let n : ◌≡◌ {A = ℕ} 0 1 = cc in omega arith)
  all-paired (next {rs = rs} {x = x} {d = d} {xs = xs} v w) (c ∷ cs) y z b e =
      let first : x ≡ shown y c = cc in
      let rest : xs ≡ answers (step y c) cs = cc in
      both (paired (booked-terms rs b) (rw first at v)) (all-paired w cs (step y c) (step z d) (rw (first, b) (step-booked rs c)) rest)

  module _ (H : List Call) {G : List Call} (v : Variant s [] (answers new_year H) G) where
    related : Related s new_year new_year
    related = record { same = same_new s; left = kept_new; right = kept_new }

    alike : {X : Type 0} (f : Answered → List X) → ((y z : Year) (c d : Call) → Related s y z → Paired s y c d → f (shown y c) ≡ f (shown z d))
        → gather f (answers new_year H) ≡ gather f (answers new_year G)
    alike f same =
        two_runs shown shown step step (Related s) P (λ y z c d h p. related-step h p) f f same related (all-paired v H new_year new_year (sym booked-new) refl)

    pub accepted-alike : acceptances s (answers new_year G) ≡ acceptances s (answers new_year H)
    accepted-alike =
        sym (alike (λ x. (is_accepted x || is_own_retest s x.call) ∷ []) (λ y z c d h p. rw (same-position h p)))

    pub charged-alike : (r : ℕ) → (r ≡ s → ⊥) → charge_lines r (answers new_year G) ≡ charge_lines r (answers new_year H)
    charged-alike r n = sym (alike (λ x. alone (is_closing x) (charge_line r x.after)) (λ y z c d h p. same_lines h p n))
