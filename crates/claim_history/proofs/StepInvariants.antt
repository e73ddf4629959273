-- What holds of every year along a list of calls.
use Prim.Native.Nat.{ℕ, ◌<◌}
use Rattle.std.specs.Prelude.{Bool, false, cond, List, [], ◌∷◌, ◌≡◌, refl, get_or, replicate}
use Rattle.std.proofs.Math.Bool.{true}
use Rattle.std.proofs.Common.{sym, ◌∙◌, not-suc-le-zero, arith}
use Rattle.std.proofs.Math.ListN.{length}
use Rattle.limits.specs.Limits.{registrations, test_groups}
use Rattle.year.specs.declared.Listing.{Listing}
use Rattle.year.specs.declared.Event.{Event}
use Rattle.year.specs.declared.Test.{Test}
use Rattle.year.specs.declared.Terms.{Terms}
use Rattle.year.specs.declared.Year.{Year}
use Rattle.year.specs.Year.{new_year, no_amounts, no_test, test_group, listed, known, no_event}
use Rattle.ids.specs.Sets.{kept_set, related-next, get_or-replicate-same}
use Rattle.year.specs.ListingLaws.{single-listed}
use Rattle.year.specs.Steps.{with_terms}
use Rattle.year.specs.Sound.{SoundTerms, Sound}
use Rattle.year.specs.StaysSound.{sound-new}
use Rattle.year.specs.Limits.{size_is, lse-count-is}
use Rattle.owed.specs.Facts.{facts_of}
use Rattle.owed_laws.specs.Parties.{Known}
use Rattle.record_heads.specs.declared.Head.{Head}
use Rattle.question_list.specs.Questions.{month_begun}
use Rattle.question_list.specs.Admitted.{Admitted, event-room}
use Rattle.record_heads.specs.Events.{event_of}
use Rattle.book_recorded.specs.After.{year_by, year_with}
use Rattle.book_outcome.specs.Outcome.{record_in, year_after}
use Rattle.book_outcome.specs.StaysSound.{sound-after}
use Rattle.claim_history.specs.Runs.{Call, is_accepted}
use Rattle.claim_history.specs.Taking.{accepts, step, run}
use Rattle.claim_history.proofs.YearFollowsRecords.{step_by}
use Rattle.claim_history.specs.Admitted.{accepted-admitted}
use Rattle.claim_history.proofs.StepCases.{Knows, StepCases, terms, event, test, close, retest, does, event-open, event-knows, test-open, test-knows, close_open, close-obliged}
use Rattle.claim_history.proofs.Billed.{Billed, billed-none, billed-amounts}

-- sound; opened before the first event, test or close; nothing billed before them; every listed registration known; what is billed balances
pub record StepInvariants (y : Year) : Type 0 where
  pub sound : Sound y
  pub begun : y.started ≡ true → y.opened ≡ true
  pub unbilled : y.started ≡ false → y.billed ≡ no_amounts
  pub known : Known (facts_of y)
  pub billed : Billed y.terms y.billed

pub never : {X : Type 0} {b : Bool} → b ≡ false → b ≡ true → X
never e t = absurd (let z : ◌≡◌ {A = ℕ} 0 1 = cc in omega arith)

-- as the facts say it
knows : {T : Terms} → SoundTerms T → (l : Listing) → Knows T l → (i : ℕ) → i < registrations → listed l i ≡ true → known T i ≡ true
knows S x k i l = k i (omega (arith, size_is S))

-- a test that is not taken lists nothing
blank-tests : (T : Terms) {ts : List Test} → ts ≡ replicate test_groups no_test → (p : ℕ) → Knows T (get_or ts p no_test).listing
unfolding listed
blank-tests T e p =
    rw (e, get_or-replicate-same test_groups p no_test) (λ i l q. never (get_or-replicate-same registrations i false) q)

pub kept_new : StepInvariants new_year
kept_new =
    record {
      sound = sound-new;
      begun = λ e. never refl e;
      unbilled = λ e. refl;
      known = record { events = λ ev l. absurd (not-suc-le-zero l); tests = λ p l. knows sound-new.terms _ (blank-tests new_year.terms refl p) };
      billed = billed-none new_year.terms;
    }

-- soundness of the year after an accepted record
pub accepted-sound : {y : Year} → Sound y → (c : Call) → accepts y c ≡ true → Sound (year_with y (record_in c.bytes))
unfolding is_accepted year_after
accepted-sound S c e = rw e at (sound-after S c.bytes (length c.buffer))

-- an accepted record keeps it
module _ {y : Year} (k : StepInvariants y) {l : Listing} {room : ℕ} where
  kept_by : {h : Head} → StepCases h → Admitted month_begun y (record { head = h; listing = l }) room → Sound (year_by y l h) → StepInvariants (year_by y l h)
  unfolding year_by
  kept_by (terms x) = λ a s.
      let T = x.new y.terms in
      let e = x.fresh k.begun a in
      let f = k.sound.fresh e in
      let t : Sound (with_terms y (x.opened y.opened) T (x.clearings y.clearings)) = rw (x.is y l) at s in
      rw (x.is y l)
      (record {
        sound = t;
        begun = λ b. never e b;
        unbilled = k.unbilled;
        known = record { events = λ ev m. absurd (omega (arith, f.0)); tests = λ p m. knows t.terms _ (blank-tests T f.2 p) };
        billed = rw (k.unbilled e) (billed-none T);
      })
  kept_by (event e q) = rw q (λ a s.
      let P : Event → Event → Type 0 = λ x z. (i : ℕ) → i < registrations → listed x.listing i ≡ true → known y.terms i ≡ true in
      let m : y.accepted < length y.events = omega (arith, event-room a, k.sound.events.long) in
      record {
        sound = s;
        begun = λ b. event-open a;
        unbilled = λ b. never b refl;
        known = record { events = related-next P no_event y.events y.events y.accepted {v = event_of e l} {w = event_of e l} m m (knows k.sound.terms l (event-knows a)) k.known.events; tests = k.known.tests };
        billed = k.billed;
      })
  kept_by (test t q) = rw q (λ a s.
      let P : ℕ → Test → Type 0 = λ p x. p < test_groups → (i : ℕ) → i < registrations → listed x.listing i ≡ true → known y.terms i ≡ true in
      record {
        sound = s;
        begun = λ b. test-open a;
        unbilled = λ b. never b refl;
        known = record { events = k.known.events; tests = kept_set P no_test y.tests (test_group t.zone t.product) (λ m i b n. knows k.sound.terms l (test-knows a) i b (sym (single-listed l i) ∙ n)) k.known.tests };
        billed = k.billed;
      })
  kept_by (close c q) = rw q (λ a s.
      record {
        sound = s;
        begun = λ b. close_open a;
        unbilled = λ b. never b refl;
        known = record { events = k.known.events; tests = k.known.tests };
        billed = billed-amounts k.sound k.known (rw (lse-count-is k.sound.terms) at (close-obliged a)) c.month;
      })
  kept_by (retest t q) = rw q (λ a s.
      record {
        sound = s;
        begun = k.begun;
        unbilled = k.unbilled;
        known = record { events = k.known.events; tests = k.known.tests };
        billed = k.billed;
      })

  -- once begun, the terms stay
  frozen-by : {h : Head} → StepCases h → Admitted month_begun y (record { head = h; listing = l }) room → y.started ≡ true
      → ((year_by y l h).started ≡ true) × ((year_by y l h).terms ≡ y.terms)
  unfolding year_by
  frozen-by (terms x) a b = never (x.fresh k.begun a) b
  frozen-by (event e q) a b = rw q (refl, refl)
  frozen-by (test t q) a b = rw q (refl, refl)
  frozen-by (close c q) a b = rw q (refl, refl)
  frozen-by (retest t q) a b = rw q (b, refl)

-- what a call does
module _ {y : Year} (k : StepInvariants y) (c : Call) where
  pub kept_step : StepInvariants (step y c)
  kept_step = rw (step_by y c) (go (accepts y c) refl)
    where
      go : (b : Bool) → accepts y c ≡ b → StepInvariants (cond b (year_with y (record_in c.bytes)) y)
      go false e = k
      go true e = kept_by k (does (record_in c.bytes).head) (accepted-admitted y c e) (accepted-sound k.sound c e)

  frozen-step : y.started ≡ true → ((step y c).started ≡ true) × ((step y c).terms ≡ y.terms)
  frozen-step t = rw (step_by y c) (go (accepts y c) refl)
    where
      go : (b : Bool) → accepts y c ≡ b
          → let z = cond b (year_with y (record_in c.bytes)) y in (z.started ≡ true) × (z.terms ≡ y.terms)
      go false e = (t, refl)
      go true e = frozen-by k (does (record_in c.bytes).head) (accepted-admitted y c e) t

pub kept_run : {y : Year} → StepInvariants y → (cs : List Call) → StepInvariants (run y cs)
unfolding run
kept_run h [] = h
kept_run {y = y} h (c ∷ cs) = kept_run {y = step y c} (kept_step h c) cs

pub frozen : {y : Year} → StepInvariants y → y.started ≡ true → (cs : List Call) → (run y cs).terms ≡ y.terms
unfolding run
frozen k t [] = refl
frozen {y = y} k t (c ∷ cs) =
    let m = frozen-step k c t in
    frozen {y = step y c} (kept_step k c) m.0 cs ∙ m.1
