-- A seller's retest, accepted or not, changes that seller's retests alone.
use Prim.Native.Nat.{ℕ, ◌<◌}
use Rattle.std.specs.Prelude.{Bool, ◌||◌, ◌≡◌}
use Rattle.std.proofs.Math.Bool.{true, false, not, cond}
use mathlib.Core.List.{List}
use Rattle.std.proofs.Math.Path.{refl, sym}
use Rattle.std.proofs.Common.{◌∙◌, arith, eqb-true}
use Rattle.std.proofs.Math.Decide.{dec_lt}
use Rattle.std.proofs.Math.Dec.{eqb}
use Rattle.std.proofs.Math.ListN.{get_or-eq_default}
use Rattle.ids.specs.Ids.{tabulate}
use Rattle.ids.specs.Tests.{all-at}
use Rattle.ids.specs.Tables.{length-tabulate, get_or-tabulate}
use Rattle.limits.specs.Limits.{registrations}
use Rattle.year.specs.declared.Listing.{Listing}
use Rattle.year.specs.declared.Retest.{Retest}
use Rattle.year.specs.declared.Year.{Year}
use Rattle.year.specs.Year.{no_retest, retest_of, listed, seller, size}
use Rattle.year.specs.Steps.{with_retests, retest_by}
use Rattle.year.specs.Sound.{Sound}
use Rattle.year.specs.Limits.{size_is}
use Rattle.record_heads.specs.Record.{is_retest_of}
use Rattle.record_heads.specs.RecordLaws.{is-retest}
use Rattle.question_conditions.specs.Entries.{every_listed}
use Rattle.book_recorded.specs.After.{year_by, year_with}
use Rattle.question_list.specs.Admitted.{retest-own}
use Rattle.book_outcome.specs.Outcome.{record_in}
use Rattle.claim_history.specs.Runs.{Call}
use Rattle.claim_history.specs.Taking.{step, accepts}
use Rattle.claim_history.proofs.YearFollowsRecords.{step_by}
use Rattle.claim_history.specs.Admitted.{accepted-admitted}
use Rattle.claim_history.proofs.Same.{SameRetests}

-- is it a retest of seller s's
abbrev pub is_own_retest : ℕ → Call → Bool
is_own_retest s c = is_retest_of s (record_in c.bytes).head

-- such a call leaves all but s's retests, since it lists registrations of s's alone
module _ (s : ℕ) (y : Year) (c : Call) (S : Sound y) where
  abbrev listing : Listing
  listing = (record_in c.bytes).listing

  unlisted : every_listed y.terms listing (λ j. eqb (seller y.terms j) s) ≡ true → (i : ℕ) → i < registrations → (seller y.terms i ≡ s → ⊥) → listed listing i ≡ false
  unfolding every_listed
  unlisted all i l n =
      go (listed listing i) (all-at (size y.terms) (λ j. not (listed listing j) || eqb (seller y.terms j) s) all i (omega (arith, size_is S.terms)))
    where
      go : (b : Bool) → (not b || eqb (seller y.terms i) s) ≡ true → b ≡ false
      go false e = refl
      go true e = absurd (n (eqb-true (seller y.terms i) s e))

  pub own-retest : is_own_retest s c ≡ true → (rs : List Retest) × (step y c ≡ with_retests y rs) × SameRetests y.terms s y.retests rs
  unfolding year_by
  own-retest o = rw (step_by y c) (go (accepts y c) refl)
    where
      go : (b : Bool) → accepts y c ≡ b
          → (rs : List Retest) × (cond b (year_with y (record_in c.bytes)) y ≡ with_retests y rs) × SameRetests y.terms s y.retests rs
      go false e = (y.retests, refl, λ i n. refl)
      go true e =
          let r = is-retest s (record_in c.bytes).head o in
          let own = rw r.2 at (retest-own {l = listing} {t = r.0} (rw r.1 at (accepted-admitted y c e))) in
          let new : ℕ → Retest = λ i. cond (listed listing i) (retest_by listing i) (retest_of y i) in (
            tabulate registrations new,
            rw r.1,
            λ i n. elim (dec_lt i registrations) [
              | yes l ↦ rw (get_or-tabulate new registrations i no_retest l, unlisted own i l n)
              | no l ↦ get_or-eq_default y.retests no_retest (omega (arith, S.retests.long)) ∙ sym (get_or-eq_default (tabulate registrations new) no_retest (omega (arith, length-tabulate new registrations)))
            ],
          )
