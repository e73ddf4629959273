-- A turn of the loop: the year and the positions after one more record.
use Prim.Native.Nat.{ℕ, suc, ◌+◌, ◌-◌, ◌≤◌, ◌<◌}
use mathlib.Core.Bool.{Bool, false, cond}
use mathlib.Core.List.{List, ◌++◌, append-nil}
use mathlib.Core.Path.{◌≡◌, ap, sym, ◌∙◌}
use native.Mathlib.Nat.{sub-zero}
use native.Mathlib.Omega.{arith}
use lib.ListN.{length, take, drop, set, length-append, length-drop, drop_of_length-le}
use lib.Seq.{drop-drop, take_all}
use Rattle.record_layouts.specs.Questions.{consumed}
use Rattle.record_layouts.specs.QuestionLaws.{consumed-within}
use Rattle.record_numbers.specs.Calls.{over}
use Rattle.year.specs.declared.Year.{Year}
use Rattle.year.specs.Year.{new_year}
use Rattle.year.specs.Sound.{Sound}
use Rattle.book_outcome.specs.Outcome.{post_number, Posts}
use Rattle.record_file.specs.Walk.{ends}
use Rattle.claim_history.specs.Runs.{Call}
use Rattle.claim_history.specs.Taking.{step}
use Rattle.bill_file.specs.Billed.{statement, calls, billed, Bills}
use Rattle.bill_file.proofs.Closing.{written_is, buffer-over}
use Rattle.bill_file.proofs.Along.{Along, nothing, from, along-none, along-more, along-all, from_zero, from_first, from-none}

-- a slice from n on, as it is lent, and as it is put back
pub lent : (n : ℕ) (l : List ℕ) → take (length l - n) (drop n l) ≡ drop n l
lent n l = take_all (length l - n) (drop n l) (omega (arith, length-drop n l))

pub put_back : (n : ℕ) (l after : List ℕ) → take n l ++ (after ++ drop (length l - n) (drop n l)) ≡ take n l ++ after
put_back n l after = rw (drop_of_length-le (drop n l) {i = length l - n} (omega (arith, length-drop n l)), append-nil)

-- what is answered so far, of a file that has ended or goes on from this year
abbrev pub State : Bool → List ℕ → List ℕ → List ℕ → List ℕ → List ℕ → Year → ℕ → ℕ → ℕ → Type 0
State ended records numbers₀ statements₀ numbers statements year answered used written =
    Along (billed new_year (calls (length numbers₀) records statements₀))
    (cond ended nothing (from (length numbers₀ - answered) year (drop used records) (drop written statements₀)))
    numbers₀ statements₀ answered used written numbers statements

-- at the loop's test
pub record Going (records numbers₀ statements₀ numbers statements : List ℕ) (year : Year) (answered used written : ℕ) : Type 0 where
  pub sound : Sound year
  pub within : used ≤ length records
  pub along : State false records numbers₀ statements₀ numbers statements year answered used written

pub going-none : (records numbers statements : List ℕ) → Sound new_year → Going records numbers statements numbers statements new_year 0 0 0
going-none records numbers statements s =
    record {
      sound = s;
      within = omega arith;
      along = rw sub-zero (along-none (billed new_year (calls (length numbers) records statements)) numbers statements);
    }

module _ {records numbers₀ statements₀ numbers statements : List ℕ} {year : Year} {answered used written : ℕ} (g : Going records numbers₀ statements₀ numbers statements year answered used written) where
  abbrev bytes : List ℕ
  bytes = drop used records

  abbrev buffer : List ℕ
  buffer = drop written statements₀

  abbrev call : Call
  call = record { bytes = bytes; buffer = buffer }

  abbrev wrote : List ℕ
  wrote = statement year call

  -- no bytes are left, or no numbers
  pub going-ends : used ≡ length records → Bills records numbers₀ statements₀ answered used written numbers statements
  going-ends e = along-all (rw (from-none (length numbers₀ - answered) year bytes buffer (omega (arith, length-drop used records))) at g.along)

  pub going-full : length numbers ≤ answered → Bills records numbers₀ statements₀ answered used written numbers statements
  going-full l =
      let none : length numbers₀ - answered ≡ 0 = omega (arith, g.along.answers.long) in
      along-all (rw (none, from_zero 0 year bytes buffer) at g.along)

  -- what is lent of the statements' buffer is as it was
  lent_same : drop written statements ≡ buffer
  lent_same = g.along.leaves.kept

  module _ {number u w : ℕ} {next : Year} {after : List ℕ} (p : Posts year bytes (drop written statements) number u w next after) where
    years : next ≡ step year call
    unfolding step
    years = rw lent_same at p.years

    leaves : after ≡ over wrote (drop written statements)
    leaves = (rw lent_same at p.leaves) ∙ buffer-over year call g.sound ∙ ap (over wrote) (sym lent_same)

    pub next-within : used + u ≤ length records
    next-within = omega (arith, g.within, p.uses, consumed-within bytes, length-drop used records)

    -- a statement goes no further than its buffer
    statement-within : length after ≡ length (drop written statements) → written + length wrote ≤ length statements₀
    statement-within e =
        omega (arith, e, ap length lent_same, ap length leaves, length-append wrote (drop (length wrote) (drop written statements)), length-drop (length wrote) (drop written statements), length-drop written statements₀, g.along.leaves.within)

    -- the bytes of its statement
    pub wrote-is : w ≡ length wrote
    wrote-is = (rw lent_same at p.writes) ∙ written_is year call g.sound

    pub written-within : length after ≡ length (drop written statements) → written + w ≤ length statements₀
    written-within e = omega (arith, wrote-is, statement-within e)

    -- the file with one more record answered
    pub turned : answered < length numbers → used < length records → length after ≡ length (drop written statements)
        → State (ends number) records numbers₀ statements₀ (set numbers answered number) (take written statements ++ after) next (answered + 1) (used + u) (written + w)
    turned more some e =
        let n = length numbers₀ - (answered + 1) in
        let turns : length numbers₀ - answered ≡ suc n = omega (arith, g.along.answers.long) in
        let first = from_first n year bytes buffer (omega (arith, length-drop used records)) in
        let numbered : number ≡ post_number year bytes (length buffer) = rw lent_same at p.numbers in
        rw (wrote-is, leaves, numbered, years, p.uses, ← drop-drop (consumed bytes) used records, ← drop-drop (length wrote) written statements₀)
        (along-more (post_number year bytes (length buffer)) (consumed bytes) wrote (rw (turns, first) at g.along) (omega (arith, g.along.answers.long)) (statement-within e))
