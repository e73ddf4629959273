-- Entries made from samples settle as typed ones do (document 02, C-14).
use Rattle.std.specs.Prelude.{ℕ, ◌≤◌, Bool, true, false, cond, List, ◌∷◌, ◌++◌, ◌≡◌, refl, length}
use Rattle.std.proofs.Common.{sym, ap}
use Rattle.ids.specs.Ids.{at}
use Rattle.ids.specs.Tables.{tabulate-same}
use Rattle.limits.specs.Limits.{nominated_limit}
use Rattle.record_numbers.specs.Reductions.{is_reduction, with_reductions}
use Rattle.record_numbers.proofs.Replaced.{writes}
use Rattle.record_numbers.specs.Calls.{bytes_by, write_number}
use Rattle.year.specs.Year.{new_year}
use Rattle.claim_history.specs.Runs.{Call}
use Rattle.claim_history.specs.Taking.{answers}
use Rattle.telemetry.specs.declared.Sample.{Sample}
use Rattle.telemetry.specs.Reduction.{reduction_of, kw_of, Answers}
use Rattle.telemetry.specs.Limits.{kw-most, sample_of, sample-of}

-- whatever the registration
abbrev any : ℕ → Bool
any i = true

-- a record's numbers with kW typed for each reduction, kw j for number j; and with each made from a sample
abbrev pub typed : (ℕ → ℕ) → List ℕ → List ℕ
typed kw vs = with_reductions any kw vs

abbrev pub made : (ℕ → Sample) → List ℕ → List ℕ
made samples vs = typed (λ j. kw_of (reduction_of (samples j))) vs

-- the samples are answered with 0 and these kW
abbrev pub Give : (ℕ → Sample) → (ℕ → ℕ) → List ℕ → Type 0
Give samples kw vs = (j : ℕ) → is_reduction any vs j ≡ true → Answers (samples j) 0 (kw j)

-- the call with the record of these numbers, any bytes behind it and any buffer
abbrev pub call_of : List ℕ → List ℕ → List ℕ → Call
call_of vs rest buffer = record { bytes = bytes_by vs ++ rest; buffer = buffer }

-- the record vs is the record ws, which is typed
pub record AsTyped (vs ws : List ℕ) : Type 0 where
  -- number for number
  pub numbers : vs ≡ ws
  -- its bytes, and what writing them answers
  pub bytes : bytes_by vs ≡ bytes_by ws
  pub written : (room : ℕ) → write_number vs room ≡ write_number ws room
  -- wherever it stands in a list of calls: the number of each call, so which are accepted, and each buffer afterwards, so every statement
  pub settled : (before after : List Call) (rest buffer : List ℕ)
      → answers new_year (before ++ call_of vs rest buffer ∷ after) ≡ answers new_year (before ++ call_of ws rest buffer ∷ after)

same : (vs ws : List ℕ) → vs ≡ ws → AsTyped vs ws
same vs ws e = record {
  numbers = e;
  bytes = ap bytes_by e;
  written = λ room. ap (λ (l : List ℕ). write_number l room) e;
  settled = λ before after rest buffer. ap (λ (l : List ℕ). answers new_year (before ++ call_of l rest buffer ∷ after)) e;
}

-- The record made from samples is the record with their kW typed.
pub as-typed : (samples : ℕ → Sample) (kw : ℕ → ℕ) (vs : List ℕ) → Give samples kw vs → AsTyped (made samples vs) (typed kw vs)
unfolding with_reductions
as-typed samples kw vs given = same (made samples vs) (typed kw vs) (tabulate-same (length vs) (λ j l. go j (is_reduction any vs j) (given j)))
  where
    go : (j : ℕ) (b : Bool) → (b ≡ true → Answers (samples j) 0 (kw j)) → cond b (kw_of (reduction_of (samples j))) (at vs j) ≡ cond b (kw j) (at vs j)
    go j true g = sym (g refl).kilowatts
    go j false g = refl

-- Such records there are: where writing accepts a record, it accepts it made from any samples; and any kW that an entry may have, from 0 to 100,000, are given by samples.
pub made-written : (samples : ℕ → Sample) (vs : List ℕ) (room : ℕ) → write_number vs room ≡ 0 → write_number (made samples vs) room ≡ 0
made-written samples vs = writes any (λ j. kw_of (reduction_of (samples j))) vs (λ j. kw-most (samples j))

pub samples-give : (kw : ℕ → ℕ) (vs : List ℕ) → ((j : ℕ) → kw j ≤ nominated_limit) → Give (λ j. sample_of (kw j)) kw vs
samples-give kw vs small j r = let e = sample-of (kw j) (small j) in record { numbers = rw e; kilowatts = rw e }
