-- Along a file: what is answered so far, followed by the bill of the rest, is the bill of the whole.
use Prim.Native.Nat.{ℕ, suc, ◌+◌, ◌≤◌, ◌<◌}
use mathlib.Core.Bool.{Bool, true, false, cond}
use mathlib.Core.List.{List, [], ◌∷◌, ◌++◌}
use mathlib.Core.Path.{◌≡◌, refl, sym, ap, ◌∙◌}
use native.Mathlib.Omega.{arith}
use lib.ListN.{length, take, drop, set}
use Rattle.record_layouts.specs.Questions.{record_number, consumed}
use Rattle.record_numbers.specs.Calls.{over}
use Rattle.year.specs.declared.Year.{Year}
use Rattle.book_outcome.specs.Outcome.{post_number}
use Rattle.record_file.specs.Walk.{ends, records_to}
use Rattle.record_file.specs.WalkLaws.{records-none, records-first}
use Rattle.book_recorded.specs.Recorded.{gather}
use Rattle.claim_history.specs.Runs.{Call, statements}
use Rattle.claim_history.specs.Taking.{call_number, step, answered}
use Rattle.claim_history.specs.Files.{calls_of, numbers, joined}
use Rattle.claim_history.proofs.FileLaws.{ends-post, joined-first}
use Rattle.bill_file.specs.Billed.{Bill, statement, behind, consumed_by, billed, Leaves}
use Rattle.bill_file.proofs.Front.{Front, front-none, set-over, front-more, front-all}

abbrev pub nothing : Bill
nothing = record { numbers = []; used = 0; statements = [] }

-- one record's answer in front
abbrev pub before : ℕ → ℕ → List ℕ → Bill → Bill
before number used statement b =
    record { numbers = number ∷ b.numbers; used = used + b.used; statements = statement ++ b.statements }

-- at most n records more, from a year on
abbrev pub from : ℕ → Year → List ℕ → List ℕ → Bill
from n y bytes buffer = billed y (calls_of behind y (records_to n bytes) buffer)

pub record Along (whole rest : Bill) (numbers₀ statements₀ : List ℕ) (answered used written : ℕ) (numbers statements : List ℕ) : Type 0 where
  pub answers : Front whole.numbers rest.numbers numbers₀ answered numbers
  pub uses : whole.used ≡ used + rest.used
  pub leaves : Front whole.statements rest.statements statements₀ written statements

pub along-none : (whole : Bill) (numbers statements : List ℕ) → Along whole whole numbers statements 0 0 0 numbers statements
along-none whole numbers statements =
    record { answers = front-none whole.numbers numbers; uses = omega arith; leaves = front-none whole.statements statements }

module _ {whole : Bill} {numbers₀ statements₀ numbers statements : List ℕ} {answered used written : ℕ} where
  -- one record's answer more
  pub along-more : (number bytes : ℕ) (s : List ℕ) {rest : Bill}
      → Along whole (before number bytes s rest) numbers₀ statements₀ answered used written numbers statements
      → answered < length numbers₀ → written + length s ≤ length statements₀
      → Along whole rest numbers₀ statements₀ (answered + 1) (used + bytes) (written + length s) (set numbers answered number) (take written statements ++ over s (drop written statements))
  along-more number bytes s {rest} a h l =
      record {
        answers = rw (set-over numbers answered number (omega (arith, a.answers.long))) (front-more (number ∷ []) a.answers (omega arith));
        uses = omega (arith, a.uses);
        leaves = front-more s a.leaves l;
      }

  -- nothing is left
  pub along-all : Along whole nothing numbers₀ statements₀ answered used written numbers statements
      → Leaves whole numbers₀ statements₀ answered used written numbers statements
  along-all a =
      let n = front-all a.answers in
      let s = front-all a.leaves in
      record { counts = n.0; uses = omega (arith, a.uses); writes = s.0; answers = n.1; leaves = s.1 }

-- a bill by its first record, if there is one
billed-first : (y : Year) (c : Call) (cs : List Call) → billed y (c ∷ cs) ≡ before (call_number y c) (consumed c.bytes) (statement y c) (billed (step y c) cs)
unfolding answered gather consumed_by statement
billed-first y c cs = rw (joined-first y c cs)

unless : (b : Bool) (y : Year) (records : List (List ℕ)) (buffer : List ℕ)
    → billed y (calls_of behind y (cond b [] records) buffer) ≡ cond b nothing (billed y (calls_of behind y records buffer))
unfolding calls_of answered gather consumed_by joined
unless true y records buffer = refl
unless false y records buffer = refl

module _ (n : ℕ) (y : Year) (bytes buffer : List ℕ) where
  abbrev call : Call
  call = record { bytes = bytes; buffer = buffer }

  pub from_first : 0 < length bytes
      → from (suc n) y bytes buffer
      ≡ before (post_number y bytes (length buffer)) (consumed bytes) (statement y call)
      (cond (ends (post_number y bytes (length buffer))) nothing (from n (step y call) (drop (consumed bytes) bytes) (behind y call)))
  unfolding calls_of
  from_first l =
      let later = cond (ends (record_number bytes)) [] (records_to n (drop (consumed bytes) bytes)) in
      ap (λ (rs : List (List ℕ)). billed y (calls_of behind y rs buffer)) (records-first n bytes l)
      ∙ billed-first y call (calls_of behind (step y call) later (behind y call))
      ∙ ap (λ (b : Bill). before (call_number y call) (consumed bytes) (statement y call) b)
      (unless (ends (record_number bytes)) (step y call) (records_to n (drop (consumed bytes) bytes)) (behind y call)
      ∙ ap (λ (b : Bool). cond b nothing (from n (step y call) (drop (consumed bytes) bytes) (behind y call))) (sym (ends-post y bytes (length buffer))))

  -- no record more
  pub from_zero : from 0 y bytes buffer ≡ nothing
  unfolding records_to calls_of answered gather consumed_by joined
  from_zero = refl

  pub from-none : length bytes ≡ 0 → from n y bytes buffer ≡ nothing
  unfolding calls_of answered gather consumed_by joined
  from-none e = rw (records-none n bytes e)
