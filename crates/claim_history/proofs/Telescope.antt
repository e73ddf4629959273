-- The statements of a list of calls add up, in each column, to what is billed in the end.
use Rattle.std.specs.Prelude.{ℕ, Bool, true, false, List, [], ◌∷◌, ◌++◌, ◌≡◌, refl, ℤ, pos, ◌+ℤ◌, ◌-ℤ◌}
use Rattle.std.proofs.Common.{ap, sym, ◌∙◌}
use Rattle.std.proofs.Math.IntN.{+ℤ_idl, -ℤ-+ℤ_cancel, +ℤ_assoc, +ℤ_comm}
use Rattle.ids.specs.Ids.{at}
use Rattle.year.specs.declared.Year.{Year}
use Rattle.book_recorded.specs.Recorded.{gather, alone}
use Rattle.claim_history.specs.Runs.{Call, statements, so_far}
use Rattle.claim_history.specs.Taking.{closes, buffered, step, answered, answers, run}
use Rattle.claim_history.specs.Columns.{Column, party, column, line_in}
use Rattle.claim_history.proofs.StepInvariants.{StepInvariants, kept_step, frozen}
use Rattle.claim_history.proofs.Closes.{close-step, close-line, other-same}

-- one statement says by how much what is billed moves
says : (c : Column) (i : ℕ) {y : Year} → StepInvariants y → (d : Call) → closes y d ≡ true → party c y.terms i ≡ true
    → line_in c (buffered y d) i ≡ pos (at (column c (step y d).billed) i) -ℤ pos (at (column c y.billed) i)
says c i {y} h d e p = rw (close-step y d e) (close-line y d h.sound e c i ∙ rw p)

moves-by : (x s new old : ℤ) → x ≡ new -ℤ old → x +ℤ s +ℤ old ≡ s +ℤ new
moves-by x s new old e = rw (e, +ℤ_comm (new -ℤ old) s, +ℤ_assoc s (new -ℤ old) old, -ℤ-+ℤ_cancel new old)

pub telescopes : (c : Column) (i : ℕ) {y : Year} → StepInvariants y → (cs : List Call) → party c (run y cs).terms i ≡ true
    → so_far (λ x. line_in c x i) (statements (answers y cs)) +ℤ pos (at (column c y.billed) i) ≡ pos (at (column c (run y cs).billed) i)
unfolding run answered gather so_far
telescopes c i {y} h [] p = +ℤ_idl (pos (at (column c y.billed) i))
telescopes c i {y} h (d ∷ cs) p = go (closes y d) refl (telescopes c i {y = step y d} (kept_step h d) cs p)
  where
    go : (b : Bool) → closes y d ≡ b
        → so_far (λ x. line_in c x i) (statements (answers (step y d) cs)) +ℤ pos (at (column c (step y d).billed) i) ≡ pos (at (column c (run (step y d) cs).billed) i)
        → so_far (λ x. line_in c x i) (alone b (buffered y d) ++ statements (answers (step y d) cs)) +ℤ pos (at (column c y.billed) i)
        ≡ pos (at (column c (run (step y d) cs).billed) i)
    go false e ih =
        ap (λ a. so_far (λ x. line_in c x i) (statements (answers (step y d) cs)) +ℤ pos (at (column c a) i)) (sym (other-same y d e).0) ∙ ih
    go true e ih =
        let t : (run (step y d) cs).terms ≡ y.terms = frozen (kept_step h d) (rw (close-step y d e)) cs ∙ ap (λ z. z.terms) (close-step y d e) in
        moves-by (line_in c (buffered y d) i) (so_far (λ x. line_in c x i) (statements (answers (step y d) cs))) (pos (at (column c (step y d).billed) i)) (pos (at (column c y.billed) i))
        (says c i h d e (rw (← t) p)) ∙ ih
