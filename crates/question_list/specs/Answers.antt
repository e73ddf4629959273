-- What a test's answer says of the question that it answers, and the number of questions 6 and 8 of those that stand with them.
use Rattle.std.specs.Prelude.{ℕ, ◌≡◌, Bool, true, false, not, List, [], ◌∷◌}
use Rattle.std.proofs.Common.{sym, ◌∙◌}
use Rattle.std.proofs.lemmas.Bool.{not-true, not-false}
use Rattle.record_layouts.specs.Questions.{first_failed}
use Rattle.record_numbers.specs.Accepted.{passed}

module _ {answer question : Bool} (e : answer ≡ question) where
  pub yes : not answer ≡ false → question ≡ true
  yes n = sym e ∙ not-false answer n

  pub no : not answer ≡ true → question ≡ false
  no n = sym e ∙ not-true answer n

-- both pass where the number is 0
pub both-pass : {n : ℕ} (six eight : Bool) → n ≡ first_failed ((6, six) ∷ (8, eight) ∷ []) → n ≡ 0 → (six ≡ true) × (eight ≡ true)
unfolding first_failed
both-pass six eight e z =
    let p = passed 5 six _ (sym e ∙ z) in
    (p.0, (passed 7 eight 0 p.1).0)

-- else it is that of all questions, of which 7 is not asked
pub one-fails : {n : ℕ} (six eight : Bool) (later : List (ℕ × Bool)) → n ≡ first_failed ((6, six) ∷ (8, eight) ∷ []) → (n ≡ 0 → ⊥)
    → n ≡ first_failed ((6, six) ∷ (7, true) ∷ (8, eight) ∷ later)
unfolding first_failed
one-fails false eight later e f = e
one-fails true false later e f = e
one-fails true true later e f = absurd (f e)
