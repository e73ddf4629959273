-- The number of a call: questions 1 to 5 first, and the others where none of those fails.
use Rattle.std.specs.Prelude.{ℕ, Bool, true, false, List, ◌≡◌, refl, eqb}
use Rattle.std.proofs.Common.{sym, ◌∙◌, eqb-true}
use Rattle.std.proofs.lemmas.Bool.{eqb-false}
use Rattle.record_layouts.specs.Questions.{first_failed, record_number}
use Rattle.record_numbers.specs.Accepted.{Accepted, accepted, number-first, number-later, number-none}
use Rattle.year.specs.declared.Year.{Year}
use Rattle.question_list.specs.Questions.{month_begun, questions}
use Rattle.book_outcome.specs.Outcome.{record_in, number_under, post_number}

module _ (y : Year) (bytes : List ℕ) (room : ℕ) where
  abbrev later_number : ℕ
  later_number = first_failed (questions month_begun y (record_in bytes) room)

  pub record-refused : (record_number bytes ≡ 0 → ⊥) → post_number y bytes room ≡ record_number bytes
  unfolding post_number
  record-refused e = number-first bytes _ e

  pub record-accepted : record_number bytes ≡ 0 → post_number y bytes room ≡ later_number
  unfolding post_number
  record-accepted e = number-later bytes _ e

  -- no question fails
  pub all-passed : post_number y bytes room ≡ 0 → Accepted bytes × (later_number ≡ 0)
  unfolding post_number
  all-passed e =
      let n = number-none bytes _ e in
      (accepted bytes n.0, n.1)

-- the number is the same, by whatever time rules, where questions 1 to 5 answer alike and, if none of these fails, the later ones too
pub same_number : (rule other : ℕ → ℕ → Bool) (y z : Year) (xs ys : List ℕ) (m n : ℕ) → record_number xs ≡ record_number ys
    → (record_number ys ≡ 0 → first_failed (questions rule y (record_in xs) m) ≡ first_failed (questions other z (record_in ys) n)) → number_under rule y xs m ≡ number_under other z ys n
same_number rule other y z xs ys m n e later = go (eqb (record_number ys) 0) refl
  where
    go : (b : Bool) → eqb (record_number ys) 0 ≡ b → number_under rule y xs m ≡ number_under other z ys n
    go true q =
        let zero = eqb-true (record_number ys) 0 q in
        number-later xs _ (e ∙ zero) ∙ later zero ∙ sym (number-later ys _ zero)
    go false q =
        let some = eqb-false (record_number ys) 0 q in
        number-first xs _ (λ w. some (sym e ∙ w)) ∙ e ∙ sym (number-first ys _ some)

pub same_post : (y z : Year) (xs ys : List ℕ) (m n : ℕ) → record_number xs ≡ record_number ys → later_number y xs m ≡ later_number z ys n → post_number y xs m ≡ post_number z ys n
unfolding post_number
same_post y z xs ys m n e later = same_number month_begun month_begun y z xs ys m n e (λ _. later)
