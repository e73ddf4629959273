-- What an accepted call has passed: questions 1 to 5, and the others.
use Rattle.std.specs.Prelude.{true, ◌≡◌, length}
use Rattle.std.proofs.Common.{eqb-true}
use Rattle.record_layouts.specs.Questions.{first_failed}
use Rattle.record_numbers.specs.Accepted.{Accepted}
use Rattle.year.specs.declared.Year.{Year}
use Rattle.question_list.specs.Questions.{month_begun, questions}
use Rattle.question_list.specs.Admitted.{Admitted, admitted}
use Rattle.book_outcome.specs.Outcome.{record_in, post_number}
use Rattle.book_outcome.specs.Numbers.{all-passed}
use Rattle.claim_history.specs.Runs.{Call, is_accepted}
use Rattle.claim_history.specs.Taking.{accepts}

module _ (y : Year) (c : Call) (e : accepts y c ≡ true) where
  none-failed : Accepted c.bytes × (first_failed (questions month_begun y (record_in c.bytes) (length c.buffer)) ≡ 0)
  unfolding is_accepted
  none-failed = all-passed y c.bytes (length c.buffer) (eqb-true (post_number y c.bytes (length c.buffer)) 0 e)

  pub accepted-record : Accepted c.bytes
  accepted-record = none-failed.0

  pub accepted-admitted : Admitted month_begun y (record_in c.bytes) (length c.buffer)
  accepted-admitted = admitted month_begun y (record_in c.bytes) (length c.buffer) none-failed.1
