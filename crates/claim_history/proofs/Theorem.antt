-- Demand 3, proved of every list of calls that a new book answers.
use Rattle.std.specs.Prelude.{true, List, ◌≡◌, length}
use Rattle.year.specs.Year.{new_year}
use Rattle.book_recorded.specs.Recorded.{recorded}
use Rattle.book_outcome.specs.Outcome.{post_number}
use Rattle.claim_history.specs.Runs.{Call, Answered, is_closing, accepted_in}
use Rattle.claim_history.specs.Claim.{AtClose, Demand3}
use Rattle.claim_history.specs.Taking.{answers}
use Rattle.claim_history.proofs.AtClose.{at-close}
use Rattle.claim_history.proofs.Answers.{answers-each, Split, split, numbered}
use Rattle.claim_history.proofs.Independence.{accepted-alike, charged-alike}

module _ {before : List Answered} {x : Answered} (s : Split new_year before x) where
  number_is : x.number ≡ post_number (recorded (accepted_in before)) x.call.bytes (length x.call.buffer)
  number_is = rw (s.before-is, s.own_is) (numbered s.earlier s.own)

  close-is : is_closing x ≡ true → AtClose before x
  close-is = rw (s.before-is, s.own_is) (at-close s.earlier s.own)

pub demand3 : (H : List Call) → Demand3 (answers new_year) H
demand3 H =
    record {
      each = answers-each new_year H;
      numbered = λ before x after e. number_is (split new_year H before x after e);
      closed = λ before x after e. close-is (split new_year H before x after e);
      independent = λ s G v. (accepted-alike s H v, charged-alike s H v);
    }
