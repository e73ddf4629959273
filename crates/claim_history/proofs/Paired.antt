-- A call and its variant: the same answers to questions 1 to 5, and records that are alike.
use Rattle.std.specs.Prelude.{ℕ, List, ◌≡◌, length}
use Rattle.std.proofs.Common.{ap, sym, ◌∙◌}
use Rattle.record_layouts.specs.Questions.{record_number, numbers_of}
use Rattle.record_layouts.specs.QuestionLaws.{numbers-kind, rules-by}
use Rattle.record_numbers.specs.Accepted.{Accepted, not-failed}
use Rattle.year.specs.declared.Year.{Year}
use Rattle.record_heads.specs.Record.{Record}
use Rattle.record_listing.specs.Listed.{Permitted}
use Rattle.book_recorded.specs.Recorded.{terms_in}
use Rattle.book_outcome.specs.Outcome.{record_in}
use Rattle.claim_history.specs.Runs.{Call, Varied, refused, accepted}
use Rattle.claim_history.specs.Taking.{shown}
use Rattle.claim_history.specs.Admitted.{accepted-record}
use Rattle.claim_history.proofs.Alike.{Alike, alike_refl, alike-replaced}

-- what questions 1 and 3 say of a record's numbers
pub permitted-numbers : (bytes : List ℕ) → Accepted bytes → Permitted (numbers_of bytes)
permitted-numbers bytes a =
    record { kind = rw (numbers-kind bytes a.kind) a.kind; fields = rw (rules-by bytes a.kind) a.permits }

pub record Paired (s : ℕ) (y : Year) (c d : Call) : Type 0 where
  pub room : length c.buffer ≡ length d.buffer
  pub number : record_number c.bytes ≡ record_number d.bytes
  pub alike : Alike y.terms s (record_in c.bytes) (record_in d.bytes)

-- G's call in the year of the records accepted before it
pub paired : {s : ℕ} {rs : List Record} {y : Year} {c d : Call} → y.terms ≡ terms_in rs → Varied s rs (shown y c) d → Paired s y c d
paired {s} {rs} {y} {c} {d} t (refused e b l) =
    record { room = sym l; number = ap record_number (sym b); alike = rw b (alike_refl y.terms s (record_in c.bytes)) }
paired {s} {rs} {y} {c} {d} t (accepted e n f v r l) =
    let a = accepted-record y c e in
    record {
      room = sym l;
      number = not-failed c.bytes a ∙ sym n;
      alike = rw (v, ← t) (alike-replaced y.terms s f (permitted-numbers c.bytes a));
    }
