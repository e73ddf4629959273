-- `book_accept::month_end::close_month` meets its contract: what is billed are the amounts to date. Assumes nothing.
use mathlib.Core.Path.{ap}
use native.Mathlib.Omega.{arith}
use Rattle.year.specs.declared.Terms.{Terms}
use Rattle.year.specs.Sound.{SoundTerms, SoundAmounts}
use Rattle.owed_laws.specs.Limits.{limits}
use Rattle.owed_laws.specs.Totals.{sound-amounts}
use Rattle.book_accept.proofs.month_end.close_month.Goals as goal
use Rattle.book_accept.proofs.month_end.close_month.Goals.{After-billed_of-billed}

-- once the year is read, what is at hand is sound
record AtHand (b : After-billed_of-billed) : Type 0 where
  terms : SoundTerms b.terms_of-terms.result
  owed : SoundAmounts b.amounts_of-owed.result
  billed : SoundAmounts b.billed_of-billed.result

at-hand : (b : After-billed_of-billed) → AtHand b
at-hand b =
    let s = b.args.year.now.valid.sound in
    record {
      terms = rw b.terms_of-terms.ensures s.terms;
      owed = rw b.amounts_of-owed.ensures (sound-amounts (limits s) b.args.month);
      billed = rw b.billed_of-billed.ensures s.billed;
    }

pub amounts_of-owed-requires : goal.amounts_of-owed-requires
amounts_of-owed-requires c = (ap (λ (t : Terms). t.registrations) c.terms_of-terms.ensures, omega arith, omega arith)

pub write_statement-written-requires : goal.write_statement-written-requires
write_statement-written-requires c =
    let h = at-hand (goal.at.write_statement-written-requires c).After-billed_of-billed in
    record { sound_terms = h.terms; month_le_close_limit = omega (arith, c.requires); sound_amounts = h.owed; sound_amounts_2 = h.billed; statement_limit_in_bounds = c.requires.statement_limit_in_bounds }

pub add_close-requires : goal.add_close-requires
add_close-requires c =
    let h = at-hand (goal.at.add_close-requires c).After-billed_of-billed in
    record { year_bound = c.requires.year_bound; sound_amounts = h.owed }

pub returns : goal.returns
returns c =
    let terms = c.terms_of-terms.ensures in
    let owed = c.amounts_of-owed.ensures in
    let written = c.write_statement-written.ensures in
    record { equals = rw owed at c.add_close.ensures; leaves = rw (owed, terms, c.billed_of-billed.ensures) at written.leaves; writes = rw (owed, terms, c.billed_of-billed.ensures) at written.writes }
