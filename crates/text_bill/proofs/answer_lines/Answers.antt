-- By the number, and then by the kind.
use borrow.Author.Tests.{eq-eqb, ne_eqb}
use native.Mathlib.Omega.{arith}
use Rattle.text_bill.specs.Text.{answer_lines}
use Rattle.text.specs.Pasted.{none}
use Rattle.text_bill.proofs.answer_lines.Goals as goal

pub returns-in-0-eq6 : goal.returns-in-0-eq6
unfolding answer_lines
returns-in-0-eq6 c = rw (eq-eqb c.args.number 0 c.in-0-eq6.is-0, eq-eqb c.args.kind 6 c.in-0-eq6.is-1) c.statement_lines.ensures

pub returns-in-0-default : goal.returns-in-0-default
unfolding answer_lines
returns-in-0-default c =
    let a = c.args in
    rw (eq-eqb a.number 0 c.in-0-default.is-0, ne_eqb a.kind 6 c.in-0-default.is-1.1) (none a.out.now a.at (omega arith))

pub returns-in_default : goal.returns-in_default
unfolding answer_lines
returns-in_default c = rw (ne_eqb c.args.number 0 c.in_default.is-0.1) c.refusal_line.ensures
