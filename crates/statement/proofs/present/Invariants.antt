-- `statement::present` meets its contract. The loop's invariant: the sellers of the registrations before i are marked.
use Rattle.statement.specs.Marks.{Marks, among_first}
use Rattle.statement.proofs.present.Given as goal

abbrev pub invariant-loop-registration : goal.invariant-loop-registration
invariant-loop-registration l = Marks (among_first l.fn.terms l.registration-index) l.sellers
