-- `question_list::has_parties` meets its contract. Assumes nothing.
use mathlib.Core.Path.{sym}
use Rattle.year.specs.Limits.{size_is}
use Rattle.question_list.proofs.has_parties.Goals as goal

pub returns-then-any_selected : goal.returns-then-any_selected
returns-then-any_selected c = rw (size_is c.args.year.now.valid.sound.terms, sym c.any_selected.ensures, c.if-any_selected.true) c.any_lse.ensures

pub returns-else-any_selected : goal.returns-else-any_selected
returns-else-any_selected c = rw (size_is c.args.year.now.valid.sound.terms, sym c.any_selected.ensures, c.if-any_selected.false)
