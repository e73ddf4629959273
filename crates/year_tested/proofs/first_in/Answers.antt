-- `year_tested::first_in` meets its contract. Assumes nothing.
use mathlib.Core.Path.{sym, ◌∙◌}
use Rattle.year_tested.specs.Tested.{tested-in, first-in}
use Rattle.year_tested.proofs.first_in.Goals as goal

pub returns-then-tested_in : goal.returns-then-tested_in
returns-then-tested_in c =
    sym (first-in c.args.year.now.cells c.args.year.now.valid.sound c.args.group c.requires.i_lt_registrations ∙ rw (sym (tested-in c.args.year.now.cells c.args.year.now.valid.sound c.args.group c.requires.i_lt_registrations) ∙ sym c.tested_in.ensures ∙ c.if-tested_in.true))

pub returns-else-tested_in : goal.returns-else-tested_in
returns-else-tested_in c =
    sym (first-in c.args.year.now.cells c.args.year.now.valid.sound c.args.group c.requires.i_lt_registrations ∙ rw (sym (tested-in c.args.year.now.cells c.args.year.now.valid.sound c.args.group c.requires.i_lt_registrations) ∙ sym c.tested_in.ensures ∙ c.if-tested_in.false))
