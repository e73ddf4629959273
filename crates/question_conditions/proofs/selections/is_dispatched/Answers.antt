-- `question_conditions::selections::is_dispatched` meets its contract: the chain asks each accepted event. Assumes nothing.
use Rattle.std.proofs.Common.{ℕ, Bool, ◌∙◌, arith, rules, tests}
use Rattle.std.proofs.lemmas.Iterator.{YieldsList-from_range}
use Rattle.std.proofs.lemmas.Iterator.Search.{any_from_yields_List}
use lib.ListN.{get_or}
use Rattle.year.specs.Year.{listed, no_event}
use Rattle.year_cells.specs.Layout.{year_in}
use Rattle.owed.specs.Owed.{dispatched}
use Rattle.ids.specs.Chains.{any_over}
use Rattle.question_conditions.proofs.selections.is_dispatched.Goals as goal

pub returns : goal.returns
unfolding dispatched
returns c =
    let y = year_in c.args.year.now.cells in
    let p : ℕ → Bool = λ e. listed (get_or y.events e no_event).listing c.args.i in
    let n = y.accepted in
    any_from_yields_List p _ _ c.any.result c.any.ensures.ran (YieldsList-from_range 0 n n (cc) (omega arith)) (λ x b q k. search (rules, tests)) ∙ any_over p n
