-- `question_listings::registrations::any_selected` meets its contract: the chain asks each registration. Assumes nothing.
use Rattle.std.proofs.Common.{◌∙◌, arith, rules, tests}
use Rattle.std.proofs.lemmas.Iterator.{YieldsList-from_range}
use Rattle.std.proofs.lemmas.Iterator.Search.{any_from_yields_List}
use Rattle.limits.specs.Limits.{registrations}
use Rattle.year_cells.specs.Layout.{year_in}
use Rattle.question_conditions.specs.Selects.{selects}
use Rattle.ids.specs.Chains.{any_over}
use Rattle.question_listings.proofs.registrations.any_selected.Goals as goal

pub returns : goal.returns
returns c =
    let p = selects (year_in c.args.year.now.cells) c.args.selection in
    any_from_yields_List p _ _ c.any.result c.any.ensures.ran (YieldsList-from_range 0 registrations registrations (cc) (omega arith)) (λ x b q k. search (rules, tests)) ∙ any_over p registrations
