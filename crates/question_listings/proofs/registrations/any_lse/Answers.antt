-- `question_listings::registrations::any_lse` meets its contract: the chain asks each LSE. Assumes nothing.
use Rattle.std.proofs.Common.{ℕ, Bool, ◌∙◌, arith, rules, tests}
use Rattle.std.proofs.lemmas.Iterator.{YieldsList-from_range}
use Rattle.std.proofs.lemmas.Iterator.Search.{any_from_yields_List}
use lib.Dec.{ltb}
use Rattle.limits.specs.Limits.{lses}
use Rattle.year.specs.Year.{obligation}
use Rattle.year.specs.Limits.{lse-count-is}
use Rattle.year_cells.specs.Layout.{cell_terms}
use Rattle.ids.specs.Chains.{any_over}
use Rattle.question_listings.proofs.registrations.any_lse.Goals as goal

pub returns : goal.returns
returns c =
    let p : ℕ → Bool = λ j. ltb 0 (obligation (cell_terms c.args.year.now.cells) j) in
    rw (lse-count-is c.args.year.now.valid.sound.terms)
    (any_from_yields_List p _ _ c.any.result c.any.ensures.ran (YieldsList-from_range 0 lses lses (cc) (omega arith)) (λ x b q k. search (rules, tests)) ∙ any_over p lses)
