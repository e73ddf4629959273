-- `question_listings::lists_exactly` meets its contract: the chain asks each registration. Assumes nothing.
use Rattle.std.proofs.Common.{ℕ, Bool, refl, ◌∙◌, arith, rules, tests}
use Rattle.std.proofs.lemmas.Iterator.{YieldsList-from_range}
use Rattle.std.proofs.lemmas.Iterator.Search.{all_from_yields_List}
use mathlib.Core.Bool.{beq}
use Rattle.ids.specs.Ids.{at}
use Rattle.ids.specs.Tests.{all_same}
use Rattle.limits.specs.Limits.{registrations}
use Rattle.year.specs.Limits.{size_is}
use Rattle.year_cells.specs.Layout.{flag, year_in}
use Rattle.year_cells.specs.Regions.{row_listed}
use Rattle.ids.specs.Chains.{all_over}
use Rattle.question_conditions.specs.Entries.{lists_exactly}
use Rattle.question_conditions.specs.Selects.{selects}
use Rattle.question_listings.proofs.lists_exactly.Goals as goal

pub returns : goal.returns
unfolding lists_exactly
returns c =
    let row = c.args.listing.now in
    let p : ℕ → Bool = λ i. beq (flag (at row i)) (selects (year_in c.args.year.now.cells) c.args.selection i) in
    rw (size_is c.args.year.now.valid.sound.terms)
    (all_from_yields_List p _ _ c.all.result c.all.ensures.ran (YieldsList-from_range 0 registrations registrations (cc) (omega arith)) (λ x b q k. search (rules, tests))
    ∙ all_over p registrations
    ∙ all_same registrations (λ i m. rw (row_listed row {i = i} m) refl))
