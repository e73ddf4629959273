-- `question_listings::every_listed` meets its contract: the chain asks each registration. Assumes nothing.
use Rattle.std.proofs.Common.{◌∙◌, arith, rules, tests}
use Rattle.std.proofs.lemmas.Iterator.{YieldsList-from_range}
use Rattle.std.proofs.lemmas.Iterator.Search.{all_from_yields_List}
use Rattle.ids.specs.Ids.{at}
use Rattle.limits.specs.Limits.{registrations}
use Rattle.year.specs.Limits.{size_is}
use Rattle.year_cells.specs.Layout.{listing_at, year_in}
use Rattle.ids.specs.Chains.{all_over}
use Rattle.question_conditions.specs.Entries.{every_listed}
use Rattle.question_listings.specs.Asked.{passes_at}
use Rattle.question_listings.proofs.every_listed.Goals as goal

pub returns : goal.returns
unfolding every_listed
returns c =
    let p = passes_at (year_in c.args.year.now.cells) (listing_at (at c.args.listing.now)) c.args.condition in
    rw (size_is c.args.year.now.valid.sound.terms)
    (all_from_yields_List p _ _ c.all.result c.all.ensures.ran (YieldsList-from_range 0 registrations registrations (cc) (omega arith)) (λ x b q k. search (rules, tests)) ∙ all_over p registrations)
