-- `question_listings::deficits_listed` meets its contract: the chain asks each seller. Assumes nothing.
use Rattle.std.proofs.Common.{ℕ, Bool, refl, ◌∙◌, arith, rules, tests}
use Rattle.std.proofs.lemmas.Iterator.{YieldsList-from_range}
use Rattle.std.proofs.lemmas.Iterator.Search.{all_from_yields_List}
use Prim.Native.Nat.{◌+◌}
use mathlib.Core.Bool.{◌||◌}
use lib.Dec.{eqb}
use Rattle.ids.specs.Ids.{at, holds}
use Rattle.ids.specs.Tests.{all_same}
use Rattle.limits.specs.Limits.{sellers}
use Rattle.year_cells.specs.Places.{deficits_in}
use Rattle.year_cells.specs.Layout.{listing_at, cell_terms}
use Rattle.year_cells.specs.Regions.{row-deficit}
use Rattle.ids.specs.Chains.{all_over}
use Rattle.question_listings.specs.Passes.{deficits-listed}
use Rattle.question_listings.proofs.deficits_listed.Goals as goal

pub returns : goal.returns
returns c =
    let row = c.args.listing.now in
    let marks = c.sellers_listed-sellers in
    let p : ℕ → Bool = λ s. eqb (at row (deficits_in + s)) 0 || holds marks.result s in
    all_from_yields_List p _ _ c.all.result c.all.ensures.ran (YieldsList-from_range 0 sellers sellers (cc) (omega arith)) (λ x b q k. search (rules, tests))
    ∙ all_over p sellers
    ∙ all_same sellers (λ s m. rw (row-deficit row {s = s} m) refl)
    ∙ deficits-listed (cell_terms c.args.year.now.cells) (listing_at (at row)) marks.ensures
