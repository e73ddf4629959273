-- `question_listings::registrations::committed_kw` meets its contract: what the selected ones commit is summed. Assumes nothing.
use Rattle.std.proofs.Common.{ℕ, ◌<◌, ◌^◌, ◌≡◌, ◌∙◌, arith, rules, tests}
use Rattle.std.specs.Prelude.{map}
use Rattle.std.specs.List.{sum, range_with_len}
use Rattle.std.proofs.lemmas.Iterator.{YieldsList-from_range, YieldsList-from_map}
use Rattle.std.proofs.lemmas.Iterator.Consumers.{sum_from_yields_List, fits_from_yields_list}
use Rattle.ids.specs.Ids.{sum_to, only}
use Rattle.limits.specs.Limits.{registrations}
use Rattle.year.specs.Year.{committed}
use Rattle.year.specs.Limits.{committed-sum}
use Rattle.year_cells.specs.Layout.{year_in}
use Rattle.ids.specs.Chains.{sum_over}
use Rattle.question_conditions.specs.Selects.{selects}
use Rattle.question_listings.proofs.registrations.committed_kw.Goals as goal
use Rattle.question_listings.proofs.registrations.committed_kw.Goals.{After-sum-sum}

pub sum-sum-requires-clause-fits : goal.sum-sum-requires-clause-fits
sum-sum-requires-clause-fits c =
    let y = year_in c.args.year.now.cells in
    let f : ℕ → ℕ = only (selects y c.args.selection) (committed y.terms) in
    let small : sum (map f (range_with_len 0 registrations)) < 2 ^ 64 = omega (arith, sum_over f registrations, committed-sum c.args.year.now.valid.sound.terms (selects y c.args.selection) registrations) in
    fits_from_yields_list c.map.result _ (YieldsList-from_map _ f (YieldsList-from_range 0 registrations registrations (cc) (omega arith)) c.map.ensures.closure (λ x r q k. search (rules, tests))) small

total : (c : After-sum-sum) → c.sum-sum.result ≡ sum_to registrations (only (selects (year_in c.args.year.now.cells) c.args.selection) (committed (year_in c.args.year.now.cells).terms))
total c =
    let y = year_in c.args.year.now.cells in
    let f : ℕ → ℕ = only (selects y c.args.selection) (committed y.terms) in
    sum_from_yields_List c.map.result c.sum-sum.result c.sum-sum.ensures.ran (YieldsList-from_map _ f (YieldsList-from_range 0 registrations registrations (cc) (omega arith)) c.map.ensures.closure (λ x r q k. search (rules, tests))) ∙ sum_over f registrations

pub sum-requires : goal.sum-requires
sum-requires c = omega (arith, total (goal.at.sum-requires c).After-sum-sum, committed-sum c.args.year.now.valid.sound.terms (selects (year_in c.args.year.now.cells) c.args.selection) registrations)

pub returns : goal.returns
returns c = c.sum.ensures ∙ total (goal.at.returns c).After-sum-sum
