-- `settle_shortfalls::off_peak::entry_at` meets its contract: what the table has of an entry. Assumes nothing.
use Rattle.std.specs.Prelude.{Some, ◌&&◌, not, eqb}
use mathlib.Core.Path.{◌≡◌, ap, ◌∙◌}
use native.Mathlib.Omega.{arith}
use Rattle.calendar.specs.Calendar.{limited}
use Rattle.owed.specs.Owed.{measured}
use Rattle.owed_laws.specs.Limits.{limits}
use Rattle.settle_facts.specs.CellFacts.{facts}
use Rattle.settle_shortfalls.specs.Sharing.{second_of}
use Rattle.settle_shortfalls.specs.Sums.{compared_by, compare-is}
use Rattle.settle_shortfalls.specs.OffPeak.{measured-is, second-small}
use Rattle.settle_shortfalls.proofs.off_peak.entry_at.Goals as goal
use Rattle.settle_shortfalls.proofs.off_peak.entry_at.Goals.{After-get, After-get-product}

-- the second reduction, in the table
second_is : (c : After-get) → c.get.result ≡ second_of (facts c.args.year.now.cells) c.args.ev c.args.i
second_is c = c.get.ensures ∙ c.requires.entries.shares.second.is c.args.i c.requires.ev_lt_event_limit.1

is-measured : (c : After-get-product) → (c.is_dual-dual.result && (not (eqb c.get-listed.result 0) && not (eqb c.get-product.result limited))) ≡ measured (facts c.args.year.now.cells) c.args.ev c.args.i
is-measured c =
    let i = c.args.i in
    let l = c.requires.ev_lt_event_limit.1 in
    measured-is (facts c.args.year.now.cells) c.args.ev i c.is_dual-dual.ensures
    (c.get-listed.ensures ∙ c.requires.entries.shares.listed.is i l)
    (c.get-product.ensures ∙ c.requires.entries.columns.product.is i l)

pub returns-then-not-measured : goal.returns-then-not-measured
returns-then-not-measured c = rw (← (is-measured (goal.at.returns-then-not-measured c).After-get-product), c.if-not-measured.true)

pub returns : goal.returns
returns c =
    let F = facts c.args.year.now.cells in
    let second = c.new-reduction.ensures ∙ second_is (goal.at.returns c).After-get in
    rw (← (is-measured (goal.at.returns c).After-get-product), c.if-not-measured.false)
    (ap Some (c.compare.ensures ∙ compare-is c.requires.entries.columns c.args.i c.new-reduction.result.0 c.requires.ev_lt_event_limit.1 ∙ ap (compared_by F c.args.i) second))

pub new-reduction-requires : goal.new-reduction-requires
new-reduction-requires c = omega (arith, second_is c, second-small (limits c.args.year.now.valid.sound) c.args.ev c.args.i)
