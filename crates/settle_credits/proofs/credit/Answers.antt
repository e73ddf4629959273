-- `settle_credits::credit` meets its contract. The loop's invariant: the entries before i are credited. Assumes nothing.
use Rattle.std.specs.Prelude.{ℕ, ◌+◌, ◌<◌, ◌≡◌, refl, List}
use Rattle.std.proofs.Common.{◌∙◌, arith}
use Rattle.ids.specs.Ids.{at}
use Rattle.limits.specs.Limits.{registrations}
use Rattle.allotment.specs.declared.Allotment.{Allotment}
use Rattle.year.specs.Year as year
use Rattle.owed.specs.Facts.{Facts}
use Rattle.owed.specs.Owed.{credit_of}
use Rattle.owed_laws.specs.Limits.{limits}
use Rattle.owed_laws.specs.Bounds.{D-le, e-le, e-sum, credit-le}
use Rattle.settle_facts.specs.CellFacts.{facts}
use Rattle.settle_table.specs.Places.{spent_row}
use Rattle.settle_table.specs.Rows.{mark, mark-true, mark-false}
use Rattle.settle_charges.specs.declared.prices.Line.{Line}
use Rattle.settle_charges.specs.Pricing.{line_at}
use Rattle.settle_charges.specs.Charging.{line_of, line-is}
use Rattle.settle_credits.specs.Crediting.{Crediting, excesses, crediting-first, crediting-none, crediting-more, crediting-all, crediting-divisions, credit-most, asks, credit-is}
use Rattle.settle_credits.proofs.credit.Goals as goal
use Rattle.settle_credits.proofs.credit.Goals.{After-get-listed, After-min-credit}

-- an entry's line, as the rules have it
line : {F : Facts} {k ev i : ℕ} {w₀ w : List ℕ} {a : Allotment} {x : Line} → Crediting F k ev i w₀ w a → i < registrations → x ≡ line_at w i → x ≡ line_of F ev i (at w (spent_row + i))
line h l p = p ∙ line-is h.given l refl

-- its mark, and its credit
marked : (c : After-get-listed) → c.get-listed.result ≡ mark (year.listed ((facts c.args.year.now.cells).event c.args.ev).listing c.loop-i.i)
marked c = c.get-listed.ensures ∙ c.loop-i.invariant.given.shares.listed.is c.loop-i.i c.loop-i-test.true

credited : (c : After-min-credit) → c.min-credit.result ≡ credit_of (facts c.args.year.now.cells) c.args.k c.args.ev c.loop-i.i
credited c =
    let h = c.loop-i.invariant in
    let e = line h c.loop-i-test.true c.line_at-line.ensures in
    credit-is h (rw e at c.share-share.ensures) c.days_to-days.ensures (rw e at c.limit-most.ensures) c.min-credit.ensures

pub sum-total-requires : goal.sum-total-requires
sum-total-requires c =
    let g = c.requires.given in
    (omega (arith, g.columns.long), omega (arith, excesses g, e-sum (limits c.args.year.now.valid.sound) c.args.ev))

pub loop-i-init : goal.loop-i-init
loop-i-init c = crediting-first c.requires.given c.requires.row c.requires.charges_value c.sum-total.ensures c.new-allotment.ensures

pub share-share-requires : goal.share-share-requires
share-share-requires c = rw (line c.loop-i.invariant c.loop-i-test.true c.line_at-line.ensures) (asks c.loop-i.invariant c.loop-i-test.true (limits c.args.year.now.valid.sound))

pub limit-most-requires : goal.limit-most-requires
limit-most-requires c =
    let L = limits c.args.year.now.valid.sound in
    let i = c.loop-i.i in
    let e = line c.loop-i.invariant c.loop-i-test.true c.line_at-line.ensures in
    record { e_le_nominated_limit = rw e (e-le L c.args.ev i); rate_le_rate_limit = rw e (L.rate i); days_bound = rw c.days_to-days.ensures (D-le L c.args.k) }

pub add_at-requires : goal.add_at-requires
add_at-requires c =
    let L = limits c.args.year.now.valid.sound in
    let h = c.loop-i.invariant in
    let i = c.loop-i.i in
    let b = L.seller i in
    rw (line h c.loop-i-test.true c.line_at-line.ensures)
    (omega (arith, b, h.given.columns.long), omega (arith, credit-most h L c.requires.ev_lt_event_limit.0 _ b, credited (goal.at.add_at-requires c).After-min-credit, credit-le L c.args.k c.args.ev i))

pub loop-i-preserved-then-not-listed : goal.loop-i-preserved-then-not-listed
loop-i-preserved-then-not-listed c =
    crediting-none c.loop-i.invariant c.loop-i-test.true (mark-false _ (marked (goal.at.loop-i-preserved-then-not-listed c).After-get-listed) c.if-not-listed.true)

pub loop-i-preserved : goal.loop-i-preserved
loop-i-preserved c =
    let h = c.loop-i.invariant in
    let l = c.loop-i-test.true in
    let e = line h l c.line_at-line.ensures in
    crediting-more h (rw e at c.share-share.ensures) l (mark-true _ (marked (goal.at.loop-i-preserved c).After-get-listed) c.if-not-listed.false) ((limits c.args.year.now.valid.sound).seller c.loop-i.i) (credited (goal.at.loop-i-preserved c).After-min-credit) (rw e at c.add_at.ensures)

pub returns : goal.returns
returns c =
    let h = c.loop-i.invariant in
    let all : c.loop-i.i ≡ registrations = omega (arith, h.upto) in record { credited = crediting-all h all; divisions = crediting-divisions h all; aside = h.aside }
