-- `settle_charges::charge` meets its contract. The loop's invariant: the entries before i are charged. Assumes nothing.
use Rattle.std.specs.Prelude.{ℕ, ◌+◌, ◌*◌, ◌/◌, ◌≤◌, ◌<◌, ◌≡◌, Bool, true, not, ◌||◌, cond, List, eqb, leb}
use Rattle.std.proofs.Common.{ap, ◌∙◌, arith}
use Rattle.ids.specs.Ids.{at}
use Rattle.limits.specs.Limits.{registrations}
use Rattle.calendar.specs.Calendar.{due}
use Rattle.settle_facts.specs.CellFacts.{facts}
use Rattle.owed.specs.Facts.{Facts}
use Rattle.owed.specs.Owed as owed
use Rattle.owed.specs.Owed.{daily, spent, one_or_three, D}
use Rattle.owed_laws.specs.Limits.{Limits, limits}
use Rattle.owed_laws.specs.Bounds.{D-le, u-le, off-u-le, daily-le, charge-le}
use Rattle.settle_table.specs.Places.{compliance_row, u_row, off_u_row}
use Rattle.settle_table.specs.Rows.{renewed-next}
use Rattle.settle_charges.specs.declared.prices.Line.{Line}
use Rattle.settle_charges.specs.Pricing.{line_at, daily_of}
use Rattle.settle_charges.specs.Charging.{Charging, line_of, line-is, charging-first, charging-none, charging-more, charging-all, compliance-most, sum-most, daily-is, charge-is, any_some, none-some}
use Rattle.settle_charges.proofs.charge.Goals as goal
use Rattle.settle_charges.proofs.charge.Goals.{then-u-off, else-u-off}

-- a registration's line, its daily charge where it has a share, and its charge to date, as the rules have them
module _ {F : Facts} {k ev i all : ℕ} {w₀ w : List ℕ} (h : Charging F k ev i w₀ w all) (l : i < registrations) {x : Line} (e : x ≡ line_at w i) where
  line : x ≡ line_of F ev i (spent F ev i)
  line = e ∙ line-is h.given l (renewed-next h.spent l)

  daily-eq : {u off d : ℕ} {peak : Bool} → (not (eqb u 0) || not (eqb off 0)) ≡ true → u ≡ at w (u_row + i) → off ≡ at w (off_u_row + i)
      → peak ≡ one_or_three (F.event ev).period → d ≡ daily_of peak x → d ≡ daily F ev (spent F ev i) i
  daily-eq {peak = peak} t a b p f =
      f ∙ ap (daily_of peak) line ∙ daily-is F ev i (any_some t (a ∙ h.given.shares.u.is i l) (b ∙ h.given.off.is i l)) _ p

  charge-eq : {d m days r : ℕ} → d ≡ daily F ev (spent F ev i) i → m ≡ (F.event ev).month → days ≡ D F k
      → r ≡ cond (leb (due x.product m) k) (d * days / 1000) 0 → r ≡ owed.charge F k ev i
  charge-eq q m n z = rw line at z ∙ charge-is F k ev i q m n

-- limits
module _ {F : Facts} (L : Limits F) (ev i : ℕ) where
  daily-most : (t : ℕ) {d : ℕ} → d ≡ daily F ev t i → d ≤ 14400000000
  daily-most t e = rw e (daily-le L ev t i)

  charge-most : (k : ℕ) {r : ℕ} → r ≡ owed.charge F k ev i → r ≤ 5270400000
  charge-most k e = rw e (charge-le L k ev i)

pub loop-i-preserved : goal.loop-i-preserved
loop-i-preserved c =
    let h = c.loop-i.invariant in
    let t : c.loop-i.i < registrations = omega arith in
    elim c.if-u-off.branch [
      | then-u-off w ↦
          let d = daily-eq h t w.line_at-line.ensures w.if-u-off.true c.get-u.ensures c.get-off.ensures c.one_or_three-peak.ensures w.daily_of-daily.ensures in
          let r = charge-eq h t w.line_at-line.ensures d c.month_of-month.ensures c.days_to-days.ensures w.cents-due.ensures in
          rw (w.work-is, w.all-is)
          (charging-more h t ((limits c.args.year.now.valid.sound).seller c.loop-i.i) d r w.add_at.ensures (rw (line h t w.line_at-line.ensures) at w.add_at-then-u-off.ensures))
      | else-u-off w ↦
          let zero = none-some w.if-u-off.false (c.get-u.ensures ∙ h.given.shares.u.is c.loop-i.i t) (c.get-off.ensures ∙ h.given.off.is c.loop-i.i t) in
          rw (w.work-is, w.all-is) (charging-none h t zero.0 zero.1)
    ]

pub daily_of-daily-requires : goal.daily_of-daily-requires
daily_of-daily-requires c =
    let L = limits c.args.year.now.valid.sound in
    let e = line c.loop-i.invariant (omega arith) c.line_at-line.ensures in
    record { u_le_unforced_limit = rw e (u-le L c.args.ev c.loop-i.i); off_le_unforced_limit = rw e (off-u-le L c.args.ev c.loop-i.i); rate_le_rate_limit = rw e (L.rate c.loop-i.i) }

pub cents-due-requires : goal.cents-due-requires
cents-due-requires c =
    let L = limits c.args.year.now.valid.sound in
    let d = daily-eq c.loop-i.invariant (omega arith) c.line_at-line.ensures c.if-u-off.true c.get-u.ensures c.get-off.ensures c.one_or_three-peak.ensures c.daily_of-daily.ensures in
    record { month_bound = rw c.month_of-month.ensures (L.month c.args.ev); days_bound = rw c.days_to-days.ensures (D-le L c.args.k); daily_bound = daily-most L c.args.ev c.loop-i.i _ d }

pub add_at-requires-then-u-off : goal.add_at-requires-then-u-off
add_at-requires-then-u-off c =
    let h = c.loop-i.invariant in
    let t : c.loop-i.i < registrations = omega arith in
    let L = limits c.args.year.now.valid.sound in
    let d = daily-eq h t c.line_at-line.ensures c.if-u-off.true c.get-u.ensures c.get-off.ensures c.one_or_three-peak.ensures c.daily_of-daily.ensures in
    let r = charge-eq h t c.line_at-line.ensures d c.month_of-month.ensures c.days_to-days.ensures c.cents-due.ensures in
    let s = c.add_at.ensures in
    let q = (facts c.args.year.now.cells).seller c.loop-i.i in
    let b = L.seller c.loop-i.i in
    rw (line h t c.line_at-line.ensures)
    (omega (arith, b, s.long, h.given.columns.long), omega (arith, s.others (compliance_row + q) (λ e. omega (arith, t)), compliance-most h L c.requires.ev_lt_event_limit.0 q b, charge-most L c.args.ev c.loop-i.i c.args.k r))

pub loop-i-init : goal.loop-i-init
loop-i-init c = charging-first c.requires.given c.requires.billed_2

pub overflow_add-all : goal.overflow_add-all
overflow_add-all c =
    let h = c.loop-i.invariant in
    let t : c.loop-i.i < registrations = omega arith in
    let L = limits c.args.year.now.valid.sound in
    let d = daily-eq h t c.line_at-line.ensures c.if-u-off.true c.get-u.ensures c.get-off.ensures c.one_or_three-peak.ensures c.daily_of-daily.ensures in
    let r = charge-eq h t c.line_at-line.ensures d c.month_of-month.ensures c.days_to-days.ensures c.cents-due.ensures in
    omega (arith, sum-most h L, charge-most L c.args.ev c.loop-i.i c.args.k r)

pub returns-clause-billed : goal.returns-clause-billed
returns-clause-billed c = charging-all c.loop-i.invariant (omega (arith, c.loop-i.invariant.upto))
