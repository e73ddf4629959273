-- `settle_dispatch::count_event` meets its contract. The loop's invariant: the entries before i are counted. Assumes nothing.
use Rattle.std.proofs.Common.{◌≡◌, Bool, true, false, refl, sym, ap, ◌∙◌, cond, rules, arith}
use Rattle.std.specs.Prelude.{Ok, Err}
use Rattle.std.specs.Result.{is_ok}
use Rattle.year.specs.Year.{listed}
use Rattle.settle_facts.specs.CellFacts.{facts}
use Rattle.ids.specs.Tests.{cond-le}
use Rattle.settle_table.specs.Rows.{mark}
use Rattle.settle_dispatch.specs.Counting.{counts-none, counts-next, counts-more, dispatch-count-most}
use Rattle.settle_dispatch.proofs.count_event.Goals as goal
use Rattle.settle_dispatch.proofs.count_event.Goals.{then-is_ok, else-is_ok}

-- an entry is told to be listed where the event lists it
ok-cond : {A : Type 0} (b : Bool) (x : A) → is_ok (cond b (Ok x) (Err x)) ≡ b
ok-cond true x = refl
ok-cond false x = refl

pub add_at-requires : goal.add_at-requires
add_at-requires c =
    let l = c.loop-i in
    let p = c.put.ensures in
    let one : c.from-one.result ≡ mark c.one_or_three.result = search rules in
    (omega (arith, p.long, l.invariant.long), omega (arith, c.requires.ev_lt_event_limit, counts-next l.invariant (omega arith) p, dispatch-count-most (facts c.args.year.now.cells) c.args.ev l.i, one, cond-le c.one_or_three.result {x = 1} {b = 1} (omega arith)))

pub loop-i-preserved : goal.loop-i-preserved
loop-i-preserved c =
    let l = c.loop-i in
    let e : c.is_ok.result ≡ listed ((facts c.args.year.now.cells).event c.args.ev).listing l.i = c.is_ok.ensures.value ∙ ap is_ok c.look.ensures ∙ ok-cond _ _ in
    let one : c.from-one.result ≡ mark c.one_or_three.result = search rules in
    elim c.if-is_ok.branch [
      | then-is_ok w ↦ rw w.work-is (counts-more l.invariant (omega arith) (sym e ∙ w.if-is_ok.true) (one ∙ ap mark c.one_or_three.ensures) w.put.ensures w.add_at.ensures)
      | else-is_ok w ↦ rw w.work-is (counts-none l.invariant (omega arith) (sym e ∙ w.if-is_ok.false))
    ]
