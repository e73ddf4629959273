-- What is answered so far and the bill of the rest are the bill of the whole.
use Rattle.std.proofs.Common.{◌≡◌, ◌∙◌, sym, ◌+◌, ◌-◌, ◌++◌, arith, length, take, drop, set}
use Rattle.year_cells.specs.Layout.{year_in}
use Rattle.refusals.specs.Numbers.{number_of}
use Rattle.book_outcome.specs.Outcome.{Posts}
use Rattle.book.specs.Takes.{used_of, written_of}
use Rattle.record_file.specs.Walk.{ends}
use Rattle.bill_file.proofs.Along.{along-all}
use Rattle.bill_file.proofs.Turn.{lent, put_back, State, going-ends, going-full, next-within, written-within, turned}
use Rattle.bill_file.proofs.bill.Goals as goal
use Rattle.bill_file.proofs.bill.Goals.{After-statements-1}

-- the call's contract, with the slices as they are lent
posts : (m : After-statements-1)
    → (let l = m.loop-answered in
    let q = m.post-posted in
    Posts (year_in l.year.cells) (drop l.used m.args.records.now) (drop l.written l.statements) (number_of q.result) (used_of q.result) (written_of q.result) (year_in q.new.year.cells) q.new.buffer)
posts m =
    let l = m.loop-answered in
    rw (lent l.used m.args.records.now, lent l.written l.statements) at m.post-posted.ensures.posts

same : (m : After-statements-1)
    → (let l = m.loop-answered in length m.post-posted.new.buffer ≡ length (drop l.written l.statements))
same m =
    let l = m.loop-answered in
    rw (lent l.written l.statements) at m.post-posted.auto.buffer

-- the file with the call's record answered
stepped : (m : After-statements-1)
    → (let l = m.loop-answered in
    let a = m.args in
    let q = m.post-posted in
    State (ends (number_of q.result)) a.records.now a.numbers.now a.statements.now (set l.numbers l.answered (number_of q.result))
    (take l.written l.statements ++ (q.new.buffer ++ drop (length l.statements - l.written) (drop l.written l.statements)))
    (year_in q.new.year.cells) (l.answered + 1) (l.used + used_of q.result) (l.written + written_of q.result))
stepped m =
    let l = m.loop-answered in
    rw (put_back l.written l.statements m.post-posted.new.buffer)
    (turned l.invariant (posts m) (omega arith) (omega (arith, l.invariant.within, m.if-used-records.false)) (same m))

pub returns-then-used-records : goal.returns-then-used-records
returns-then-used-records c = going-ends c.loop-answered.invariant c.if-used-records.true

pub overflow_add-used : goal.overflow_add-used
overflow_add-used c = omega (arith, c.used_of-used.ensures, next-within c.loop-answered.invariant (posts (goal.at.overflow_add-used c).After-statements-1))

pub overflow_add-written : goal.overflow_add-written
overflow_add-written c =
    let m = (goal.at.overflow_add-written c).After-statements-1 in
    omega (arith, c.written_of-written.ensures, written-within c.loop-answered.invariant (posts m) (same m))

pub returns-then-ends : goal.returns-then-ends
returns-then-ends c =
    let number = c.number_of-number.ensures in
    rw (number, c.used_of-used.ensures, c.written_of-written.ensures)
    (along-all (rw (sym (rw number at c.ends.ensures) ∙ c.if-ends.true) at (stepped (goal.at.returns-then-ends c).After-statements-1)))

pub loop-answered-preserved : goal.loop-answered-preserved
loop-answered-preserved c =
    let m = (goal.at.loop-answered-preserved c).After-statements-1 in
    let number = c.number_of-number.ensures in
    rw (number, c.used_of-used.ensures, c.written_of-written.ensures)
    (record {
      sound = c.post-posted.new.year.valid.sound;
      within = next-within c.loop-answered.invariant (posts m);
      along = rw (sym (rw number at c.ends.ensures) ∙ c.if-ends.false) at (stepped m);
    })

pub returns : goal.returns
returns c =
    let l = c.loop-answered in
    let all : l.answered ≡ length l.numbers = omega arith in
    rw (← all) (going-full l.invariant (omega arith))
