-- What is consumed lies within the bytes that were lent, of a refused record too.
use Rattle.std.proofs.Common.{ℕ, List, ◌-◌, ◌≤◌, ◌≡◌, arith, length, take, drop, length-drop, length-take-le}
use Rattle.record_layouts.specs.Questions.{consumed}
use Rattle.record_layouts.specs.QuestionLaws.{consumed-within}
use Rattle.bill.proofs.bill.Goals as goal

held : (buffer : List ℕ) (start end : ℕ) → end ≤ length buffer → consumed (take (end - start) (drop start buffer)) ≤ end - start
held buffer start end within =
    let bytes = take (end - start) (drop start buffer) in
    let long : length bytes ≡ end - start = length-take-le (end - start) (drop start buffer) (rw length-drop (omega arith)) in
    omega (arith, consumed-within bytes)

pub behind-window-requires : goal.behind-window-requires
behind-window-requires g c =
    let w = c.in_ok-window.window in
    let used = rw c.in-Ok.is at c.step-answered.ensures.posts.uses in
    omega (arith, used, held c.filled.new.buffer w.start w.end (omega (arith, c.in_ok-window.ensures.within)))

pub behind-window-requires-in-Err : goal.behind-window-requires-in-Err
behind-window-requires-in-Err g c =
    let w = c.in_ok-window.window in
    let used = rw c.in-Err.is at c.step-answered.ensures.posts.uses in
    omega (arith, used, held c.filled.new.buffer w.start w.end (omega (arith, c.in_ok-window.ensures.within)))
