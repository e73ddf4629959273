-- What is consumed lies within the bytes that were lent.
use Rattle.std.proofs.Common.{◌≡◌, ◌-◌, arith, length, take, drop, length-drop, length-take-le}
use Rattle.record_layouts.specs.QuestionLaws.{consumed-within}
use Rattle.dump.proofs.dump.Goals as goal

pub behind-window-requires : goal.behind-window-requires
behind-window-requires g c =
    let w = c.in_ok-window.window in
    let rest = drop w.start c.filled.new.buffer in
    let bytes = take (w.end - w.start) rest in
    let long : length bytes ≡ w.end - w.start = length-take-le (w.end - w.start) rest (rw length-drop (omega (arith, c.in_ok-window.ensures.within))) in
    omega (arith, c.in_ok-window.ensures.within, c.print-printed.ensures.number_value.1, consumed-within bytes)
