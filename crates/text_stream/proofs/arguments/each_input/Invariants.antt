-- From the second argument on, an input is taken.
use Prim.Native.Nat.{◌<◌}
use Rattle.text_stream.proofs.arguments.each_input.Given as goal

abbrev pub invariant-loop-i : goal.invariant-loop-i
invariant-loop-i g l = 1 < l.i → g.T.TakesInput.done l.program
