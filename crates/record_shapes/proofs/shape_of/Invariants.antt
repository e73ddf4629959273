-- With i lists passed, the shape of what is before list i.
use Rattle.record_layouts.specs.Layout.{rules_to}
use Rattle.record_shapes.specs.Shapes.{Shaped}
use Rattle.record_shapes.proofs.shape_of.Given as goal

abbrev pub invariant-loop-i : goal.invariant-loop-i
invariant-loop-i l = Shaped (rules_to l.kind l.values l.i) l.shape
