-- With j lists passed, the place of list j.
use mathlib.Core.Path.{◌≡◌}
use Rattle.record_layouts.specs.Layout.{place_of}
use Rattle.record_shapes.proofs.list_at.Given as goal

abbrev pub invariant-loop-j : goal.invariant-loop-j
invariant-loop-j l = l.from ≡ place_of l.kind l.values l.j
