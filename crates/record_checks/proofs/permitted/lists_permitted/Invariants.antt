-- Every list passed is permitted; the first that is not settles the question.
use mathlib.Core.Bool.{true}
use mathlib.Core.Path.{◌≡◌}
use Rattle.record_layouts.specs.Layout.{rules_to}
use Rattle.record_layouts.specs.Questions.{permitted}
use Rattle.record_checks.proofs.permitted.lists_permitted.Given as goal

abbrev pub invariant-loop-i : goal.invariant-loop-i
invariant-loop-i l = permitted (rules_to l.kind l.values l.i) l.values ≡ true
