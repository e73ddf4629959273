-- In every list passed the ids rise; the first where they do not settles the question.
use mathlib.Core.Bool.{true}
use mathlib.Core.Path.{◌≡◌}
use lib.ListN.{length}
use Rattle.ids.specs.Ids.{all_to}
use Rattle.record_layouts.specs.Layout.{list_at, items_in, place_of}
use Rattle.record_layouts.specs.Questions.{rises}
use Rattle.record_checks.proofs.lists_rise.Given as goal

abbrev pub invariant-loop-i : goal.invariant-loop-i
invariant-loop-i l = all_to l.i (λ j. rises l.values (length (list_at l.kind j).fields) (place_of l.kind l.values j) (items_in l.kind l.values j)) ≡ true
