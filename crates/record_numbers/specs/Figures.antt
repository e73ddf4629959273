-- Figures of which numbers are reductions: of an event with a deficit and an entry of one reduction, and of one whose entry has two (C-17), each of which is replaced on its own.
use Rattle.std.specs.Prelude.{true, [], ◌∷◌, ◌≡◌, refl, eqb}
use Rattle.ids.specs.Ids.{any_to, tabulate}
use Rattle.bits.specs.Table.{times}
use Rattle.record_layouts.specs.Layout.{items_in, rules_to}
use Rattle.record_numbers.specs.Reductions.{reduces_in, is_reduction, with_reductions}

replaced-figures : (with_reductions (λ i. true) (λ j. j) (4 ∷ 1 ∷ 1 ∷ 1 ∷ 1 ∷ 1 ∷ 3 ∷ 100 ∷ 5 ∷ 600 ∷ []) ≡ 4 ∷ 1 ∷ 1 ∷ 1 ∷ 1 ∷ 1 ∷ 3 ∷ 100 ∷ 5 ∷ 9 ∷ [])
    × (with_reductions (eqb 5) (λ j. j) (8 ∷ 1 ∷ 1 ∷ 0 ∷ 2 ∷ 5 ∷ 600 ∷ 1500 ∷ 7 ∷ 600 ∷ 1500 ∷ []) ≡ 8 ∷ 1 ∷ 1 ∷ 0 ∷ 2 ∷ 5 ∷ 6 ∷ 7 ∷ 7 ∷ 600 ∷ 1500 ∷ [])
unfolding any_to tabulate times items_in rules_to reduces_in is_reduction with_reductions
replaced-figures = (refl, refl)
