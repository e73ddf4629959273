-- `YearCells::new` meets its contract: where all cells are 0 there is a new year. Assumes nothing.
use Rattle.std.proofs.Common.{◌≡◌, ℕ}
use Rattle.std.proofs.lemmas.List.{length-replicate}
use Rattle.std.specs.Prelude.{replicate}
use Rattle.ids.specs.Sets.{get_or-replicate-same}
use Rattle.year_cells.specs.Places.{cell_count}
use Rattle.year.specs.Year.{new_year}
use Rattle.year.specs.StaysSound.{sound-new}
use Rattle.year_cells.specs.Regions.{new-year}
use Rattle.year_cells.specs.Layout.{year_in}
use Rattle.year_cells.proofs.YearCells.new.Goals as goal

zeros : year_in (replicate cell_count 0) ≡ new_year
zeros = new-year (replicate cell_count 0) (λ k. get_or-replicate-same cell_count k 0)

pub invariant_of-result : goal.invariant_of-result
invariant_of-result c = record { valid = record { long = length-replicate {A = ℕ} cell_count 0; sound = rw zeros sound-new } }

pub returns : goal.returns
returns c = zeros
