-- `year_copies::registrations_of` meets its contract. The loop's invariant: the first i registrations are there. Assumes nothing.
use Prim.Native.Nat.{◌+◌, ◌*◌}
use Rattle.ids.specs.Fill.{Filled}
use Rattle.limits.specs.Limits.{registrations}
use Rattle.year_cells.specs.Places.{registration_width, registrations_place}
use Rattle.year.specs.Year.{no_registration}
use Rattle.year_cells.specs.Rows.{from}
use Rattle.year_cells.specs.Layout.{registration_at}
use Rattle.year_copies.proofs.registrations_of.Given as goal

abbrev pub invariant-loop-i : goal.invariant-loop-i
invariant-loop-i l = Filled no_registration registrations (λ j. registration_at (from (registrations_place + registration_width * j) l.year)) l.registrations l.i
