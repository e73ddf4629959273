-- The parts of a kind stand in a row.
use native.Mathlib.Omega.{arith}
use Rattle.record_layouts.specs.Parts.{join, kinds, parts}
use Rattle.record_layouts.specs.PartLaws.{part_in, placed}
use Rattle.record_layouts.proofs.part_at.Goals as goal

pub overflow_add-first_of : goal.overflow_add-first_of
unfolding join kinds parts
overflow_add-first_of c = omega (arith, part_in c.args.kind c.requires.kind_in_bounds c.args.i c.requires.i_in_bounds)

pub row_at-requires : goal.row_at-requires
row_at-requires c = omega (arith, c.first_of.ensures, part_in c.args.kind c.requires.kind_in_bounds c.args.i c.requires.i_in_bounds)

pub returns : goal.returns
returns c =
    rw (c.row_at.ensures, c.first_of.ensures) (placed c.args.kind c.requires.kind_in_bounds c.args.i c.requires.i_in_bounds)
