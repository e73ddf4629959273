-- The table has the layouts' widths.
use mathlib.Core.Path.{refl}
use Rattle.record_layouts.specs.Parts.{join, kinds, parts, fields_in, rules}
use Rattle.record_layouts.proofs.widths_of_parts.Goals as goal

pub returns : goal.returns
unfolding join kinds parts fields_in rules
returns c = refl
