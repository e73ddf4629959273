-- The table has the layouts' lows.
use mathlib.Core.Path.{refl}
use Rattle.record_layouts.specs.Parts.{join, kinds, parts, fields_in, rules}
use Rattle.record_layouts.proofs.lows_of_parts.Goals as goal

pub returns : goal.returns
unfolding join kinds parts fields_in rules
returns c = refl
