-- Shifted left and then right, the word has lost the bits before and behind the field.
use Rattle.bits.specs.Shifts.{shifted}
use Rattle.bits_read.proofs.words.cut.Goals as goal

pub returns : goal.returns
returns c = shifted c.args.word c.args.skip c.args.width c.requires.width_bound_2
