-- A store is a paste of one byte.
use Rattle.text.specs.Pasted.{one}
use Rattle.text.proofs.put_byte.Goals as goal

pub returns : goal.returns
returns c = one c.args.out.now c.args.at c.args.byte c.requires
