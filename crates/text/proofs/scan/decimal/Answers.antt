-- The fold over the characters is the definition's.
use Rattle.std.proofs.Common.{rules}
use Rattle.text.specs.Words.{spelled}
use Rattle.text.proofs.scan.decimal.Goals as goal

pub returns : goal.returns
unfolding spelled
returns c = search rules
