-- The higher digit, then the lower.
use Rattle.text.specs.Pasted.{then}
use Rattle.text.proofs.put_hexadecimal.Goals as goal

pub returns : goal.returns
returns c =
    rw (c.character_of.ensures, c.character_of-2.ensures)
    at (then c.put_byte-p.ensures c.put_byte.ensures)
