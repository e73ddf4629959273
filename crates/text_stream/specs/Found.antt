-- What is found in the bytes at hand, whether or not a read or a write failed.
use Rattle.std.specs.Prelude.{Result, Ok, Err}
use Rattle.text_stream.specs.declared.failed.Failed.{Failed}

abbrev pub found : {A : Type 0} → Result A (Failed A) → A
found (Ok x) = x
found (Err f) = f.found
