-- What a look at the year's cells returns: the facts of the rules.
pub mod CellFacts
