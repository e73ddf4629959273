-- The number of each question, and that of an answer: 0 where nothing is refused.
use Rattle.std.specs.Prelude.{ℕ, Result, Ok, Err}
use Rattle.refusals.specs.declared.Refusal.{Refusal}
use Rattle.refusals.specs.declared.Refusal.TheVariants.{NoKind, CutOff, OutOfLimits, NotFilled, NotRising, Opening, Started, NoParties, IdTaken, WrongEntries, WrongMonth, YearFull, TestedBefore, OtherTestEntries, NotNextMonth, NoRoom, FourClearings, NotCounted, TooMuch, NoRetest, OtherRetestEntries}
use Rattle.refusals.specs.declared.Refused.{Refused}

abbrev pub number : Refusal → ℕ
number NoKind = 1
number CutOff = 2
number OutOfLimits = 3
number NotFilled = 4
number NotRising = 5
number Opening = 6
number Started = 7
number NoParties = 8
number IdTaken = 9
number WrongEntries = 10
number WrongMonth = 11
number YearFull = 12
number TestedBefore = 13
number OtherTestEntries = 14
number NotNextMonth = 15
number NoRoom = 16
number FourClearings = 17
number NotCounted = 18
number TooMuch = 19
number NoRetest = 20
number OtherRetestEntries = 21

-- of what answers a question
abbrev pub answered : {A : Type 0} → Result A Refusal → ℕ
answered (Ok x) = 0
answered (Err q) = number q

-- of what answers a record
abbrev pub number_of : {A : Type 0} → Result A Refused → ℕ
number_of (Ok x) = 0
number_of (Err r) = number r.refusal
