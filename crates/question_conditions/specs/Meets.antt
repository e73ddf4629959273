-- What the code's conditions ask of registration i.
use Rattle.std.specs.Prelude.{ℕ, Bool, eqb}
use Rattle.calendar.specs.Calendar.{callable}
use Rattle.year.specs.declared.Year.{Year}
use Rattle.year.specs.Year.{seller, product}
use Rattle.question_conditions.specs.declared.Condition.{Condition}
use Rattle.question_conditions.specs.declared.Condition.TheVariants.{InArea, InGroup, OfSeller, Callable}
use Rattle.question_conditions.specs.Entries.{in_area, in_group}

module _ (y : Year) where
  abbrev pub fulfils : Condition → ℕ → Bool
  fulfils (InArea a) i = in_area y.terms a i
  fulfils (InGroup z p) i = in_group y.terms z p i
  fulfils (OfSeller s) i = eqb (seller y.terms i) s
  fulfils (Callable m p) i = callable (product y.terms i) m p
