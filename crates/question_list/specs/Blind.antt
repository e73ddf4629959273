-- The questions do not look at reductions: records with the same head, entries and deficits are answered alike.
use Rattle.std.specs.Prelude.{ℕ, Bool, ◌≡◌}
use Rattle.year.specs.declared.Year.{Year}
use Rattle.year.specs.Year.{listed, deficit}
use Rattle.record_heads.specs.Record.{Record}
use Rattle.question_conditions.specs.Entries.{every_listed, deficits_listed, lists_exactly}
use Rattle.question_list.specs.Questions.{q10, q11, q21, q14, questions}

pub records-blind : (rule : ℕ → ℕ → Bool) (room : ℕ) (y : Year) (r q : Record) → r.head ≡ q.head → r.listing.listed ≡ q.listing.listed → r.listing.deficits ≡ q.listing.deficits
    → questions rule y r room ≡ questions rule y q room
unfolding questions q10 q11 q21 q14 every_listed deficits_listed lists_exactly listed deficit
records-blind rule room y r q h a b = rw (h, a, b)
