-- Which registrations the code's selections mean.
use Rattle.std.specs.Prelude.{ℕ, Bool, not, ◌&&◌}
use Rattle.year.specs.declared.Year.{Year}
use Rattle.year.specs.Year.{known}
use Rattle.owed.specs.Facts.{Facts, facts_of}
use Rattle.owed.specs.Owed.{dispatched}
use Rattle.owed.specs.Retests.{test_entry, failed}
use Rattle.question_conditions.specs.declared.Selection.{Selection}
use Rattle.question_conditions.specs.declared.Selection.TheVariants.{Known, Undispatched, Tested, Failed, Retested}
use Rattle.question_conditions.specs.Entries.{in_group}

-- is registration i's entry, seller s's in the test of group p, retested
abbrev pub retested : Facts → ℕ → ℕ → ℕ → Bool
retested F p s i = test_entry F p s i && (F.retest i).taken

module _ (y : Year) where
  abbrev pub selects : Selection → ℕ → Bool
  selects Known i = known y.terms i
  selects (Undispatched z p) i = in_group y.terms z p i && not (dispatched (facts_of y) i)
  selects (Tested p s) i = test_entry (facts_of y) p s i
  selects (Failed p s) i = failed (facts_of y) p s i
  selects (Retested p s) i = retested (facts_of y) p s i
