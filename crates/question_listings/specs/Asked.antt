-- What is asked of the registrations, and of all that a record lists, by the code's conditions and selections.
use Rattle.std.specs.Prelude.{ℕ, Bool, not, ◌&&◌, ◌||◌, List}
use Rattle.ids.specs.Ids.{sum_to, only, tabulate}
use Rattle.limits.specs.Limits.{registrations, sellers}
use Rattle.year.specs.declared.Listing.{Listing}
use Rattle.year.specs.declared.Year.{Year}
use Rattle.year.specs.Year.{listed, committed}
use Rattle.question_conditions.specs.declared.Condition.{Condition}
use Rattle.question_conditions.specs.declared.Selection.{Selection}
use Rattle.question_conditions.specs.Entries.{every_listed, has_entry, deficits_listed, lists_exactly}
use Rattle.question_conditions.specs.Meets.{fulfils}
use Rattle.question_conditions.specs.Selects.{selects}

module _ (y : Year) where
  -- what the selected registrations commit, together
  abbrev pub selected_kw : Selection → ℕ
  selected_kw selection = sum_to registrations (only (selects y selection) (committed y.terms))

  module _ (l : Listing) where
    -- does registration i meet the condition, if it is listed, and does every one
    abbrev pub passes_at : Condition → ℕ → Bool
    passes_at condition i = not (listed l i) || fulfils y condition i

    abbrev pub every_entry : Condition → Bool
    every_entry condition = every_listed y.terms l (fulfils y condition)

    -- which sellers have an entry
    abbrev pub sellers_with_entries : List Bool
    sellers_with_entries = tabulate sellers (has_entry y.terms l)

    -- does every listed registration meet the condition, and has every deficit's seller an entry
    abbrev pub entries_pass : Condition → Bool
    entries_pass condition = every_entry condition && deficits_listed y.terms l

    -- are exactly those listed that are selected
    abbrev pub lists_selected : Selection → Bool
    lists_selected selection = lists_exactly y.terms l (selects y selection)
