-- A listing with one item more: an entry is kept at its registration, its second reduction too, a deficit at its seller. And one without second reductions.
use Rattle.std.specs.Prelude.{ℕ, true, set, replicate}
use Rattle.limits.specs.Limits.{registrations}
use Rattle.year.specs.declared.Listing.{Listing}

abbrev pub with_entry : Listing → ℕ → ℕ → Listing
with_entry l i kw = record { listed = set l.listed i true; reductions = set l.reductions i kw; second = l.second; deficits = l.deficits }

abbrev pub with_second : Listing → ℕ → ℕ → Listing
with_second l i kw = record { listed = l.listed; reductions = l.reductions; second = set l.second i kw; deficits = l.deficits }

abbrev pub with_deficit : Listing → ℕ → ℕ → Listing
with_deficit l s kw = record { listed = l.listed; reductions = l.reductions; second = l.second; deficits = set l.deficits s kw }

-- what a test keeps: an entry's first reduction alone
abbrev pub single : Listing → Listing
single l = record { listed = l.listed; reductions = l.reductions; second = replicate registrations 0; deficits = l.deficits }
