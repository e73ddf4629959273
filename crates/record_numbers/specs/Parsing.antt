-- What the steps of parsing and writing rest on.
use Rattle.std.specs.Prelude.{ℕ, ◌≤◌, true, List, ◌≡◌, length}
use Rattle.ids.specs.Ids.{at}
use Rattle.record_layouts.specs.Layout.{size_of}
use Rattle.record_layouts.specs.Questions.{kind_of, rules_by, is_kind, permitted, ids_rise}

-- k is the kind of the bytes' record
pub record Known (bytes : List ℕ) (k : ℕ) : Type 0 where
  pub kind : k ≡ kind_of bytes
  pub first : is_kind (kind_of bytes) ≡ true

-- what writing accepts: questions 1, 3 and 5, and room for the record
pub record Writable (vs : List ℕ) (room : ℕ) : Type 0 where
  pub kind : is_kind (at vs 0) ≡ true
  pub counted : length vs ≡ length (rules_by vs)
  pub permits : permitted (rules_by vs) vs ≡ true
  pub rise : ids_rise vs ≡ true
  pub fits : size_of (rules_by vs) ≤ room
