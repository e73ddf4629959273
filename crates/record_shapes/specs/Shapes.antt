-- What the code finds of a record's lists and shape, as the layouts say it.
use Rattle.std.specs.Prelude.{ℕ, ◌+◌, ◌-◌, ◌*◌, ◌≤◌, List, map, ◌≡◌, length, take, drop}
use Rattle.bits.specs.Table.{total}
use Rattle.record_layouts.specs.Layout.{Rule, list_at, items_in, place_of, widths}
use Rattle.record_layouts.specs.Parts.{rules}
use Rattle.record_shapes.specs.declared.Shape.{Shape}
use Rattle.record_shapes.specs.declared.ItemList.{ItemList}

-- l is list i of the record that the numbers state, and the tables have the fields of its items there
pub record Listed (k : ℕ) (vs : List ℕ) (i : ℕ) (l : ItemList) : Type 0 where
  pub fields : (f : Rule → ℕ) → take (l.end - l.start) (drop l.start (map f rules)) ≡ map f (list_at k i).fields
  pub long : l.end ≡ l.start + length (list_at k i).fields
  pub within : l.end ≤ length rules
  pub bits : l.bits ≡ total (widths (list_at k i).fields)
  pub items : l.items ≡ items_in k vs i
  pub numbers : l.numbers ≡ items_in k vs i * length (list_at k i).fields
  pub from : l.from ≡ place_of k vs i

-- how many fields and bits there are
pub record Shaped (rs : List Rule) (s : Shape) : Type 0 where
  pub count : s.count ≡ length rs
  pub bits : s.bits ≡ total (widths rs)
