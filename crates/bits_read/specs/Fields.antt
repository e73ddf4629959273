-- What the cursor's fields leave in the list that takes them.
use Rattle.std.specs.Prelude.{ℕ, List}
use Rattle.bits.specs.Table.{times, fields_at, laid}
use Rattle.bits_read.specs.declared.Cursor.{Cursor}
use Rattle.bits_read.specs.declared.Items.{Items}

-- the fields of these widths from a cursor on, laid over a list from a place on
abbrev pub fields_laid : List ℕ → Cursor → List ℕ → ℕ → List ℕ → List ℕ
fields_laid bytes c ws to old = laid to (fields_at bytes c.at ws) old

-- those of items, each with fields of these widths
abbrev pub items_laid : List ℕ → Cursor → Items → List ℕ → ℕ → List ℕ → List ℕ
items_laid bytes c items ws to old = fields_laid bytes c (times items.count ws) to old
