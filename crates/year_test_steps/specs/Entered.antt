-- A table of entries in the cells, marks and then reductions, into which a listing's are entered.
use Rattle.std.specs.Prelude.{ℕ, ◌+◌, ◌≤◌, ◌<◌, ◌≡◌, cond, List, length}
use Rattle.std.proofs.Common.{◌∙◌, arith, zero-add, add_assoc}
use Rattle.ids.specs.Ids.{at, tabulate}
use Rattle.ids.specs.Tables.{length-tabulate, get_or-tabulate}
use Rattle.limits.specs.Limits.{registrations}
use Rattle.year_cells.specs.Places.{reductions_in, entries_width}
use Rattle.year_cells.specs.Rows.{Laid, Same, same-on, same-before, same-behind}
use Rattle.year_cells.specs.Layout.{flag}

-- what entries become: the listing's part from q on where it lists, else the cells from p on
module _ (c : List ℕ) (p : ℕ) (l : List ℕ) (q : ℕ) where
  abbrev pub merged_at : ℕ → ℕ
  merged_at i = cond (flag (at l i)) (at l (q + i)) (at c (p + i))

  abbrev pub merged : List ℕ
  merged = tabulate registrations merged_at

-- d is c with the listing's entries in the table
pub record Entered (table : ℕ) (l c d : List ℕ) : Type 0 where
  pub long : length d ≡ length c
  pub marks : (i : ℕ) → i < registrations → at d (table + i) ≡ cond (flag (at l i)) (at l i) (at c (table + i))
  pub reductions : (i : ℕ) → i < registrations → at d (table + (reductions_in + i)) ≡ cond (flag (at l i)) (at l (reductions_in + i)) (at c (table + (reductions_in + i)))
  pub before : (q w : ℕ) → q + w ≤ table → Same q w c d
  pub behind : (q w : ℕ) → table + entries_width ≤ q → Same q w c d

-- it is laid by two rows
pub entered : {table : ℕ} {l c m d : List ℕ} → Laid table (merged c table l 0) c m → Laid (table + registrations) (merged c (table + registrations) l registrations) m d → Entered table l c d
entered {table} {l} {c} {m} {d} g h =
    record {
      long = h.long ∙ g.long;
      marks = λ i b. (same-before h table registrations (omega arith)).cell i b ∙ g.inside i (omega (arith, merged-long table 0)) ∙ entry table 0 i b ∙ rw (zero-add i);
      reductions = λ i b. rw (← (add_assoc table registrations i)) (h.inside i (omega (arith, merged-long (table + registrations) registrations)) ∙ entry (table + registrations) registrations i b);
      before = λ q w b. same-on (same-before g q w b) (same-before h q w (omega arith));
      behind = λ q w b. same-on (same-behind g q w (omega (arith, merged-long table 0))) (same-behind h q w (omega (arith, merged-long (table + registrations) registrations)));
    }
  where
    merged-long : (p q : ℕ) → length (merged c p l q) ≡ registrations
    merged-long p q = length-tabulate (merged_at c p l q) registrations

    entry : (p q i : ℕ) → i < registrations → at (merged c p l q) i ≡ merged_at c p l q i
    entry p q i b = get_or-tabulate (merged_at c p l q) registrations i 0 b
