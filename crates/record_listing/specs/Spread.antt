-- A listing as a row by id: marks and reductions by registration, deficits by seller, then second reductions.
use Rattle.std.specs.Prelude.{ℕ, ◌+◌, ◌<◌, ◌≡◌, Bool, false, List, [], ◌∷◌, length, set, replicate}
use Rattle.std.proofs.Common.{ap, sym, ◌∙◌, arith, zero-add}
use Rattle.std.proofs.lemmas.List.{length-replicate, get_or-replicate}
use Rattle.ids.specs.Ids.{at, tabulate}
use Rattle.ids.specs.Tables.{tabulate-same}
use Rattle.limits.specs.Limits.{registrations, sellers}
use Rattle.year_cells.specs.Places.{reductions_in, deficits_in, second_in, listing_width}
use Rattle.year.specs.declared.Listing.{Listing}
use Rattle.year.specs.Year.{no_listing}
use Rattle.year.specs.Listing.{with_entry, with_second, with_deficit}
use Rattle.year_cells.specs.Rows.{Laid, laid-set, Same, same-before, same-behind, cells-laid, numbers-kept, table_of}
use Rattle.year_cells.specs.Layout.{flag, listing_at}

pub record Spreads (l : Listing) (row : List ℕ) : Type 0 where
  pub long : length row ≡ listing_width
  pub lists : listing_at (at row) ≡ l

-- a row of zeros lists nothing
pub spread_none : Spreads no_listing (replicate listing_width 0)
spread_none =
    record {
      long = length-replicate {A = ℕ} listing_width 0;
      lists = cc (
        table_of {f = λ i. flag (at (replicate listing_width 0) i)} {x = false} registrations (λ i m. rw (get_or-replicate {A = ℕ} listing_width i 0 0 (omega arith))),
        table_of {f = λ i. at (replicate listing_width 0) (reductions_in + i)} registrations (λ i m. get_or-replicate listing_width (reductions_in + i) 0 0 (omega arith)),
        table_of {f = λ i. at (replicate listing_width 0) (second_in + i)} registrations (λ i m. get_or-replicate listing_width (second_in + i) 0 0 (omega arith)),
        table_of {f = λ j. at (replicate listing_width 0) (deficits_in + j)} sellers (λ j m. get_or-replicate listing_width (deficits_in + j) 0 0 (omega arith)),
      );
    }

abbrev marks : List ℕ → List Bool
marks row = tabulate registrations (λ i. flag (at row i))

marks-laid : (i : ℕ) {v : ℕ} {c d : List ℕ} → i < registrations → Laid i (v ∷ []) c d → marks d ≡ set (marks c) i (flag v)
marks-laid i {v} {c} {d} l h =
    let laid : Laid (0 + i) (v ∷ []) c d = rw (zero-add i) h in
    sym (plain d) ∙ cells-laid flag registrations 0 i l laid ∙ rw (plain c)
  where
    plain : (c : List ℕ) → tabulate registrations (λ j. flag (at c (0 + j))) ≡ marks c
    plain c = tabulate-same registrations (λ j m. rw (zero-add j))

marks-kept : {c d : List ℕ} → Same 0 registrations c d → marks d ≡ marks c
marks-kept {c} {d} s = tabulate-same registrations (λ i m. rw (← zero-add i, s.cell i m))

module _ {l : Listing} {row : List ℕ} (s : Spreads l row) where
  -- an entry stores a mark and a reduction
  pub spread-entry : (i v : ℕ) → i < registrations → Spreads (with_entry l i v) (set (set row i 1) (reductions_in + i) v)
  spread-entry i v m =
      let mark : Laid i (1 ∷ []) row (set row i 1) = laid-set (omega (arith, s.long)) in
      let kw : Laid (reductions_in + i) (v ∷ []) (set row i 1) (set (set row i 1) (reductions_in + i) v) = laid-set (omega (arith, mark.long, s.long)) in
      record {
        long = kw.long ∙ mark.long ∙ s.long;
        lists = rw (← s.lists)
            (cc (
              marks-kept (same-before kw 0 registrations (omega arith)) ∙ marks-laid i m mark,
              cells-laid (λ x. x) registrations reductions_in i m kw ∙ ap (λ (x : List ℕ). set x i v) (numbers-kept registrations reductions_in (same-behind mark registrations registrations (omega arith))),
              numbers-kept registrations second_in (same-behind kw second_in registrations (omega arith)) ∙ numbers-kept registrations second_in (same-behind mark second_in registrations (omega arith)),
              numbers-kept sellers deficits_in (same-behind kw deficits_in sellers (omega arith)) ∙ numbers-kept sellers deficits_in (same-behind mark deficits_in sellers (omega arith)),
            ));
      }

  -- a second reduction
  pub spread-second : (i v : ℕ) → i < registrations → Spreads (with_second l i v) (set row (second_in + i) v)
  spread-second i v m =
      let kw : Laid (second_in + i) (v ∷ []) row (set row (second_in + i) v) = laid-set (omega (arith, s.long)) in
      record {
        long = kw.long ∙ s.long;
        lists = rw (← s.lists)
            (cc (
              marks-kept (same-before kw 0 registrations (omega arith)),
              numbers-kept registrations reductions_in (same-before kw registrations registrations (omega arith)),
              cells-laid (λ x. x) registrations second_in i m kw,
              numbers-kept sellers deficits_in (same-before kw deficits_in sellers (omega arith)),
            ));
      }

  -- a deficit stores its kilowatts
  pub spread-deficit : (j v : ℕ) → j < sellers → Spreads (with_deficit l j v) (set row (deficits_in + j) v)
  spread-deficit j v m =
      let kw : Laid (deficits_in + j) (v ∷ []) row (set row (deficits_in + j) v) = laid-set (omega (arith, s.long)) in
      record {
        long = kw.long ∙ s.long;
        lists = rw (← s.lists)
            (cc (
              marks-kept (same-before kw 0 registrations (omega arith)),
              numbers-kept registrations reductions_in (same-before kw registrations registrations (omega arith)),
              numbers-kept registrations second_in (same-behind kw second_in registrations (omega arith)),
              cells-laid (λ x. x) sellers deficits_in j m kw,
            ));
      }
