-- The loop of `credit_lses`: the LSEs before j have their shares, and one more gets its own.
use Rattle.std.specs.Prelude.{◌≡◌, ℕ, ◌+◌, ◌≤◌, ◌<◌, List, length}
use Rattle.std.proofs.Common.{◌∙◌, sym, arith}
use borrow.Author.Tests.{lt-ltb}
use Rattle.limits.specs.Limits.{lses}
use Rattle.allotment.specs.Allot.{share, share-zero}
use Rattle.allotment.specs.Stepper.{Before, Gives, share-value, share-next, share-skip}
use Rattle.allotment.specs.declared.Allotment.{Allotment}
use Rattle.allotment.specs.declared.Share.{Share}
use Rattle.year.specs.Year.{obligation}
use Rattle.settle_facts.specs.CellFacts.{facts}
use Rattle.owed.specs.Divisions.{known_lse}
use Rattle.settle_table.specs.Places.{lse_row, size}
use Rattle.settle_table.specs.Rows.{Aside, Renewed, Stored, none, aside-more, renewed-more, renewed-none}
use Rattle.settle_lses.specs.Lses.{net}

-- of a table that was before, the LSEs before j have their shares
pub record Begun (year before work : List ℕ) (a : Allotment) (j : ℕ) : Type 0 where
  pub upto : j ≤ lses
  pub long : length work ≡ size
  pub aside : Aside lse_row lses before work
  pub carried : Before lses (known_lse (facts year)) (obligation (facts year).terms) (net before) j a
  pub renewed : Renewed work lse_row lses (share lses (obligation (facts year).terms) (net before)) none j

module _ {year before work : List ℕ} {a : Allotment} {j : ℕ} (h : Begun year before work a j) (l : j < lses) {weight : ℕ} (e : weight ≡ obligation (facts year).terms j) where
  -- one without an obligation is no party
  pub begun-none : weight ≡ 0 → Begun year before work a (j + 1)
  begun-none z =
      let nothing : obligation (facts year).terms j ≡ 0 = sym e ∙ z in record {
        upto = omega arith;
        long = h.long;
        aside = h.aside;
        carried = share-skip h.carried (rw nothing) nothing;
        renewed = renewed-none h.renewed l (sym (share-zero lses (obligation (facts year).terms) _ j nothing));
      }

  pub begun-more : {r : Share} {v : List ℕ} → (weight ≡ 0 → ⊥) → Gives a weight r → Stored (lse_row + j) r.value work v → Begun year before v r.next (j + 1)
  begun-more o g s = record {
    upto = omega arith;
    long = s.long ∙ h.long;
    aside = aside-more h.aside s (omega arith) (omega arith);
    carried = share-next h.carried e (lt-ltb 0 (obligation (facts year).terms j) (omega arith)) g;
    renewed = renewed-more h.renewed s (share-value h.carried e g);
  }
