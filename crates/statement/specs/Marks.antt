-- A mark for each id: does it pass a test; and one more registration's mark.
use Rattle.std.specs.Prelude.{ℕ, ◌+◌, ◌<◌, Bool, ◌&&◌, List, ◌≡◌, set, replicate}
use Rattle.std.proofs.Math.Bool.{true, false, or-true, or-false}
use Rattle.std.proofs.Math.Path.{sym}
use Rattle.std.proofs.Common.{◌∙◌, arith, get_or-set_same, get_or-set_other}
use Rattle.std.proofs.Math.Decide.{ℕ_discrete}
use Rattle.std.proofs.Math.Dec.{eqb}
use Rattle.std.proofs.Math.ListN.{length-set}
use Rattle.std.proofs.lemmas.List.{length-replicate, get_or-replicate}
use borrow.Author.Tests.{eq-eqb, ne_eqb}
use Rattle.ids.specs.Ids.{any_to}
use Rattle.ids.specs.Fill.{Filled}
use Rattle.ids.specs.Tests.{any_step}
use Rattle.limits.specs.Limits.{parties}
use Rattle.year.specs.declared.Terms.{Terms}
use Rattle.year.specs.Year.{known, seller}

-- a mark for each of sixteen ids: does it pass the test
abbrev pub Marks : (ℕ → Bool) → List Bool → Type 0
Marks p marks = Filled false parties p marks parties

-- has seller s one of the first i registrations
unfoldable pub among_first : Terms → ℕ → ℕ → Bool
among_first T i s = any_to i (λ j. known T j && eqb (seller T j) s)

pub marks-none : (T : Terms) → Marks (among_first T 0) (replicate parties false)
unfolding among_first any_to
marks-none T = record { upto = omega arith; long = length-replicate parties false; done = λ s l. get_or-replicate parties s false false l }

module _ (T : Terms) (i : ℕ) {marks : List Bool} (h : Marks (among_first T i) marks) where
  pub mark-skip : known T i ≡ false → Marks (among_first T (i + 1)) marks
  unfolding among_first
  mark-skip e =
      record { upto = omega arith; long = h.long; done = λ s l. h.done s l ∙ sym (rw (any_step i (λ j. known T j && eqb (seller T j) s), e) (or-false _)) }

  pub mark-more : known T i ≡ true → seller T i < parties → Marks (among_first T (i + 1)) (set marks (seller T i) true)
  unfolding among_first
  mark-more e m =
      record {
        upto = omega arith;
        long = length-set marks (seller T i) true ∙ h.long;
        done = λ s l. elim (ℕ_discrete s (seller T i)) [
          | yes q ↦ rw (any_step i (λ j. known T j && eqb (seller T j) s), e, eq-eqb (seller T i) s (sym q), or-true, q) (get_or-set_same marks (seller T i) true false (omega (arith, h.long)))
          | no q ↦ rw (any_step i (λ j. known T j && eqb (seller T j) s), e, ne_eqb (seller T i) s (λ z. q (sym z)), or-false) (get_or-set_other marks (seller T i) s true false q ∙ h.done s l)
        ];
      }
