-- One law for two runs: years that are related stay so over calls that are paired, and what such calls show is the same.
use Rattle.std.specs.Prelude.{List, [], ◌∷◌, ◌≡◌}
use Rattle.std.proofs.Math.Path.{refl}
use Rattle.year.specs.declared.Year.{Year}
use Rattle.book_recorded.specs.Recorded.{gather}
use Rattle.claim_history.specs.Runs.{Call, Answered}
use Rattle.claim_history.specs.Taking.{answered}

-- two books: how each shows a call and hands on the year; when their years are related, and when two calls in such years are paired
module _ (show₁ show₂ : Year → Call → Answered) (next₁ next₂ : Year → Call → Year) (R : Year → Year → Type 0) (P : Year → Year → Call → Call → Type 0) where
  -- lists of calls that are paired one by one
  pub data PairedCalls : Year → Year → List Call → List Call → Type 0 where
    none : {y z : Year} → PairedCalls y z [] []
    both : {y z : Year} {c d : Call} {cs ds : List Call} → P y z c d → PairedCalls (next₁ y c) (next₂ z d) cs ds → PairedCalls y z (c ∷ cs) (d ∷ ds)

  -- what f sees along the one is what g sees along the other
  module _ (keeps : (y z : Year) (c d : Call) → R y z → P y z c d → R (next₁ y c) (next₂ z d)) {X : Type 0} (f g : Answered → List X)
      (same : (y z : Year) (c d : Call) → R y z → P y z c d → f (show₁ y c) ≡ g (show₂ z d)) where
    pub two_runs : {y z : Year} {cs ds : List Call} → R y z → PairedCalls y z cs ds → gather f (answered show₁ next₁ y cs) ≡ gather g (answered show₂ next₂ z ds)
    unfolding answered gather
    two_runs r none = refl
    two_runs {y} {z} r (both {c = c} {d = d} p a) = cc (same y z c d r p, two_runs (keeps y z c d r p) a)
