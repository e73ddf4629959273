-- What questions 1 to 5 say of the record that bytes hold, from its numbers in a row, as the code has them: its head within the limits, and its lists.
use Rattle.std.specs.Prelude.{ℕ, Bool, true, false, cond, List, ◌≡◌, refl, eqb, length}
use Rattle.std.proofs.Common.{sym, ◌∙◌, arith, eqb-true}
use Rattle.ids.specs.Ids.{at}
use Rattle.record_layouts.specs.Layout.{most_numbers}
use Rattle.record_layouts.specs.Questions.{kind_of, rules_of, numbers_of, rules_by, row}
use Rattle.record_layouts.specs.QuestionLaws.{at_row, length-row, rules-same, rules-by, permitted-row}
use Rattle.record_numbers.specs.Accepted.{Accepted, kind-number, numbers-few}
use Rattle.record_numbers.specs.Accepted as records
use Rattle.record_heads.specs.declared.Head.{Head}
use Rattle.record_heads.specs.Record.{head_of}
use Rattle.record_listing.specs.Listed.{Permitted}
use Rattle.record_heads.specs.Within.{Within}

either : (P : Head → Type 0) (b : Bool) {x z : Head} → (b ≡ true → P x) → (b ≡ false → P z) → P (cond b x z)
either P true h g = h refl
either P false h g = g refl

module _ (bytes : List ℕ) (a : Accepted bytes) where
  abbrev vs : List ℕ
  vs = row (numbers_of bytes)

  pub values-long : length vs ≡ most_numbers
  values-long = length-row (numbers_of bytes) (numbers-few bytes a)

  kind-is : (k : ℕ) → at vs 0 ≡ k → kind_of bytes ≡ k
  kind-is k e = sym (kind-number bytes a) ∙ e

  pub within : Within (head_of vs)
  unfolding head_of Within
  within =
      let k = at vs 0 in
      either Within (eqb k 1) (λ e. let o = records.opening bytes a (kind-is 1 (eqb-true k 1 e)) in record { leap = o.leap; factor = o.factor.1; requirement = o.requirement.1 })
      (λ _. either Within (eqb k 2) (λ e.
      let r = records.registration bytes a (kind-is 2 (eqb-true k 2 e)) in
      record { id = r.id; seller = r.seller; area = r.area; zone = r.zone; product = omega (arith, r.product); some = r.committed.0; committed = r.committed.1; rate = r.rate })
      (λ _. either Within (eqb k 3) (λ e. let j = records.lse bytes a (kind-is 3 (eqb-true k 3 e)) in record { id = j.id; obligation = j.obligation.1 })
      (λ _. either Within (eqb k 4) (λ e. (records.event bytes a (kind-is 4 (eqb-true k 4 e))).month.1)
      (λ _. either Within (eqb k 5) (λ e. let t = records.test bytes a (kind-is 5 (eqb-true k 5 e)) in record { zone = t.zone; product = omega (arith, t.product) })
      (λ _. either Within (eqb k 6) (λ e. (records.close bytes a (kind-is 6 (eqb-true k 6 e))).month.1)
      (λ _. either Within (eqb k 7) (λ e.
      let c = records.clearing bytes a (kind-is 7 (eqb-true k 7 e)) in
      record { registration = c.registration; price = c.price; some = c.kw.0; kw = c.kw.1 })
      (λ _. either Within (eqb k 8) (λ e. records.dual-month bytes a (kind-is 8 (eqb-true k 8 e)))
      (λ _. either Within (eqb k 9) (λ e. let t = records.retest bytes a (kind-is 9 (eqb-true k 9 e)) in record { zone = t.zone; product = omega (arith, t.product) })
      (λ _. omega arith)))))))))

  pub permits : Permitted vs
  unfolding rules_by
  permits =
      let ns = numbers_of bytes in
      let same : rules_by (row ns) ≡ rules_of bytes = rw (at_row ns 0) (rules-same (at ns 0) (row ns) ns (λ j l. at_row ns j)) ∙ rules-by bytes a.kind in
      record { kind = rw (kind-number bytes a) a.kind; fields = rw (same, permitted-row (rules_of bytes) ns) a.permits }
