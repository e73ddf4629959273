-- A writer that has gone on by fields: none, one, some after others, a line more, and the statement's.
use Rattle.std.specs.Prelude.{ℕ, ◌+◌, ◌*◌, ◌^◌, Bool, true, false, List, [], ◌∷◌, ◌++◌, ◌≡◌}
use Rattle.std.proofs.lemmas.List.{map-append}
use Rattle.std.proofs.Common.{append-nil, add-zero, add-one, arith}
use Rattle.ids.specs.Ids.{holds, count_to}
use Rattle.limits.specs.Limits.{parties}
use Rattle.bits_write.specs.declared.Writer.{Writer}
use Rattle.bits_write.specs.Written.{joined, Wrote}
use Rattle.bits_write.specs.WrittenLaws.{joined-append, written_none, written-join}
use Rattle.year.specs.declared.Terms.{Terms}
use Rattle.year.specs.declared.Amounts.{Amounts}
use Rattle.year.specs.Sound.{SoundTerms}
use Rattle.year.specs.Limits.{lse-count-is}
use Rattle.statement.specs.Statement.{Field, widths_of, values_of, has_registration, has_obligation, line_fields, seller_fields, lse_fields, lines_to, party_lines, statement_fields}
use Rattle.ids.specs.Sums.{count_same}
use Rattle.statement.specs.Lines.{lines_same, bits_in, bits-append}
use Rattle.statement.specs.Sizes.{same_length}
use Rattle.statement.specs.Marks.{Marks}

-- the writer p has gone on to q by these fields
pub record WrittenFields (old new : List ℕ) (p q : Writer) (fs : List Field) : Type 0 where
  pub wrote : Wrote old new p q (bits_in fs) (joined (widths_of fs) (values_of fs))

-- it has gone on by the line of party i, and by the lines of the marked ones
abbrev pub PutLine : List ℕ → List ℕ → Writer → Writer → ℕ → List ℕ → List ℕ → ℕ → Type 0
PutLine old new p q n now before i = WrittenFields old new p q (line_fields n now before i)

abbrev pub PutLines : List ℕ → List ℕ → Writer → Writer → List Bool → ℕ → List ℕ → List ℕ → Type 0
PutLines old new p q marks n now before = WrittenFields old new p q (lines_to parties (holds marks) (line_fields n now before))

-- the writer's fields: none, one, and some after others
pub no_fields : {xs : List ℕ} {p : Writer} → WrittenFields xs xs p p []
unfolding joined
no_fields = record { wrote = written_none _ _ }

pub one_field : {old new : List ℕ} {p q : Writer} {w v : ℕ} → Wrote old new p q w v → WrittenFields old new p q ((w, v) ∷ [])
unfolding joined
one_field {w = w} {v = v} h = let e : v * 2 ^ 0 + 0 ≡ v = omega arith in record { wrote = rw (add-zero w, e) h }

pub more-fields : {old cur new : List ℕ} {p q r : Writer} {fs gs : List Field} → WrittenFields old cur p q fs → WrittenFields cur new q r gs → WrittenFields old new p r (fs ++ gs)
more-fields {fs = fs} {gs = gs} a b = record {
  wrote = rw (bits-append fs gs, map-append (λ f. f.0) fs gs, map-append (λ f. f.1) fs gs, joined-append (widths_of fs) (values_of fs) (widths_of gs) (values_of gs) (same_length fs)) (written-join a.wrote b.wrote);
}

-- one more id: its line, or none
module _ (p : ℕ → Bool) (l : ℕ → List Field) (i : ℕ) {old cur : List ℕ} {w q : Writer} (h : WrittenFields old cur w q (lines_to i p l)) where
  pub line-more : {new : List ℕ} {r : Writer} → p i ≡ true → WrittenFields cur new q r (l i) → WrittenFields old new w r (lines_to (i + 1) p l)
  unfolding lines_to
  line-more e k = rw (add-one i, e) (more-fields h k)

  pub line-skip : p i ≡ false → WrittenFields old cur w q (lines_to (i + 1) p l)
  unfolding lines_to
  line-skip e = rw (add-one i, e, append-nil) h

-- the front and the lines of both kinds are the statement's fields
pub statement-written : {T : Terms} {k : ℕ} (now before : Amounts) {ps qs : List Bool} {old cur new : List ℕ} {w x y : Writer}
    → SoundTerms T → Marks (has_registration T) ps → Marks (has_obligation T) qs
    → WrittenFields old cur w x ((4, k) ∷ (5, count_to parties (holds ps)) ∷ (5, count_to parties (holds qs)) ∷ [])
    → WrittenFields cur new x y (party_lines ps qs now before)
    → WrittenFields old new w y (statement_fields T k now before)
unfolding statement_fields
statement-written now before s p q f g =
    rw (lse-count-is s, ← count_same parties p.done, ← count_same parties q.done, ← lines_same parties (seller_fields now before) p.done, ← lines_same parties (lse_fields now before) q.done)
    (more-fields f g)
