-- What writing a record answers, from the questions' answers; and what the writer writes of it, part by part.
use Rattle.std.specs.Prelude.{ℕ, ◌+◌, ◌*◌, ◌^◌, ◌≤◌, ◌<◌, true, false, ◌&&◌, List, ◌++◌, ◌≡◌, T, eqb, take, drop, Result, Ok, Err}
use Rattle.refusals.specs.declared.Refusal.{Refusal}
use Rattle.std.proofs.Math.Bool.{and-false}
use Rattle.std.proofs.Math.Path.{sym, ap}
use Rattle.std.proofs.Common.{subst, ◌∙◌, arith, length-append, length-drop, take-append-drop, take-add, length-take-le}
use borrow.Author.Tests.{lt-leb, le-leb, eq-eqb, ne_eqb}
use Rattle.std.proofs.Math.ListN.{length}
use Rattle.std.proofs.Math.Seq.{take-length}
use Rattle.ids.specs.Ids.{at}
use Rattle.ids.specs.Tests.{cond-true, cond-false}
use Rattle.bits_write.specs.declared.Writer.{Writer}
use Rattle.bits.specs.Bits.{Bytes}
use Rattle.bits.specs.Table.{total, times, narrow, Valid}
use Rattle.bits.specs.TableLaws.{total-append, valid-split}
use Rattle.bits.specs.ItemLaws.{length-times, total-times}
use Rattle.bits.specs.PackLaws.{length-encode}
use Rattle.bits_write.specs.Written.{joined, Wrote, Finished}
use Rattle.bits_write.specs.WrittenLaws.{joined-append, written-join, written-size, written-encodes}
use Rattle.record_layouts.specs.Layout.{Rule, head, lists, list_at, items_in, rules_to, rules_for, widths, size_of}
use Rattle.record_layouts.specs.LayoutLaws.{length-widths, widths-append, rules-front, rules-long, sound-items, narrow-sound}
use Rattle.record_layouts.specs.Questions.{first_failed, rules_by, is_kind, permitted, ids_rise}
use Rattle.record_layouts.specs.QuestionLaws.{head-refused, head-permitted, stated-bits, kind-in}
use Rattle.record_layouts.specs.Parts.{Stated}
use Rattle.record_layouts.specs.ListLaws.{rules-behind, widths-list, length-list, stated-list}
use Rattle.record_numbers.specs.Calls.{write_number, write_buffer, bytes_by, over, Writes}
use Rattle.record_numbers.specs.Parsing.{Writable}
use Rattle.record_write.specs.Lists.{Lists}
use Rattle.record_numbers.specs.RoundTrip.{valid-by}

-- how many bytes are written, none where the numbers are refused
abbrev pub written_of : Result ℕ Refusal → ℕ
written_of (Ok used) = used
written_of (Err refusal) = 0

module _ (vs : List ℕ) (room : ℕ) where
  pub stops-1 : is_kind (at vs 0) ≡ false → 1 ≡ write_number vs room
  unfolding write_number first_failed
  stops-1 a = rw a

  module _ (a : is_kind (at vs 0) ≡ true) where
    pub stops-3 : (eqb (length vs) (length (rules_by vs)) && permitted (rules_by vs) vs) ≡ false → 3 ≡ write_number vs room
    unfolding write_number first_failed
    stops-3 b = rw (a, b)

    module _ (b : (eqb (length vs) (length (rules_by vs)) && permitted (rules_by vs) vs) ≡ true) where
      pub stops-5 : ids_rise vs ≡ false → 5 ≡ write_number vs room
      unfolding write_number first_failed
      stops-5 c = rw (a, b, c)

      module _ (c : ids_rise vs ≡ true) where
        pub stops-16 : room < size_of (rules_by vs) → 16 ≡ write_number vs room
        unfolding write_number first_failed
        stops-16 l = rw (a, b, c, lt-leb (size_of (rules_by vs)) room l)

        pub stops-none : size_of (rules_by vs) ≤ room → 0 ≡ write_number vs room
        unfolding write_number first_failed
        stops-none l = rw (a, b, c, le-leb (size_of (rules_by vs)) room l)

-- an answer with the number of a question that failed, and one with none
pub denies : {vs before after : List ℕ} {number used : ℕ} (n : ℕ) → number ≡ n → used ≡ 0 → after ≡ before → (n ≡ 0 → ⊥) → n ≡ write_number vs (length before) → Writes vs before number used after
unfolding write_buffer
denies n e f kept some t =
    let z = ne_eqb _ 0 (λ q. some (t ∙ q)) in
    record { numbers = e ∙ t; uses = cond-false _ z f; leaves = cond-false _ z kept }

pub grants : {vs before after : List ℕ} {used : ℕ} → used ≡ size_of (rules_by vs) → after ≡ over (bytes_by vs) before → 0 ≡ write_number vs (length before) → Writes vs before 0 used after
unfolding write_buffer
grants f made t =
    let z = eq-eqb _ 0 (sym t) in
    record { numbers = t; uses = cond-true _ z f; leaves = cond-true _ z made }

-- too few numbers for the head, or a head that is not permitted, fails question 3
pub short-stops : (vs : List ℕ) → length vs < length (head (at vs 0)) → (eqb (length vs) (length (rules_by vs)) && permitted (rules_by vs) vs) ≡ false
unfolding rules_by
short-stops vs l =
    let k = at vs 0 in
    let more = rules-long k vs in
    rw (ne_eqb (length vs) (length (rules_for k vs)) (λ e. omega arith))

pub head-stops : (vs : List ℕ) → permitted (head (at vs 0)) vs ≡ false → (eqb (length vs) (length (rules_by vs)) && permitted (rules_by vs) vs) ≡ false
unfolding rules_by
head-stops vs e = rw (head-refused (at vs 0) vs vs e, and-false)

pub by_kind : (vs : List ℕ) {k : ℕ} → k ≡ at vs 0 → rules_for k vs ≡ rules_by vs
unfolding rules_by
by_kind vs e = ap (λ (x : ℕ). rules_for x vs) e

-- numbers of kind k with a permitted head state a record
pub stated-by : (vs : List ℕ) {k : ℕ} → k ≡ at vs 0 → is_kind k ≡ true → length (head k) ≤ length vs → permitted (head k) vs ≡ true → Stated k vs
stated-by vs {k} e i l p = record { kind = kind-in k i; head = l; bits = stated-bits k vs p }

-- the record that is written, of kind k
module _ {vs : List ℕ} {room k : ℕ} (e : k ≡ at vs 0) (w : Writable vs room) where
  rules-by-kind : rules_for k vs ≡ rules_by vs
  rules-by-kind = by_kind vs e

  pub counted-kind : length vs ≡ length (rules_for k vs)
  counted-kind = w.counted ∙ ap length (sym rules-by-kind)

  valid : Valid (widths (rules_for k vs)) vs
  valid = subst (λ (rs : List Rule). Valid (widths rs) vs) (sym rules-by-kind) (valid-by vs w.permits)

  pub put-stated : Stated k vs
  put-stated =
      let permits : permitted (rules_for k vs) vs ≡ true = ap (λ (rs : List Rule). permitted rs vs) rules-by-kind ∙ w.permits in
      stated-by vs e (ap is_kind e ∙ w.kind) (omega (arith, counted-kind, (rules-long k vs).0)) (head-permitted k vs vs permits)

  size-bits : total (widths (rules_for k vs)) ≤ 8 * room
  size-bits =
      let all : total (widths (rules_for k vs)) ≡ total (widths (rules_by vs)) = ap (λ (rs : List Rule). total (widths rs)) rules-by-kind in
      omega (arith, w.fits)

  -- its head
  pub head-long : length (take (length (head k)) vs) ≡ length (widths (head k))
  head-long = length-take-le (length (head k)) vs (omega (arith, counted-kind, (rules-long k vs).0)) ∙ sym (length-widths (head k))

  pub head-valid : Valid (widths (head k)) (take (length (head k)) vs)
  head-valid =
      let r = rules-front k vs in
      let split : widths (rules_for k vs) ≡ widths (head k) ++ widths r.0 = ap widths r.1 ∙ widths-append (head k) r.0 in
      let parts : Valid (widths (head k) ++ widths r.0) (take (length (head k)) vs ++ drop (length (head k)) vs) =
      subst (λ (l : List ℕ). Valid l (take (length (head k)) vs ++ drop (length (head k)) vs)) split (subst (Valid (widths (rules_for k vs))) (sym (take-append-drop (length (head k)) vs)) valid) in
      (valid-split (widths (head k)) (widths r.0) (take (length (head k)) vs) (drop (length (head k)) vs) head-long parts).0

  pub head-fits : total (widths (head k)) ≤ 8 * room
  head-fits = omega (arith, size-bits, (rules-long k vs).1)

  -- its list i
  module _ {i p m : ℕ} (l : i < length (lists k)) (q : p ≡ length (rules_to k vs i)) (z : m ≡ items_in k vs i * length (list_at k i).fields) where
    abbrev us : List ℕ
    us = times (items_in k vs i) (widths (list_at k i).fields)

    abbrev before : List ℕ
    before = widths (rules_to k vs i)

    pub part_room : p + m ≤ length vs
    part_room = omega (arith, counted-kind, (stated-list put-stated l).0)

    pub part-long : length (take m (drop p vs)) ≡ length us
    part-long =
        length-take-le m (drop p vs) (omega (arith, length-drop p vs, part_room)) ∙ z
        ∙ ap (λ (x : ℕ). items_in k vs i * x) (sym (length-widths (list_at k i).fields)) ∙ sym (length-times (widths (list_at k i).fields) (items_in k vs i))

    first-long : length (take p vs) ≡ length before
    first-long = length-take-le p vs (omega (arith, part_room)) ∙ q ∙ sym (length-widths (rules_to k vs i))

    pub part-narrow : T (narrow (widths (list_at k i).fields))
    part-narrow = narrow-sound (list_at k i).fields (sound-items k i)

    pub part-valid : Valid us (take m (drop p vs))
    part-valid =
        let r = rules-behind k vs (i + 1) (omega arith) in
        let rest = widths r.0 in
        let split : widths (rules_for k vs) ≡ (before ++ us) ++ rest = ap widths r.1 ∙ widths-append (rules_to k vs (i + 1)) r.0 ∙ ap (λ (l : List ℕ). l ++ rest) (widths-list k vs i) in
        let front : take (p + m) vs ≡ take p vs ++ take m (drop p vs) = take-add p m vs in
        let whole : (take p vs ++ take m (drop p vs)) ++ drop (p + m) vs ≡ vs = ap (λ (l : List ℕ). l ++ drop (p + m) vs) (sym front) ∙ take-append-drop (p + m) vs in
        let all : Valid ((before ++ us) ++ rest) ((take p vs ++ take m (drop p vs)) ++ drop (p + m) vs) =
        subst (λ (l : List ℕ). Valid l ((take p vs ++ take m (drop p vs)) ++ drop (p + m) vs)) split (subst (Valid (widths (rules_for k vs))) (sym whole) valid) in
        let n : length (take p vs ++ take m (drop p vs)) ≡ length (before ++ us) = omega (arith, length-append (take p vs) (take m (drop p vs)), length-append before us, first-long, part-long) in
        let two = (valid-split (before ++ us) rest (take p vs ++ take m (drop p vs)) (drop (p + m) vs) n all).0 in
        (valid-split before us (take p vs) (take m (drop p vs)) first-long two).1

    pub part-total : total (widths (rules_to k vs (i + 1))) ≡ total before + total us
    part-total = ap total (widths-list k vs i) ∙ total-append before us

    pub part-fits : total before + total us ≤ 8 * room
    part-fits = omega (arith, size-bits, (stated-list put-stated l).1, total-times (widths (list_at k i).fields) (items_in k vs i))

    part-next : p + m ≡ length (rules_to k vs (i + 1))
    part-next = omega (arith, length-list k vs i)

    pub part-written : {old one two : List ℕ} {b c d : Writer} → Wrote old one b c (total before) (joined before (take (length (rules_to k vs i)) vs)) → Wrote one two c d (total us) (joined us (take m (drop p vs)))
        → Wrote old two b d (total (widths (rules_to k vs (i + 1)))) (joined (widths (rules_to k vs (i + 1))) (take (length (rules_to k vs (i + 1))) vs))
    part-written {old} {one} {two} {b} {c} {d} f g =
        let value : joined (widths (rules_to k vs (i + 1))) (take (length (rules_to k vs (i + 1))) vs) ≡ joined before (take p vs) * 2 ^ total us + joined us (take m (drop p vs)) =
        ap (λ (l : List ℕ). joined l (take (length (rules_to k vs (i + 1))) vs)) (widths-list k vs i) ∙ ap (λ (x : ℕ). joined (before ++ us) (take x vs)) (sym part-next)
        ∙ ap (joined (before ++ us)) (take-add p m vs) ∙ joined-append before (take p vs) us (take m (drop p vs)) first-long in
        let first : Wrote old one b c (total before) (joined before (take p vs)) = subst (λ (x : ℕ). Wrote old one b c (total before) (joined before (take x vs))) (sym q) f in
        subst (λ (x : ℕ). Wrote old two b d x (joined (widths (rules_to k vs (i + 1))) (take (length (rules_to k vs (i + 1))) vs))) (sym part-total)
        (subst (Wrote old two b d (total before + total us)) (sym value) (written-join first g))

  all-rules : {i : ℕ} → i ≡ length (lists k) → rules_to k vs i ≡ rules_by vs
  unfolding rules_for
  all-rules z = ap (rules_to k vs) z ∙ rules-by-kind

  -- with the last list, all of it
  pub lists-written : {one new : List ℕ} {c d : Writer} {i : ℕ} → i ≡ length (lists k)
      → ((old : List ℕ) (b : Writer) → Wrote old one b c (total (widths (head k))) (joined (widths (head k)) (take (length (head k)) vs))
      → Wrote old new b d (total (widths (rules_to k vs i))) (joined (widths (rules_to k vs i)) (take (length (rules_to k vs i)) vs)))
      → Lists vs one new c d
  lists-written {one} {new} {c} {d} z h old b f =
      let f' = subst (λ (x : ℕ). Wrote old one b c (total (widths (head x))) (joined (widths (head x)) (take (length (head x)) vs))) (sym e) f in
      let g = subst (λ (rs : List Rule). Wrote old new b d (total (widths rs)) (joined (widths rs) (take (length rs) vs))) (all-rules z) (h old b f') in
      let whole : take (length (rules_by vs)) vs ≡ vs = ap (λ (n : ℕ). take n vs) (sym w.counted) ∙ take-length vs in
      subst (λ (l : List ℕ). Wrote old new b d (total (widths (rules_by vs))) (joined (widths (rules_by vs)) l)) whole g

  -- all of it, finished, is the record's bytes
  pub all-written : {old one new : List ℕ} {b c : Writer} {size : ℕ} → b.at ≡ 0 → b.waiting ≡ 0 → b.rest ≡ 0
      → Wrote old one b c (total (widths (rules_by vs))) (joined (widths (rules_by vs)) vs) → Finished one new c size
      → Bytes old → Bytes new → length old ≡ room → (size ≡ size_of (rules_by vs)) × (new ≡ over (bytes_by vs) old)
  unfolding bytes_by
  all-written x y z f done ho hn long =
      let ws = widths (rules_by vs) in
      let n : length vs ≡ length ws = w.counted ∙ sym (length-widths (rules_by vs)) in
      let v = valid-by vs w.permits in
      (written-size ws vs v n x y z f done, written-encodes ws vs v n x y z f done ho hn (omega (arith, w.fits)) ∙ rw (length-encode ws vs n))

pub passes : (vs : List ℕ) → length vs ≡ length (rules_by vs) → permitted (rules_by vs) vs ≡ true → (eqb (length vs) (length (rules_by vs)) && permitted (rules_by vs) vs) ≡ true
passes vs e f = rw (eq-eqb (length vs) (length (rules_by vs)) e, f)
