-- What taking a record apart answers, from the questions' answers.
use Rattle.std.specs.Prelude.{ℕ, zero, suc, ◌+◌, ◌-◌, ◌*◌, ◌≤◌, ◌<◌, true, false, ◌≡◌, T, eqb, take, drop}
use mathlib.Core.List.{List, [], ◌∷◌, ◌++◌, append-nil}
use Rattle.std.proofs.Math.Path.{refl, sym, ap}
use Rattle.std.proofs.Common.{subst, ◌∙◌, zero-add, arith, leb-true, le-leb, length-append, drop-cons, drop-drop}
use Rattle.std.proofs.lemmas.Bool.{lt-leb}
use Rattle.std.proofs.Math.ListN.{length, set, replicate}
use Rattle.std.proofs.Math.Seq.{take-nil}
use Rattle.ids.specs.Ids.{at}
use Rattle.bits.specs.Bits.{field_at}
use Rattle.bits.specs.Table.{total, times, fields_at, laid, narrow, Valid, Fit}
use Rattle.bits.specs.TableLaws.{fields-append, length_fields, fields-valid, valid-join, narrow-split}
use Rattle.bits.specs.ItemLaws.{length-times, total-times}
use Rattle.bits.specs.Pack.{bytes_for}
use Rattle.record_layouts.specs.Layout.{Rule, head, lists, list_at, items_in, rules_to, rules_for, place_of, widths, size_of, longest_record, most_numbers}
use Rattle.record_layouts.specs.LayoutLaws.{head_small, sound-heads, sound-items, sound-times, narrow-sound, length-widths, widths-times, front-to, rules-long}
use Rattle.record_layouts.specs.Questions.{first_failed, kind_of, head_numbers, rules_of, numbers_of, is_kind, is_whole, permitted, is_filled, ids_rise, record_questions, record_number, consumed, row}
use Rattle.record_layouts.specs.QuestionLaws.{head-kind, at_row, length-row, row_more, permitted-same, permitted-row, rises-all, head-refused, counts_same, fields-same, rules-same, few_bits, few-numbers, kind-in, fields-front, numbers-head, numbers-kind}
use Rattle.record_layouts.specs.Parts.{Stated}
use Rattle.record_layouts.specs.ListLaws.{rules-upto, widths-list, length-list, total-list}
use Rattle.record_numbers.specs.Accepted.{taken-numbers, taken_none, numbers-count}
use Rattle.record_numbers.specs.Calls.{Fills}
use Rattle.record_numbers.specs.Parsing.{Known}

-- a part without its first element
behind-take : (n : ℕ) (xs : List ℕ) → drop 1 (take n xs) ≡ take (n - 1) (drop 1 xs)
behind-take zero xs = refl
behind-take (suc n) [] = sym (take-nil (suc n - 1))
behind-take (suc n) (x ∷ xs) = let e : n ≡ suc n - 1 = omega arith in ap (λ (m : ℕ). take m xs) e

pub behind-is : (s e : ℕ) (xs ys : List ℕ) → take (e - s) (drop s xs) ≡ ys → s < e → take (e - (s + 1)) (drop (s + 1) xs) ≡ drop 1 ys
behind-is s e xs ys h l =
    let n : e - (s + 1) ≡ e - s - 1 = omega arith in
    ap (λ (m : ℕ). take m (drop (s + 1) xs)) n ∙ ap (take (e - s - 1)) (sym (drop-drop 1 s xs)) ∙ sym (behind-take (e - s) (drop s xs)) ∙ ap (drop 1) h

-- a head is its kind's four bits, and the fields behind them
module _ (k : ℕ) (e : is_kind k ≡ true) where
  abbrev behind : List ℕ
  behind = drop 1 (widths (head k))

  pub head-split : (widths (head k) ≡ 4 ∷ behind) × (total (widths (head k)) ≡ 4 + total behind)
  head-split =
      let h = head-kind k e in
      let all : widths (head k) ≡ 4 ∷ behind = rw h.1 at (drop-cons (widths (head k)) 0 0 (omega (arith, h.0, length-widths (head k)))) in
      (all, ap total all)

  pub head-rest : T (narrow behind) × (4 + total behind ≤ 64) × (1 + length behind ≤ 8)
  head-rest =
      let all = head-split.0 in
      let n : T (narrow (4 ∷ behind)) = rw all at (narrow-sound (head k) (sound-heads k)) in
      let small = head_small k in
      ((narrow-split (4 ∷ []) behind n).1, omega (arith, head-split.1), omega (arith, ap length all, length-widths (head k)))

  pub head-row : (bytes : List ℕ) {values : List ℕ} → k ≡ kind_of bytes → values ≡ replicate most_numbers 0
      → laid 1 (fields_at bytes 4 behind) (set values 0 k) ≡ row (fields_at bytes 0 (widths (head k)))
  unfolding row kind_of
  head-row bytes {values} z f =
      let one : set values 0 k ≡ row (k ∷ []) = rw f in
      let numbers : k ∷ fields_at bytes 4 behind ≡ fields_at bytes 0 (widths (head k)) =
      ap (λ (x : ℕ). x ∷ fields_at bytes 4 behind) z ∙ sym (ap (λ (l : List ℕ). fields_at bytes 0 l) head-split.0) in
      row_more (k ∷ []) (fields_at bytes 4 behind) (set values 0 k) 1 refl one ∙ ap row numbers

-- the first question that fails, and the bytes consumed
pub record Fails (bytes : List ℕ) (number used : ℕ) : Type 0 where
  pub numbers : number ≡ record_number bytes
  pub uses : used ≡ consumed bytes

module _ (bytes : List ℕ) where
  pub fails-1 : is_kind (kind_of bytes) ≡ false → Fails bytes 1 0
  unfolding record_number record_questions first_failed consumed
  fails-1 a = record { numbers = rw a; uses = rw a }

  module _ (a : is_kind (kind_of bytes) ≡ true) where
    pub fails-2 : is_whole bytes ≡ false → Fails bytes 2 0
    unfolding record_number record_questions first_failed consumed
    fails-2 b = record { numbers = rw (a, b); uses = rw (a, b) }

    module _ (b : is_whole bytes ≡ true) where
      pub fails-3 : permitted (rules_of bytes) (numbers_of bytes) ≡ false → Fails bytes 3 (size_of (rules_of bytes))
      unfolding record_number record_questions first_failed consumed
      fails-3 c = record { numbers = rw (a, b, c); uses = rw (a, b) }

      module _ (c : permitted (rules_of bytes) (numbers_of bytes) ≡ true) where
        pub fails-4 : is_filled bytes ≡ false → Fails bytes 4 (size_of (rules_of bytes))
        unfolding record_number record_questions first_failed consumed
        fails-4 d = record { numbers = rw (a, b, c, d); uses = rw (a, b) }

        module _ (d : is_filled bytes ≡ true) where
          pub fails-5 : ids_rise (numbers_of bytes) ≡ false → Fails bytes 5 (size_of (rules_of bytes))
          unfolding record_number record_questions first_failed consumed
          fails-5 e = record { numbers = rw (a, b, c, d, e); uses = rw (a, b) }

          pub fails-none : ids_rise (numbers_of bytes) ≡ true → Fails bytes 0 (size_of (rules_of bytes))
          unfolding record_number record_questions first_failed consumed
          fails-none e = record { numbers = rw (a, b, c, d, e); uses = rw (a, b) }

pub row-long : (vs : List ℕ) → length vs ≤ length (row vs)
unfolding row
row-long vs = omega (arith, length-append vs (replicate (most_numbers - length vs) 0))

-- an answer with the number of a question that failed, and one with none
pub refuses : {bytes values : List ℕ} {number used n u count : ℕ} → number ≡ n → used ≡ u → count ≡ 0 → (n ≡ 0 → ⊥) → Fails bytes n u → Fills bytes number used count values
refuses {bytes} e f none some t =
    let no : record_number bytes ≡ 0 → ⊥ = λ z. some (t.numbers ∙ z) in
    record { numbers = e ∙ t.numbers; uses = f ∙ t.uses; counts = none ∙ ap length (sym (taken_none _ no)); rows = λ z. absurd (no z) }

pub fills : {bytes values : List ℕ} {used u count : ℕ} → used ≡ u → count ≡ length (numbers_of bytes) → values ≡ row (numbers_of bytes) → Fails bytes 0 u → Fills bytes 0 used count values
fills f n v t = record { numbers = t.numbers; uses = f ∙ t.uses; counts = n ∙ ap length (sym (taken-numbers _ (sym t.numbers))); rows = λ z. v }

-- a record of kind k: its numbers before list i, in a row
module _ {bytes : List ℕ} {k : ℕ} (w : Known bytes k) where
  abbrev hs : List ℕ
  hs = head_numbers bytes

  abbrev up_to : ℕ → List ℕ
  up_to i = fields_at bytes 0 (widths (rules_to k hs i))

  pub rules-are : rules_for k hs ≡ rules_of bytes
  unfolding rules_of
  rules-are = ap (λ (x : ℕ). rules_for x (head_numbers bytes)) w.kind

  head-is : fields_at bytes 0 (widths (head k)) ≡ hs
  unfolding head_numbers
  head-is = ap (λ (x : ℕ). fields_at bytes 0 (widths (head x))) w.kind

  pub row_first : {values : List ℕ} → values ≡ row (fields_at bytes 0 (widths (head k))) → values ≡ row hs
  row_first v = v ∙ ap row head-is

  pub row-start : {values : List ℕ} → values ≡ row hs → values ≡ row (up_to 0)
  unfolding rules_to
  row-start v = v ∙ ap row (sym head-is)

  pub length-upto : (i : ℕ) → length (up_to i) ≡ length (rules_to k hs i)
  length-upto i = length_fields bytes 0 (widths (rules_to k hs i)) ∙ length-widths (rules_to k hs i)

  module _ {values : List ℕ} (i : ℕ) (v : values ≡ row (up_to i)) where
    row-head : (j : ℕ) → j < length (head k) → at values j ≡ at hs j
    row-head j l =
        let r = front-to k hs i in
        ap (λ (l : List ℕ). at l j) v ∙ at_row (up_to i) j ∙ ap (λ (rs : List Rule). at (fields_at bytes 0 (widths rs)) j) r.1 ∙ fields-front bytes (head k) r.0 j l ∙ ap (λ (l : List ℕ). at l j) head-is

    pub row-items : (j : ℕ) → items_in k values j ≡ items_in k hs j
    row-items = counts_same k values hs row-head

    pub row-place : place_of k values i ≡ place_of k hs i
    row-place = ap length (fields-same k values hs row-head i)

    pub row-rules : rules_for k values ≡ rules_of bytes
    row-rules = rules-same k values hs row-head ∙ rules-are

    pub row-permits : permitted (head k) values ≡ permitted (head k) (numbers_of bytes)
    row-permits = permitted-same (head k) values (numbers_of bytes) (λ j l. row-head j l ∙ sym (numbers-head bytes w.first j (subst (λ (x : ℕ). j < length (head x)) w.kind l)))

    -- they state the record
    pub row-stated : Stated k values
    row-stated =
        let r = front-to k hs i in
        record {
          kind = kind-in k (ap is_kind w.kind ∙ w.first);
          head = omega (arith, ap length v, row-long (up_to i), length-upto i, ap length r.1, length-append (head k) r.0);
          bits = subst (λ (rs : List Rule). total (widths rs) ≤ 8 * longest_record) (sym row-rules) (few_bits bytes);
        }

    -- with list i there are so many more
    module _ (few : length (rules_of bytes) ≤ most_numbers) (whole : size_of (rules_of bytes) ≤ length bytes) (l : i < length (lists k)) where
      abbrev n : ℕ
      n = items_in k hs i

      abbrev ws : List ℕ
      ws = widths (list_at k i).fields

      pub take-fits : {p : ℕ} → p ≡ total (widths (rules_to k hs i)) → Fit bytes p (times n ws)
      take-fits q =
          let all = rules-upto k hs (i + 1) (omega arith) in
          let sum : total (widths (rules_to k hs (i + 1))) ≤ total (widths (rules_of bytes)) = subst (λ (rs : List Rule). total (widths (rules_to k hs (i + 1))) ≤ total (widths rs)) rules-are all.1 in
          record {
            narrows = subst (λ (l : List ℕ). T (narrow l)) (widths-times n (list_at k i).fields) (narrow-sound (times n (list_at k i).fields) (sound-times n (list_at k i).fields (sound-items k i)));
            within = omega (arith, total-times ws n, total-list k hs i, sum);
            small = omega (arith, total-times ws n, total-list k hs i, sum, few_bits bytes);
          }

      pub take_count : length (rules_to k hs i) + n * length (list_at k i).fields ≤ most_numbers
      take_count =
          let all = rules-upto k hs (i + 1) (omega arith) in
          omega (arith, length-list k hs i, all.0, ap length rules-are)

      pub take-room : {p : ℕ} → p ≡ length (rules_to k hs i) → p + length (times n ws) ≤ length values
      take-room q =
          let more : length (times n ws) ≡ n * length (list_at k i).fields = length-times ws n ∙ ap (λ (x : ℕ). n * x) (length-widths (list_at k i).fields) in
          omega (arith, take_count, more, ap length v, length-row (up_to i) (omega (arith, length-upto i, take_count)))

      pub take_row : {p b : ℕ} {out : List ℕ} → p ≡ length (rules_to k hs i) → b ≡ total (widths (rules_to k hs i)) → out ≡ laid p (fields_at bytes b (times n ws)) values → out ≡ row (up_to (i + 1))
      take_row {p} {b} q z o =
          let before = widths (rules_to k hs i) in
          let more : up_to (i + 1) ≡ up_to i ++ fields_at bytes b (times n ws) =
          ap (fields_at bytes 0) (widths-list k hs i) ∙ fields-append bytes 0 before (times n ws) ∙ ap (λ (q : ℕ). up_to i ++ fields_at bytes q (times n ws)) (zero-add (total before) ∙ sym z) in
          o ∙ row_more (up_to i) (fields_at bytes b (times n ws)) values p (q ∙ sym (length-upto i)) v ∙ ap row (sym more)

  -- all of them are the record's
  pub all_are : rules_to k hs (length (lists k)) ≡ rules_of bytes
  unfolding rules_for
  all_are = rules-are

  pub row-all : {values : List ℕ} → values ≡ row (up_to (length (lists k))) → values ≡ row (numbers_of bytes)
  unfolding numbers_of
  row-all v = v ∙ ap (λ (rs : List Rule). row (fields_at bytes 0 (widths rs))) all_are

-- the numbers of a record in a row: questions 3 and 5 are those of the record
module _ {bytes values : List ℕ} {k : ℕ} (w : Known bytes k) (v : values ≡ row (numbers_of bytes)) where
  whole-head : (j : ℕ) → j < length (head k) → at values j ≡ at (head_numbers bytes) j
  whole-head j l = ap (λ (l : List ℕ). at l j) v ∙ at_row (numbers_of bytes) j ∙ numbers-head bytes w.first j (subst (λ (x : ℕ). j < length (head x)) w.kind l)

  pub whole-rules : rules_for k values ≡ rules_of bytes
  whole-rules = rules-same k values (head_numbers bytes) whole-head ∙ rules-are w

  pub whole-stated : Stated k values
  whole-stated =
      record {
        kind = kind-in k (ap is_kind w.kind ∙ w.first);
        head = omega (arith, ap length v, row-long (numbers_of bytes), numbers-count bytes, ap length (sym whole-rules), rules-long k values);
        bits = subst (λ (rs : List Rule). total (widths rs) ≤ 8 * longest_record) (sym whole-rules) (few_bits bytes);
      }

  pub whole-permitted : permitted (rules_for k values) values ≡ permitted (rules_of bytes) (numbers_of bytes)
  whole-permitted = ap (λ (rs : List Rule). permitted rs values) whole-rules ∙ ap (permitted (rules_of bytes)) v ∙ permitted-row (rules_of bytes) (numbers_of bytes)

  pub whole_long : length (rules_for k values) ≤ length values
  whole_long = omega (arith, ap length whole-rules, ap length v, numbers-count bytes, row-long (numbers_of bytes))

  pub whole-valid : Valid (widths (rules_for k values)) values
  unfolding numbers_of row
  whole-valid =
      let ws = widths (rules_of bytes) in
      let vs = fields_at bytes 0 ws in
      let zeros = replicate {A = ℕ} (most_numbers - length vs) 0 in
      rw (whole-rules, v) (subst (λ (l : List ℕ). Valid l (vs ++ zeros)) (append-nil ws) (valid-join ws [] vs zeros (length_fields bytes 0 ws) (fields-valid bytes 0 ws) tt))

  pub whole-kind : at values 0 ≡ k
  whole-kind = ap (λ (l : List ℕ). at l 0) v ∙ at_row (numbers_of bytes) 0 ∙ numbers-kind bytes w.first ∙ sym w.kind

  pub whole-rise : ids_rise values ≡ ids_rise (numbers_of bytes)
  whole-rise = rises-all values (numbers_of bytes) (λ j. ap (λ (l : List ℕ). at l j) v ∙ at_row (numbers_of bytes) j)

  pub whole-head-permitted : permitted (head k) values ≡ permitted (head k) (numbers_of bytes)
  whole-head-permitted = ap (permitted (head k)) v ∙ permitted-row (head k) (numbers_of bytes)

pub whole-size : (bytes : List ℕ) → is_whole bytes ≡ true → size_of (rules_of bytes) ≤ length bytes
unfolding is_whole
whole-size bytes w = leb-true (size_of (rules_of bytes)) (length bytes) w

pub whole-yes : (bytes : List ℕ) → size_of (rules_of bytes) ≤ length bytes → is_whole bytes ≡ true
unfolding is_whole
whole-yes bytes l = le-leb (size_of (rules_of bytes)) (length bytes) l

pub whole-no : (bytes : List ℕ) → length bytes < size_of (rules_of bytes) → is_whole bytes ≡ false
unfolding is_whole
whole-no bytes l = lt-leb (size_of (rules_of bytes)) (length bytes) l

pub whole-filled : (bytes : List ℕ) (n : ℕ) → n ≡ total (widths (rules_of bytes)) → eqb (field_at bytes n (8 * bytes_for n - n)) 0 ≡ is_filled bytes
unfolding is_filled
whole-filled bytes n e = rw e

-- a head that is permitted makes for few enough numbers, and one that is not refuses the record
module _ {bytes : List ℕ} {k : ℕ} (w : Known bytes k) where
  pub few-of : permitted (head k) (numbers_of bytes) ≡ true → length (rules_of bytes) ≤ most_numbers
  few-of e =
      let same : rules_for k (numbers_of bytes) ≡ rules_of bytes = rules-same k (numbers_of bytes) (head_numbers bytes) (λ j l. numbers-head bytes w.first j (subst (λ (x : ℕ). j < length (head x)) w.kind l)) ∙ rules-are w in
      omega (arith, few-numbers k (numbers_of bytes) e, ap length same)

  pub refused-of : permitted (head k) (numbers_of bytes) ≡ false → permitted (rules_of bytes) (numbers_of bytes) ≡ false
  refused-of e = ap (λ (rs : List Rule). permitted rs (numbers_of bytes)) (sym (rules-are w)) ∙ head-refused k (head_numbers bytes) (numbers_of bytes) e
