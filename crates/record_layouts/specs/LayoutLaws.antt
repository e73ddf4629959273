-- Laws of the layouts: what every row of the table keeps, how a record's fields go on behind its head, and how many they are at most.
use Prim.Native.Nat.{ℕ, zero, suc, ◌+◌, ◌*◌, ◌^◌, ◌≤◌, ◌<◌}
use Rattle.std.specs.Prelude.{Bool, true, ◌&&◌, ◌≡◌, T, leb, ltb, get_or}
use mathlib.Core.List.{List, [], ◌∷◌, ◌++◌, append_assoc, append-nil}
use Rattle.std.proofs.Math.Path.{refl, ap}
use Rattle.std.proofs.Common.{sym, ◌∙◌, suc-mul, add-one, leb-true, ltb-true, lt-ltb}
use Rattle.std.proofs.Math.Nat.{le_trans, le-max_left, le-max_right, mul-le-mul_right}
use native.Mathlib.Omega.{arith}
use Rattle.std.proofs.Math.ListN.{length, length-append, get_or-append, get_or-map}
use Rattle.std.proofs.lemmas.List.{length-map}
use Rattle.ids.specs.Ids.{at}
use Rattle.ids.specs.Tests.{and_parts}
use Rattle.bits.specs.Table.{total, times, narrow}
use Rattle.bits.specs.TableLaws.{total-append}
use Rattle.bits.specs.Pack.{bytes_for}
use Rattle.record_layouts.specs.Layout.{Rule, no_rule, Items, no_items, Layout, bare, layouts, layout_of, head, lists, list_at, items_in, rules_to, rules_for, widths, most_to, bits_most, numbers_most, as_written, as_permitted, highest, longest_record, longest_permitted, most_numbers}

-- does p hold of every element
unfoldable pub every : {A : Type 0} → (A → Bool) → List A → Bool
every p [] = true
every p (x ∷ xs) = p x && every p xs

module _ {A : Type 0} (p : A → Bool) where
  every_append : (xs ys : List A) → every p xs ≡ true → every p ys ≡ true → every p (xs ++ ys) ≡ true
  unfolding every
  every_append [] ys e f = f
  every_append (x ∷ xs) ys e f =
      let a = and_parts (p x) (every p xs) e in
      rw a.0 (every_append xs ys a.1 f)

  pub every-at : (xs : List A) (d : A) (j : ℕ) → every p xs ≡ true → p d ≡ true → p (get_or xs j d) ≡ true
  unfolding every
  every-at [] d j e f = f
  every-at (x ∷ xs) d zero e f = (and_parts (p x) (every p xs) e).0
  every-at (x ∷ xs) d (suc j) e f = every-at xs d j (and_parts (p x) (every p xs) e).1 f

  pub every_in : (xs : List A) (d : A) (j : ℕ) → every p xs ≡ true → j < length xs → p (get_or xs j d) ≡ true
  unfolding every
  every_in [] d j e l = absurd (omega arith)
  every_in (x ∷ xs) d zero e l = (and_parts (p x) (every p xs) e).0
  every_in (x ∷ xs) d (suc j) e l = every_in xs d j (and_parts (p x) (every p xs) e).1 (omega arith)

-- what every rule keeps: 1 to 42 bits, and a highest value that they hold
unfoldable pub sound : Rule → Bool
sound r = (leb 1 r.width && leb r.width 42) && ltb r.high (2 ^ r.width)

pub sound-heads : (k : ℕ) → every sound (head k) ≡ true
unfolding every sound
sound-heads k = every-at (λ l. every sound l.head) layouts (bare []) k refl refl

pub sound-items : (k i : ℕ) → every sound (list_at k i).fields ≡ true
unfolding every sound
sound-items k i =
    every-at (λ x. every sound x.fields) (lists k) no_items i (every-at (λ l. every (λ x. every sound x.fields) l.lists) layouts (bare []) k refl refl) refl

-- a head has at most 8 fields, of at most 56 bits
pub head_small : (k : ℕ) → (length (head k) ≤ 8) × (total (widths (head k)) ≤ 56)
unfolding every
head_small k =
    let small : Layout → Bool = λ l. leb (length l.head) 8 && leb (total (widths l.head)) 56 in
    let a = and_parts (leb (length (head k)) 8) (leb (total (widths (head k))) 56) (every-at small layouts (bare []) k refl refl) in
    (leb-true (length (head k)) 8 a.0, leb-true (total (widths (head k))) 56 a.1)

-- a list's count is among the head's numbers
pub count-in : (k i : ℕ) → i < length (lists k) → (list_at k i).count < length (head k)
unfolding every
count-in k i l =
    ltb-true (list_at k i).count (length (head k))
    (every_in (λ x. ltb x.count (length (head k))) (lists k) no_items i
    (every-at (λ l. every (λ x. ltb x.count (length l.head)) l.lists) layouts (bare []) k refl refl) l)

-- an item has at least one bit, and its fields lie in eight bytes wherever it begins
pub item-small : (k i : ℕ) → i < length (lists k) → (1 ≤ total (widths (list_at k i).fields)) × (total (widths (list_at k i).fields) ≤ 57)
unfolding every
item-small k i l =
    let small : Items → Bool = λ x. leb 1 (total (widths x.fields)) && leb (total (widths x.fields)) 57 in
    let t = total (widths (list_at k i).fields) in
    let a = and_parts (leb 1 t) (leb t 57) (every_in small (lists k) no_items i (every-at (λ l. every small l.lists) layouts (bare []) k refl refl) l) in
    (leb-true 1 t a.0, leb-true t 57 a.1)

pub items-count : (k : ℕ) (vs : List ℕ) (i : ℕ) → i < length (lists k) → items_in k vs i ≡ at vs (list_at k i).count
unfolding items_in
items-count k vs i l = rw (lt-ltb i (length (lists k)) l)

pub sound-times : (n : ℕ) (rs : List Rule) → every sound rs ≡ true → every sound (times n rs) ≡ true
unfolding times every
sound-times zero rs e = refl
sound-times (suc n) rs e = every_append sound rs (times n rs) e (sound-times n rs e)

sound-to : (k : ℕ) (vs : List ℕ) (i : ℕ) → every sound (rules_to k vs i) ≡ true
unfolding rules_to
sound-to k vs zero = sound-heads k
sound-to k vs (suc i) =
    every_append sound (rules_to k vs i) (times (items_in k vs i) (list_at k i).fields) (sound-to k vs i) (sound-times (items_in k vs i) (list_at k i).fields (sound-items k i))

pub sound-rules : (k : ℕ) (vs : List ℕ) → every sound (rules_for k vs) ≡ true
unfolding rules_for
sound-rules k vs = sound-to k vs (length (lists k))

pub narrow-sound : (rs : List Rule) → every sound rs ≡ true → T (narrow (widths rs))
unfolding every sound
narrow-sound [] e = tt
narrow-sound (r ∷ rs) e =
    let a = and_parts (sound r) (every sound rs) e in
    let b = and_parts (leb 1 r.width && leb r.width 42) (ltb r.high (2 ^ r.width)) a.0 in
    rw b.0 (narrow-sound rs a.1)

-- the width of field j
pub width-at : (rs : List Rule) (j : ℕ) → get_or (widths rs) j 0 ≡ (get_or rs j no_rule).width
width-at rs j = get_or-map (λ r. r.width) rs j no_rule

pub widths-append : (rs ss : List Rule) → widths (rs ++ ss) ≡ widths rs ++ widths ss
widths-append [] ss = refl
widths-append (r ∷ rs) ss = ap (λ (l : List ℕ). r.width ∷ l) (widths-append rs ss)

pub length-widths : (rs : List Rule) → length (widths rs) ≡ length rs
length-widths rs = length-map rs (λ r. r.width)

-- the widths of items
pub widths-times : (n : ℕ) (rs : List Rule) → widths (times n rs) ≡ times n (widths rs)
unfolding times
widths-times zero rs = refl
widths-times (suc n) rs = widths-append rs (times n rs) ∙ ap (λ (l : List ℕ). widths rs ++ l) (widths-times n rs)

-- one more list, as a loop says it
pub rules-more : (k : ℕ) (vs : List ℕ) (i : ℕ) → rules_to k vs (i + 1) ≡ rules_to k vs i ++ times (items_in k vs i) (list_at k i).fields
unfolding rules_to
rules-more k vs i = rw (add-one i)

-- the fields before a list are the head's and others behind them
pub front-to : (k : ℕ) (vs : List ℕ) (i : ℕ) → (rest : List Rule) × (rules_to k vs i ≡ head k ++ rest)
unfolding rules_to
front-to k vs zero = ([], sym (append-nil (head k)))
front-to k vs (suc i) =
    let r = front-to k vs i in
    let more = times (items_in k vs i) (list_at k i).fields in
    (r.0 ++ more, rw r.1 (append_assoc (head k) r.0 more))

module _ (k : ℕ) (vs : List ℕ) where
  pub rules-front : (rest : List Rule) × (rules_for k vs ≡ head k ++ rest)
  unfolding rules_for
  rules-front = front-to k vs (length (lists k))

  pub rule-head : (j : ℕ) → j < length (head k) → get_or (rules_for k vs) j no_rule ≡ get_or (head k) j no_rule
  rule-head j l =
      let r = rules-front in
      ap (λ (rs : List Rule). get_or rs j no_rule) r.1 ∙ get_or-append (head k) r.0 no_rule j l

  pub rules-long : (length (head k) ≤ length (rules_for k vs)) × (total (widths (head k)) ≤ total (widths (rules_for k vs)))
  rules-long =
      let r = rules-front in
      rw r.1 (omega (arith, length-append (head k) r.0), rw (widths-append (head k) r.0, total-append (widths (head k)) (widths r.0)) (omega arith))

-- a size that adds up over fields is at most what the limits of the counts let it be
module _ (limit : Rule → ℕ) (size : List Rule → ℕ) (none : size [] ≡ 0) (adds : (rs ss : List Rule) → size (rs ++ ss) ≡ size rs + size ss) where
  size-times : (n : ℕ) (rs : List Rule) → size (times n rs) ≡ n * size rs
  unfolding times
  size-times zero rs = none ∙ omega arith
  size-times (suc n) rs = adds rs (times n rs) ∙ rw (size-times n rs, suc-mul) (omega arith)

  size-to : (k : ℕ) (vs : List ℕ) → ((i : ℕ) → i < length (lists k) → items_in k vs i ≤ limit (get_or (head k) (list_at k i).count no_rule))
      → (i : ℕ) → i ≤ length (lists k) → size (rules_to k vs i) ≤ most_to limit size (layout_of k) i
  unfolding rules_to most_to
  size-to k vs h zero l = omega arith
  size-to k vs h (suc i) l =
      let fs = (list_at k i).fields in
      let before = size-to k vs h i (omega arith) in
      let more = mul-le-mul_right (size fs) (h i (omega arith)) in
      rw (adds (rules_to k vs i) (times (items_in k vs i) fs), size-times (items_in k vs i) fs) (omega arith)

highest-at : (f : Layout → ℕ) (ls : List Layout) (k : ℕ) → f (bare []) ≡ 0 → f (get_or ls k (bare [])) ≤ highest f ls
unfolding highest
highest-at f [] k e = omega arith
highest-at f (l ∷ ls) zero e = le-max_left (f l) (highest f ls)
highest-at f (l ∷ ls) (suc k) e = le_trans (highest-at f ls k e) (le-max_right (f l) (highest f ls))

-- the three constants, from the table
longest-is : highest (λ l. bytes_for (bits_most as_written l)) layouts ≡ longest_record
unfolding highest bits_most most_to
longest-is = refl

longest-permitted-is : highest (λ l. bytes_for (bits_most as_permitted l)) layouts ≡ longest_permitted
unfolding highest bits_most most_to
longest-permitted-is = refl

most-numbers-is : highest (numbers_most as_permitted) layouts ≡ most_numbers
unfolding highest numbers_most most_to
most-numbers-is = refl

-- no record is longer, by its counts
module _ (limit : Rule → ℕ) {n : ℕ} (e : highest (λ l. bytes_for (bits_most limit l)) layouts ≡ n) (k : ℕ) (vs : List ℕ)
    (h : (i : ℕ) → i < length (lists k) → items_in k vs i ≤ limit (get_or (head k) (list_at k i).count no_rule)) where
  bits-within : total (widths (rules_for k vs)) ≤ 8 * n
  unfolding rules_for bits_most most_to
  bits-within =
      let adds : (rs ss : List Rule) → total (widths (rs ++ ss)) ≡ total (widths rs) + total (widths ss) = λ rs ss. ap total (widths-append rs ss) ∙ total-append (widths rs) (widths ss) in
      let here = size-to limit (λ rs. total (widths rs)) refl adds k vs h (length (lists k)) (omega arith) in
      let all : bytes_for (bits_most limit (layout_of k)) ≤ n = rw e at (highest-at (λ l. bytes_for (bits_most limit l)) layouts k refl) in
      omega (arith, here, all)

pub bits-most : (k : ℕ) (vs : List ℕ) → ((i : ℕ) → i < length (lists k) → items_in k vs i ≤ as_written (get_or (head k) (list_at k i).count no_rule))
    → total (widths (rules_for k vs)) ≤ 8 * longest_record
bits-most = bits-within as_written longest-is

-- nor does one have more numbers
module _ (limit : Rule → ℕ) {n : ℕ} (e : highest (numbers_most limit) layouts ≡ n) (k : ℕ) (vs : List ℕ)
    (h : (i : ℕ) → i < length (lists k) → items_in k vs i ≤ limit (get_or (head k) (list_at k i).count no_rule)) where
  pub numbers-within : length (rules_for k vs) ≤ n
  unfolding rules_for numbers_most most_to
  numbers-within =
      let here = size-to limit length refl length-append k vs h (length (lists k)) (omega arith) in
      let all : numbers_most limit (layout_of k) ≤ n = rw e at (highest-at (numbers_most limit) layouts k refl) in
      le_trans here all

-- and none that is permitted is longer or has more numbers
module _ (k : ℕ) (vs : List ℕ) (h : (i : ℕ) → i < length (lists k) → items_in k vs i ≤ as_permitted (get_or (head k) (list_at k i).count no_rule)) where
  pub permitted-most : total (widths (rules_for k vs)) ≤ 8 * longest_permitted
  permitted-most = bits-within as_permitted longest-permitted-is k vs h

  pub numbers-most : length (rules_for k vs) ≤ most_numbers
  unfolding highest numbers_most most_to
  numbers-most = numbers-within as_permitted refl k vs h
