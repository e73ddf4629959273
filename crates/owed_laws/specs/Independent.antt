-- Independence: facts that agree in what is seller r's give it the same compliance and test charges, whatever other sellers' registrations reduce.
use Prim.Native.Nat.{ℕ, zero, suc, ◌*◌, ◌≤◌, ◌<◌}
use Rattle.std.specs.Prelude.{Bool, true, false, cond, ◌≡◌, eqb}
use Rattle.std.proofs.Math.Path.{refl, ap, fun_ext}
use Rattle.std.proofs.Common.{◌∙◌, arith, eqb-true}
use Rattle.ids.specs.Ids.{sum_to, any_to, only, keyed}
use Rattle.ids.specs.Sums.{sum_same}
use Rattle.ids.specs.Tests.{any_same}
use Rattle.limits.specs.Limits.{registrations, test_groups}
use Rattle.year.specs.Year as year
use Rattle.owed.specs.Facts.{Facts}
use Rattle.owed.specs.Owed.{unforced, rate, of_seller, share_of, dispatched, dispatch_count, shortfall_over, short_of, u, measured, off_u, asked, cap, daily, spent, charge, stands, result, B, test_charge, compliance, test}

-- two facts that agree in what is seller r's, along the accepted events and at every test
pub record Same (r : ℕ) (F G : Facts) : Type 0 where
  pub leap : F.terms.leap ≡ G.terms.leap
  pub factor : F.terms.factor ≡ G.terms.factor
  pub requirement : F.terms.requirement ≡ G.terms.requirement
  pub seller : (i : ℕ) → F.seller i ≡ G.seller i
  pub events : F.events ≡ G.events
  pub month : (ev : ℕ) → ev < F.events → (F.event ev).month ≡ (G.event ev).month
  pub period : (ev : ℕ) → ev < F.events → (F.event ev).period ≡ (G.event ev).period
  pub dual : (ev : ℕ) → ev < F.events → (F.event ev).dual ≡ (G.event ev).dual
  pub deficit : (ev : ℕ) → ev < F.events → year.deficit (F.event ev).listing r ≡ year.deficit (G.event ev).listing r
  pub test_deficit : (p : ℕ) → year.deficit (F.test p).listing r ≡ year.deficit (G.test p).listing r
  -- of its registrations
  pub product : (i : ℕ) → F.seller i ≡ r → year.product F.terms i ≡ year.product G.terms i
  pub committed : (i : ℕ) → F.seller i ≡ r → year.committed F.terms i ≡ year.committed G.terms i
  pub rate : (i : ℕ) → F.seller i ≡ r → rate F i ≡ rate G i
  pub listed : (ev : ℕ) → ev < F.events → (i : ℕ) → F.seller i ≡ r → year.listed (F.event ev).listing i ≡ year.listed (G.event ev).listing i
  pub reduction : (ev : ℕ) → ev < F.events → (i : ℕ) → F.seller i ≡ r → year.reduction (F.event ev).listing i ≡ year.reduction (G.event ev).listing i
  pub off_peak : (ev : ℕ) → ev < F.events → (i : ℕ) → F.seller i ≡ r → year.second (F.event ev).listing i ≡ year.second (G.event ev).listing i
  pub tested : (p i : ℕ) → F.seller i ≡ r → year.listed (F.test p).listing i ≡ year.listed (G.test p).listing i
  pub test_reduction : (p i : ℕ) → F.seller i ≡ r → year.reduction (F.test p).listing i ≡ year.reduction (G.test p).listing i
  pub retested : (i : ℕ) → F.seller i ≡ r → (F.retest i).taken ≡ (G.retest i).taken
  pub retest_reduction : (i : ℕ) → F.seller i ≡ r → (F.retest i).reduction ≡ (G.retest i).reduction

module _ {r : ℕ} {F G : Facts} (h : Same r F G) where
  -- equal at seller r's registrations
  abbrev Alike : {A : Type 0} → (ℕ → A) → (ℕ → A) → Type 0
  Alike f g = (i : ℕ) → F.seller i ≡ r → f i ≡ g i

  same-keyed : {f g : ℕ → ℕ} → Alike f g → keyed F.seller f r ≡ keyed G.seller g r
  same-keyed {f} {g} a = fun_ext (λ i. rw (← (h.seller i)) (go i (eqb (F.seller i) r) refl))
    where
      go : (i : ℕ) (b : Bool) → eqb (F.seller i) r ≡ b → cond b (f i) 0 ≡ cond b (g i) 0
      go i true q = a i (eqb-true (F.seller i) r q)
      go i false q = refl

  same-seller : {f g : ℕ → ℕ} → Alike f g → of_seller F r f ≡ of_seller G r g
  unfolding of_seller
  same-seller a = ap (sum_to registrations) (same-keyed a)

  same-only : {p q : ℕ → Bool} {f g : ℕ → ℕ} → Alike p q → Alike f g → Alike (only p f) (only q g)
  same-only a b i own = rw (a i own, b i own)

  same-unforced : (a : ℕ) → unforced F a ≡ unforced G a
  unfolding unforced
  same-unforced a = cc (h.factor, h.requirement)

  same-shortfall : {p q : ℕ → Bool} {v w : ℕ → ℕ} (d c : ℕ → ℕ) → Alike p q → Alike v w → d r ≡ c r
      → shortfall_over F p v d r ≡ shortfall_over G q w c r
  unfolding shortfall_over
  same-shortfall {p} {q} {v} {w} d c a b e =
      cc (e, same-unforced _, same-seller (same-only a h.committed), same-seller (same-only a b))

  same-share : {weight w : ℕ → ℕ} (amount a : ℕ → ℕ) → Alike weight w → amount r ≡ a r → Alike (share_of F weight amount) (share_of G w a)
  unfolding share_of
  same-share amount a b e i own = rw (← (h.seller i), own, same-keyed b, e)

  same_sum : {f g : ℕ → ℕ} → ((ev : ℕ) → ev < F.events → f ev ≡ g ev) → sum_to F.events f ≡ sum_to G.events g
  same_sum {f} {g} a = sum_same F.events a ∙ ap (λ n. sum_to n g) h.events

  same-dispatch-count : Alike (dispatch_count F) (dispatch_count G)
  unfolding dispatch_count
  same-dispatch-count i own = same_sum (λ ev l. rw (h.listed ev l i own, h.period ev l))

  same-dispatched : Alike (dispatched F) (dispatched G)
  unfolding dispatched
  same-dispatched i own =
      any_same F.events {q = λ ev. year.listed (G.event ev).listing i} (λ ev l. h.listed ev l i own) ∙ ap (λ n. any_to n (λ ev. year.listed (G.event ev).listing i)) h.events

  same-cap : Alike (cap F) (cap G)
  unfolding cap
  same-cap i own = cc (h.committed i own, h.rate i own, same-unforced (year.committed F.terms i))

  -- shares of a shortfall, of entries that are picked alike
  same-shares : {p q : ℕ → Bool} {v w : ℕ → ℕ} (d c : ℕ → ℕ) → Alike p q → Alike v w → d r ≡ c r
      → Alike (share_of F (short_of F p v) (shortfall_over F p v d)) (share_of G (short_of G q w) (shortfall_over G q w c))
  same-shares {p} {q} {v} {w} d c a b e =
      same-share (shortfall_over F p v d) (shortfall_over G q w c) (λ i own. rw (a i own, h.committed i own, b i own)) (same-shortfall d c a b e)

  module _ (ev : ℕ) (l : ev < F.events) where
    same-u : Alike (u F ev) (u G ev)
    unfolding u
    same-u = same-shares (year.deficit (F.event ev).listing) (year.deficit (G.event ev).listing) (h.listed ev l) (h.reduction ev l) (h.deficit ev l)

    same-measured : Alike (measured F ev) (measured G ev)
    unfolding measured
    same-measured i own = rw (h.dual ev l, h.listed ev l i own, h.product i own)

    same-off : Alike (off_u F ev) (off_u G ev)
    unfolding off_u
    same-off = same-shares (year.deficit (F.event ev).listing) (year.deficit (G.event ev).listing) same-measured (h.off_peak ev l) (h.deficit ev l)

    same-daily : (x : ℕ) → Alike (daily F ev x) (daily G ev x)
    unfolding asked daily
    same-daily x i own =
        cc (h.listed ev l i own, h.period ev l, h.rate i own, same-dispatch-count i own, same-u i own, same-off i own, same-cap i own)

  same-spent : (ev : ℕ) → ev ≤ F.events → Alike (spent F ev) (spent G ev)
  unfolding spent
  same-spent zero l i own = refl
  same-spent (suc ev) l i own = cc (same-spent ev (omega arith) i own, same-daily ev l (spent F ev i) i own)

  same-charge : (k ev : ℕ) → ev < F.events → Alike (charge F k ev) (charge G k ev)
  unfolding charge
  same-charge k ev l i own =
      cc (h.leap, h.product i own, h.month ev l, same-spent ev (omega arith) i own, same-daily ev l (spent F ev i) i own)

  pub same-compliance : (k : ℕ) → compliance F k r ≡ compliance G k r
  unfolding compliance
  same-compliance k = same_sum (λ ev l. same-seller (same-charge k ev l))

  same-stands : (p : ℕ) → Alike (stands F p) (stands G p)
  same-stands p i own = cc (h.tested p i own, same-dispatched i own)

  same-result : (p : ℕ) → Alike (result F p) (result G p)
  unfolding result
  same-result p i own = cc (h.retested i own, h.retest_reduction i own, h.test_reduction p i own)

  same-B : (p : ℕ) → B F p r ≡ B G p r
  unfolding B
  same-B p =
      cc (
        same-seller (same-only (same-stands p) h.committed),
        same-seller (same-only {f = λ i. year.committed F.terms i * rate F i} {g = λ i. year.committed G.terms i * rate G i} (same-stands p) (λ i own. cc (h.committed i own, h.rate i own))),
      )

  same-test_of : (k p : ℕ) → test_charge F k p r ≡ test_charge G k p r
  unfolding test_charge
  same-test_of k p =
      cc (
        h.leap,
        same-B p,
        same-shortfall (year.deficit (F.test p).listing) (year.deficit (G.test p).listing) (same-stands p) (same-result p) (h.test_deficit p),
      )

  pub same_test : (k : ℕ) → test F k r ≡ test G k r
  unfolding test
  same_test k = ap (sum_to test_groups) (fun_ext (same-test_of k))
