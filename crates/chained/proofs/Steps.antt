-- A walk along the orders, step by step.
use Rattle.std.proofs.Common.{◌≡◌, ℕ, ◌+◌, ◌<◌, ◌≤◌, Bool, true, false, cond, eqb, ◌≢◌, List, [], ◌∷◌, map, length, sym, refl, ap, ◌∙◌, subst, arith}
use Rattle.std.proofs.lemmas.Bool.{cond-true, cond-false}
use Rattle.books.specs.Lists.{shares_at}
use Rattle.books.specs.declared.standing.Standing.{Standing}
use Rattle.chained.specs.Links.{links, times, first, stop}
use Rattle.chained.specs.Records.{at, next_of, order_of, orders_in, passing, found, before_found, Apart, Whole}
use Rattle.chained.specs.declared.record.Record.{Record}
use Rattle.chained.proofs.Chain.{Chain, links_step, times_here, times_tail}
use Rattle.chained.proofs.Moves.{line_chain, inside}

-- the records from here on
abbrev pub from : List Record → ℕ → List ℕ
from rs here = links (length rs) (next_of rs) here

pub record Along (rs : List Record) (here : ℕ) : Type 0 where
  pub chain : Chain (next_of rs) here (from rs here)
  pub within : (k : ℕ) → 0 < times k (from rs here) → k < length rs

pub along_starts : (rs : List Record) → Apart rs → Whole rs → Along rs (next_of rs 0)
along_starts rs apart whole = record { chain = line_chain rs whole; within = λ k h. inside rs apart k (omega arith) }

pub along_first : (rs : List Record) → Apart rs → Whole rs → (here : ℕ) → here ≡ next_of rs 0 → Along rs here
along_first rs apart whole here e = subst (Along rs) (sym e) (along_starts rs apart whole)

module _ (rs : List Record) (here : ℕ) (a : Along rs here) (some : here ≢ 0) where
  pub from_here : from rs here ≡ here ∷ from rs (next_of rs here)
  from_here = (links_step (length rs) (next_of rs) here a.chain some).0

  times_from : (k : ℕ) → times k (from rs here) ≡ times k (here ∷ from rs (next_of rs here))
  times_from k = ap (times k) from_here

  pub along_below : here < length rs
  along_below = a.within here (omega (arith, times_from here, times_here here (from rs (next_of rs here))))

  pub along_goes : Along rs (next_of rs here)
  along_goes = record {
    chain = (links_step (length rs) (next_of rs) here a.chain some).1;
    within = λ k h. a.within k (omega (arith, times_from k, times_tail k here (from rs (next_of rs here))));
  }

  pub along_next : (r : Record) → r ≡ at rs here → Along rs r.next
  along_next r is = subst (λ k. Along rs k) (ap (λ v. v.next) (sym is)) along_goes

  pub along_falls : (r : Record) → r ≡ at rs here → length (from rs r.next) < length (from rs here)
  along_falls r is = omega (arith, ap length from_here, ap (λ v. length (from rs v.next)) is)

-- the end
pub from_zero : (rs : List Record) (here : ℕ) → Along rs here → here ≡ 0 → from rs here ≡ []
from_zero rs here a z = ends (from rs here) a.chain
  where
    ends : (xs : List ℕ) → Chain (next_of rs) here xs → xs ≡ []
    ends [] c = refl
    ends (x ∷ xs) c = absurd (omega (arith, c.0, c.1))

-- A search: what is still to come gives what the whole gives

pub record Seeking (rs : List Record) (meant : Standing → Bool) (before here : ℕ) : Type 0 where
  pub along : Along rs here
  pub stops : before_found meant rs ≡ stop (passing meant rs) before (from rs here)
  pub finds : found meant rs ≡ first (passing meant rs) (from rs here)

pub seek_starts : (rs : List Record) (meant : Standing → Bool) (here : ℕ) → Apart rs → Whole rs → here ≡ next_of rs 0 → Seeking rs meant 0 here
seek_starts rs meant here apart whole e =
    subst (λ k. Seeking rs meant 0 k) (sym e) (record { along = along_starts rs apart whole; stops = refl; finds = refl })

module _ (rs : List Record) (meant : Standing → Bool) (before here : ℕ) (w : Seeking rs meant before here) where
  pub seek_ends : here ≡ 0 → (before ≡ before_found meant rs) × (here ≡ found meant rs)
  seek_ends z =
      let e = from_zero rs here w.along z in
      (sym (w.stops ∙ ap (stop (passing meant rs) before) e), sym (w.finds ∙ (ap (first (passing meant rs)) e ∙ sym z)))

  module _ (some : here ≢ 0) (r : Record) (is : r ≡ at rs here) where
    pub seek_hits : meant r.order ≡ true → (before ≡ before_found meant rs) × (here ≡ found meant rs)
    seek_hits t =
        let e = from_here rs here w.along some in
        let ys : List ℕ = from rs (next_of rs here) in
        let h : passing meant rs here ≡ true = ap (λ v. meant v.order) (sym is) ∙ t in (
          sym (w.stops ∙ (ap (stop (passing meant rs) before) e ∙ cond-true (passing meant rs here) before (stop (passing meant rs) here ys) h)),
          sym (w.finds ∙ (ap (first (passing meant rs)) e ∙ cond-true (passing meant rs here) here (first (passing meant rs) ys) h)),
        )

    pub seek_goes : meant r.order ≡ false → Seeking rs meant here r.next
    seek_goes t =
        let e = from_here rs here w.along some in
        let ys : List ℕ = from rs (next_of rs here) in
        let h : passing meant rs here ≡ false = ap (λ v. meant v.order) (sym is) ∙ t in
        subst (λ k. Seeking rs meant here k) (ap (λ v. v.next) (sym is)) (record {
          along = along_goes rs here w.along some;
          stops = w.stops ∙ (ap (stop (passing meant rs) before) e ∙ cond-false (passing meant rs here) before (stop (passing meant rs) here ys) h);
          finds = w.finds ∙ (ap (first (passing meant rs)) e ∙ cond-false (passing meant rs here) here (first (passing meant rs) ys) h);
        })

-- A sum of shares: the sum so far with what is still to come

abbrev pub sum_from : List Record → (price here : ℕ) → ℕ
sum_from rs price here = shares_at price (map (order_of rs) (from rs here))

pub record Summing (rs : List Record) (price sum here : ℕ) : Type 0 where
  pub along : Along rs here
  pub adds : sum + sum_from rs price here ≡ shares_at price (orders_in rs)

pub sum_starts : (rs : List Record) (price here : ℕ) → Apart rs → Whole rs → here ≡ next_of rs 0 → Summing rs price 0 here
sum_starts rs price here apart whole e =
    subst (λ k. Summing rs price 0 k) (sym e) (record { along = along_starts rs apart whole; adds = omega arith })

module _ (rs : List Record) (price sum here : ℕ) (w : Summing rs price sum here) where
  pub sum_ends : here ≡ 0 → sum ≡ shares_at price (orders_in rs)
  sum_ends z = omega (arith, w.adds, ap (λ ys. shares_at price (map (order_of rs) ys)) (from_zero rs here w.along z))

  module _ (some : here ≢ 0) (r : Record) (is : r ≡ at rs here) where
    step : sum_from rs price here ≡ cond (eqb r.order.price price) r.order.shares 0 + sum_from rs price r.next
    step =
        ap (λ ys. shares_at price (map (order_of rs) ys)) (from_here rs here w.along some)
        ∙ ap (λ v. cond (eqb v.order.price price) v.order.shares 0 + sum_from rs price v.next) (sym is)

    pub sum_goes : (next : ℕ) → next ≡ sum + cond (eqb r.order.price price) r.order.shares 0 → Summing rs price next r.next
    sum_goes next e = record { along = along_next rs here w.along some r is; adds = omega (arith, w.adds, step, e) }

    pub sum_fits : sum + cond (eqb r.order.price price) r.order.shares 0 ≤ shares_at price (orders_in rs)
    sum_fits = omega (arith, w.adds, step)
