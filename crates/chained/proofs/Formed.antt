-- Each change keeps the two chains well-formed, and means what it should for the orders.
use Rattle.std.proofs.Common.{◌≡◌, ℕ, zero, suc, ◌+◌, ◌-◌, ◌<◌, ◌≤◌, Bool, cond, eqb, ltb, ◌≢◌, List, [], ◌∷◌, map, length, sym, refl, ap, ◌∙◌, subst, arith}
use Rattle.rules.specs.Sides.{Rule}
use Rattle.books.specs.Lists.{put, without}
use Rattle.books.specs.declared.standing.Standing.{Standing}
use Rattle.chained.specs.Links.{times, first, stop}
use Rattle.chained.specs.Records.{next_of, free_of, order_of, line, idle, orders_in, Apart, Whole, Cleared, linked, unlinked}
use Rattle.chained.specs.declared.record.Record.{Record}
use Rattle.chained.proofs.Chain.{Chain, begins, not_zero, never_zero, frame, times_here, stop_in, put_in, cut_out, chain_put, chain_cut, times_put, length_put, times_cut, length_cut, first_in, up_from, chain_up, length_up, times_up}
use Rattle.chained.proofs.Meant.{map_put, map_cut, map_same}
use Rattle.chained.proofs.Moves.{line_chain, idle_chain, line_is, idle_is, inside, once, once_from, stop_below, length_linked, next_before, next_here, next_else, free_anchor, free_else, order_here, order_else, length_unlinked, past_before, past_else, back_anchor, back_here, back_else, order_unlinked}

-- well-formed by the lists that the chains are
pub formed : (rs : List Record) (xs ys : List ℕ) (n : ℕ) → length rs ≡ n → line rs ≡ xs → idle rs ≡ ys → ((k : ℕ) → times k xs + times k ys ≤ cond (ltb k n) 1 0) → length xs + length ys ≡ n - 1 → Apart rs × Whole rs
formed rs xs ys n e p q apart whole = (
  λ k. subst (λ m. times k (line rs) + times k (idle rs) ≤ cond (ltb k m) 1 0) (sym e) (subst (λ zs. times k zs + times k (idle rs) ≤ cond (ltb k n) 1 0) (sym p) (subst (λ zs. times k xs + times k zs ≤ cond (ltb k n) 1 0) (sym q) (apart k))),
  omega (arith, ap length p, ap length q),
)

-- Clearing

pub line_cleared : (rs : List Record) (n : ℕ) → Cleared n rs → line rs ≡ []
line_cleared rs n c = line_is rs [] c.ended (omega arith)

idle_cleared : (rs : List Record) (n : ℕ) → Cleared n rs → idle rs ≡ up_from 1 (n - 1)
idle_cleared [] n c = ap (up_from 1) (let e : 0 ≡ n - 1 = omega (arith, c.many) in e)
idle_cleared (r ∷ rs) n c =
    idle_is (r ∷ rs) (up_from 1 (n - 1)) (chain_up (free_of (r ∷ rs)) n c.freed 0 (n - 1) (omega (arith, c.many)))
    (omega (arith, c.many, length_up 1 (n - 1)))

times_cleared : (k n : ℕ) → times k (up_from 1 (n - 1)) ≤ cond (ltb k n) 1 0
times_cleared k zero = omega arith
times_cleared k (suc m) =
    let e : 1 + (suc m - 1) ≡ suc m = omega arith in
    subst (λ y. times k (up_from 1 (suc m - 1)) ≤ cond (ltb k y) 1 0) e (times_up k 1 (suc m - 1))

pub formed_cleared : (rs : List Record) (n : ℕ) → Cleared n rs → Apart rs × Whole rs
formed_cleared rs n c =
    formed rs [] (up_from 1 (n - 1)) n c.many (line_cleared rs n c) (idle_cleared rs n c) (λ k. omega (arith, times_cleared k n))
    (omega (arith, length_up 1 (n - 1)))

-- Linking

module _ (rs : List Record) (b : ℕ → Bool) (o : Standing) (apart : Apart rs) (whole : Whole rs) (some : 0 < length (idle rs)) where
  nz : free_of rs 0 ≢ 0
  nz = not_zero (free_of rs) (free_of rs 0) (idle rs) (idle_chain rs whole) some

  parts : (ys : List ℕ) × (idle rs ≡ free_of rs 0 ∷ ys) × Chain (free_of rs) (free_of rs (free_of rs 0)) ys
  parts = begins (free_of rs) (free_of rs 0) (idle rs) (idle_chain rs whole) nz

  in_idle : times (free_of rs 0) (idle rs) ≡ 1 + times (free_of rs 0) parts.0
  in_idle = ap (times (free_of rs 0)) parts.1 ∙ times_here (free_of rs 0) parts.0

  pub link_here : free_of rs 0 < length rs
  link_here = inside rs apart (free_of rs 0) (omega (arith, in_idle))

  pub link_before : stop b 0 (line rs) < length rs
  link_before = stop_below b 0 (line rs) (length rs) (omega (arith, link_here)) (λ k h. inside rs apart k (omega arith))

  not_in_line : times (free_of rs 0) (line rs) ≡ 0
  not_in_line = omega (arith, once rs apart (free_of rs 0), in_idle)

  not_before : free_of rs 0 ≢ stop b 0 (line rs)
  not_before = stop_in b 0 (line rs) (free_of rs 0) nz not_in_line

  line_linked : line (linked rs (stop b 0 (line rs)) (free_of rs 0) o) ≡ put_in b (free_of rs 0) (line rs)
  line_linked =
      let p : ℕ = stop b 0 (line rs) in
      let k : ℕ = free_of rs 0 in
      line_is (linked rs p k o) (put_in b k (line rs))
      (chain_put b (next_of rs) (next_of (linked rs p k o)) k 0 (line rs) (line_chain rs whole) (once_from rs apart whole) nz not_in_line
      (omega (arith, nz)) (next_before rs p k o link_before) (next_here rs p k o link_here not_before) (next_else rs p k o))
      (omega (arith, length_put b k (line rs), length_linked rs p k o, whole))

  idle_linked : idle (linked rs (stop b 0 (line rs)) (free_of rs 0) o) ≡ parts.0
  idle_linked =
      let p : ℕ = stop b 0 (line rs) in
      let k : ℕ = free_of rs 0 in
      let ys : List ℕ = parts.0 in
      let nk : times k ys ≡ 0 = omega (arith, once rs apart k, in_idle) in
      let n0 : times 0 ys ≡ 0 = never_zero (free_of rs) (free_of rs k) ys parts.2 in
      let same : (j : ℕ) → 0 < times j ys → free_of (linked rs p k o) j ≡ free_of rs j = λ j h.
      free_else rs p k o j (λ e. omega (arith, ap (λ y. times y ys) e)) (λ e. omega (arith, ap (λ y. times y ys) e)) in
      let c : Chain (free_of (linked rs p k o)) (free_of rs k) ys = frame (free_of rs) (free_of (linked rs p k o)) (free_of rs k) ys same parts.2 in
      idle_is (linked rs p k o) ys
      (subst (λ y. Chain (free_of (linked rs p k o)) y ys) (sym (free_anchor rs p k o (omega (arith, link_here)) nz)) c)
      (omega (arith, length_linked rs p k o, whole, ap length parts.1))

  pub formed_linked : Apart (linked rs (stop b 0 (line rs)) (free_of rs 0) o) × Whole (linked rs (stop b 0 (line rs)) (free_of rs 0) o)
  formed_linked =
      let p : ℕ = stop b 0 (line rs) in
      let k : ℕ = free_of rs 0 in
      formed (linked rs p k o) (put_in b k (line rs)) parts.0 (length rs) (length_linked rs p k o) line_linked idle_linked
      (λ j. omega (arith, apart j, times_put b k j (line rs), ap (times j) parts.1))
      (omega (arith, length_put b k (line rs), whole, ap length parts.1))

  pub count_linked : length (line (linked rs (stop b 0 (line rs)) (free_of rs 0) o)) ≡ length (line rs) + 1
  count_linked = omega (arith, ap length line_linked, length_put b (free_of rs 0) (line rs))

-- linked ahead of the first order that the new one's price comes ahead of
pub orders_linked : (rs : List Record) (rule : Rule) (o : Standing) → Apart rs → Whole rs → 0 < length (idle rs) → orders_in (linked rs (stop (λ j. rule.ahead o.price (order_of rs j).price) 0 (line rs)) (free_of rs 0) o) ≡ put rule o (orders_in rs)
orders_linked rs rule o apart whole some =
    let b : ℕ → Bool = λ j. rule.ahead o.price (order_of rs j).price in
    let p : ℕ = stop b 0 (line rs) in
    let k : ℕ = free_of rs 0 in
    let none = not_in_line rs b o apart whole some in
    ap (map (order_of (linked rs p k o))) (line_linked rs b o apart whole some)
    ∙ map_put rule o (order_of rs) (order_of (linked rs p k o)) k (line rs)
    (order_here rs p k o (link_here rs b o apart whole some))
    (λ j h. order_else rs p k o j (λ e. omega (arith, ap (λ y. times y (line rs)) e)))

-- Unlinking

module _ (rs : List Record) (b : ℕ → Bool) (apart : Apart rs) (whole : Whole rs) (some : 0 < first b (line rs)) where
  in_line : 0 < times (first b (line rs)) (line rs)
  in_line = first_in b (line rs) some

  pub unlink_here : first b (line rs) < length rs
  unlink_here = inside rs apart (first b (line rs)) (omega (arith, in_line))

  pub unlink_before : stop b 0 (line rs) < length rs
  unlink_before = stop_below b 0 (line rs) (length rs) (omega (arith, unlink_here)) (λ k h. inside rs apart k (omega arith))

  line_unlinked : line (unlinked rs (stop b 0 (line rs)) (first b (line rs))) ≡ cut_out b (line rs)
  line_unlinked =
      let p : ℕ = stop b 0 (line rs) in
      let k : ℕ = first b (line rs) in
      line_is (unlinked rs p k) (cut_out b (line rs))
      (chain_cut b (next_of rs) (next_of (unlinked rs p k)) 0 (line rs) (line_chain rs whole) (once_from rs apart whole) some
      (past_before rs p k unlink_before) (past_else rs p k))
      (omega (arith, length_cut b (line rs) some, length_unlinked rs p k, whole))

  idle_unlinked : idle (unlinked rs (stop b 0 (line rs)) (first b (line rs))) ≡ first b (line rs) ∷ idle rs
  idle_unlinked =
      let p : ℕ = stop b 0 (line rs) in
      let k : ℕ = first b (line rs) in
      let nk : times k (idle rs) ≡ 0 = omega (arith, once rs apart k, in_line) in
      let n0 : times 0 (idle rs) ≡ 0 = never_zero (free_of rs) (free_of rs 0) (idle rs) (idle_chain rs whole) in
      let same : (j : ℕ) → 0 < times j (idle rs) → free_of (unlinked rs p k) j ≡ free_of rs j = λ j h.
      back_else rs p k j (λ e. omega (arith, ap (λ y. times y (idle rs)) e)) (λ e. omega (arith, ap (λ y. times y (idle rs)) e)) in
      let c : Chain (free_of (unlinked rs p k)) (free_of rs 0) (idle rs) =
      frame (free_of rs) (free_of (unlinked rs p k)) (free_of rs 0) (idle rs) same (idle_chain rs whole) in
      let back : free_of (unlinked rs p k) k ≡ free_of rs 0 = back_here rs p k unlink_here (λ e. omega (arith, some)) in
      idle_is (unlinked rs p k) (k ∷ idle rs)
      (back_anchor rs p k (omega (arith, unlink_here)), some, subst (λ y. Chain (free_of (unlinked rs p k)) y (idle rs)) (sym back) c)
      (omega (arith, length_unlinked rs p k, whole, length_cut b (line rs) some))

  pub formed_unlinked : Apart (unlinked rs (stop b 0 (line rs)) (first b (line rs))) × Whole (unlinked rs (stop b 0 (line rs)) (first b (line rs)))
  formed_unlinked =
      let p : ℕ = stop b 0 (line rs) in
      let k : ℕ = first b (line rs) in
      formed (unlinked rs p k) (cut_out b (line rs)) (k ∷ idle rs) (length rs) (length_unlinked rs p k) line_unlinked idle_unlinked
      (λ j. omega (arith, apart j, times_cut b j (line rs) some))
      (omega (arith, length_cut b (line rs) some, whole))

  pub count_unlinked : length (line (unlinked rs (stop b 0 (line rs)) (first b (line rs)))) + 1 ≡ length (line rs)
  count_unlinked = omega (arith, ap length line_unlinked, length_cut b (line rs) some)

  pub orders_cut : orders_in (unlinked rs (stop b 0 (line rs)) (first b (line rs))) ≡ map (order_of rs) (cut_out b (line rs))
  orders_cut =
      let p : ℕ = stop b 0 (line rs) in
      let k : ℕ = first b (line rs) in
      ap (map (order_of (unlinked rs p k))) line_unlinked
      ∙ map_same (order_of rs) (order_of (unlinked rs p k)) (cut_out b (line rs)) (λ j h. order_unlinked rs p k j)

-- with the order of a number cut out
pub orders_unlinked : (rs : List Record) (number : ℕ) → Apart rs → Whole rs → 0 < first (λ j. eqb (order_of rs j).number number) (line rs) → orders_in (unlinked rs (stop (λ j. eqb (order_of rs j).number number) 0 (line rs)) (first (λ j. eqb (order_of rs j).number number) (line rs))) ≡ without number (orders_in rs)
orders_unlinked rs number apart whole some =
    orders_cut rs (λ j. eqb (order_of rs j).number number) apart whole some
    ∙ map_cut number (order_of rs) (order_of rs) (line rs) (λ j h. refl)
