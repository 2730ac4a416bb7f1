-- What a chained book keeps, call by call: well-formed chains, the count, and sound orders.
use Rattle.std.proofs.Common.{◌≡◌, ℕ, ◌+◌, ◌-◌, ◌*◌, ◌^◌, ◌<◌, ◌≤◌, Bool, true, false, cond, ◌&&◌, ⊎_elim, eqb, leb, ◌≢◌, List, [], ◌∷◌, map, length, Some, None, sym, refl, ap, ◌∙◌, subst, arith}
use Rattle.std.proofs.lemmas.List.{length-set}
use Rattle.std.proofs.lemmas.Bool.{cond_both, cond-true, cond-false, cases_eq, eq-eqb, ne_eqb, and_parts, and_from, leb-true}
use Rattle.rules.specs.Prices.{most_shares}
use Rattle.rules.specs.Sides.{Rule}
use Rattle.rules.specs.declared.side.Side.{Ghosts}
use Rattle.books.specs.Lists.{find, front_of, put, added, without, reduced, less, taken, shares_at, sound}
use Rattle.books.proofs.Keeping.{sound_reduced}
use Rattle.books.proofs.Outcomes.{Fits, Takes}
use Rattle.books.specs.declared.standing.Standing.{Standing}
use Rattle.chained.specs.Links.{times, first, stop}
use Rattle.chained.specs.Laws.{Held, length_orders}
use Rattle.books.specs.Arranging.{all_sound}
use Rattle.chained.specs.Records.{most_records, next_of, free_of, order_of, line, idle, orders_in, room_in, Apart, Whole, Cleared, linked, unlinked, with_order}
use Rattle.chained.specs.declared.chained.Chained.{Chained}
use Rattle.chained.specs.declared.record.Record.{Record}
use Rattle.chained.proofs.Chain.{Chain, cut_out, frame, never_zero, times_here}
use Rattle.chained.proofs.Columns.{at_same, at_other, keeps}
use Rattle.chained.proofs.Meant.{map_same, find_some, find_none, all_put, all_without}
use Rattle.chained.proofs.Moves.{line_chain, idle_chain, line_is, idle_is, once, length_linked, length_unlinked}
use Rattle.chained.proofs.Formed.{formed, line_cleared, formed_cleared, link_here, link_before, formed_linked, count_linked, orders_linked, unlink_here, unlink_before, formed_unlinked, count_unlinked, orders_cut, orders_unlinked}
use Rattle.chained.proofs.Steps.{from, along_starts, along_below, from_here, from_zero}

-- the shares at a price fit: at most 4,096 orders with at most 10,000,000 each
shares_most : (price : ℕ) (os : List Standing) → all_sound os ≡ true → shares_at price os ≤ 10000000 * length os
shares_most price [] all = omega arith
shares_most price (o ∷ os) all =
    let two = and_parts (sound o) (all_sound os) all in
    let three = and_parts (leb 1 o.number && leb 1 o.price && leb 1 o.shares) (leb o.shares most_shares) two.0 in
    let most : o.shares ≤ 10000000 = leb-true o.shares most_shares three.1 in
    let P : ℕ → Type 0 = λ v. v + shares_at price os ≤ 10000000 * length (o ∷ os) in
    let ih = shares_most price os two.1 in
    cond_both (eqb o.price price) o.shares 0 P (λ _. omega arith) (λ _. omega arith)

pub shares_fit : (rs : List Record) (count price : ℕ) → Held count rs → shares_at price (orders_in rs) < 2 ^ 64
shares_fit rs count price h =
    omega (arith, shares_most price (orders_in rs) h.1.1.1.1.0, length_orders rs, h.0, h.1.1.1.0)

-- Clearing

pub held_cleared : (rs : List Record) (n count : ℕ) → n ≤ most_records → Cleared n rs → count ≡ 0 → Held count rs
held_cleared rs n count few c none =
    let l = line_cleared rs n c in
    let f = formed_cleared rs n c in
    (omega (arith, c.many), (omega (arith, length_orders rs, ap length l), (f.0, (f.1, (ap (λ xs. all_sound (map (order_of rs) xs)) l, tt)))))

-- The front

module _ (rs : List Record) (apart : Apart rs) (whole : Whole rs) where
  pub front_none : next_of rs 0 ≡ 0 → None ≡ front_of (orders_in rs)
  front_none z = sym (ap (λ xs. front_of (map (order_of rs) xs)) (from_zero rs (next_of rs 0) (along_starts rs apart whole) z))

  module _ (some : next_of rs 0 ≢ 0) where
    pub front_below : next_of rs 0 < length rs
    front_below = along_below rs (next_of rs 0) (along_starts rs apart whole) some

    pub line_front : line rs ≡ next_of rs 0 ∷ from rs (next_of rs (next_of rs 0))
    line_front = from_here rs (next_of rs 0) (along_starts rs apart whole) some

    pub front_some : Some (order_of rs (next_of rs 0)) ≡ front_of (orders_in rs)
    front_some = sym (ap (λ xs. front_of (map (order_of rs) xs)) line_front)

-- Adding

-- what is meant by a search for the place of an order
abbrev pub by_price : Rule → Standing → Standing → Bool
by_price rule o other = rule.ahead o.price other.price

abbrev pub ahead : Rule → Standing → List Record → ℕ → Bool
ahead rule o rs j = rule.ahead o.price (order_of rs j).price

-- the records hold these orders now, as well as the old ones held theirs
pub record Becomes (os : List Standing) (rs rs' : List Record) (count' : ℕ) : Type 0 where
  pub held : Held count' rs'
  pub list : orders_in rs' ≡ os
  pub room : room_in rs' ≡ room_in rs

module _ (rule : Rule) (o : Standing) (rs : List Record) (count : ℕ) (h : Held count rs) (space : length (orders_in rs) < room_in rs) where
  some_idle : 0 < length (idle rs)
  some_idle = omega (arith, space, length_orders rs, h.1.1.1.0)

  -- what linking requires
  pub add_before : stop (ahead rule o rs) 0 (line rs) < length rs
  add_before = link_before rs (ahead rule o rs) o h.1.1.0 h.1.1.1.0 some_idle

  pub add_here : free_of rs 0 < length rs
  add_here = link_here rs (ahead rule o rs) o h.1.1.0 h.1.1.1.0 some_idle

module _ (rule : Rule) (o : Standing) (rs : List Record) (count : ℕ) (h : Held count rs) (f : Fits (room_in rs) (orders_in rs) o) where
  idle_left : 0 < length (idle rs)
  idle_left = some_idle rule o rs count h f.room

  pub added_held : (rs' : List Record) (before count' : ℕ) → before ≡ stop (ahead rule o rs) 0 (line rs) → rs' ≡ linked rs before (free_of rs 0) o → count' ≡ count + 1 → Becomes (added rule (room_in rs) (orders_in rs) o).list rs rs' count'
  added_held rs' before count' at_stop is more =
      let p : ℕ = stop (ahead rule o rs) 0 (line rs) in
      let k : ℕ = free_of rs 0 in
      let w = formed_linked rs (ahead rule o rs) o h.1.1.0 h.1.1.1.0 idle_left in
      let list : orders_in (linked rs p k o) ≡ put rule o (orders_in rs) = orders_linked rs rule o h.1.1.0 h.1.1.1.0 idle_left in
      let all : all_sound (orders_in (linked rs p k o)) ≡ true = ap all_sound list ∙ all_put rule o (orders_in rs) f.good h.1.1.1.1.0 in
      let done : Becomes (added rule (room_in rs) (orders_in rs) o).list rs (linked rs p k o) count' =
      record {
        held = (omega (arith, h.0, length_linked rs p k o), (omega (arith, more, h.1.0, length_orders rs, length_orders (linked rs p k o), count_linked rs (ahead rule o rs) o h.1.1.0 h.1.1.1.0 idle_left), (w.0, (w.1, (all, tt)))));
        list = list ∙ sym (f.list rule);
        room = ap (λ n. n - 1) (length_linked rs p k o);
      } in
      subst (λ zs. Becomes (added rule (room_in rs) (orders_in rs) o).list rs zs count') (sym (is ∙ ap (λ b. linked rs b (free_of rs 0) o) at_stop)) done

-- Removing

-- what is meant by a search for a number
abbrev pub by_number : ℕ → Standing → Bool
by_number number o = eqb o.number number

abbrev pub numbered : ℕ → List Record → ℕ → Bool
numbered number rs j = eqb (order_of rs j).number number

module _ (b : ℕ → Bool) (rs : List Record) (count : ℕ) (h : Held count rs) (some : first b (line rs) ≢ 0) where
  pub cut_before : stop b 0 (line rs) < length rs
  cut_before = unlink_before rs b h.1.1.0 h.1.1.1.0 (omega (arith, some))

  pub cut_count : 0 < count
  cut_count = omega (arith, h.1.0, length_orders rs, count_unlinked rs b h.1.1.0 h.1.1.1.0 (omega (arith, some)))

  pub cut_held : (os : List Standing) (rs' : List Record) (before here count' : ℕ) → orders_in (unlinked rs (stop b 0 (line rs)) (first b (line rs))) ≡ os → all_sound os ≡ true → before ≡ stop b 0 (line rs) → here ≡ first b (line rs) → rs' ≡ unlinked rs before here → count' + 1 ≡ count → Becomes os rs rs' count'
  cut_held os rs' before here count' list all at_stop at_first is fewer =
      let p : ℕ = stop b 0 (line rs) in
      let k : ℕ = first b (line rs) in
      let pos : 0 < first b (line rs) = omega (arith, some) in
      let f = formed_unlinked rs b h.1.1.0 h.1.1.1.0 pos in
      let done : Becomes os rs (unlinked rs p k) count' =
      record {
        held = (omega (arith, h.0, length_unlinked rs p k), (omega (arith, fewer, h.1.0, length_orders rs, length_orders (unlinked rs p k), count_unlinked rs b h.1.1.0 h.1.1.1.0 pos), (f.0, (f.1, (ap all_sound list ∙ all, tt)))));
        list = list;
        room = ap (λ n. n - 1) (length_unlinked rs p k);
      } in
      subst (λ zs. Becomes os rs zs count') (sym (is ∙ (ap (λ b. unlinked rs b here) at_stop ∙ ap (λ k. unlinked rs p k) at_first))) done

-- by number
pub removed_held : (number : ℕ) (rs : List Record) (count : ℕ) → Held count rs → first (numbered number rs) (line rs) ≢ 0 → (rs' : List Record) (before here count' : ℕ) → before ≡ stop (numbered number rs) 0 (line rs) → here ≡ first (numbered number rs) (line rs) → rs' ≡ unlinked rs before here → count' + 1 ≡ count → Becomes (without number (orders_in rs)) rs rs' count'
removed_held number rs count h some rs' before here count' at_stop at_first is fewer =
    cut_held (numbered number rs) rs count h some (without number (orders_in rs)) rs' before here count'
    (orders_unlinked rs number h.1.1.0 h.1.1.1.0 (omega (arith, some))) (all_without number (orders_in rs) h.1.1.1.1.0) at_stop at_first is fewer

-- Taking from the front

abbrev pub any : ℕ → Bool
any j = true

abbrev pub behind : List Record → List Standing
behind rs = map (order_of rs) (from rs (next_of rs (next_of rs 0)))

module _ (rs : List Record) (count : ℕ) (h : Held count rs) (some : next_of rs 0 ≢ 0) where
  front_line : line rs ≡ next_of rs 0 ∷ from rs (next_of rs (next_of rs 0))
  front_line = line_front rs h.1.1.0 h.1.1.1.0 some

  pub orders_front : orders_in rs ≡ order_of rs (next_of rs 0) ∷ behind rs
  orders_front = ap (map (order_of rs)) front_line

  first_any : first any (line rs) ≡ next_of rs 0
  first_any = ap (first any) front_line

  stop_any : stop any 0 (line rs) ≡ 0
  stop_any = ap (stop any 0) front_line

  some_any : first any (line rs) ≢ 0
  some_any e = some (sym first_any ∙ e)

  sound_parts : (sound (order_of rs (next_of rs 0)) ≡ true) × (all_sound (behind rs) ≡ true)
  sound_parts = and_parts (sound (order_of rs (next_of rs 0))) (all_sound (behind rs)) (sym (ap all_sound orders_front) ∙ h.1.1.1.1.0)

  pub taken_whole : (rs' : List Record) (here count' : ℕ) → here ≡ next_of rs 0 → rs' ≡ unlinked rs 0 here → count' + 1 ≡ count → Becomes (behind rs) rs rs' count'
  taken_whole rs' here count' e is fewer =
      cut_held any rs count h some_any (behind rs) rs' 0 here count'
      (orders_cut rs any h.1.1.0 h.1.1.1.0 (omega (arith, some_any)) ∙ ap (λ xs. map (order_of rs) (cut_out any xs)) front_line)
      sound_parts.1 (sym stop_any) (e ∙ sym first_any) is fewer

  put_front : (o : Standing) (rs' : List Record) (here count' : ℕ) → sound o ≡ true → here ≡ next_of rs 0 → rs' ≡ with_order rs here o → count' ≡ count → Becomes (o ∷ behind rs) rs rs' count'
  put_front o rs' here count' good e is same =
      let k : ℕ = next_of rs 0 in
      let v : Record = record { order = o; next = next_of rs k; free = free_of rs k } in
      let ys : List ℕ = from rs (next_of rs (next_of rs 0)) in
      let l : line (with_order rs k o) ≡ line rs =
      line_is (with_order rs k o) (line rs)
      (subst (λ s. Chain (next_of (with_order rs k o)) s (line rs)) (sym (keeps (λ r. r.next) rs k v refl 0))
      (frame (next_of rs) (next_of (with_order rs k o)) (next_of rs 0) (line rs) (λ j _. keeps (λ r. r.next) rs k v refl j) (line_chain rs h.1.1.1.0)))
      (omega (arith, h.1.1.1.0, length-set rs k v)) in
      let i : idle (with_order rs k o) ≡ idle rs =
      idle_is (with_order rs k o) (idle rs)
      (subst (λ s. Chain (free_of (with_order rs k o)) s (idle rs)) (sym (keeps (λ r. r.free) rs k v refl 0))
      (frame (free_of rs) (free_of (with_order rs k o)) (free_of rs 0) (idle rs) (λ j _. keeps (λ r. r.free) rs k v refl j) (idle_chain rs h.1.1.1.0)))
      (omega (arith, h.1.1.1.0, length-set rs k v)) in
      let f = formed (with_order rs k o) (line rs) (idle rs) (length rs) (length-set rs k v) l i h.1.1.0 h.1.1.1.0 in
      let here_once : times k ys ≡ 0 = omega (arith, once rs h.1.1.0 k, ap (times k) front_line, times_here k ys) in
      let rest : map (order_of (with_order rs k o)) ys ≡ map (order_of rs) ys =
      map_same (order_of rs) (order_of (with_order rs k o)) ys (λ j m. ap (λ r. r.order) (at_other rs k j v (λ z. omega (arith, ap (λ y. times y ys) z)))) in
      let one : order_of (with_order rs k o) k ≡ o = ap (λ r. r.order) (at_same rs k v (front_below rs h.1.1.0 h.1.1.1.0 some)) in
      let list : orders_in (with_order rs k o) ≡ o ∷ behind rs = ap (map (order_of (with_order rs k o))) (l ∙ front_line) ∙ (cc) in
      let done : Becomes (o ∷ behind rs) rs (with_order rs k o) count' =
      record {
        held = (omega (arith, h.0, length-set rs k v), (omega (arith, same, h.1.0, length_orders rs, length_orders (with_order rs k o), ap length l), (f.0, (f.1, (ap all_sound list ∙ and_from (sound o) (all_sound (behind rs)) good sound_parts.1, tt)))));
        list = list;
        room = ap (λ n. n - 1) (length-set rs k v);
      } in
      subst (λ zs. Becomes (o ∷ behind rs) rs zs count') (sym (is ∙ ap (λ y. with_order rs y o) e)) done

  -- n shares fewer
  pub taken_part : (o : Standing) (n : ℕ) (rs' : List Record) (here count' : ℕ) → o ≡ order_of rs (next_of rs 0) → n ≤ o.shares → n ≢ o.shares → here ≡ next_of rs 0 → rs' ≡ with_order rs here (reduced (order_of rs here) n) → count' ≡ count → Becomes (reduced o n ∷ behind rs) rs rs' count'
  taken_part o n rs' here count' front enough ne e is same =
      put_front (reduced o n) rs' here count' (sound_reduced o n (omega (arith, enough, ne)) (ap sound front ∙ sound_parts.0)) e
      (is ∙ ap (λ x. with_order rs here (reduced x n)) (ap (order_of rs) e ∙ sym front)) same

-- an answer from the front names the first record's order
pub front_known : (rs : List Record) → Apart rs → Whole rs → (o : Standing) → Some o ≡ front_of (orders_in rs) → (next_of rs 0 ≢ 0) × (o ≡ order_of rs (next_of rs 0))
front_known rs apart whole o e =
    let some : next_of rs 0 ≢ 0 = λ z. (let n = front_none rs apart whole z in let never : ◌≡◌ {A = ℕ} 0 1 = cc in omega arith) in
    let f = front_some rs apart whole some in
    (some, (cc))

-- what a take that its check lets pass leaves
module _ (rs : List Record) (count : ℕ) (h : Held count rs) (n : ℕ) (o : Standing) (t : Takes (orders_in rs) n o) where
  known : (next_of rs 0 ≢ 0) × (o ≡ order_of rs (next_of rs 0))
  known = front_known rs h.1.1.0 h.1.1.1.0 o (sym t.front)

  less_behind : (all : Bool) → eqb n o.shares ≡ all → (taken (orders_in rs) n).list ≡ cond all (behind rs) (reduced o n ∷ behind rs)
  less_behind all e =
      t.list
      ∙ ap (λ os. less os n) (orders_front rs count h known.0 ∙ ap (λ x. x ∷ behind rs) (sym known.1))
      ∙ ap (λ b. cond b (behind rs) (reduced o n ∷ behind rs)) e

  pub takes_whole : (rs' : List Record) (here count' : ℕ) → n ≡ o.shares → here ≡ next_of rs 0 → rs' ≡ unlinked rs 0 here → count' + 1 ≡ count → Becomes (taken (orders_in rs) n).list rs rs' count'
  takes_whole rs' here count' e at_front is fewer =
      subst (λ os. Becomes os rs rs' count') (sym (less_behind true (eq-eqb n o.shares e)))
      (taken_whole rs count h known.0 rs' here count' at_front is fewer)

  pub takes_part : (rs' : List Record) (here count' : ℕ) → n ≢ o.shares → here ≡ next_of rs 0 → rs' ≡ with_order rs here (reduced (order_of rs here) n) → count' ≡ count → Becomes (taken (orders_in rs) n).list rs rs' count'
  takes_part rs' here count' ne at_front is same =
      subst (λ os. Becomes os rs rs' count') (sym (less_behind false (ne_eqb n o.shares ne)))
      (taken_part rs count h known.0 o n rs' here count' known.1 t.most ne at_front is same)

-- Finding by number

module _ (rs : List Record) (apart : Apart rs) (whole : Whole rs) (number here : ℕ) (is : here ≡ first (numbered number rs) (line rs)) where
  pub found_below : here ≢ 0 → here < length rs
  found_below some = omega (arith, unlink_here rs (numbered number rs) apart whole (omega (arith, some)))

  pub found_none : here ≡ 0 → None ≡ find number (orders_in rs)
  found_none z =
      sym (find_none number (order_of rs) (line rs) (never_zero (next_of rs) (next_of rs 0) (line rs) (line_chain rs whole)) (sym is ∙ z))

  pub found_some : here ≢ 0 → Some (order_of rs here) ≡ find number (orders_in rs)
  found_some some =
      ap (λ k. Some (order_of rs k)) is ∙ sym (find_some number (order_of rs) (line rs) (omega (arith, some)))

  -- the order found, from where the walk stopped
  pub found_is : cond (eqb here 0) None (Some (order_of rs here)) ≡ find number (orders_in rs)
  found_is =
      ⊎_elim
      (λ (z : here ≡ 0). cond-true (eqb here 0) None (Some (order_of rs here)) (eq-eqb here 0 z) ∙ found_none z)
      (λ (some : here ≢ 0). cond-false (eqb here 0) None (Some (order_of rs here)) (ne_eqb here 0 some) ∙ found_some some)
      (cases_eq here 0)

-- what the ghost fields of a book say together
pub held : {X : Type 0} {d : Ghosts X} (b : Chained X d) → Held b.chains.count b.chains.records.now
held b = (b.few, (b.counted, (b.apart, (b.whole, (b.sound, tt)))))
