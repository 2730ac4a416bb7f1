-- The loop that looks over the books: the trade of a pair takes an order out.
use Rattle.std.proofs.Common.{◌≡◌, ℕ, ◌+◌, ◌<◌, ◌≤◌, min, Bool, true, false, cond, ◌⊎◌, List, [], ◌∷◌, length, set, Some, None, Option, sym, refl, ap, subst, inl, inr, arith}
use Rattle.std.proofs.lemmas.Option.{none-some, same_Some}
use Rattle.std.proofs.lemmas.Bool.Decides.{leb_tells}
use Rattle.books.specs.Lists.{taken, AllSound}
use Rattle.books.specs.declared.standing.Standing.{Standing}
use Rattle.rules.specs.Sides.{Rule, bids, asks}
use Rattle.rules.specs.declared.price.Quote.{Quote}
use Rattle.matching.specs.Looking.{Books, best_in, pair, either_pair, pair_in, paired, trade_in, pair_step, look_step, standing_in, looked, Looks}
use Rattle.matching.specs.Trades.{Step}
use Rattle.matching.specs.declared.pair.Pair.{Pair}
use Rattle.matching.specs.declared.pair.Pair.TheVariants.{Sale, Purchase}
use Rattle.matching.specs.declared.trade.Trade.{Trade}
use Rattle.matching.proofs.Fronts.{sound_shares, taken_all, taken_least, taken_sound}
use Rattle.matching.proofs.Going.{steps_but_one, Progress, progress_none, progress_more, progress_state, progress_count, progress_list}

pub kept_some : {X : Type 0} (b : Bool) (x y : X) → cond b (Some x) None ≡ Some y → x ≡ y
kept_some true x y e = same_Some _ _ e
kept_some false x y e = absurd (none-some _ e)

both_fewer : (d : Standing) (ds : List Standing) (k : Standing) (ks : List Standing) → 0 < d.shares → 0 < k.shares → length (taken (d ∷ ds) (min d.shares k.shares)).list + length (taken (k ∷ ks) (min d.shares k.shares)).list < length (d ∷ ds) + length (k ∷ ks)
both_fewer d ds k ks some_d some_k =
    let q = min d.shares k.shares in
    let some : 0 < q = omega arith in
    let in_d : q ≤ d.shares = omega arith in
    let in_k : q ≤ k.shares = omega arith in
    elim (leb_tells d.shares k.shares) [
      | inl h ↦ omega (arith, ap length (taken_all d ds q some in_d (omega arith)), taken_least k ks q some in_k)
      | inr h ↦ omega (arith, ap length (taken_all k ks q some in_k (omega arith)), taken_least d ds q some in_d)
    ]

-- the shares of a pair's trade take at least one of the two orders out
pub pair_fewer : (rule : Rule) (increment : ℕ) (best : Quote) (displayed dark : List Standing) (t : Trade) → pair rule increment best displayed dark ≡ Some t → AllSound displayed → AllSound dark → length (taken displayed t.shares).list + length (taken dark t.shares).list < length displayed + length dark
pair_fewer rule increment best [] dark t is sd sk = absurd (none-some _ is)
pair_fewer rule increment best (d ∷ ds) [] t is sd sk = absurd (none-some _ is)
pair_fewer rule increment best (d ∷ ds) (k ∷ ks) t is sd sk =
    let P : Trade → Type 0 = λ u. length (taken (d ∷ ds) u.shares).list + length (taken (k ∷ ks) u.shares).list < length (d ∷ ds) + length (k ∷ ks) in
    subst P (kept_some _ _ _ is) (both_fewer d ds k ks (sound_shares d sd.0) (sound_shares k sk.0))

abbrev pub AllKept : Books → Type 0
AllKept books = AllSound books.bids × AllSound books.asks × AllSound books.dark_bids × AllSound books.dark_asks

module _ (increment : ℕ) (away : Quote) where
  -- which of the two pairs it is
  pub either : (sale purchase : Option Trade) (p : Pair) → either_pair sale purchase ≡ Some p → ((t : Trade) × (sale ≡ Some t) × (p ≡ Sale t)) ⊎ ((t : Trade) × (purchase ≡ Some t) × (p ≡ Purchase t))
  either (Some t) purchase p is = inl (t, refl, sym (same_Some _ _ is))
  either None (Some t) p is = inr (t, refl, sym (same_Some _ _ is))
  either None None p is = absurd (none-some _ is)

  pub paired_fewer : (books : Books) (p : Pair) → pair_in increment away books ≡ Some p → AllKept books → standing_in (paired p books) < standing_in books
  paired_fewer books p is kept =
      elim (either (pair bids increment (best_in away books) books.asks books.dark_bids) (pair asks increment (best_in away books) books.bids books.dark_asks) p is) [
        | inl h ↦ rw h.2 (omega (arith, pair_fewer bids increment (best_in away books) books.asks books.dark_bids h.0 h.1 kept.1 kept.2))
        | inr h ↦ rw h.2 (omega (arith, pair_fewer asks increment (best_in away books) books.bids books.dark_asks h.0 h.1 kept.0 kept.3))
      ]

  -- the steps that are left suffice
  pub record Looking (start : Books) (list : List Trade) (books : Books) (listed : List Trade) (count : ℕ) : Type 0 where
    pub so_far : Progress (look_step increment away) (standing_in start) start list books listed count
    pub enough : standing_in books ≤ so_far.rest

  pub looking_none : (start : Books) (list : List Trade) → Looking start list start list 0
  looking_none start list = record {
    so_far = progress_none (look_step increment away) (standing_in start) start list;
    enough = omega arith;
  }

  pub looking_more : (start : Books) (list : List Trade) (books : Books) (listed : List Trade) (count : ℕ) (p : Pair) → Looking start list books listed count → pair_in increment away books ≡ Some p → AllKept books → Looking start list (paired p books) (set listed count (trade_in p)) (count + 1)
  looking_more start list books listed count p l is kept =
      let down = paired_fewer books p is kept in
      record {
        so_far =
            progress_more (look_step increment away) (standing_in start) start list books listed count l.so_far _
            (ap (pair_step books) is) (omega (arith, l.enough, down));
        enough = omega (arith, l.enough, down);
      }

  -- the same, of what a turn of the loop leaves
  pub looking_turn : (start : Books) (list : List Trade) (books after : Books) (listed more : List Trade) (count : ℕ) (p : Pair) → Looking start list books listed count → pair_in increment away books ≡ Some p → AllKept books → after ≡ paired p books → more ≡ set listed count (trade_in p) → Looking start list after more (count + 1)
  looking_turn start list books after listed more count p l is kept ea em = rw (ea, em) (looking_more start list books listed count p l is kept)

  pub turn_fewer : (books after : Books) (p : Pair) → pair_in increment away books ≡ Some p → AllKept books → after ≡ paired p books → standing_in after < standing_in books
  turn_fewer books after p is kept ea = rw ea (paired_fewer books p is kept)

  pub looking_all : (start : Books) (list : List Trade) (books : Books) (listed : List Trade) (count : ℕ) → Looking start list books listed count → pair_in increment away books ≡ None → Looks (looked increment away start) books list listed count
  looking_all start list books listed count l none =
      let stop = ap (pair_step books) none in
      record {
        books_is = progress_state (look_step increment away) (standing_in start) start list books listed count l.so_far stop;
        count_is = progress_count (look_step increment away) (standing_in start) start list books listed count l.so_far stop;
        list_is = progress_list (look_step increment away) (standing_in start) start list books listed count l.so_far stop;
      }

  pub paired_sound : (p : Pair) (books : Books) → AllKept books → AllKept (paired p books)
  paired_sound (Sale t) books k = (k.0, taken_sound books.asks t.shares k.1, taken_sound books.dark_bids t.shares k.2, k.3)
  paired_sound (Purchase t) books k = (taken_sound books.bids t.shares k.0, k.1, k.2, taken_sound books.dark_asks t.shares k.3)

  pub look_falls : (books : Books) (o : Option Pair) (s : Step Books) → pair_in increment away books ≡ o → pair_step books o ≡ Some s → AllKept books → AllKept s.after × (standing_in s.after < standing_in books)
  look_falls books None s is step kept = absurd (none-some _ step)
  look_falls books (Some p) s is step kept =
      subst (λ r. AllKept r.after × (standing_in r.after < standing_in books)) (same_Some _ _ step)
      (paired_sound p books kept, paired_fewer books p is kept)

  pair_two : (rule : Rule) (best : Quote) (displayed dark : List Standing) (t : Trade) → pair rule increment best displayed dark ≡ Some t → 2 ≤ length displayed + length dark
  pair_two rule best [] dark t is = absurd (none-some _ is)
  pair_two rule best (d ∷ ds) [] t is = absurd (none-some _ is)
  pair_two rule best (d ∷ ds) (k ∷ ks) t is = omega arith

  look_two : (books : Books) (o : Option Pair) (s : Step Books) → pair_in increment away books ≡ o → pair_step books o ≡ Some s → 2 ≤ standing_in books
  look_two books None s is step = absurd (none-some _ step)
  look_two books (Some p) s is step =
      elim (either (pair bids increment (best_in away books) books.asks books.dark_bids) (pair asks increment (best_in away books) books.bids books.dark_asks) p is) [
        | inl h ↦ omega (arith, pair_two bids (best_in away books) books.asks books.dark_bids h.0 h.1)
        | inr h ↦ omega (arith, pair_two asks (best_in away books) books.bids books.dark_asks h.0 h.1)
      ]

  -- looking over makes at least one trade fewer than orders stand
  pub looked_but_one : (books : Books) → AllKept books → 0 < length (looked increment away books).trades → length (looked increment away books).trades < standing_in books
  looked_but_one books kept =
      steps_but_one (look_step increment away) AllKept standing_in (λ x s is. look_falls x (pair_in increment away x) s refl is)
      (λ x s is. look_two x (pair_in increment away x) s refl is) (standing_in books) books kept
