-- What each call on the arrivals comes to for the arranged list.
use Rattle.std.proofs.Common.{◌≡◌, ℕ, ◌<◌, ◌≢◌, List, [], ◌∷◌, ◌++◌, length, get_or, Some, None, Ok, Err, slice_index_or, slice_set, position, sym, ap, ◌∙◌, arith}
use Rattle.std.specs.List.{remove}
use Rattle.rules.specs.Sides.{Rule, Lawful}
use Rattle.rules.specs.declared.refusal.Refusal.TheVariants.{NotStanding}
use Rattle.books.specs.Arranging.{tally, Distinct, arranged}
use Rattle.books.specs.Laws.{length_arranged}
use Rattle.books.specs.Lists.{reduced, added, taken, removed}
use Rattle.books.specs.Packing.{blank, Front}
use Rattle.books.specs.declared.standing.Standing.{Standing}
use Rattle.books.proofs.Arranged.{numbered, absent_arranged, find_place, stands_place, fresh, arranged_push, gone_place, gone_at, reduced_front}
use Rattle.books.proofs.Outcomes.{Fits, Takes, removed_none, removed_is}

module _ (rule : Rule) (os : List Standing) where
  pub remove_none : (n : ℕ) → position (numbered n) os ≡ None →
      removed n (arranged rule os) ≡ record { answer = Err NotStanding; list = arranged rule os }
  remove_none n e = removed_none (arranged rule os) n (absent_arranged rule os n e)

  module _ (d : Distinct os) where
    module _ (o : Standing) (f : Fits 32 (arranged rule os) o) where
      pub add_room : length os < 32
      add_room = omega (arith, f.room, length_arranged rule os)

      pub add_fresh : tally o.number os ≡ 0
      add_fresh = fresh os o.number (sym (stands_place rule os d o.number) ∙ f.new)

      pub add_new : arranged rule (os ++ o ∷ []) ≡ (added rule 32 (arranged rule os) o).list
      add_new = arranged_push rule os o ∙ sym (f.list rule)

    pub remove_at : Lawful rule → (n i : ℕ) → position (numbered n) os ≡ Some i →
        removed n (arranged rule os) ≡ record { answer = Ok (slice_index_or os i blank).shares; list = arranged rule (remove os i) }
    remove_at law n i e =
        removed_is (arranged rule os) (slice_index_or os i blank) n (find_place rule os d n i e) ∙
        ap (λ l. record { answer = Ok (slice_index_or os i blank).shares; list = l }) (sym (gone_place rule os d n law i e))

    module _ (i k : ℕ) (y : Standing) (front : Front rule os (Some i)) (t : Takes (arranged rule os) k y) where
      front_shares : y.shares ≡ (get_or os i blank).shares
      front_shares = let a = front.1 in let b = t.front in let e : y ≡ slice_index_or os i blank = cc in ap (λ o. o.shares) e

      pub take_fewer : k ≢ y.shares → k < (get_or os i blank).shares
      take_fewer ne = omega (arith, t.most, ne, front_shares)

      pub take_whole : Lawful rule → k ≡ y.shares → arranged rule (remove os i) ≡ (taken (arranged rule os) k).list
      take_whole law e = gone_at rule os i front.0 d front.1 law k (e ∙ front_shares) ∙ sym t.list

      pub take_part : k ≢ y.shares →
          arranged rule (slice_set os i (reduced (slice_index_or os i blank) k)) ≡ (taken (arranged rule os) k).list
      take_part ne = reduced_front rule os i front.0 d front.1 k (λ e. ne (e ∙ sym front_shares)) ∙ sym t.list
