-- What the spots of a packed book hold after a change, and what the place of an order says of the arranged list.
use Rattle.std.specs.Prelude.{◌≡◌, ℕ, ◌+◌, ◌-◌, ◌<◌, ◌≤◌, Bool, true, false, not, ◌&&◌, List, [], ◌∷◌, ◌++◌, length, get_or, take, drop, set, is_some, Some, None, Option, ◌≢◌, slice_index_or, slice_set, refl}
use Rattle.std.proofs.Common.{sym, ap, ◌∙◌, arith}
use Rattle.std.proofs.Math.Seq.{paste, take-set-lt}
use Rattle.std.proofs.lemmas.Bool.{both_ways}
use Rattle.std.proofs.lemmas.List.Edits.{length-paste}
use Rattle.std.proofs.lemmas.List.{take_more_set, length-set, length-drop, length-take-le, get_or-take, take-set-le, take_all}
use Rattle.std.specs.List.{remove}
use Rattle.rules.specs.Sides.{Rule, Lawful}
use Rattle.books.specs.Arranging.{all_sound, tally, Distinct, arranged}
use Rattle.books.specs.Lists.{sound, reduced, find, stands, without, less}
use Rattle.books.specs.Packing.{blank, moved_down, Place, Front}
use Rattle.books.specs.declared.standing.Standing.{Standing}
use Rattle.books.proofs.Arranged.{tally_arrange, find_none, find_at, without_at}
use Rattle.books.proofs.Arranged as arranging
use Rattle.books.proofs.Keeping.{Good, all_sound_split, kept_push, kept_reduced, kept_removed}
use Rattle.books.proofs.Parts.{absent_tally, most_from_sound}
use Rattle.books.proofs.Spots.{closed_held}

-- Bare spots, of which the first n are in use

pub length_held : (spots : List Standing) (n : ℕ) → n ≤ length spots → length (take n spots) ≡ n
length_held spots n m = length-take-le n spots m

pub read : (spots : List Standing) (n i : ℕ) → i < n → slice_index_or (take n spots) i blank ≡ slice_index_or spots i blank
read spots n i l = get_or-take n spots i blank l

pub below : (spots : List Standing) (n i : ℕ) → n ≤ length spots → i < n → i < length (take n spots)
below spots n i m l = omega (arith, l, length_held spots n m)

-- the spots up to the end move down over the one at i
pub taken_down : (xs : List Standing) (i n : ℕ) → n ≤ length xs → i < n → take (n - 1) (moved_down xs i n) ≡ remove (take n xs) i
taken_down xs i n m l =
    take-set-le (n - 1) (paste xs i (drop (i + 1) xs) (n - (i + 1))) (n - 1) blank (omega arith) ∙
    closed_held xs n i (take n xs) refl m (below xs n i m l)

pub length_moved : (xs : List Standing) (i n : ℕ) → n ≤ length xs → i < n → length (moved_down xs i n) ≡ length xs
length_moved xs i n m l =
    length-set (paste xs i (drop (i + 1) xs) (n - (i + 1))) (n - 1) blank ∙
    length-paste xs i (drop (i + 1) xs) (n - (i + 1)) (omega arith) (omega (arith, length-drop (i + 1) xs))

pub held_pushed : (spots : List Standing) (n : ℕ) (o : Standing) → n < length spots →
    take (n + 1) (slice_set spots n o) ≡ take n spots ++ o ∷ []
held_pushed spots n o l = take_more_set spots n o l

pub held_less : (spots : List Standing) (n i : ℕ) → i < n → (k : ℕ) →
    take n (slice_set spots i (reduced (slice_index_or spots i blank) k)) ≡
    slice_set (take n spots) i (reduced (slice_index_or (take n spots) i blank) k)
held_less spots n i l k =
    take-set-lt n spots i (reduced (slice_index_or spots i blank) k) l ∙
    ap (λ o. set (take n spots) i (reduced o k)) (sym (read spots n i l))

pub held_closed : (spots : List Standing) (n i : ℕ) → n ≤ length spots → i < n →
    take (n - 1) (moved_down spots i n) ≡ remove (take n spots) i
held_closed spots n i m l = taken_down spots i n m l

-- Orders by arrival

pub shares_most : (os : List Standing) (i : ℕ) → all_sound os ≡ true → i < length os → (get_or os i blank).shares ≤ 10000000
shares_most os i h l = most_from_sound (slice_index_or os i blank) (all_sound_split os i l h).0

module _ (os : List Standing) (good : Good os) where
  pub good_pushed : (o : Standing) → length os < 32 → sound o ≡ true → tally o.number os ≡ 0 → Good (os ++ o ∷ [])
  good_pushed o l s f = kept_push os good o l s f

  pub good_less : (i : ℕ) → i < length os → (k : ℕ) → k < (get_or os i blank).shares →
      Good (slice_set os i (reduced (slice_index_or os i blank) k))
  good_less i l k m = kept_reduced os good i l k m

  pub good_closed : (i : ℕ) → i < length os → Good (remove os i)
  good_closed i l = kept_removed os good i l

-- What a place says of the arranged list: any place of the number, not only the first

pub tally_absent : (os : List Standing) (n : ℕ) → Place n os None → tally n os ≡ 0
tally_absent os n p = ap (tally n) (sym (take_all (length os) os (omega arith))) ∙ absent_tally n os (length os) p

pub absent_arranged : (rule : Rule) (os : List Standing) (n : ℕ) → Place n os None → find n (arranged rule os) ≡ None
absent_arranged rule os n p =
    find_none n (arranged rule os) (omega (arith, tally_absent os n p, tally_arrange n rule os []))

pub fresh : (os : List Standing) (n : ℕ) → (r : Option ℕ) → Place n os r → false ≡ is_some r → tally n os ≡ 0
fresh os n None p e = tally_absent os n p
fresh os n (Some i) p e = absurd (both_ways true (sym e) refl)

module _ (rule : Rule) (os : List Standing) (good : Good os) where
  pub find_place : (n i : ℕ) → Place n os (Some i) → find n (arranged rule os) ≡ Some (slice_index_or os i blank)
  find_place n i p = ap (λ m. find m (arranged rule os)) (sym p.1) ∙ find_at rule os i p.0 good.2

  pub stands_place : (n : ℕ) (r : Option ℕ) → Place n os r → stands n (arranged rule os) ≡ is_some r
  stands_place n None p = ap is_some (absent_arranged rule os n p)
  stands_place n (Some i) p = ap is_some (find_place n i p)

  pub gone_place : Lawful rule → (n i : ℕ) → Place n os (Some i) → arranged rule (remove os i) ≡ without n (arranged rule os)
  gone_place law n i p = without_at rule os i p.0 good.2 law ∙ ap (λ m. without m (arranged rule os)) p.1

  pub gone_front : Lawful rule → (i : ℕ) → Front rule os (Some i) → (k : ℕ) → k ≡ (get_or os i blank).shares →
      arranged rule (remove os i) ≡ less (arranged rule os) k
  gone_front law i p k e = arranging.gone_at rule os i p.0 good.2 p.1 law k e

  pub less_front : (i : ℕ) → Front rule os (Some i) → (k : ℕ) → (k ≢ (get_or os i blank).shares) →
      arranged rule (slice_set os i (reduced (slice_index_or os i blank) k)) ≡ less (arranged rule os) k
  less_front i p k d = arranging.reduced_front rule os i p.0 good.2 p.1 k d

  -- whether an order can be added, from the two tests of it
  pub fit_place : (o : Standing) (r : Option ℕ) → Place o.number os r → (is there : Bool) → is ≡ sound o → there ≡ is_some r →
      (sound o && not (stands o.number (arranged rule os))) ≡ (is && not there)
  fit_place o r p is there e f = let s = stands_place o.number r p in cc
