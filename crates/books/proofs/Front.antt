-- The front by priority among orders by arrival, one order more at a time.
use Rattle.std.proofs.Common.{◌≡◌, ℕ, ◌+◌, ◌<◌, Bool, true, false, cond, List, [], ◌∷◌, ◌++◌, length, get_or, take, slice_index_or, IsTrue, MatchOption, Option, Some, None, sym, ap, ◌∙◌, arith}
use Rattle.std.proofs.lemmas.List.{take_more, get_or-take, length-take-le, length-take, nil_from_length}
use Rattle.rules.specs.Sides.{Rule}
use Rattle.books.specs.Arranging.{arranged}
use Rattle.books.specs.Lists.{front_of}
use Rattle.books.specs.Packing.{blank, Front}
use Rattle.books.specs.declared.standing.Standing.{Standing}
use Rattle.books.proofs.Arranged.{front_more}

module _ (rule : Rule) (xs : List Standing) (i : ℕ) (l : i < length xs) where
  -- at the i-th order
  abbrev pub Ahead : (first : ℕ) → Bool → Type 0
  Ahead first r = r ≡ rule.ahead (get_or xs i blank).price (get_or xs first blank).price

  placed : (b : ℕ) → b < i + 1 → front_of (arranged rule (take (i + 1) xs)) ≡ Some (slice_index_or xs b blank) →
      Front rule (take (i + 1) xs) (Some b)
  placed b m e = (
    omega (arith, m, length-take-le (i + 1) xs (omega arith)),
    e ∙ ap Some (sym (get_or-take (i + 1) xs b blank m)),
  )

  alone : length (take i xs) ≡ 0 → front_of (arranged rule (take (i + 1) xs)) ≡ Some (slice_index_or xs i blank)
  alone z =
      ap (λ os. front_of (arranged rule os)) (take_more xs i blank l) ∙
      ap (λ os. front_of (arranged rule (os ++ slice_index_or xs i blank ∷ []))) (nil_from_length (take i xs) z)

  stays : (b : ℕ) (r : Bool) → front_of (arranged rule (take i xs)) ≡ Some (slice_index_or xs b blank) → Ahead b r →
      front_of (arranged rule (take (i + 1) xs)) ≡ Some (cond r (slice_index_or xs i blank) (slice_index_or xs b blank))
  stays b r f a =
      front_more rule xs i b l f ∙
      ap (λ k. Some (cond k (slice_index_or xs i blank) (slice_index_or xs b blank))) (sym a)

  pub front_step : (best : Option ℕ) (r : Bool) → Front rule (take i xs) best → MatchOption best (IsTrue r) (λ first. Ahead first r) →
      Front rule (take (i + 1) xs) (cond r (Some i) best)
  front_step None true f a = placed i (omega arith) (alone f)
  front_step None false f a = cc
  front_step (Some b) true f a =
      placed i (omega arith) (stays b true (f.1 ∙ ap Some (get_or-take i xs b blank (omega (arith, f.0, length-take i xs)))) a)
  front_step (Some b) false f a =
      placed b (omega (arith, f.0, length-take i xs))
      (stays b false (f.1 ∙ ap Some (get_or-take i xs b blank (omega (arith, f.0, length-take i xs)))) a)

pub match_map : {X : Type 0} (o : Option X) (P : Type 0) (Q R : X → Type 0) → ((x : X) → Q x → R x) → MatchOption o P Q → MatchOption o P R
match_map None P Q R f h = h
match_map (Some x) P Q R f h = f x h
