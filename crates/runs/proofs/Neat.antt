-- What four books of a run keep, as an order of one side sees them.
use Rattle.std.proofs.Common.{◌≡◌, ℕ, ◌+◌, ◌≤◌, true, List, [], ◌∷◌, arith}
use Rattle.books.proofs.Past.{each_both}
use Rattle.books.specs.Arranging.{tally}
use Rattle.books.specs.Histories.{Each}
use Rattle.books.specs.declared.standing.Standing.{Standing}
use Rattle.matching.specs.Sets.{met_rule, own_rule, seen_from, facing}
use Rattle.matching.specs.Looking.{Books}
use Rattle.matching.specs.Placing.{View}
use Rattle.rules.specs.declared.terms.SideName.{SideName}
use Rattle.rules.specs.declared.terms.SideName.TheVariants.{Bid, Ask}
use Rattle.runs.proofs.Lowering.{Good}

-- each displayed order of that side is beyond those that it would meet
abbrev pub Clear : SideName → (own displayed : List Standing) → Type 0
Clear side own displayed = Each (λ o. Each (λ d. (met_rule side).ahead o.price d.price ≡ true) displayed) own

pub record NeatView (side : SideName) (issued : ℕ) (v : View) : Type 0 where
  pub displayed_good : Good (met_rule side) issued v.displayed
  pub dark_good : Good (met_rule side) issued v.dark
  pub own_good : Good (own_rule side) issued v.own
  pub own_dark_good : Good (own_rule side) issued v.own_dark
  pub once : (n : ℕ) → tally n v.displayed + tally n v.dark + tally n v.own + tally n v.own_dark ≤ 1
  pub clear : Clear side v.own v.displayed

abbrev pub Neat : (issued : ℕ) → Books → Type 0
Neat issued b = NeatView Bid issued (facing Bid b)

each_trivial : (ys : List Standing) → Each (λ _. Unit {0}) ys
each_trivial [] = tt
each_trivial (y ∷ ys) = (tt, each_trivial ys)

pub each_swap : (R : Standing → Standing → Type 0) (xs ys : List Standing) → Each (λ x. Each (R x) ys) xs → Each (λ y. Each (λ x. R x y) xs) ys
each_swap R [] ys h = each_trivial ys
each_swap R (x ∷ xs) ys h = each_both (R x) (λ y. Each (λ z. R z y) xs) ys h.0 (each_swap R xs ys h.1)

-- the same books seen from the other side
abbrev turned : View → View
turned v = record { displayed = v.own; dark = v.own_dark; own = v.displayed; own_dark = v.dark }

turned_neat_bid : (issued : ℕ) (v : View) → NeatView Bid issued v → NeatView Ask issued (turned v)
turned_neat_bid issued v n = record {
  displayed_good = n.own_good;
  dark_good = n.own_dark_good;
  own_good = n.displayed_good;
  own_dark_good = n.dark_good;
  once = λ m. omega (arith, n.once m);
  clear = each_swap (λ o d. (met_rule Bid).ahead o.price d.price ≡ true) v.own v.displayed n.clear;
}

turned_neat_ask : (issued : ℕ) (v : View) → NeatView Ask issued v → NeatView Bid issued (turned v)
turned_neat_ask issued v n = record {
  displayed_good = n.own_good;
  dark_good = n.own_dark_good;
  own_good = n.displayed_good;
  own_dark_good = n.dark_good;
  once = λ m. omega (arith, n.once m);
  clear = each_swap (λ o d. (met_rule Ask).ahead o.price d.price ≡ true) v.own v.displayed n.clear;
}

pub neat_facing : (side : SideName) (issued : ℕ) (b : Books) → Neat issued b → NeatView side issued (facing side b)
neat_facing Bid issued b n = n
neat_facing Ask issued b n = turned_neat_bid issued (facing Bid b) n

pub neat_seen : (side : SideName) (issued : ℕ) (v : View) → NeatView side issued v → Neat issued (seen_from side v)
neat_seen Bid issued v n = n
neat_seen Ask issued v n = turned_neat_ask issued v n
