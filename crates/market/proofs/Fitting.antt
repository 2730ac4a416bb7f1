-- No call makes more trades than orders stood before it.
use Rattle.std.proofs.Common.{◌≡◌, ℕ, zero, suc, ◌+◌, ◌<◌, ◌≤◌, Bool, true, false, cond, not, ◌&&◌, eqb, ltb, List, [], ◌∷◌, ◌++◌, length, Some, None, Ok, Option, refl, ap, arith, length-append}
use Rattle.books.specs.Lists.{AllSound, sound, stands, put, added, add_refusal, find, removed, removed_found, without, unless as unless-added}
use Rattle.books.specs.declared.standing.Standing.{Standing}
use Rattle.market.specs.Bounds.{SoundBooks, TradesFit}
use Rattle.market.specs.Calls.{State, Done, unless, look_in, placed_at, booked_at, entered_by, entry_refusal, entry_of, cancel_refusal, notice_refusal, aside_refusal, resume_refusal}
use Rattle.market.specs.Quoting.{away_of, quoted, dropped}
use Rattle.matching.specs.Sets.{Rooms, met_rule, own_rule, own_room, facing, seen_from, find_either, first_found, unless_found, without_in, placed_in}
use Rattle.market.specs.declared.phase.Phase.{Phase}
use Rattle.market.specs.declared.phase.Phase.TheVariants.{Open, Halted, Closed}
use Rattle.market.proofs.Handled.{placed_few, looked_few}
use Rattle.matching.proofs.Pairs.{looked_but_one}
use Rattle.matching.proofs.Turns.{matched_spends, matched_sounds}
use Rattle.matching.specs.Looking.{Books, standing_in, looked}
use Rattle.matching.specs.Matching.{Scene}
use Rattle.matching.specs.Placing.{View, Placed, around_in, met, rest_of, is_booked, booked_in, placed}
use Rattle.matching.specs.Trades.{Steps}
use Rattle.matching.specs.Ways.{way_of}
use Rattle.matching.specs.declared.candidate.Entry.{Entry}
use Rattle.matching.specs.declared.way.Rest.{Rest}
use Rattle.rules.specs.Refusals.{check}
use Rattle.rules.specs.Sides.{Rule}
use Rattle.rules.specs.declared.price.Quote.{Quote}
use Rattle.rules.specs.declared.refusal.Refusal.{Refusal}
use Rattle.rules.specs.declared.refusal.Refusal.TheVariants.{BadOrder, BookFull}
use Rattle.rules.specs.declared.terms.SideName.{SideName}
use Rattle.rules.specs.declared.terms.SideName.TheVariants.{Bid, Ask}

-- Booking an order makes a list longer by one at the most, and keeps its orders sound

pub put_length : (rule : Rule) (o : Standing) (orders : List Standing) → length (put rule o orders) ≡ suc (length orders)
put_length rule o [] = refl
put_length rule o (x ∷ xs) =
    let P : Bool → Type 0 = λ b. length (cond b (o ∷ x ∷ xs) (x ∷ put rule o xs)) ≡ suc (length (x ∷ xs)) in
    elim (rule.ahead o.price x.price) as P [ true ↦ refl | false ↦ ap suc (put_length rule o xs) ]

pub put_sound : (rule : Rule) (o : Standing) (orders : List Standing) → sound o ≡ true → AllSound orders → AllSound (put rule o orders)
put_sound rule o [] is sounds = (is, sounds)
put_sound rule o (x ∷ xs) is sounds =
    let P : Bool → Type 0 = λ b. AllSound (cond b (o ∷ x ∷ xs) (x ∷ put rule o xs)) in
    elim (rule.ahead o.price x.price) as P [ true ↦ (is, sounds) | false ↦ (sounds.0, put_sound rule o xs is sounds.1) ]

added_length : (rule : Rule) (places : ℕ) (orders : List Standing) (o : Standing) → length (added rule places orders o).list ≤ length orders + 1
added_length rule places orders o =
    let P : Option Refusal → Type 0 = λ r. length (unless-added r orders (record { answer = Ok (tt {0}); list = put rule o orders })).list ≤ length orders + 1 in
    elim (add_refusal places orders o) as P [ None ↦ omega (arith, put_length rule o orders) | Some e ↦ omega arith ]

both_first : (a b : Bool) → (a && b) ≡ true → a ≡ true
both_first true b h = refl
both_first false b h = h

added_sound : (rule : Rule) (places : ℕ) (orders : List Standing) (o : Standing) → AllSound orders → AllSound (added rule places orders o).list
added_sound rule places orders o sounds =
    let later = check (ltb (length orders) places) BookFull None in
    let P : Bool → Type 0 = λ b. (sound o && not (stands o.number orders)) ≡ b → AllSound (unless-added (check b BadOrder later) orders (record { answer = Ok (tt {0}); list = put rule o orders })).list in
    let R : Option Refusal → Type 0 = λ r. sound o ≡ true → AllSound (unless-added r orders (record { answer = Ok (tt {0}); list = put rule o orders })).list in
    elim (sound o && not (stands o.number orders)) as P [
      | true ↦ λ is. elim later as R [ None ↦ λ s. put_sound rule o orders s sounds | Some e ↦ λ _. sounds ] (both_first (sound o) _ is)
      | false ↦ λ _. sounds
    ] refl

abbrev one_if : Bool → ℕ
one_if b = cond b 1 0

booked_length : (b : Bool) (own : Rule) (places : ℕ) (entry : Entry) (shares : ℕ) (orders : List Standing) → length (booked_in b own places entry shares orders) ≤ length orders + one_if b
booked_length true own places entry shares orders = added_length own places orders (record { number = entry.number; price = entry.bound; shares = shares })
booked_length false own places entry shares orders = omega arith

booked_sound : (b : Bool) (own : Rule) (places : ℕ) (entry : Entry) (shares : ℕ) (orders : List Standing) → AllSound orders → AllSound (booked_in b own places entry shares orders)
booked_sound true own places entry shares orders sounds = added_sound own places orders (record { number = entry.number; price = entry.bound; shares = shares }) sounds
booked_sound false own places entry shares orders sounds = sounds

-- only a rest with open shares is booked, in one of the two books
booked_once : (rule : Rule) (rest : Rest) (displayed : Bool) → one_if (is_booked (way_of rule rest) && displayed) + one_if (is_booked (way_of rule rest) && not displayed) ≤ cond (eqb rest.shares 0) 0 1
booked_once rule rest displayed =
    let P : Bool → Type 0 = λ b. eqb rest.shares 0 ≡ b → one_if (is_booked (way_of rule rest) && displayed) + one_if (is_booked (way_of rule rest) && not displayed) ≤ cond b 0 1 in
    elim (eqb rest.shares 0) as P [ true ↦ λ e. rw e (omega arith) | false ↦ λ _. split (is_booked (way_of rule rest)) displayed ] refl
  where
    split : (a b : Bool) → one_if (a && b) + one_if (a && not b) ≤ 1
    split true true = omega arith
    split true false = omega arith
    split false b = omega arith

at_most_one : (b : Bool) → cond b 0 1 ≤ 1
at_most_one true = omega arith
at_most_one false = omega arith

abbrev view_length : View → ℕ
view_length v = length v.displayed + length v.dark + length v.own + length v.own_dark

abbrev SoundView : View → Type 0
SoundView v = AllSound v.displayed × AllSound v.dark × AllSound v.own × AllSound v.own_dark

module _ (rule own : Rule) (increment : ℕ) (away : Quote) (places dark_places : ℕ) (entry : Entry) (view : View) (sounds : SoundView view) where
  -- the trades made and the orders left are one more than the orders that stood, at the most
  placed_spends : length (placed rule own increment away places dark_places entry view).trades + view_length (placed rule own increment away places dark_places entry view).view ≤ view_length view + 1
  placed_spends =
      let start : Scene = record { displayed = view.displayed; dark = view.dark; shares = entry.shares } in
      let m : Steps Scene = met rule increment away entry view in
      let rest : Rest = rest_of rule away entry m.state in
      let spent = matched_spends rule entry (around_in increment away view) start (sounds.0, sounds.1) in
      let once = booked_once rule rest entry.displayed in
      let some : cond (eqb entry.shares 0) 0 1 ≤ 1 = at_most_one (eqb entry.shares 0) in
      omega (
        arith,
        spent,
        once,
        some,
        booked_length (is_booked (way_of rule rest) && entry.displayed) own places entry m.state.shares view.own,
        booked_length (is_booked (way_of rule rest) && not entry.displayed) own dark_places entry m.state.shares view.own_dark,
      )

  placed_sounds : SoundView (placed rule own increment away places dark_places entry view).view
  placed_sounds =
      let start : Scene = record { displayed = view.displayed; dark = view.dark; shares = entry.shares } in
      let m : Steps Scene = met rule increment away entry view in
      let rest : Rest = rest_of rule away entry m.state in
      let s = matched_sounds rule entry (around_in increment away view) start (sounds.0, sounds.1) in (
        s.0,
        s.1,
        booked_sound (is_booked (way_of rule rest) && entry.displayed) own places entry m.state.shares view.own sounds.2,
        booked_sound (is_booked (way_of rule rest) && not entry.displayed) own dark_places entry m.state.shares view.own_dark sounds.3,
      )

seen_length : (side : SideName) (v : View) → standing_in (seen_from side v) ≡ view_length v
seen_length Bid v = omega arith
seen_length Ask v = omega arith

facing_length : (side : SideName) (b : Books) → view_length (facing side b) ≡ standing_in b
facing_length Bid b = omega arith
facing_length Ask b = omega arith

facing_sounds : (side : SideName) (b : Books) → SoundBooks b → SoundView (facing side b)
facing_sounds Bid b s = (s.1, s.3, s.0, s.2)
facing_sounds Ask b s = (s.0, s.2, s.1, s.3)

seen_sounds : (side : SideName) (v : View) → SoundView v → SoundBooks (seen_from side v)
seen_sounds Bid v s = (s.2, s.0, s.3, s.1)
seen_sounds Ask v s = (s.0, s.2, s.1, s.3)

together : (m l left stood : ℕ) → m ≤ stood → m + left ≤ stood + 1 → (0 < l → l < left) → m + l ≤ stood
together m zero left stood few spent but_one = omega arith
together m (suc l) left stood few spent but_one = omega (arith, but_one (omega arith))

entry_fits : (side : SideName) (increment : ℕ) (away : Quote) (rooms : Rooms) (entry : Entry) (books : Books) → SoundBooks books → length ((placed_in side increment away rooms entry books).trades ++ (looked increment away (seen_from side (placed_in side increment away rooms entry books).view)).trades) ≤ standing_in books
entry_fits side increment away rooms entry books sounds =
    let p : Placed = placed_in side increment away rooms entry books in
    let after : Books = seen_from side p.view in
    let view_sounds = facing_sounds side books sounds in
    let spent = placed_spends (met_rule side) (own_rule side) increment away (own_room side true rooms) (own_room side false rooms) entry (facing side books) view_sounds in
    let after_sounds = seen_sounds side p.view (placed_sounds (met_rule side) (own_rule side) increment away (own_room side true rooms) (own_room side false rooms) entry (facing side books) view_sounds) in
    let sum = together (length p.trades) (length (looked increment away after).trades) (standing_in after) (standing_in books)
    (placed_few side increment away rooms entry books) (omega (arith, spent, seen_length side p.view, facing_length side books))
    (looked_but_one increment away after after_sounds) in
    omega (arith, sum, length-append p.trades (looked increment away after).trades)

-- Calls

unless_fits : {X : Type 0} (o : Option Refusal) (s : State) (done : Done X) (k : ℕ) → length done.trades ≤ k → length (unless o s done).trades ≤ k
unless_fits None s done k fits = fits
unless_fits (Some e) s done k fits = omega arith

look_fits : (phase : Phase) (increment : ℕ) (away : Quote) (books : Books) → length (look_in phase increment away books).trades ≤ standing_in books
look_fits Open increment away books = looked_few increment away books
look_fits Halted increment away books = omega arith
look_fits Closed increment away books = omega arith

pub without_length : (n : ℕ) (orders : List Standing) → length (without n orders) ≤ length orders
without_length n [] = omega arith
without_length n (o ∷ os) =
    let P : Bool → Type 0 = λ b. length (cond b os (o ∷ without n os)) ≤ length (o ∷ os) in
    elim (eqb o.number n) as P [ true ↦ omega arith | false ↦ omega (arith, without_length n os) ]

removed_length : (n : ℕ) (orders : List Standing) → length (removed n orders).list ≤ length orders
removed_length n orders =
    let P : Option Standing → Type 0 = λ o. length (removed_found o n orders).list ≤ length orders in
    elim (find n orders) as P [ None ↦ omega arith | Some o ↦ without_length n orders ]

unless_found_length : (o : Option Standing) (n : ℕ) (orders : List Standing) → length (unless_found o n orders) ≤ length orders
unless_found_length None n orders = removed_length n orders
unless_found_length (Some o) n orders = omega arith

without_in_length : (n : ℕ) (b : Books) → standing_in (without_in n b) ≤ standing_in b
without_in_length n b =
    omega (
      arith,
      unless_found_length None n b.bids,
      unless_found_length (find n b.bids) n b.asks,
      unless_found_length (find_either n b.bids b.asks) n b.dark_bids,
      unless_found_length (first_found (find_either n b.bids b.asks) (find n b.dark_bids)) n b.dark_asks,
    )

pub trades_fit : (s : State) → SoundBooks s.books → TradesFit s
trades_fit s sounds = record {
  entry = λ form n.
      unless_fits (entry_refusal s form n) s
      (entered_by s form (placed_at s form) (looked s.increment (away_of s.quotes) (booked_at s form (placed_at s form)).books))
      (standing_in s.books)
      (entry_fits form.terms.side s.increment (away_of s.quotes) s.rooms (entry_of form (s.issued + 1)) s.books sounds);
  cancel = λ number n.
      unless_fits (cancel_refusal s number n) s _ (standing_in s.books)
      (omega (arith, look_fits s.phase s.increment (away_of s.quotes) (without_in number s.books), without_in_length number s.books));
  notice = λ m side price n.
      unless_fits (notice_refusal s m price n) s _ (standing_in s.books)
      (look_fits s.phase s.increment (away_of (quoted m side price s.quotes)) s.books);
  set_aside = λ m n.
      unless_fits (aside_refusal s m n) s _ (standing_in s.books)
      (look_fits s.phase s.increment (away_of (dropped m s.quotes)) s.books);
  resumption = λ n.
      unless_fits (resume_refusal s n) s _ (standing_in s.books) (look_fits Open s.increment (away_of s.quotes) s.books);
}
