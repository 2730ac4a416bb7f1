-- What placing an entry leaves, by what its parts leave.
use Rattle.std.proofs.Common.{◌≡◌, ℕ, not, ◌&&◌, List, Option, refl, subst}
use Rattle.books.specs.declared.standing.Standing.{Standing}
use Rattle.rules.specs.Better.{on}
use Rattle.rules.specs.Sides.{Rule}
use Rattle.rules.specs.declared.price.Quote.{Quote}
use Rattle.matching.specs.Matching.{front_price, matched, Leaves}
use Rattle.matching.specs.Placing.{View, is_booked, booked_in, met, placed, Places}
use Rattle.matching.specs.Ways.{way_of}
use Rattle.matching.specs.declared.candidate.Entry.{Entry}
use Rattle.matching.specs.declared.entry.Left.{Left}
use Rattle.matching.specs.declared.trade.Trade.{Trade}
use Rattle.matching.specs.declared.way.Way.{Way}

module _ (rule own : Rule) (increment : ℕ) (away : Quote) (entry : Entry) (view : View) where
  pub placed_by : (places dark_places : ℕ) (behind : Option ℕ) (displayed dark owned owned_dark : List Standing) (list listed : List Trade) (left : Left) (elsewhere front : Option ℕ) (way : Way) →
      behind ≡ front_price view.own →
      Leaves (matched rule entry (record { away = record { increment = increment; quote = away }; behind = behind }) (record { displayed = view.displayed; dark = view.dark; shares = entry.shares })) displayed dark list listed left →
      elsewhere ≡ on rule.name away →
      front ≡ front_price displayed →
      way ≡ way_of rule (record { shares = left.shares; immediate = entry.immediate; directed = entry.directed; displayed = entry.displayed; bound = entry.bound; away = elsewhere; front = front }) →
      owned ≡ booked_in (is_booked way && entry.displayed) own places entry left.shares view.own →
      owned_dark ≡ booked_in (is_booked way && not entry.displayed) own dark_places entry left.shares view.own_dark →
      Places (placed rule own increment away places dark_places entry view) (record { displayed = displayed; dark = dark; own = owned; own_dark = owned_dark }) list listed (record { shares = left.shares; way = way; trades = left.trades })
  placed_by places dark_places behind displayed dark owned owned_dark list listed left elsewhere front way eb leaves ea ef ew eo ek =
      let l : Leaves (met rule increment away entry view) displayed dark list listed left =
      subst (λ b. Leaves (matched rule entry (record { away = record { increment = increment; quote = away }; behind = b }) (record { displayed = view.displayed; dark = view.dark; shares = entry.shares })) displayed dark list listed left) eb leaves in
      record {
        view_is = rw (eo, ek, ew, ea, ef, l.displayed_is, l.dark_is, l.shares_is) refl;
        shares_is = l.shares_is;
        way_is = rw (ew, ea, ef, l.displayed_is, l.shares_is) refl;
        trades_is = l.trades_is;
        list_is = l.list_is;
      }
