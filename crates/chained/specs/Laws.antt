-- Why the records of a book keep the law of every book.
use Rattle.std.proofs.Common.{◌≡◌, ℕ, ◌≤◌, true, List, [], ◌∷◌, length, arith}
use Rattle.std.proofs.lemmas.List.{length-map}
use Rattle.std.proofs.lemmas.Bool.{and_parts}
use Rattle.books.specs.Lists.{Kept, AllSound, sound}
use Rattle.books.specs.declared.standing.Standing.{Standing}
use Rattle.books.specs.Arranging.{all_sound}
use Rattle.chained.specs.Records.{most_records, order_of, line, orders_in, room_in, Apart, Whole}
use Rattle.chained.specs.declared.record.Record.{Record}

-- in the order of the book's ghost fields
abbrev pub Held : (count : ℕ) → List Record → Type 0
Held count rs =
    (length rs ≤ most_records)
    × ((count ≡ length (orders_in rs)) × (Apart rs × (Whole rs × ((all_sound (orders_in rs) ≡ true) × Unit {0}))))

pub all_is : (os : List Standing) → all_sound os ≡ true → AllSound os
all_is [] h = tt
all_is (o ∷ os) h = let two = and_parts (sound o) (all_sound os) h in (two.0, all_is os two.1)

pub length_orders : (rs : List Record) → length (orders_in rs) ≡ length (line rs)
length_orders rs = length-map (line rs) (order_of rs)

pub held_kept : (rs : List Record) (count : ℕ) → Held count rs → Kept (room_in rs) (orders_in rs)
held_kept rs count h = (omega (arith, h.0), omega (arith, h.1.1.1.0, length_orders rs), all_is (orders_in rs) h.1.1.1.1.0)
