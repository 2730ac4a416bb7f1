-- What records mean: the orders along one chain from the anchor, and the free records along another.
use Rattle.std.specs.Prelude.{◌≡◌, ℕ, ◌+◌, ◌-◌, ◌<◌, ◌≤◌, Bool, cond, List, map, length, set, nat_lt, slice_index_or, slice_set}
use Rattle.books.specs.declared.standing.Standing.{Standing}
use Rattle.chained.specs.Links.{links, times, first, stop}
use Rattle.chained.specs.declared.record.Record.{Record}

abbrev pub most_records : ℕ
most_records = 4097

abbrev pub blank : Record
blank = record { order = record { number = 0; price = 0; shares = 0 }; next = 0; free = 0 }

abbrev pub at : List Record → ℕ → Record
at records k = slice_index_or records k blank

abbrev pub next_of : List Record → ℕ → ℕ
next_of records k = (at records k).next

abbrev pub free_of : List Record → ℕ → ℕ
free_of records k = (at records k).free

abbrev pub order_of : List Record → ℕ → Standing
order_of records k = (at records k).order

-- the records of the orders, and the free records
abbrev pub line : List Record → List ℕ
line records = links (length records) (next_of records) (next_of records 0)

abbrev pub idle : List Record → List ℕ
idle records = links (length records) (free_of records) (free_of records 0)

abbrev pub orders_in : List Record → List Standing
orders_in records = map (order_of records) (line records)

-- all but the anchor
abbrev pub room_in : List Record → ℕ
room_in records = length records - 1

-- Well-formed: no index stands twice in the two chains or beyond the records, and none is missing from them

abbrev pub Apart : List Record → Type 0
Apart records = (k : ℕ) → times k (line records) + times k (idle records) ≤ cond (nat_lt k (length records)) 1 0

abbrev pub Whole : List Record → Type 0
Whole records = length (line records) + length (idle records) ≡ room_in records

-- Walks

-- a test that answers what is meant of each order
abbrev pub Means : (answers : Standing → Bool → Type 0) → (meant : Standing → Bool) → Type 0
Means answers meant = (order : Standing) (answer : Bool) → answers order answer → answer ≡ meant order

abbrev pub passing : (Standing → Bool) → List Record → ℕ → Bool
passing passes records k = passes (order_of records k)

abbrev pub found : (Standing → Bool) → List Record → ℕ
found passes records = first (passing passes records) (line records)

abbrev pub before_found : (Standing → Bool) → List Record → ℕ
before_found passes records = stop (passing passes records) 0 (line records)

-- Changes

abbrev pub with_next : List Record → (k : ℕ) → ℕ → List Record
with_next records k n = slice_set records k (record { order = order_of records k; next = n; free = free_of records k })

abbrev pub with_free : List Record → (k : ℕ) → ℕ → List Record
with_free records k n = slice_set records k (record { order = order_of records k; next = next_of records k; free = n })

abbrev pub with_order : List Record → (k : ℕ) → Standing → List Record
with_order records k o = slice_set records k (record { order = o; next = next_of records k; free = free_of records k })

-- n records with no order, in which each leads to the next as a free record
pub record Cleared (n : ℕ) (records : List Record) : Type 0 where
  pub many : length records ≡ n
  pub ended : next_of records 0 ≡ 0
  pub freed : (k : ℕ) → k < n → free_of records k ≡ cond (nat_lt (k + 1) n) (k + 1) 0

-- the first free record, here, takes the order and stands behind the one before it
abbrev pub linked : List Record → (before here : ℕ) → Standing → List Record
linked records before here o =
    let rest : List Record = with_free records 0 (free_of records here) in
    let filled : List Record = set rest here (record { order = o; next = next_of records before; free = 0 }) in
    with_next filled before here

-- the record here goes from the orders to the front of the free records
abbrev pub unlinked : List Record → (before here : ℕ) → List Record
unlinked records before here =
    let passed : List Record = with_next records before (next_of records here) in
    let freed : List Record = with_free passed here (free_of records 0) in
    with_free freed 0 here
