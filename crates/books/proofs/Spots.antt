-- What the first spots hold after a change.
use Rattle.std.proofs.Common.{◌≡◌, ℕ, ◌+◌, ◌-◌, ◌<◌, ◌≤◌, List, ◌++◌, length, get_or, take, drop, set, slice_index_or, slice_set, sym, ap, ◌∙◌, arith, add-one}
use Rattle.std.proofs.Math.Seq.{paste}
use Rattle.std.proofs.lemmas.List.{length-take, length-take-le, length-set, take_at, take-take, drop-take, length-drop}
use Rattle.std.proofs.lemmas.List.Edits.{take-paste}
use Rattle.std.specs.List.{remove}
use Rattle.books.specs.Lists.{reduced}
use Rattle.books.specs.Packing.{blank}
use Rattle.books.specs.declared.standing.Standing.{Standing}

-- a place of the first n spots
pub place_below : (spots : List Standing) (n i : ℕ) (held : List Standing) → take n spots ≡ held → i < length held → i < n
place_below spots n i held e l = omega (arith, ap length e, length-take n spots)

pub reduced_held : (spots rest : List Standing) (n i shares : ℕ) (held : List Standing) → take n spots ≡ held → n ≤ length spots →
    take n (slice_set (take n spots) i (reduced (get_or (take n spots) i blank) shares) ++ rest) ≡
    slice_set held i (reduced (get_or held i blank) shares)
reduced_held spots rest n i shares held e m =
    let o = reduced (slice_index_or (take n spots) i blank) shares in
    take_at (slice_set (take n spots) i o) rest n (length-set (take n spots) i o ∙ length-take-le n spots m) ∙
    ap (λ os. set os i (reduced (get_or os i blank) shares)) e

-- the spots behind one move down over it
pub closed_held : (spots : List Standing) (n i : ℕ) (held : List Standing) → take n spots ≡ held → n ≤ length spots → i < length held →
    take (n - 1) (paste spots i (drop (i + 1) spots) (n - (i + 1))) ≡ remove held i
closed_held spots n i held e m l =
    let b = place_below spots n i held e l in
    ap (λ k. take k (paste spots i (drop (i + 1) spots) (n - (i + 1)))) (omega arith) ∙
    take-paste spots i (drop (i + 1) spots) (n - (i + 1)) (omega arith) (omega (arith, length-drop (i + 1) spots)) ∙
    ap (λ ws. ws ++ take (n - (i + 1)) (drop (i + 1) spots)) (sym (take-take i n spots (omega arith))) ∙
    ap (λ ws. take i (take n spots) ++ ws) (sym (drop-take (i + 1) (n - (i + 1)) spots)) ∙
    ap (λ k. take i (take n spots) ++ drop (i + 1) (take k spots)) (omega arith) ∙
    ap (λ k. take i (take n spots) ++ drop k (take n spots)) (add-one i) ∙
    ap (λ os. remove os i) e
