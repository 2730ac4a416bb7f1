-- Trades one after another: what holds of each at its moment, and what they come to together.
use Rattle.std.proofs.Common.{◌≡◌, ℕ, zero, suc, ◌+◌, ◌<◌, ◌≤◌, List, [], ◌∷◌, Some, None, Option, refl, subst, arith}
use Rattle.matching.specs.Trades.{Step, Steps, go_on, steps}
use Rattle.matching.specs.declared.trade.Trade.{Trade}
use Rattle.runs.specs.Law.{traded_in}

-- each trade is judged where those before it have led
abbrev pub Course : {B : Type 0} → (go : Trade → B → B) → (Q : B → Trade → Type 0) → B → List Trade → B → Type 0
Course go Q b [] end = b ≡ end
Course go Q b (t ∷ ts) end = Q b t × Course go Q (go t b) ts end

module _ {X : Type 0} (next : X → Option (Step X)) where
  module _ {B : Type 0} (f : X → B) (go : Trade → B → B) (P : X → Type 0) (Q : B → Trade → Type 0) (weigh : ℕ → X → ℕ) where
    pub record Stepped (x : X) (s : Step X) : Type 0 where
      pub kept : P s.after
      pub goes : f s.after ≡ go s.trade (f x)
      pub judged : Q (f x) s.trade
      pub weighed : (n : ℕ) → weigh n x ≡ weigh n s.after + traded_in n (s.trade ∷ [])

    pub record Went (x : X) (m : Steps X) : Type 0 where
      pub kept : P m.state
      pub course : Course go Q (f x) m.trades (f m.state)
      pub weighed : (n : ℕ) → weigh n x ≡ weigh n m.state + traded_in n m.trades

    pub went : ((x : X) (s : Step X) → next x ≡ Some s → P x → Stepped x s) → (n : ℕ) (x : X) → P x → Went x (steps next n x)
    unfolding steps
    went step zero x holds = record { kept = holds; course = refl; weighed = λ n. omega arith }
    went step (suc n) x holds =
        let R : Option (Step X) → Type 0 = λ o. next x ≡ o → Went x (go_on o x (steps next n)) in
        elim (next x) as R [
          | None ↦ λ _. record { kept = holds; course = refl; weighed = λ n. omega arith }
          | Some s ↦ λ is.
              let one = step x s is holds in
              let more = went step n s.after one.kept in
              record {
                kept = more.kept;
                course = (
                  one.judged,
                  subst (λ b. Course go Q b (steps next n s.after).trades (f (steps next n s.after).state)) one.goes more.course,
                );
                weighed = λ m. omega (arith, one.weighed m, more.weighed m);
              }
        ] refl

  -- where each step takes from a size, and that many steps are allowed, none is left
  pub steps_end : (P : X → Type 0) (size : X → ℕ) → ((x : X) (s : Step X) → next x ≡ Some s → P x → P s.after × (size s.after < size x)) → (n : ℕ) (x : X) → P x → size x ≤ n → next (steps next n x).state ≡ None
  unfolding steps
  steps_end P size falls zero x holds enough =
      let R : Option (Step X) → Type 0 = λ o. next x ≡ o → o ≡ None in
      elim (next x) as R [
        | None ↦ λ _. refl
        | Some s ↦ λ is. let f = falls x s is holds in let down = f.1 in absurd (let no : ⊥ = omega arith in no)
      ] refl
  steps_end P size falls (suc n) x holds enough =
      let R : Option (Step X) → Type 0 = λ o. next x ≡ o → next (go_on o x (steps next n)).state ≡ None in
      elim (next x) as R [
        | None ↦ λ is. is
        | Some s ↦ λ is. let f = falls x s is holds in let down = f.1 in steps_end P size falls n s.after f.0 (omega arith)
      ] refl
