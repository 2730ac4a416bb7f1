-- A loop of steps: what is made so far, and the steps that are left, give the whole.
use Rattle.std.proofs.Common.{◌≡◌, ℕ, zero, suc, ◌+◌, ◌-◌, ◌<◌, ◌≤◌, List, [], ◌∷◌, ◌++◌, length, set, Some, None, Option, sym, refl, ap, ◌∙◌, append_assoc, append-nil, arith, length-append}
use Rattle.matching.specs.Trades.{Step, Steps, go_on, steps, written}
use Rattle.matching.specs.declared.trade.Trade.{Trade}
use Rattle.matching.proofs.Writing.{written_more}

but_one : (l after before : ℕ) → (0 < l → l < after) → after < before → 2 ≤ before → suc l < before
but_one zero after before few fall two = omega arith
but_one (suc l) after before few fall two = omega (arith, few (omega arith))

module _ {X : Type 0} (next : X → Option (Step X)) where
  pub steps_more : (n : ℕ) (x : X) (s : Step X) → next x ≡ Some s → steps next (suc n) x ≡ go_on (Some s) x (steps next n)
  unfolding steps
  steps_more n x s is = ap (λ o. go_on o x (steps next n)) is

  pub steps_none : (n : ℕ) (x : X) → next x ≡ None → steps next n x ≡ record { trades = []; state = x }
  unfolding steps
  steps_none zero x none = refl
  steps_none (suc n) x none = ap (λ o. go_on o x (steps next n)) none

  go_length : (n : ℕ) (x : X) (more : X → Steps X) → ((y : X) → length (more y).trades ≤ n) → (o : Option (Step X)) → length (go_on o x more).trades ≤ suc n
  go_length n x more few None = omega arith
  go_length n x more few (Some s) = omega (arith, few s.after)

  -- there are no more trades than steps given
  pub steps_length : (n : ℕ) (x : X) → length (steps next n x).trades ≤ n
  unfolding steps
  steps_length zero x = omega arith
  steps_length (suc n) x = go_length n x (steps next n) (steps_length n) (next x)

  -- what every step keeps of a state, all of them do
  pub steps_keep : (P : X → Type 0) → ((x : X) (s : Step X) → next x ≡ Some s → P x → P s.after) → (n : ℕ) (x : X) → P x → P (steps next n x).state
  unfolding steps
  steps_keep P keep zero x holds = holds
  steps_keep P keep (suc n) x holds =
      let Q : Option (Step X) → Type 0 = λ o. next x ≡ o → P (go_on o x (steps next n)).state in
      elim (next x) as Q [ None ↦ λ _. holds | Some s ↦ λ is. steps_keep P keep n s.after (keep x s is holds) ] refl

  -- where each step takes from a size, the trades are no more than what was taken
  module _ (P : X → Type 0) (size : X → ℕ) (falls : (x : X) (s : Step X) → next x ≡ Some s → P x → P s.after × (size s.after < size x)) where
    pub steps_spend : (n : ℕ) (x : X) → P x → length (steps next n x).trades + size (steps next n x).state ≤ size x
    unfolding steps
    steps_spend zero x holds = omega arith
    steps_spend (suc n) x holds =
        let Q : Option (Step X) → Type 0 = λ o. next x ≡ o → length (go_on o x (steps next n)).trades + size (go_on o x (steps next n)).state ≤ size x in
        elim (next x) as Q [
          | None ↦ λ _. omega arith
          | Some s ↦ λ is. let f = falls x s is holds in omega (arith, f.1, steps_spend n s.after f.0)
        ] refl

    -- and one fewer, where a step needs two
    pub steps_but_one : ((x : X) (s : Step X) → next x ≡ Some s → 2 ≤ size x) → (n : ℕ) (x : X) → P x → 0 < length (steps next n x).trades → length (steps next n x).trades < size x
    unfolding steps
    steps_but_one two zero x holds some = absurd (let no : ⊥ = omega arith in no)
    steps_but_one two (suc n) x holds some =
        let Q : Option (Step X) → Type 0 = λ o. next x ≡ o → 0 < length (go_on o x (steps next n)).trades → length (go_on o x (steps next n)).trades < size x in
        elim (next x) as Q [
          | None ↦ λ _ some. absurd (let no : ⊥ = omega arith in no)
          | Some s ↦ λ is some. let f = falls x s is holds in but_one (length (steps next n s.after).trades) (size s.after) (size x) (steps_but_one two n s.after f.0) f.1 (two x s is)
        ] refl some

  -- n steps were given at the start; the trades made stand at the front of the list
  pub record Progress (n : ℕ) (start : X) (list : List Trade) (x : X) (listed : List Trade) (count : ℕ) : Type 0 where
    pub made : List Trade
    pub rest : ℕ
    pub within : count + rest ≡ n
    pub counted : count ≡ length made
    pub written_so : listed ≡ written made list
    pub trades : made ++ (steps next rest x).trades ≡ (steps next n start).trades
    pub ends : (steps next rest x).state ≡ (steps next n start).state

  abbrev pub progress_none : (n : ℕ) (start : X) (list : List Trade) → Progress n start list start list 0
  progress_none n start list = record {
    made = [];
    rest = n;
    within = omega arith;
    counted = refl;
    written_so = refl;
    trades = refl;
    ends = refl;
  }

  module _ (n : ℕ) (start : X) (list : List Trade) (x : X) (listed : List Trade) (count : ℕ) (p : Progress n start list x listed count) where
    abbrev pub progress_more : (s : Step X) → next x ≡ Some s → 0 < p.rest → Progress n start list s.after (set listed count s.trade) (count + 1)
    progress_more s is left =
        let m = p.rest - 1 in
        let more : p.rest ≡ suc m = omega arith in
        let step : steps next p.rest x ≡ go_on (Some s) x (steps next m) = ap (λ k. steps next k x) more ∙ steps_more m x s is in
        record {
          made = p.made ++ s.trade ∷ [];
          rest = m;
          within = omega (arith, p.within);
          counted = omega (arith, p.counted, length-append p.made (s.trade ∷ []));
          written_so =
              ap (λ l. set l count s.trade) p.written_so ∙ ap (λ k. set (written p.made list) k s.trade) p.counted
              ∙ written_more p.made s.trade list;
          trades = append_assoc p.made (s.trade ∷ []) _ ∙ ap (λ r. p.made ++ r.trades) (sym step) ∙ p.trades;
          ends = ap (λ r. r.state) (sym step) ∙ p.ends;
        }

    module _ (none : next x ≡ None) where
      pub progress_trades : p.made ≡ (steps next n start).trades
      progress_trades = sym (append-nil p.made) ∙ ap (λ r. p.made ++ r.trades) (sym (steps_none p.rest x none)) ∙ p.trades

      pub progress_state : x ≡ (steps next n start).state
      progress_state = ap (λ r. r.state) (sym (steps_none p.rest x none)) ∙ p.ends

      pub progress_count : count ≡ length (steps next n start).trades
      progress_count = p.counted ∙ ap (λ ts. length ts) progress_trades

      pub progress_list : listed ≡ written (steps next n start).trades list
      progress_list = p.written_so ∙ ap (λ ts. written ts list) progress_trades
