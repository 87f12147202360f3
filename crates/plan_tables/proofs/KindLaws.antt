-- All kinds, from a kind on.
use Rattle.plan_tables.proofs.Common.{◌≡◌, ℕ, suc, ◌+◌, ◌-◌, ◌≤◌, Bool, false, List, ◌∷◌, ◌++◌, Option, Some, sym, ap, ◌∙◌, append_assoc, arith, if◌then◌else◌, find, flat_map, range_with_len}

-- the kinds from this one on
abbrev pub kinds_from : ℕ → List ℕ
kinds_from kind = range_with_len kind (49 - kind)

pub kinds_next : (kind : ℕ) → kind ≤ 48 → kinds_from kind ≡ kind ∷ kinds_from (kind + 1)
kinds_next kind h =
    let more : 49 - kind ≡ suc (49 - (kind + 1)) = omega arith in
    ap (range_with_len kind) more

-- the first of them that passes a test, where this one doesn't, and where it does
pub find_next : (p : ℕ → Bool) (kind : ℕ) (o : Option ℕ) → kind ≤ 48 → p kind ≡ false → find p (kinds_from kind) ≡ o → find p (kinds_from (kind + 1)) ≡ o
find_next p kind o h fails so_far =
    let rest : Option ℕ = find p (kinds_from (kind + 1)) in
    sym (ap (find p) (kinds_next kind h) ∙ ap (λ b. if b then Some kind else rest) fails) ∙ so_far

-- what is written of them, of one more
pub text_next : (text : ℕ → List ℕ) (kind : ℕ) (out new all : List ℕ) → kind ≤ 48 → out ++ flat_map text (kinds_from kind) ≡ all → new ≡ out ++ text kind
    → new ++ flat_map text (kinds_from (kind + 1)) ≡ all
text_next text kind out new all h so_far written =
    let rest : List ℕ = flat_map text (kinds_from (kind + 1)) in
    ap (λ t. t ++ rest) written ∙ append_assoc out (text kind) rest ∙ sym (ap (λ kinds. out ++ flat_map text kinds) (kinds_next kind h)) ∙ so_far
