-- Lists of discounted values.
use Rattle.discount_factors.proofs.Common.{◌≡◌, ℕ, ◌+◌, List, [], ◌∷◌, ◌++◌, length, ap, ◌∙◌, inl, inr, arith, cases_lt, get_or_append_left, get_or_push, length-append, discounted, AreDiscounted}

-- one value more
pub AreDiscounted-more : (rate v : ℕ) (values : List ℕ) → AreDiscounted rate values → v ≡ discounted rate (length values) → AreDiscounted rate (values ++ v ∷ [])
AreDiscounted-more rate v values are next k within =
    elim (cases_lt k (length values)) [
      | inl before ↦ get_or_append_left values (v ∷ []) 0 k before ∙ are k before
      | inr last ↦
          let count : length (values ++ v ∷ []) ≡ length values + 1 = length-append values (v ∷ []) in
          let at : length values ≡ k = omega arith in
          get_or_push values v 0 k at ∙ next ∙ ap (discounted rate) at
    ]
