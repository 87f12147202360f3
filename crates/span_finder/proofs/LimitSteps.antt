-- The terms of the row that limits the cost, one variable after another.
use Rattle.span_finder.proofs.Common.{◌≡◌, ℕ, ◌+◌, ◌<◌, ◌≤◌, ℤ, Bool, true, false, ◌&&◌, List, ◌∷◌, ◌++◌, length, get_or, drop, refl, sym, ap, ◌∙◌, if◌then◌else◌, at_drop_all, drop_more, all_fit, all_fit-append, all_fit-nil, Var, Place, Stopped, IsStop, gathered, gathered_formed, gathered_formed_onto, gathered_onto, term_formed, with_term, Values, by_test, cost_term, cost_terms, is_cost}
use Rattle.row_core.specs.declared.place.Stopped.TheVariants.{Width, Memory}

-- ---- parts of what is formed

pub fits-first : (a b : List ℤ) → all_fit a ≡ true → all_fit (a ++ b) ≡ all_fit b
fits-first a b h = all_fit-append a b ∙ ap (λ t. t && all_fit b) h

pub stops-first : (a b : List ℤ) → all_fit a ≡ false → all_fit (a ++ b) ≡ false
stops-first a b h = all_fit-append a b ∙ ap (λ t. t && all_fit b) h

-- the stop of a part is that of the whole
pub same-stop : (place : Place) (a b : Bool) (e : Stopped) → (a ≡ false → b ≡ false) → IsStop place a e → IsStop place b e
same-stop place a b (Width at) f h = (h.0, f h.1)
same-stop place a b Memory f h = tt

-- ---- one variable

abbrev with_cost : Var → Values → Values
with_cost v terms = if is_cost v then with_term (cost_term v) terms else terms

gathered-first : (v : Var) (rest : List Var) (terms : Values) → gathered_onto terms (cost_terms (v ∷ rest)) ≡ gathered_onto (with_cost v terms) (cost_terms rest)
gathered-first v rest terms = by_test (is_cost v) (λ is. rw is refl) (λ is. rw is refl)

formed-first : (v : Var) (rest : List Var) (terms : Values) → (is_cost v ≡ true → all_fit (term_formed (cost_term v) terms) ≡ true)
    → all_fit (gathered_formed_onto terms (cost_terms (v ∷ rest))) ≡ all_fit (gathered_formed_onto (with_cost v terms) (cost_terms rest))
formed-first v rest terms fit = by_test (is_cost v)
    (λ is. rw is (fits-first (term_formed (cost_term v) terms) (gathered_formed_onto (with_term (cost_term v) terms) (cost_terms rest)) (fit is)))
    (λ is. rw is refl)

stop-first : (v : Var) (rest : List Var) (terms : Values) → is_cost v ≡ true → all_fit (term_formed (cost_term v) terms) ≡ false → all_fit (gathered_formed_onto terms (cost_terms (v ∷ rest))) ≡ false
stop-first v rest terms is h =
    rw is
    (stops-first (term_formed (cost_term v) terms) (gathered_formed_onto (with_term (cost_term v) terms) (cost_terms rest)) h)

-- ---- all variables

module _ (vars : List Var) where
  pub terms-next : (i : ℕ) (d : Var) (old new : Values) → i < length vars → new ≡ with_cost (get_or vars i d) old → gathered_onto old (cost_terms (drop i vars)) ≡ gathered (cost_terms vars)
      → gathered_onto new (cost_terms (drop (i + 1) vars)) ≡ gathered (cost_terms vars)
  terms-next i d old new h added so_far =
      ap (λ terms. gathered_onto terms (cost_terms (drop (i + 1) vars))) added ∙ sym (gathered-first (get_or vars i d) (drop (i + 1) vars) old)
      ∙ sym (ap (λ vs. gathered_onto old (cost_terms vs)) (drop_more vars i d h)) ∙ so_far

  pub formed-next : (i : ℕ) (d : Var) (old new : Values) → i < length vars → new ≡ with_cost (get_or vars i d) old → (is_cost (get_or vars i d) ≡ true → all_fit (term_formed (cost_term (get_or vars i d)) old) ≡ true)
      → all_fit (gathered_formed_onto old (cost_terms (drop i vars))) ≡ all_fit (gathered_formed (cost_terms vars)) → all_fit (gathered_formed_onto new (cost_terms (drop (i + 1) vars))) ≡ all_fit (gathered_formed (cost_terms vars))
  formed-next i d old new h added fit so_far =
      ap (λ terms. all_fit (gathered_formed_onto terms (cost_terms (drop (i + 1) vars)))) added ∙ sym (formed-first (get_or vars i d) (drop (i + 1) vars) old fit)
      ∙ sym (ap (λ vs. all_fit (gathered_formed_onto old (cost_terms vs))) (drop_more vars i d h)) ∙ so_far

  pub terms-stop : (place : Place) (i : ℕ) (d : Var) (old : Values) (e : Stopped) → i < length vars
      → (is_cost (get_or vars i d) ≡ true) × IsStop place (all_fit (term_formed (cost_term (get_or vars i d)) old)) e
      → all_fit (gathered_formed_onto old (cost_terms (drop i vars))) ≡ all_fit (gathered_formed (cost_terms vars)) → IsStop place (all_fit (gathered_formed (cost_terms vars))) e
  terms-stop place i d old e h stop so_far =
      let v : Var = get_or vars i d in
      same-stop place (all_fit (term_formed (cost_term v) old)) (all_fit (gathered_formed (cost_terms vars))) e
      (λ wide. sym so_far ∙ ap (λ vs. all_fit (gathered_formed_onto old (cost_terms vs))) (drop_more vars i d h) ∙ stop-first v (drop (i + 1) vars) old stop.0 wide) stop.1

  pub terms-all : (i : ℕ) (made : Values) → length vars ≤ i → gathered_onto made (cost_terms (drop i vars)) ≡ gathered (cost_terms vars) → made ≡ gathered (cost_terms vars)
  terms-all i made h so_far = sym (at_drop_all (λ vs. gathered_onto made (cost_terms vs)) vars i h) ∙ so_far

  pub formed-all : (i : ℕ) (made : Values) → length vars ≤ i → all_fit (gathered_formed_onto made (cost_terms (drop i vars))) ≡ all_fit (gathered_formed (cost_terms vars)) → all_fit (gathered_formed (cost_terms vars)) ≡ true
  formed-all i made h so_far = sym so_far ∙ at_drop_all (λ vs. all_fit (gathered_formed_onto made (cost_terms vs))) vars i h ∙ all_fit-nil
