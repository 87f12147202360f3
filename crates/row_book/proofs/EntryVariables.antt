-- What is true of each variable of an equation's terms is true of each variable of its row's entries.
use Rattle.row_book.proofs.Common.{ℕ, Bool, true, false, ℤ, List, [], ◌∷◌, sym, subst, AllByRecursion, Ordering, Less, Equal, Greater, if◌then◌else◌, Rational, plus, Row, RowName, Var, Amount, EquationTerms, IsRowOf, coefficients_of, right_of, terms_of, is_zero, variables_of, var_cmp, gathered_onto, with_term, cleared_entries, common_denominator, entries_divided, entries_over, kept, written_divisor}

-- true of the variable of each
abbrev pub OfVariables : {A : Type 0} → (Var → Type 0) → List (Var × A) → Type 0
OfVariables P items = AllByRecursion P (variables_of items)

of_coefficients : (P : Var → Type 0) (terms : List (Var × Amount)) → AllByRecursion (λ (term : Var × Amount). P term.0) terms → OfVariables P (coefficients_of terms)
of_coefficients P [] of_terms = tt
of_coefficients P (term ∷ terms) of_terms = (of_terms.0, of_coefficients P terms of_terms.1)

of_with_term : (P : Var → Type 0) (new : Var × Rational) (terms : List (Var × Rational)) → P new.0 → OfVariables P terms → OfVariables P (with_term new terms)
of_with_term P new [] of_new of_terms = (of_new, tt)
of_with_term P new (term ∷ terms) of_new of_terms = by_order (var_cmp new.0 term.0) (of_with_term P new terms of_new of_terms.1)
  where
    by_order : (o : Ordering) → OfVariables P (with_term new terms)
        → OfVariables P (elim o [ Less ↦ new ∷ term ∷ terms | Equal ↦ (term.0, plus term.1 new.1) ∷ terms | Greater ↦ term ∷ with_term new terms ])
    by_order Less rest = (of_new, of_terms)
    by_order Equal rest = of_terms
    by_order Greater rest = (of_terms.0, rest)

of_gathered : (P : Var → Type 0) (terms more : List (Var × Rational)) → OfVariables P terms → OfVariables P more → OfVariables P (gathered_onto terms more)
of_gathered P terms [] of_terms of_more = of_terms
of_gathered P terms (new ∷ more) of_terms of_more = of_gathered P (with_term new terms) more (of_with_term P new terms of_more.0 of_terms) of_more.1

of_kept : (P : Var → Type 0) (terms : List (Var × Rational)) → OfVariables P terms → OfVariables P (kept terms)
of_kept P [] of_terms = tt
of_kept P (term ∷ terms) of_terms = by_test (is_zero term.1.top) (of_kept P terms of_terms.1)
  where
    by_test : (b : Bool) → OfVariables P (kept terms) → OfVariables P (if b then kept terms else (term ∷ kept terms))
    by_test true rest = rest
    by_test false rest = (of_terms.0, rest)

of_entries : (P : Var → Type 0) (d : ℤ) (terms : List (Var × Rational)) → OfVariables P terms → OfVariables P (entries_over d terms)
of_entries P d [] of_terms = tt
of_entries P d (term ∷ terms) of_terms = (of_terms.0, of_entries P d terms of_terms.1)

of_divided : (P : Var → Type 0) (g : ℕ) (entries : List (Var × ℤ)) → OfVariables P entries → OfVariables P (entries_divided g entries)
of_divided P g [] of_all = tt
of_divided P g (entry ∷ entries) of_all = (of_all.0, of_divided P g entries of_all.1)

pub entries-from_terms : (P : Var → Type 0) (name : RowName) (e : EquationTerms) (row : Row) → IsRowOf name e row
    → AllByRecursion (λ (term : Var × Amount). P term.0) e.terms → OfVariables P row.entries.items
entries-from_terms P name e row is of_terms =
    let terms = terms_of e in
    let right = right_of e in
    subst (OfVariables P) (sym is.entries)
    (of_divided P (written_divisor terms right) (cleared_entries terms right)
    (of_entries P (common_denominator (kept terms) right) (kept terms) (of_kept P terms (of_gathered P [] (coefficients_of e.terms) tt (of_coefficients P e.terms of_terms)))))
