-- A row in the place of its twin: examples, and near misses.
use Rattle.row_book.proofs.Common.{◌≡◌, ◌≢◌, ◌+◌, ◌++◌, pos, negsuc, true, false, List, [], ◌∷◌, length, length-append, refl, ap, ap₂, sym, ◌∙◌, arith, true≢false, Row, RowName, CC1, TCC1, TCC2, variable_of, capital_investment, new_capacity, AreTwins, IsReplaced, same_variables}
use Rattle.row_core.specs.declared.Sense.TheVariants.{Equal, Most}
use Rattle.row_book.proofs.Examples.{at_zeros}

-- numbers may differ; variables may not, nor how many there are
other_numbers : same_variables ((new_capacity 0 0 0, negsuc 4) ∷ (capital_investment 0 0 0, pos 1) ∷ []) ((new_capacity 0 0 0, pos 2) ∷ (capital_investment 0 0 0, pos 3) ∷ []) ≡ true
other_numbers = refl

other_year : same_variables ((new_capacity 0 0 0, pos 1) ∷ []) ((new_capacity 0 0 1, pos 1) ∷ []) ≡ false
other_year = refl

one_more : same_variables ((new_capacity 0 0 0, pos 1) ∷ []) ((new_capacity 0 0 0, pos 1) ∷ (capital_investment 0 0 0, pos 1) ∷ []) ≡ false
one_more = refl

one_less : same_variables ((new_capacity 0 0 0, pos 1) ∷ (capital_investment 0 0 0, pos 1) ∷ []) ((new_capacity 0 0 0, pos 1) ∷ []) ≡ false
one_less = refl

module _ (before row other : Row) where
  -- two limits of one name with entries at the same variable
  twins : before.name ≡ at_zeros TCC1 → row.name ≡ at_zeros TCC1 → before.sense ≡ Most → row.sense ≡ Most
      → before.entries.items ≡ (new_capacity 0 0 0, pos 1) ∷ [] → row.entries.items ≡ (new_capacity 0 0 0, pos 3) ∷ [] → AreTwins before row
  twins named named_too most most_too entries entries_too = record {
    named = named ∙ sym named_too;
    undefined = ap variable_of named_too;
    inequality = λ is. cc (sym most ∙ is);
    inequality_too = λ is. cc (sym most_too ∙ is);
    variables = ap₂ same_variables entries entries_too;
  }

  -- limits of two names aren't
  other_name : before.name ≡ at_zeros TCC1 → row.name ≡ at_zeros TCC2 → AreTwins before row → ⊥
  other_name named named_too are =
      let same : TCC1 ≡ TCC2 = ap (λ (name : RowName). name.eq) (sym named ∙ are.named ∙ named_too) in
      omega (arith, same)

  -- equations aren't twins, whichever of the two is one
  equation : before.sense ≡ Equal → AreTwins before row → ⊥
  equation is are = are.inequality is

  equation_too : row.sense ≡ Equal → AreTwins before row → ⊥
  equation_too is are = are.inequality_too is

  -- nor are rows that define a variable, as CC1 does
  definition : row.name ≡ at_zeros CC1 → AreTwins before row → ⊥
  definition is are = cc (ap variable_of (sym is) ∙ are.undefined)

  -- nor rows with entries at other variables
  others : same_variables before.entries.items row.entries.items ≡ false → AreTwins before row → ⊥
  others differ are = true≢false (sym are.variables ∙ differ)

  -- the second of two in its place
  replaced : AreTwins before row → IsReplaced row (other ∷ before ∷ []) (other ∷ row ∷ [])
  replaced are = record { earlier = other ∷ []; before = before; later = []; old_is = refl; new_is = refl; twins = are }

  -- not where another row is changed as well
  changed : (new : Row) → other ≢ new → new ≢ row → IsReplaced row (other ∷ before ∷ []) (new ∷ row ∷ []) → ⊥
  changed new differs differs_too is = by_rest is.earlier is.old_is is.new_is
    where
      by_rest : (earlier : List Row) → other ∷ before ∷ [] ≡ earlier ++ is.before ∷ is.later → new ∷ row ∷ [] ≡ earlier ++ row ∷ is.later → ⊥
      by_rest [] old now = differs_too (cc now)
      by_rest (first ∷ rest) old now = differs (cc (old, now))

  -- not with one more at the end, and not where no row stands
  added : IsReplaced row (other ∷ before ∷ []) (other ∷ before ∷ row ∷ []) → ⊥
  added is =
      let old : 2 ≡ length is.earlier + length (is.before ∷ is.later) = ap length is.old_is ∙ length-append is.earlier (is.before ∷ is.later) in
      let new : 3 ≡ length is.earlier + length (row ∷ is.later) = ap length is.new_is ∙ length-append is.earlier (row ∷ is.later) in
      omega (arith, old, new)

  nothing_there : IsReplaced row [] [] → ⊥
  nothing_there is =
      let old : 0 ≡ length is.earlier + length (is.before ∷ is.later) = ap length is.old_is ∙ length-append is.earlier (is.before ∷ is.later) in
      omega (arith, old)
