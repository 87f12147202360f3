-- The rows that define variables that aren't free make them of parts that are at least 0.
use Rattle.row_book.proofs.Common.{◌≡◌, ℕ, true, false, Bool, ◌||◌, inl, inr, List, nat_eq, Some, refl, ap, sym, ◌∙◌, arith, eqb-true, list_all, range_with_len, cases_lt, or_cases, Data, Row, RowName, Var, kind_is_free, instances, subscripts_of, variable_of, at_number, AreComplete, AreRowsOf, terms_at, HaveSigns, IsBounded}
use Rattle.row_book.proofs.Definers.{is-definer}
use Rattle.row_book.proofs.EnergySigns.{energy-signs}
use Rattle.row_book.proofs.Instances.{IsInstance, all-at, all-instances}
use Rattle.row_book.proofs.KindLaws.{kind_of}
use Rattle.row_book.proofs.LimitSigns.{limit-signs}
use Rattle.row_book.proofs.Numbers.{passes-at}
use Rattle.row_book.proofs.SignLaws.{MakesOfParts, row-parts}
use Rattle.row_book.proofs.SignShapes.{SignsAt}
use Rattle.row_book.proofs.Subscripts.{values-from_index}
use Rattle.row_book.proofs.Triangles.{row-at}

-- ---- equations whose variables are free

-- the equation of this number defines nothing, or a variable that is free
abbrev defines_no_bounded : ℕ → Bool
defines_no_bounded n = nat_eq (kind_of n) 0 || kind_is_free (kind_of n)

-- costs, emissions of technologies, and limits on capacity
costs-free : list_all defines_no_bounded (range_with_len 25 22) ≡ true
costs-free = refl

-- emissions of regions
emissions-free : list_all defines_no_bounded (range_with_len 61 4) ≡ true
emissions-free = refl

not_free : (b : Bool) → b ≡ true → b ≡ false → ⊥
not_free b free bounded = cc

none_bounded : (d : Data) (name : RowName) (v : Var) → IsInstance d name → variable_of name ≡ Some v → IsBounded v → defines_no_bounded name.eq ≡ true → ⊥
none_bounded d name v instance defines bounded test =
    let of_name = is-definer d name v instance defines in
    elim (or_cases (nat_eq (kind_of name.eq) 0) (kind_is_free (kind_of name.eq)) test) [
      | inl none ↦ of_name.some (eqb-true (kind_of name.eq) 0 none)
      | inr free ↦ not_free (kind_is_free v.kind) (ap kind_is_free (sym of_name.kind) ∙ free) bounded
    ]

-- ---- all equations

pub definition-parts : (places : ℕ) (d : Data) (name : RowName) (v : Var) → AreComplete d → IsInstance d name → variable_of name ≡ Some v → IsBounded v → MakesOfParts v (terms_at places d name)
definition-parts places d name v complete instance defines bounded =
    let at = values-from_index d (subscripts_of name.eq) name.index instance.within in
    elim (cases_lt name.eq 25) [
      | inl below ↦ at_number (SignsAt places d name.index) 1 24 name.eq (energy-signs places d name.index) instance.equation.0 below complete at v defines bounded
      | inr from ↦
          elim (cases_lt name.eq 47) [
            | inl below ↦ absurd (none_bounded d name v instance defines bounded (passes-at defines_no_bounded 25 22 name.eq costs-free from below))
            | inr past ↦
                elim (cases_lt name.eq 61) [
                  | inl below ↦ at_number (SignsAt places d name.index) 47 14 name.eq (limit-signs places d name.index) past below complete at v defines bounded
                  | inr last ↦ absurd (none_bounded d name v instance defines bounded (passes-at defines_no_bounded 61 4 name.eq emissions-free last (omega (arith, instance.equation.1))))
                ]
          ]
    ]

pub all-signs : (places : ℕ) (d : Data) (rows : List Row) → AreComplete d → AreRowsOf places d (instances d) rows → HaveSigns rows
all-signs places d rows complete are i row v at defines bounded =
    let names = instances d in
    let a = row-at places d names rows i row are at in
    row-parts v a.name (terms_at places d a.name) row a.is.written
    (definition-parts places d a.name v complete (all-at (IsInstance d) names i a.name (all-instances d) a.at) (ap variable_of (sym a.is.written.named) ∙ defines) bounded)
