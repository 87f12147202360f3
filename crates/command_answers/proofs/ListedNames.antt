-- Instances and variables that exist have subscripts in their sets, and 0 where they have none: files can name them.
use Rattle.command_answers.proofs.Common.{◌≡◌, ℕ, true, false, List, [], ◌∷◌, map, sym, subst, eqb-true, AllByRecursion, Data, Row, Var, exists, subscripts_of_kind, instances, is_index, is_one_of, is_value_at, subscripts_of, AreRowsOf, IsWithinSets, exists-within, AllByRecursion-weaker, HasUnusedZero, IsListedRow, IsListedVariable, name_of_row}
use Rattle.row_core.specs.declared.Index.{Index}
use Rattle.row_core.specs.Subscripts as place
use Rattle.row_book.proofs.Instances.{IsInstance, all-instances}
use Rattle.row_book.proofs.Subscripts.{values-from_index}
use Rattle.row_book.proofs.Within.{name-within, names-of_rows}

-- ---- subscripts

unused-zero : (d : Data) (subscripts : List ℕ) (i : Index) → is_index d subscripts i ≡ true → HasUnusedZero (is_one_of subscripts) i
unused-zero d subscripts i h =
    let v = values-from_index d subscripts i h in
    let at : (place value : ℕ) → is_value_at d subscripts place value ≡ true → is_one_of subscripts place ≡ false → value ≡ 0 = λ place value is none. eqb-true value 0 (rw none at is) in (
      at place.r i.region v.region,
      (at place.rr i.other v.other, (at place.l i.slice v.slice, (at place.t i.tech v.tech, (at place.f i.fuel v.fuel, (at place.e i.emission v.emission, (at place.m i.mode v.mode, (at place.y i.year v.year, tt))))))),
    )

-- ---- variables

pub vars-listed : (d : Data) (vars : List Var) → AllByRecursion (IsWithinSets d.sets) vars → AllByRecursion (λ v. exists d v ≡ true) vars → AllByRecursion (IsListedVariable d.sets) vars
vars-listed d [] within exist = tt
vars-listed d (v ∷ vars) within exist = ((within.0.0, within.0.1, unused-zero d (subscripts_of_kind v.kind) v.index (exists-within d v exist.0)), vars-listed d vars within.1 exist.1)

-- ---- rows

pub rows-listed : (places : ℕ) (d : Data) (rows : List Row) → AreRowsOf places d (instances d) rows → AllByRecursion (IsListedRow d.sets) (map name_of_row rows)
rows-listed places d rows are =
    subst (AllByRecursion (IsListedRow d.sets)) (sym (names-of_rows places d (instances d) rows are))
    (AllByRecursion-weaker (IsInstance d) (IsListedRow d.sets)
    (λ name is. let within = name-within d name is in (within.0, within.1, unused-zero d (subscripts_of name.eq) name.index is.within)) (instances d) (all-instances d))
