-- Two data that are the same, or the same but for numbers that one equation alone reads, have an instance of each named equation at the same positions in the sets.
use Rattle.named_equations.proofs.Common.{◌≡◌, ℕ, List, true, refl, ap, Data, Default, Given, Index, EBA1, EBA2, EBA4, EBA5, ACC1, ACC2, SV1, SV2, SV3, E1, TCC1, TCC2, NCC1, NCC2, AAC2, AAC3, TAC2, TAC3, RE1, RE5, E8, E9, EQUATION_COUNT, stands_at, subscripts_of, is_limit, is_positive}
use Rattle.named_equations.proofs.PositionsInSets.{AreInSets}
use Rattle.named_equations.proofs.SameConditions.{emits_in_mode-same, has_sv1-same, has_sv2-same, has_sv3-same, produces-same, produces_in_mode-same, uses-same, uses_in_mode-same}
use Rattle.named_equations.specs.Constants.{constant_of, stands_by_constant}
use Rattle.named_equations.proofs.SameValues.{Agree, ◌also◌, with_values}
use Rattle.named_equations.proofs.TermMeaning.{EachFrom}

module _ {d : Data} {given : List Given} {defaults : List Default} (same : Agree d given defaults) where
  -- where its subscripts lie in their sets, and the number by which it stands, if it stands by one, is the same, the equation of this number stands at the
  -- index in both or in neither
  abbrev pub StandsSame : Index → ℕ → Type 0
  StandsSame i eq =
      AreInSets d (subscripts_of eq) i → (stands_by_constant eq ≡ true → constant_of eq d i ≡ constant_of eq (with_values d given defaults) i)
      → stands_at d eq i ≡ stands_at (with_values d given defaults) eq i

  eba1-stands : (i : Index) → StandsSame i EBA1
  eba1-stands i at constant = produces_in_mode-same same i.region i.tech i.fuel i.mode i.year (at.region refl) (at.technology refl) (at.fuel refl) (at.mode refl) (at.year refl)

  eba2-stands : (i : Index) → StandsSame i EBA2
  eba2-stands i at constant = produces-same same i.region i.tech i.fuel i.year (at.region refl) (at.technology refl) (at.fuel refl) (at.year refl)

  eba4-stands : (i : Index) → StandsSame i EBA4
  eba4-stands i at constant = uses_in_mode-same same i.region i.tech i.fuel i.mode i.year (at.region refl) (at.technology refl) (at.fuel refl) (at.mode refl) (at.year refl)

  eba5-stands : (i : Index) → StandsSame i EBA5
  eba5-stands i at constant = uses-same same i.region i.tech i.fuel i.year (at.region refl) (at.technology refl) (at.fuel refl) (at.year refl)

  acc1-stands : (i : Index) → StandsSame i ACC1
  acc1-stands i at constant = produces-same same i.region i.tech i.fuel i.year (at.region refl) (at.technology refl) (at.fuel refl) (at.year refl)

  acc2-stands : (i : Index) → StandsSame i ACC2
  acc2-stands i at constant = uses-same same i.region i.tech i.fuel i.year (at.region refl) (at.technology refl) (at.fuel refl) (at.year refl)

  sv1-stands : (i : Index) → StandsSame i SV1
  sv1-stands i at constant = has_sv1-same same i.region i.tech i.year (at.region refl) (at.technology refl)

  sv2-stands : (i : Index) → StandsSame i SV2
  sv2-stands i at constant = has_sv2-same same i.region i.tech i.year (at.region refl) (at.technology refl)

  sv3-stands : (i : Index) → StandsSame i SV3
  sv3-stands i at constant = has_sv3-same same i.region i.tech i.year (at.region refl) (at.technology refl)

  e1-stands : (i : Index) → StandsSame i E1
  e1-stands i at constant = emits_in_mode-same same i.region i.tech i.emission i.mode i.year (at.region refl) (at.technology refl) (at.emission refl) (at.mode refl) (at.year refl)

  tcc1-stands : (i : Index) → StandsSame i TCC1
  tcc1-stands i at constant = ap is_limit (constant refl)

  tcc2-stands : (i : Index) → StandsSame i TCC2
  tcc2-stands i at constant = ap is_positive (constant refl)

  ncc1-stands : (i : Index) → StandsSame i NCC1
  ncc1-stands i at constant = ap is_limit (constant refl)

  ncc2-stands : (i : Index) → StandsSame i NCC2
  ncc2-stands i at constant = ap is_positive (constant refl)

  aac2-stands : (i : Index) → StandsSame i AAC2
  aac2-stands i at constant = ap is_limit (constant refl)

  aac3-stands : (i : Index) → StandsSame i AAC3
  aac3-stands i at constant = ap is_positive (constant refl)

  tac2-stands : (i : Index) → StandsSame i TAC2
  tac2-stands i at constant = ap is_positive (constant refl)

  tac3-stands : (i : Index) → StandsSame i TAC3
  tac3-stands i at constant = ap is_positive (constant refl)

  re1-stands : (i : Index) → StandsSame i RE1
  re1-stands i at constant = produces-same same i.region i.tech i.fuel i.year (at.region refl) (at.technology refl) (at.fuel refl) (at.year refl)

  re5-stands : (i : Index) → StandsSame i RE5
  re5-stands i at constant = uses-same same i.region i.tech i.fuel i.year (at.region refl) (at.technology refl) (at.fuel refl) (at.year refl)

  e8-stands : (i : Index) → StandsSame i E8
  e8-stands i at constant = ap is_limit (constant refl)

  e9-stands : (i : Index) → StandsSame i E9
  e9-stands i at constant = ap is_limit (constant refl)

  -- one that stands at every index
  everywhere : {A B : Type 0} → A → B → true ≡ true
  everywhere at constant = refl

  -- so each of the 64
  pub all-stand : (i : Index) → EachFrom (StandsSame i) 1 EQUATION_COUNT
  all-stand i =
      everywhere also everywhere also everywhere also everywhere also everywhere also everywhere also eba1-stands i also
      eba2-stands i also everywhere also eba4-stands i also eba5-stands i also everywhere also everywhere also everywhere also
      everywhere also everywhere also everywhere also everywhere also everywhere also everywhere also everywhere also
      acc1-stands i also acc2-stands i also everywhere also everywhere also everywhere also sv1-stands i also sv2-stands i also
      sv3-stands i also everywhere also everywhere also everywhere also everywhere also everywhere also e1-stands i also
      everywhere also everywhere also everywhere also everywhere also everywhere also everywhere also everywhere also
      tcc1-stands i also tcc2-stands i also ncc1-stands i also ncc2-stands i also everywhere also aac2-stands i also aac3-stands i also
      everywhere also tac2-stands i also tac3-stands i also everywhere also everywhere also everywhere also re1-stands i also
      everywhere also everywhere also everywhere also re5-stands i also everywhere also everywhere also e8-stands i also
      e9-stands i also tt
