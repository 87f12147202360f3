-- Any two data that are the same but for numbers that one equation alone reads.
use Rattle.std.proofs.Common.{◌≡◌, ℕ, Bool, true, false, not, List, refl, ap, sym, ◌∙◌, subst, true≢false}
use Rattle.std.specs.Prelude.{ℤ}
use Rattle.named_equations.proofs.Common.{Data, IsUsedParam, RowName, Var, cost, exists, is_instance, says, subscript_sets}
use Rattle.named_equations.specs.Constants.{AreSameBut, AreWithin, constant_of, read_alone, value_within}
use Rattle.named_equations.proofs.SameInstances.{exists-same, instance-but, says-but, with_sets}
use Rattle.named_equations.proofs.SameValues.{Agree, with_values}

shared : (b : Bool) → not b ≡ true → b ≡ false
shared true h = absurd (true≢false (sym h))
shared false h = refl

module _ {d e : Data} (same : AreSameBut d e) where
  is_other : with_values d e.given e.defaults ≡ e
  is_other = with_sets d e same.sets same.second

  agree_but : Agree d e.given e.defaults
  agree_but = record {
    values = λ p is_shared used is within.
        subst (λ (f : Data). value_within d p is ≡ value_within f p is) (sym is_other) (same.values p (shared (read_alone p) is_shared) used is within);
  }

  -- what the equation alone reads at its index is the same in both
  abbrev pub ReadsAlike : RowName → Type 0
  ReadsAlike name = constant_of name.eq d name.index ≡ constant_of name.eq e name.index

  alike-there : (name : RowName) → ReadsAlike name → constant_of name.eq d name.index ≡ constant_of name.eq (with_values d e.given e.defaults) name.index
  alike-there name alike = subst (λ (f : Data). constant_of name.eq d name.index ≡ constant_of name.eq f name.index) (sym is_other) alike

  pub instance-alike : (name : RowName) → is_instance d name ≡ true → ReadsAlike name → is_instance e name ≡ true
  instance-alike name is alike = subst (λ (f : Data). is_instance f name ≡ true) is_other (instance-but agree_but name is (alike-there name alike))

  pub says-alike : (places q : ℕ) (x : Var → ℤ) (name : RowName) → is_instance d name ≡ true → ReadsAlike name → says places d q x name ≡ says places e q x name
  says-alike places q x name is alike = says-but agree_but places q x name is (alike-there name alike) ∙ ap (λ (f : Data). says places f q x name) is_other

  pub exists-alike : (v : Var) → exists d v ≡ exists e v
  exists-alike v = exists-same agree_but v ∙ ap (λ (f : Data). exists f v) is_other

  pub cost-alike : (x : Var → ℤ) → cost d x ≡ cost e x
  cost-alike x = ap (λ (f : Data). cost f x) is_other
