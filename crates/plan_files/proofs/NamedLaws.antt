-- Variables and rows of the sets, by the fields of a record.
use Rattle.plan_files.proofs.Common.{◌≡◌, ℕ, Bool, List, [], ◌∷◌, map, get_or, sym, ap, ◌∙◌, subst, SetLists, RowName, Var, equation_at, equation_has, kind_at, kind_has, Fields, field, name_of, subscripts_in, IsListedRow, IsListedVariable, IsIndexOf, places, row_fields, variable_fields}
use Rattle.plan_files.proofs.SubscriptLaws.{index_by_fields}
use Rattle.plan_files.proofs.WithinLaws.{within_at}

abbrev tail_of : List (List ℕ) → List (List ℕ)
tail_of [] = []
tail_of (f ∷ fs) = fs

pub variable_index : (sets : SetLists) (v : Var) (word : List ℕ) (r : Fields) (kind : ℕ) (has : List Bool) → IsListedVariable sets v → variable_fields sets v ≡ word ∷ subscripts_in r → kind ≡ v.kind → has ≡ map (kind_has kind) places → IsIndexOf sets has r v.index
variable_index sets v word r kind has listed same is answers =
    subst (λ hs. IsIndexOf sets hs r v.index) (sym (answers ∙ ap (λ k. map (kind_has k) places) is))
    (index_by_fields sets (kind_has v.kind) v.index r (within_at sets v.index (kind_at v.kind).subscripts listed.1) listed.2 (ap tail_of same))

pub row_index : (sets : SetLists) (n : RowName) (r : Fields) (eq : ℕ) (has : List Bool) → IsListedRow sets n → row_fields sets n ≡ name_of r → eq ≡ n.eq → has ≡ map (equation_has eq) places → IsIndexOf sets has r n.index
row_index sets n r eq has listed same is answers =
    subst (λ hs. IsIndexOf sets hs r n.index) (sym (answers ∙ ap (λ k. map (equation_has k) places) is))
    (index_by_fields sets (equation_has n.eq) n.index r (within_at sets n.index (equation_at n.eq).subscripts listed.1) listed.2 (ap tail_of same))

pub word_field : (word : List ℕ) (fields : List (List ℕ)) (r : Fields) → word ∷ fields ≡ name_of r → word ≡ field r 0
word_field word fields r same = ap (λ fs. get_or fs 0 []) same
