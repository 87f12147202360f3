-- The field at a place, as `csv` looks it up.
use Rattle.plan_files.proofs.Common.{◌≡◌, ℕ, zero, suc, List, [], ◌∷◌, Option, Some, None, get_or, refl, sym, ap, ◌∙◌, field_at}

abbrev field_or : Option (List ℕ) → List ℕ
field_or None = []
field_or (Some field) = field

-- the field that is there, or nothing
field_is : (fields : List (List ℕ)) (place : ℕ) → get_or fields place [] ≡ field_or (field_at fields place)
unfolding field_at
field_is [] place = refl
field_is (f ∷ fields) zero = refl
field_is (f ∷ fields) (suc place) = field_is fields place

pub field_there : (fields : List (List ℕ)) (place : ℕ) (f : List ℕ) → Some f ≡ field_at fields place → f ≡ get_or fields place []
field_there fields place f is = ap field_or is ∙ sym (field_is fields place)

pub field_nowhere : (fields : List (List ℕ)) (place : ℕ) → None ≡ field_at fields place → [] ≡ get_or fields place []
field_nowhere fields place is = ap field_or is ∙ sym (field_is fields place)
