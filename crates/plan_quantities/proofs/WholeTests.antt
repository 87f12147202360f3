-- What a test of a whole list says of each in it.
use Rattle.plan_quantities.proofs.Common.{◌≡◌, Bool, true, List, [], ◌∷◌, inl, inr, ap, sym, ◌∙◌, list_all, and_parts, Has}

-- what passes everywhere passes at each
pub all_at : {A : Type 0} (test : A → Bool) (xs : List A) (x : A) → list_all test xs ≡ true → Has xs x → test x ≡ true
all_at test [] x passes has = absurd has
all_at test (y ∷ ys) x passes (inl e) = ap test (sym e) ∙ (and_parts (test y) (list_all test ys) passes).0
all_at test (y ∷ ys) x passes (inr has) = all_at test ys x (and_parts (test y) (list_all test ys) passes).1 has
