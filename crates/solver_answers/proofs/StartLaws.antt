-- Values to start from, and one more that is found.
use Rattle.solver_answers.proofs.Common.{◌≡◌, ℕ, ◌+◌, ◌<◌, Bool, true, false, eqb, eqb-true, List, [], ◌∷◌, ◌++◌, length, get_or, set, replicate, Option, None, ◌⊎◌, inl, inr, refl, sym, ap, subst, ◌∙◌, arith, eqb-false, Float, float_zero, count_by, unwrap_or, get_or-replicate, get_or-set_other, get_or-set_same, length-replicate, length-set, Found, Value, Passed, Blank, Nothing, End, Wrong, StartValues, AreStartValues, is_passed, is_value, last_value, later_or, value_in}
use Rattle.solver_answers.proofs.ToldLaws.{count_push_no, count_push_yes, last_value-push}

-- the values of so many variables: what `AreStartValues` says of them
pub record AreValues (count : ℕ) (founds : List Found) (values : List Float) : Type 0 where
  pub many : length values ≡ count
  pub each : (place : ℕ) → place < count → get_or values place float_zero ≡ unwrap_or (last_value place founds) float_zero

pub zeros : (count : ℕ) → AreValues count [] (replicate count float_zero)
zeros count = record { many = length-replicate count float_zero; each = λ place l. get_or-replicate count place float_zero float_zero l }

pub value_put : (count : ℕ) (founds : List Found) (values : List Float) (here : ℕ) (x : Float) → AreValues count founds values → AreValues count (founds ++ Value here x ∷ []) (set values here x)
value_put count founds values here x are = record { many = length-set values here x ∙ are.many; each = each }
  where
    at_place : (place : ℕ) (same : Bool) → eqb here place ≡ same → place < count → get_or (set values here x) place float_zero ≡ unwrap_or (later_or (value_in place (Value here x)) (last_value place founds)) float_zero
    at_place place true same l =
        let is = eqb-true here place same in
        rw same (ap (λ (p : ℕ). get_or (set values here x) p float_zero) (sym is) ∙ get_or-set_same values here x float_zero (omega (arith, are.many, l, is)))
    at_place place false same l = rw same (get_or-set_other values here place x float_zero (λ is. eqb-false here place same (sym is)) ∙ are.each place l)

    each : (place : ℕ) → place < count → get_or (set values here x) place float_zero ≡ unwrap_or (last_value place (founds ++ Value here x ∷ [])) float_zero
    each place l = rw (last_value-push place founds (Value here x)) (at_place place (eqb here place) refl l)

-- what gives no value leaves the values
pub value_kept : (count : ℕ) (founds : List Found) (found : Found) (values : List Float) → ((place : ℕ) → value_in place found ≡ None) → AreValues count founds values → AreValues count (founds ++ found ∷ []) values
value_kept count founds found values none are =
    record { many = are.many; each = λ place l. are.each place l ∙ ap (λ (v : Option Float). unwrap_or v float_zero) (sym (last_value-push place founds found ∙ ap (λ (v : Option Float). later_or v (last_value place founds)) (none place))) }

-- the values are those that are known
module _ (count : ℕ) (founds : List Found) where
  pub values_of : (start : StartValues) → AreStartValues count founds start → AreValues count founds start.values.items
  values_of start are = record { many = are.many; each = are.each }

  pub one_taken : (old new : StartValues) (place : ℕ) (x : Float) → AreStartValues count founds old → new.values.items ≡ set old.values.items place x → new.taken ≡ old.taken + 1 → new.passed ≡ old.passed
      → AreStartValues count (founds ++ Value place x ∷ []) new
  one_taken old new place x are items taken passed =
      let values : AreValues count (founds ++ Value place x ∷ []) new.values.items = subst (AreValues count (founds ++ Value place x ∷ [])) (sym items) (value_put count founds old.values.items place x (values_of old are)) in
      record {
        many = values.many;
        each = values.each;
        taken = taken ∙ ap (λ (n : ℕ). n + 1) are.taken ∙ sym (count_push_yes is_value founds (Value place x) refl);
        passed = passed ∙ are.passed ∙ sym (count_push_no is_passed founds (Value place x) refl);
      }

  pub one_passed : (old new : StartValues) → AreStartValues count founds old → new.values.items ≡ old.values.items → new.taken ≡ old.taken → new.passed ≡ old.passed + 1 → AreStartValues count (founds ++ Passed ∷ []) new
  one_passed old new are items taken passed =
      let values : AreValues count (founds ++ Passed ∷ []) new.values.items = subst (AreValues count (founds ++ Passed ∷ [])) (sym items) (value_kept count founds Passed old.values.items (λ _. refl) (values_of old are)) in
      record {
        many = values.many;
        each = values.each;
        taken = taken ∙ are.taken ∙ sym (count_push_no is_value founds Passed refl);
        passed = passed ∙ ap (λ (n : ℕ). n + 1) are.passed ∙ sym (count_push_yes is_passed founds Passed refl);
      }

  -- what is neither
  pub one_kept : (found : Found) → ((place : ℕ) → value_in place found ≡ None) → is_value found ≡ false → is_passed found ≡ false → (start : StartValues) → AreStartValues count founds start → AreStartValues count (founds ++ found ∷ []) start
  one_kept found none no_value not_passed start are =
      let values : AreValues count (founds ++ found ∷ []) start.values.items = value_kept count founds found start.values.items none (values_of start are) in
      record { many = values.many; each = values.each; taken = are.taken ∙ not_counted is_value found no_value; passed = are.passed ∙ not_counted is_passed found not_passed }
    where
      not_counted : (p : Found → Bool) (found : Found) → p found ≡ false → count_by p founds ≡ count_by p (founds ++ found ∷ [])
      not_counted p found e = sym (count_push_no p founds found e)

  pub one_unheard : (found : Found) → (found ≡ Blank) ⊎ ((found ≡ Nothing) ⊎ ((found ≡ End) ⊎ (found ≡ Wrong))) → (start : StartValues) → AreStartValues count founds start → AreStartValues count (founds ++ found ∷ []) start
  one_unheard found (inl e) start are = rw e (one_kept Blank (λ _. refl) refl refl start are)
  one_unheard found (inr (inl e)) start are = rw e (one_kept Nothing (λ _. refl) refl refl start are)
  one_unheard found (inr (inr (inl e))) start are = rw e (one_kept End (λ _. refl) refl refl start are)
  one_unheard found (inr (inr (inr e))) start are = rw e (one_kept Wrong (λ _. refl) refl refl start are)
