-- The records of a file so far, and what the names are given by them.
use Rattle.plan_files.proofs.Common.{◌≡◌, ℕ, ◌+◌, ◌<◌, true, false, List, [], ◌∷◌, ◌++◌, Bor, length, replicate, Option, None, inl, inr, refl, sym, ap, ◌∙◌, subst, append_assoc, arith, drop, take, option_map, append-nil, drop_all, get_or-replicate, length-append, length-replicate, take_all, Reader, value_of, Frac, Breaks, BreaksFirst, IsFailOf, number_after, AreRight, AreRightAfter, Fields, IsRight, AreRead, AreTaken, HasLeft, IsAfterHeader, IsNext, header}
use Rattle.std.specs.Prelude.{Err}
use Rattle.plan_files.specs.declared.faults.PlanFail.{PlanFail}
use Rattle.plan_files.specs.declared.faults.PlanFail.TheVariants.{Fault, Memory}

-- the header was read, and these records after it, each right; the values are those that they give
pub record IsSoFar (names all : List Fields) (reader : Reader (Bor (List ℕ))) (number : ℕ) (values : List (Option Frac)) : Type 0 where
  pub earlier : List Fields
  pub later : List Fields
  pub count : number ≡ number_after earlier
  pub whole : all ≡ header ∷ earlier ++ later
  pub left : HasLeft reader later
  pub right : AreRight names earlier
  pub taken : AreTaken names earlier values

none_taken : (names : List Fields) (count : ℕ) → count ≡ length names → AreTaken names [] (replicate count None)
none_taken names count many =
    record {
      many = length-replicate count None ∙ many;
      each = λ i l. ap (option_map value_of) (get_or-replicate count i None None (inside i l));
    }
  where
    inside : (i : ℕ) → i < length names → i < count
    inside i l = omega (arith, l, many)

pub begun : (names all : List Fields) (reader : Reader (Bor (List ℕ))) (values : List (Option Frac)) (count : ℕ) → count ≡ length names → values ≡ replicate count None
    → (later : List Fields) × (all ≡ header ∷ later) × HasLeft reader later → IsSoFar names all reader 2 values
begun names all reader values count many none (later, whole, left) =
    record { earlier = []; later = later; count = refl; whole = whole; left = left; right = tt; taken = subst (AreTaken names []) (sym none) (none_taken names count many) }

right_push : (names earlier rows : List Fields) (r : Fields) → AreRightAfter names earlier rows → IsRight names (earlier ++ rows) r → AreRightAfter names earlier (rows ++ r ∷ [])
right_push names earlier [] r all right = (subst (λ xs. IsRight names xs r) (append-nil earlier) right, tt)
right_push names earlier (x ∷ rows) r all right =
    (all.0, right_push names (earlier ++ x ∷ []) rows r all.1 (subst (λ xs. IsRight names xs r) (sym (append_assoc earlier (x ∷ []) rows)) right))

module _ (names all : List Fields) where
  pub one_more : (reader after : Reader (Bor (List ℕ))) (number : ℕ) (values given : List (Option Frac)) (r : Fields) (so_far : IsSoFar names all reader number values) → IsNext after so_far.later true r
      → IsRight names so_far.earlier r × AreTaken names (so_far.earlier ++ r ∷ []) given → IsSoFar names all after (number + 1) given
  one_more reader after number values given r so_far next taken =
      record {
        earlier = so_far.earlier ++ r ∷ [];
        later = next.0;
        count = ap (λ n. n + 1) so_far.count ∙ counted (length so_far.earlier) (length (so_far.earlier ++ r ∷ [])) (length-append so_far.earlier (r ∷ []));
        whole = so_far.whole ∙ ap (λ xs. header ∷ so_far.earlier ++ xs) next.1 ∙ ap (λ xs. header ∷ xs) (sym (append_assoc so_far.earlier (r ∷ []) next.0));
        left = next.2;
        right = right_push names [] so_far.earlier r so_far.right taken.0;
        taken = taken.1;
      }
    where
      counted : (n m : ℕ) → m ≡ n + 1 → n + 2 + 1 ≡ m + 2
      counted n m e = omega (arith, e)

  pub broken_at : (reader after : Reader (Bor (List ℕ))) (number : ℕ) (values : List (Option Frac)) (r : Fields) (so_far : IsSoFar names all reader number values) → IsNext after so_far.later true r → (fail : PlanFail)
      → IsFailOf (Breaks names so_far.earlier r) fail → IsFailOf (BreaksFirst names all) fail
  broken_at reader after number values r so_far next (Fault fault) broken =
      inr (record {
        earlier = so_far.earlier;
        r = r;
        later = next.0;
        whole = so_far.whole ∙ ap (λ xs. header ∷ so_far.earlier ++ xs) next.1;
        right = so_far.right;
        broken = broken;
      })
  broken_at reader after number values r so_far next Memory broken = tt

  pub no_header : (reader : Reader (Bor (List ℕ))) (fail : PlanFail) → IsAfterHeader reader all (Err fail) → IsFailOf (BreaksFirst names all) fail
  no_header reader (Fault fault) h = inl h
  no_header reader Memory h = tt

  pub all_read : (reader after : Reader (Bor (List ℕ))) (number : ℕ) (values : List (Option Frac)) (r : Fields) (so_far : IsSoFar names all reader number values) → IsNext after so_far.later false r → AreRead names all values
  all_read reader after number values r so_far next =
      record {
        rows = so_far.earlier;
        form = record { whole = so_far.whole ∙ ap (λ xs. header ∷ so_far.earlier ++ xs) next ∙ ap (λ xs. header ∷ xs) (append-nil so_far.earlier); right = so_far.right };
        taken = so_far.taken;
      }

-- a list that was lent as a whole and is given back
pub given_back : {A : Type 0} (n : ℕ) (given old : List A) → length given ≡ length old → length old ≡ n → take n (given ++ drop (length given) old) ≡ given
given_back n given old same many =
    ap (λ xs. take n (given ++ xs)) (drop_all (length given) old (omega (arith, same))) ∙ ap (take n) (append-nil given) ∙ take_all n given (omega (arith, same, many))
