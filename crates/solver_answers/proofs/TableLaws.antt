-- The records so far, and what they make of the file.
use Rattle.solver_answers.proofs.Common.{◌≡◌, ℕ, ◌+◌, true, false, List, [], ◌∷◌, ◌++◌, Bor, inl, inr, length, refl, sym, ap, ◌∙◌, subst, append_assoc, arith, AllByRecursion, Err, append-nil, length-append, Fields, HasLeft, IsAfterHeader, IsNext, header, Start, Fault, Memory, Found, Value, Passed, Blank, Nothing, End, Wrong, StartValues, AreFound, IsFound, IsHeaderFail, IsTableAnswer, IsTableFail, AreStartValues, Breaks, Gives, told}
use Rattle.csv.specs.declared.reader.Reader.{Reader}
use Rattle.plan_files.specs.declared.faults.PlanFail.{PlanFail}
use Rattle.plan_files.specs.declared.faults.PlanFail.TheVariants as plan
use Rattle.solver_answers.specs.declared.answer.AnswerFail.{AnswerFail}
use Rattle.solver_answers.proofs.ToldLaws.{GoesOn, after_all-Breaks, after_all-Gives, goes_push, told-append, after_all}

-- the header was read, and these records after it, each in form; the values are those that they give
pub record IsSoFar (names all : List Fields) (columns : ℕ) (reader : Reader (Bor (List ℕ))) (number : ℕ) (start : StartValues) : Type 0 where
  pub earlier : List Fields
  pub later : List Fields
  pub before : List Found
  pub goes : AllByRecursion GoesOn before
  pub count : number ≡ 2 + length before
  pub whole : all ≡ header ∷ earlier ++ later
  pub found : AreFound names earlier before
  pub left : HasLeft reader later
  pub values : AreStartValues columns before start

pub begun : (names all : List Fields) (columns : ℕ) (reader : Reader (Bor (List ℕ))) (start : StartValues) → (later : List Fields) × (all ≡ header ∷ later) × HasLeft reader later
    → AreStartValues columns [] start → IsSoFar names all columns reader 2 start
begun names all columns reader start (later, whole, left) are =
    record { earlier = []; later = later; before = []; goes = tt; count = refl; whole = whole; found = tt; left = left; values = are }

found_push : (names earlier : List Fields) (before : List Found) (r : Fields) (found : Found) → AreFound names earlier before → IsFound names r found → AreFound names (earlier ++ r ∷ []) (before ++ found ∷ [])
found_push names [] [] r found all more = (more, tt)
found_push names [] (first ∷ before) r found all more = absurd all
found_push names (x ∷ earlier) [] r found all more = absurd all
found_push names (x ∷ earlier) (first ∷ before) r found all more = (all.0, found_push names earlier before r found all.1 more)

-- of what is found in a record only a wrong one ends the reading
pub goes_unless_wrong : (names : List Fields) (r : Fields) (found : Found) → IsFound names r found → (found ≡ Wrong → ⊥) → GoesOn found
goes_unless_wrong names r (Value place x) is not_wrong = tt
goes_unless_wrong names r Passed is not_wrong = tt
goes_unless_wrong names r Blank is not_wrong = tt
goes_unless_wrong names r Nothing is not_wrong = absurd is
goes_unless_wrong names r End is not_wrong = absurd is
goes_unless_wrong names r Wrong is not_wrong = not_wrong refl

module _ (names all : List Fields) (columns : ℕ) (reader after : Reader (Bor (List ℕ))) (number : ℕ) (start : StartValues) (r : Fields) (so_far : IsSoFar names all columns reader number start) where
  whole_with : (next : List Fields) → so_far.later ≡ r ∷ next → all ≡ header ∷ (so_far.earlier ++ r ∷ []) ++ next
  whole_with next e = so_far.whole ∙ ap (λ (xs : List Fields). header ∷ so_far.earlier ++ xs) e ∙ ap (λ (xs : List Fields). header ∷ xs) (sym (append_assoc so_far.earlier (r ∷ []) next))

  pub one_more : IsNext after so_far.later true r → (found : Found) → IsFound names r found → GoesOn found → (new : StartValues) → AreStartValues columns (so_far.before ++ found ∷ []) new
      → IsSoFar names all columns after (number + 1) new
  one_more next found is goes new are =
      record {
        earlier = so_far.earlier ++ r ∷ [];
        later = next.0;
        before = so_far.before ++ found ∷ [];
        goes = goes_push so_far.before found so_far.goes goes;
        count = omega (arith, so_far.count, length-append so_far.before (found ∷ []));
        whole = whole_with next.0 next.1;
        found = found_push names so_far.earlier so_far.before r found so_far.found is;
        left = next.2;
        values = are;
      }

  pub all_read : IsNext after so_far.later false r → length names ≡ columns → IsTableAnswer names all (Start start)
  all_read next many = (
    Gives so_far.before,
    inr (record {
      rows = so_far.earlier;
      later = so_far.later;
      founds = so_far.before;
      whole = so_far.whole;
      found = so_far.found;
      told = ap (told false 2) (sym (append-nil so_far.before)) ∙ told-append false 2 so_far.before [] so_far.goes ∙ after_all-Gives so_far.before [] ∙ ap Gives (append-nil so_far.before);
      through = next;
    }),
    subst (λ (n : ℕ). AreStartValues n so_far.before start) (sym many) so_far.values,
  )

  pub broken_at : IsNext after so_far.later true r → IsFound names r Wrong → IsTableFail names all (Fault number)
  broken_at next is =
      inr (record {
        rows = so_far.earlier ++ r ∷ [];
        later = next.0;
        founds = so_far.before ++ Wrong ∷ [];
        whole = whole_with next.0 next.1;
        found = found_push names so_far.earlier so_far.before r Wrong so_far.found is;
        told = told-append false 2 so_far.before (Wrong ∷ []) so_far.goes ∙ ap (λ (n : ℕ). after_all so_far.before (told false n (Wrong ∷ []))) (sym so_far.count) ∙ after_all-Breaks so_far.before number;
        through = tt;
      })

-- the records don't begin with the header
pub no_header : (names all : List Fields) (reader : Reader (Bor (List ℕ))) (fail : PlanFail) (result : AnswerFail) → IsAfterHeader reader all (Err fail) → IsHeaderFail fail result → IsTableFail names all result
no_header names all reader fail Memory is header_is = tt
no_header names all reader (plan.Fault fault) (Fault number) is header_is = inl (is.0, ap Breaks header_is)
no_header names all reader plan.Memory (Fault number) is header_is = absurd header_is
