-- The lines so far, and what they make of the text.
use Rattle.solver_answers.proofs.Common.{◌≡◌, ℕ, ◌+◌, Bool, true, false, List, [], ◌∷◌, ◌++◌, length, refl, sym, ap, ◌∙◌, subst, append_assoc, arith, AllByRecursion, append-nil, length-append, lines, NoStart, Start, Fault, Form, Found, End, Nothing, Wrong, StartValues, ends_with_mark, found_in, founds_in, text_tells, AreStartValues, IsAnswer, IsFailOf, Told, Gives, told, words}
use Rattle.solver_answers.proofs.ToldLaws.{GoesOn, after_all, after_all-Breaks, after_all-Gives, after_all-Lacks, goes_push, told-append}

-- the lines before this number, after which the reading goes on; the values are those that they give
pub record IsSoFar (form : Form) (columns rows : ℕ) (text left : List ℕ) (number : ℕ) (start : StartValues) : Type 0 where
  pub before : List Found
  pub goes : AllByRecursion GoesOn before
  pub count : number ≡ 1 + length before
  pub whole : founds_in form columns rows 1 (lines text) ≡ before ++ founds_in form columns rows number (lines left)
  pub values : AreStartValues columns before start

pub begun : (form : Form) (columns rows : ℕ) (text : List ℕ) (start : StartValues) → AreStartValues columns [] start → IsSoFar form columns rows text text 1 start
begun form columns rows text start are = record { before = []; goes = tt; count = refl; whole = refl; values = are }

module _ (form : Form) (columns rows : ℕ) (text left : List ℕ) (number : ℕ) (start : StartValues) (so_far : IsSoFar form columns rows text left number start) where
  -- what is told from here on tells the rest
  rest_tells : text_tells form columns rows text ≡ after_all so_far.before (told (ends_with_mark form) number (founds_in form columns rows number (lines left)))
  rest_tells =
      ap (told (ends_with_mark form) 1) so_far.whole ∙ told-append (ends_with_mark form) 1 so_far.before (founds_in form columns rows number (lines left)) so_far.goes
      ∙ ap (λ (n : ℕ). after_all so_far.before (told (ends_with_mark form) n (founds_in form columns rows number (lines left)))) (sym so_far.count)

  said_is : (rest : List Found) → founds_in form columns rows number (lines left) ≡ rest → text_tells form columns rows text ≡ after_all so_far.before (told (ends_with_mark form) number rest)
  said_is rest e = rest_tells ∙ ap (λ (xs : List Found). after_all so_far.before (told (ends_with_mark form) number xs)) e

  gives : text_tells form columns rows text ≡ after_all so_far.before (Gives []) → IsAnswer columns (text_tells form columns rows text) (Start start)
  gives e =
      subst (λ (t : Told). IsAnswer columns t (Start start)) (sym (e ∙ after_all-Gives so_far.before [] ∙ ap Gives (append-nil so_far.before))) so_far.values

  pub ended : lines left ≡ [] → ends_with_mark form ≡ false → IsAnswer columns (text_tells form columns rows text) (Start start)
  ended none unmarked =
      gives (said_is [] (ap (founds_in form columns rows number) none) ∙ ap (λ (marked : Bool). after_all so_far.before (told marked number [])) unmarked)

  pub cut_off : lines left ≡ [] → ends_with_mark form ≡ true → IsFailOf (text_tells form columns rows text) (Fault number)
  cut_off none marked =
      let e =
      said_is [] (ap (founds_in form columns rows number) none) ∙ ap (λ (marked : Bool). after_all so_far.before (told marked number [])) marked
      ∙ after_all-Breaks so_far.before number in
      subst (λ (t : Told). IsFailOf t (Fault number)) (sym e) refl

  module _ (line later : List ℕ) (next : lines left ≡ line ∷ lines later) where
    found_next : (found : Found) → found ≡ found_in form columns rows number (words line) → founds_in form columns rows number (lines left) ≡ found ∷ founds_in form columns rows (number + 1) (lines later)
    found_next found is = ap (founds_in form columns rows number) next ∙ ap (λ (f : Found). f ∷ founds_in form columns rows (number + 1) (lines later)) (sym is)

    pub lacks : Nothing ≡ found_in form columns rows number (words line) → IsAnswer columns (text_tells form columns rows text) NoStart
    lacks is =
        subst (λ (t : Told). IsAnswer columns t NoStart) (sym (said_is _ (found_next Nothing is) ∙ after_all-Lacks so_far.before)) tt

    pub marked_end : End ≡ found_in form columns rows number (words line) → IsAnswer columns (text_tells form columns rows text) (Start start)
    marked_end is = gives (said_is _ (found_next End is))

    pub breaks : Wrong ≡ found_in form columns rows number (words line) → IsFailOf (text_tells form columns rows text) (Fault number)
    breaks is =
        subst (λ (t : Told). IsFailOf t (Fault number)) (sym (said_is _ (found_next Wrong is) ∙ after_all-Breaks so_far.before number)) refl

    pub one_more : (found : Found) → found ≡ found_in form columns rows number (words line) → GoesOn found → (after : StartValues) → AreStartValues columns (so_far.before ++ found ∷ []) after → IsSoFar form columns rows text later (number + 1) after
    one_more found is goes after are =
        record {
          before = so_far.before ++ found ∷ [];
          goes = goes_push so_far.before found so_far.goes goes;
          count = omega (arith, so_far.count, length-append so_far.before (found ∷ []));
          whole =
              so_far.whole ∙ ap (λ (xs : List Found). so_far.before ++ xs) (found_next found is)
              ∙ sym (append_assoc so_far.before (found ∷ []) (founds_in form columns rows (number + 1) (lines later)));
          values = are;
        }
