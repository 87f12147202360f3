-- Records tell one thing at most.
use Rattle.plan_files.proofs.Common.{◌≡◌, ℕ, true, false, List, [], ◌∷◌, ◌++◌, Option, Some, None, inl, inr, refl, sym, ap, ap₂, ◌∙◌, subst, append_assoc, if◌then◌else◌, not, find, append-nil, Rational, lowest, keys_of, bottom_of, top_of, BadRecord, UnknownVar, Twice, BadValue, Missing, AreGiven, Breaks, BreaksFirst, HasNoHeader, IsInForm, AreRight, AreRightAfter, Fields, Gives, GivesValue, HasNoValue, HasValue, IsRight, field, is_named_in, record_of, header}
use Rattle.scaled_decimals.proofs.ValueTextLemmas.{one_value_way}
use Rattle.plan_files.specs.declared.faults.PlanFault.{PlanFault}
use Rattle.plan_files.proofs.TakenLaws.{some_given}

-- ---- values

one_value : (text : List ℕ) (x y : Rational) → HasValue text x → HasValue text y → x ≡ y
one_value text x y a b = a.3 ∙ ap (λ f. lowest (top_of f) (bottom_of f)) (one_value_way text a.0 b.0 a.1 b.1) ∙ sym b.3

false_true : false ≡ true → ⊥
false_true e = cc

value_or_none : (text : List ℕ) (x : Rational) → HasValue text x → HasNoValue text → ⊥
value_or_none text x a none = false_true (sym (none a.0 a.1) ∙ a.2)

abbrev or_value : Rational → Option Rational → Rational
or_value x None = x
or_value x (Some y) = y

one_given : (o : Option Fields) (x y : Rational) → GivesValue o (Some x) → GivesValue o (Some y) → x ≡ y
one_given None x y a b = absurd (cc a)
one_given (Some r) x y a b = ap (or_value x) a.1 ∙ one_value (field r 9) a.0 b.0 a.2 b.2 ∙ sym (ap (or_value y) b.1)

-- ---- lists of values

abbrev first_or : {K : Type 0} → K → List K → K
first_or d [] = d
first_or d (x ∷ xs) = x

abbrev after_first : {K : Type 0} → List K → List K
after_first [] = []
after_first (x ∷ xs) = xs

pub same_told : {K : Type 0} (f : K → Fields) (rows : List Fields) (p q : List (K × Rational)) → keys_of p ≡ keys_of q → AreGiven f rows p → AreGiven f rows q → p ≡ q
same_told f rows [] [] keys a b = refl
same_told f rows [] (e ∷ q) keys a b = absurd (cc keys)
same_told f rows (d ∷ p) [] keys a b = absurd (cc keys)
same_told {K} f rows (d ∷ p) (e ∷ q) keys a b =
    let key : d.0 ≡ e.0 = ap (first_or d.0) keys in
    let value : d.1 ≡ e.1 = one_given (record_of rows (f e.0)) d.1 e.1 (subst (λ k. Gives rows (f k) (Some d.1)) key a.0) b.0 in
    ap₂ (λ (x : K × Rational) (xs : List (K × Rational)). x ∷ xs) (ap₂ (λ (k : K) (v : Rational). (k, v)) key value) (same_told f rows p q (ap after_first keys) a.1 b.1)

pub none_missing : {K : Type 0} (f : K → Fields) (rows : List Fields) (p : List (K × Rational)) → AreGiven f rows p → find (λ k. not (is_named_in rows (f k))) (keys_of p) ≡ None
none_missing f rows [] a = refl
none_missing f rows (e ∷ p) a =
    ap (λ b. if not b then Some e.0 else find (λ k. not (is_named_in rows (f k))) (keys_of p)) (some_given (record_of rows (f e.0)) (Some e.1) refl a.0) ∙ none_missing f rows p a.1

-- ---- right records and broken ones

pub same_rows : (all rows others : List Fields) → all ≡ header ∷ rows → all ≡ header ∷ others → rows ≡ others
same_rows all rows others a b = ap after_first (sym a ∙ b)

right_not_broken : (names earlier : List Fields) (r : Fields) (fault : PlanFault) → IsRight names earlier r → Breaks names earlier r fault → ⊥
right_not_broken names earlier r (BadRecord n) right broken = broken.1 right.ten
right_not_broken names earlier r (UnknownVar n) right broken = broken.2 right.known
right_not_broken names earlier r (Twice n) right broken = false_true (sym right.once ∙ broken.3)
right_not_broken names earlier r (BadValue n) right broken = value_or_none (field r 9) right.value right.exact broken.4
right_not_broken names earlier r (Missing v) right broken = broken

right_at : (names before earlier : List Fields) (r : Fields) (later : List Fields) → AreRightAfter names before (earlier ++ r ∷ later) → IsRight names (before ++ earlier) r
right_at names before [] r later all = subst (λ xs. IsRight names xs r) (sym (append-nil before)) all.0
right_at names before (x ∷ earlier) r later all = subst (λ xs. IsRight names xs r) (append_assoc before (x ∷ []) earlier) (right_at names (before ++ x ∷ []) earlier r later all.1)

pub in_form_not_broken : (names all rows : List Fields) (fault : PlanFault) → IsInForm names all rows → BreaksFirst names all fault → ⊥
in_form_not_broken names all rows fault form (inl none) = let other : HasNoHeader (header ∷ rows) = subst HasNoHeader form.whole none.0 in other refl
in_form_not_broken names all rows fault form (inr broken) =
    let right = subst (AreRight names) (same_rows all rows (broken.earlier ++ broken.r ∷ broken.later) form.whole broken.whole) form.right in
    right_not_broken names broken.earlier broken.r fault (right_at names [] broken.earlier broken.r broken.later right) broken.broken

same_break : (names earlier : List Fields) (r : Fields) (f g : PlanFault) → Breaks names earlier r f → Breaks names earlier r g → f ≡ g
same_break names earlier r (BadRecord n) (BadRecord m) a b = ap BadRecord (a.0 ∙ sym b.0)
same_break names earlier r (BadRecord n) (UnknownVar m) a b = absurd (a.1 b.1)
same_break names earlier r (BadRecord n) (Twice m) a b = absurd (a.1 b.1)
same_break names earlier r (BadRecord n) (BadValue m) a b = absurd (a.1 b.1)
same_break names earlier r (UnknownVar n) (BadRecord m) a b = absurd (b.1 a.1)
same_break names earlier r (UnknownVar n) (UnknownVar m) a b = ap UnknownVar (a.0 ∙ sym b.0)
same_break names earlier r (UnknownVar n) (Twice m) a b = absurd (a.2 b.2)
same_break names earlier r (UnknownVar n) (BadValue m) a b = absurd (a.2 b.2)
same_break names earlier r (Twice n) (BadRecord m) a b = absurd (b.1 a.1)
same_break names earlier r (Twice n) (UnknownVar m) a b = absurd (b.2 a.2)
same_break names earlier r (Twice n) (Twice m) a b = ap Twice (a.0 ∙ sym b.0)
same_break names earlier r (Twice n) (BadValue m) a b = absurd (false_true (sym b.3 ∙ a.3))
same_break names earlier r (BadValue n) (BadRecord m) a b = absurd (b.1 a.1)
same_break names earlier r (BadValue n) (UnknownVar m) a b = absurd (b.2 a.2)
same_break names earlier r (BadValue n) (Twice m) a b = absurd (false_true (sym a.3 ∙ b.3))
same_break names earlier r (BadValue n) (BadValue m) a b = ap BadValue (a.0 ∙ sym b.0)
same_break names earlier r (Missing v) g a b = absurd a
same_break names earlier r (BadRecord n) (Missing w) a b = absurd b
same_break names earlier r (UnknownVar n) (Missing w) a b = absurd b
same_break names earlier r (Twice n) (Missing w) a b = absurd b
same_break names earlier r (BadValue n) (Missing w) a b = absurd b

-- the first record that isn't right is one record
one_break : (names before e1 e2 : List Fields) (r1 r2 : Fields) (l1 l2 : List Fields) (f g : PlanFault) → e1 ++ r1 ∷ l1 ≡ e2 ++ r2 ∷ l2 → AreRightAfter names before e1 → AreRightAfter names before e2
    → Breaks names (before ++ e1) r1 f → Breaks names (before ++ e2) r2 g → f ≡ g
one_break names before [] [] r1 r2 l1 l2 f g same a b broken other = same_break names (before ++ []) r2 f g (subst (λ r. Breaks names (before ++ []) r f) (ap (first_or r1) same) broken) other
one_break names before [] (y ∷ e2) r1 r2 l1 l2 f g same a b broken other =
    absurd (right_not_broken names before y f b.0 (subst (λ r. Breaks names before r f) (ap (first_or r1) same) (subst (λ xs. Breaks names xs r1 f) (append-nil before) broken)))
one_break names before (x ∷ e1) [] r1 r2 l1 l2 f g same a b broken other =
    absurd (right_not_broken names before x g a.0 (subst (λ r. Breaks names before r g) (sym (ap (first_or r2) same)) (subst (λ xs. Breaks names xs r2 g) (append-nil before) other)))
one_break names before (x ∷ e1) (y ∷ e2) r1 r2 l1 l2 f g same a b broken other =
    let is : y ≡ x = sym (ap (first_or x) same) in
    one_break names (before ++ x ∷ []) e1 e2 r1 r2 l1 l2 f g (ap after_first same) a.1 (subst (λ r. AreRightAfter names (before ++ r ∷ []) e2) is b.1) (subst (λ xs. Breaks names xs r1 f) (sym (append_assoc before (x ∷ []) e1)) broken)
    (subst (λ xs. Breaks names xs r2 g) (ap (λ (r : Fields). before ++ r ∷ e2) is ∙ sym (append_assoc before (x ∷ []) e2)) other)

headed : (all rows : List Fields) → all ≡ header ∷ rows → HasNoHeader all → ⊥
headed all rows whole none = let other : HasNoHeader (header ∷ rows) = subst HasNoHeader whole none in other refl

pub one_first : (names all : List Fields) (f g : PlanFault) → BreaksFirst names all f → BreaksFirst names all g → f ≡ g
one_first names all f g (inl a) (inl b) = a.1 ∙ sym b.1
one_first names all f g (inl a) (inr b) = absurd (headed all (b.earlier ++ b.r ∷ b.later) b.whole a.0)
one_first names all f g (inr a) (inl b) = absurd (headed all (a.earlier ++ a.r ∷ a.later) a.whole b.0)
one_first names all f g (inr a) (inr b) = one_break names [] a.earlier b.earlier a.r b.r a.later b.later f g (ap after_first (sym a.whole ∙ b.whole)) a.right b.right a.broken b.broken
