-- A member by its name, and the subscripts that the fields of a record name.
use Rattle.plan_files.proofs.Common.{◌≡◌, ℕ, zero, suc, ◌+◌, ◌<◌, Bool, true, false, List, [], ◌∷◌, length, map, get_or, position, Option, Some, None, refl, sym, ap, ◌∙◌, subst, arith, if◌then◌else◌, not, nat_lt, IsDistinct, position_or_len, prefix_len, IfSome, bytes_eq, lt-ltb, bytes_eq-Decides, SetLists, index_of, members, Index, IsWithin, position_at, set_of, Fields, field, HasUnusedZero, IsIndexOf, IsSubscript, places, subscript_field, subscript_fields}
use Rattle.std.proofs.lemmas.List.Quantifiers.{position-Some}
use Rattle.std.proofs.lemmas.Map.Keys.{IsDistinct-head, IsDistinct-tail}
use Rattle.plan_files.proofs.KeyLaws.{all_at}

-- ---- the position of a name that stands once

first_passing : {A : Type 0} (p : A → Bool) (xs : List A) (i : ℕ) (d : A) → i < length xs → p (get_or xs i d) ≡ true → ((k : ℕ) → k < i → p (get_or xs k d) ≡ false) → position_or_len p xs ≡ i
first_passing p [] i d l here before = absurd (omega arith)
first_passing p (x ∷ xs) zero d l here before = ap (λ b. if not b then 1 + prefix_len (λ y. not (p y)) xs else 0) here
first_passing p (x ∷ xs) (suc i) d l here before =
    ap (λ b. if not b then 1 + prefix_len (λ y. not (p y)) xs else 0) (before 0 (omega arith)) ∙ ap (λ n. 1 + n) (first_passing p xs i d (omega arith) here (λ k h. before (suc k) (omega arith))) ∙ one_more i
  where
    one_more : (n : ℕ) → 1 + n ≡ suc n
    one_more n = omega arith

position_is : {A : Type 0} (p : A → Bool) (xs : List A) (i : ℕ) (d : A) → i < length xs → p (get_or xs i d) ≡ true → ((k : ℕ) → k < i → p (get_or xs k d) ≡ false) → position p xs ≡ Some i
position_is p xs i d l here before =
    ap (λ n. if nat_lt n (length xs) then Some n else None) (first_passing p xs i d l here before) ∙ ap (λ b. if b then Some i else None) (lt-ltb i (length xs) l)

apart_at : (names : List (List ℕ)) → IsDistinct bytes_eq names → (k i : ℕ) → k < i → i < length names → bytes_eq (get_or names k []) (get_or names i []) ≡ false
apart_at [] distinct k i h l = absurd (omega arith)
apart_at (x ∷ names) distinct k zero h l = absurd (omega arith)
apart_at (x ∷ names) distinct zero (suc i) h l = all_at (λ y. bytes_eq x y ≡ false) names i [] (IsDistinct-head bytes_eq x names distinct) (omega arith)
apart_at (x ∷ names) distinct (suc k) (suc i) h l = apart_at names (IsDistinct-tail bytes_eq x names distinct) k i (omega arith) (omega arith)

index_of_member : (names : List (List ℕ)) (name : List ℕ) (i : ℕ) → IsDistinct bytes_eq names → i < length names → get_or names i [] ≡ name → index_of names name ≡ Some i
index_of_member names name i distinct l here =
    position_is (bytes_eq name) names i [] l ((bytes_eq-Decides name (get_or names i [])).1 (sym here)) before
  where
    unlike : (a b : List ℕ) → bytes_eq a b ≡ false → bytes_eq b a ≡ false
    unlike a b e = other (bytes_eq b a) refl
      where
        other : (t : Bool) → bytes_eq b a ≡ t → t ≡ false
        other true same = let clash : true ≡ false = sym ((bytes_eq-Decides a b).1 (sym ((bytes_eq-Decides b a).0 same))) ∙ e in cc
        other false same = refl

    before : (k : ℕ) → k < i → bytes_eq name (get_or names k []) ≡ false
    before k h = subst (λ x. bytes_eq x (get_or names k []) ≡ false) here (unlike (get_or names k []) (get_or names i []) (apart_at names distinct k i h l))

pub subscript_there : (names : List (List ℕ)) (has : Bool) (name : List ℕ) (o : Option ℕ) → has ≡ true → o ≡ index_of names name → IfSome o (IsSubscript names has name)
subscript_there names has name None is found = tt
subscript_there names has name (Some i) is found =
    let here = position-Some (bytes_eq name) names i [] (sym found) in
    record {
      within = λ h. here.0;
      unused = λ none. absurd (let clash : true ≡ false = sym is ∙ none in cc);
      named = ap (λ b. if b then get_or names i [] else []) is ∙ sym ((bytes_eq-Decides name (get_or names i [])).0 here.1);
    }

pub subscript_alone : (names : List (List ℕ)) (has : Bool) (name : List ℕ) (i : ℕ) → has ≡ true → IsDistinct bytes_eq names → IsSubscript names has name i → index_of names name ≡ Some i
subscript_alone names has name i is distinct s =
    index_of_member names name i distinct (s.within is) (sym (ap (λ b. if b then get_or names i [] else []) is) ∙ s.named)

-- ---- the subscripts of a variable or a row, by its fields

subscript_at : (sets : SetLists) (has : ℕ → Bool) (i : Index) (place : ℕ) (name : List ℕ) → (has place ≡ true → IsWithin sets i place) → (has place ≡ false → position_at i place ≡ 0) → subscript_field sets has i place ≡ name
    → IsSubscript (members sets (set_of place)) (has place) name (position_at i place)
subscript_at sets has i place name within unused named = record { within = within; unused = unused; named = named }

pub index_by_fields : (sets : SetLists) (has : ℕ → Bool) (i : Index) (r : Fields) → ((place : ℕ) → has place ≡ true → IsWithin sets i place) → HasUnusedZero has i
    → subscript_fields sets has i ≡ map (λ place. field r (place + 1)) places → IsIndexOf sets (map has places) r i
index_by_fields sets has i r within unused same = (
  subscript_at sets has i 0 (field r 1) (within 0) (unused.0) (ap (λ fs. get_or fs 0 []) same),
  (
    subscript_at sets has i 1 (field r 2) (within 1) (unused.1.0) (ap (λ fs. get_or fs 1 []) same),
    (
      subscript_at sets has i 2 (field r 3) (within 2) (unused.1.1.0) (ap (λ fs. get_or fs 2 []) same),
      (
        subscript_at sets has i 3 (field r 4) (within 3) (unused.1.1.1.0) (ap (λ fs. get_or fs 3 []) same),
        (
          subscript_at sets has i 4 (field r 5) (within 4) (unused.1.1.1.1.0) (ap (λ fs. get_or fs 4 []) same),
          (
            subscript_at sets has i 5 (field r 6) (within 5) (unused.1.1.1.1.1.0) (ap (λ fs. get_or fs 5 []) same),
            (
              subscript_at sets has i 6 (field r 7) (within 6) (unused.1.1.1.1.1.1.0) (ap (λ fs. get_or fs 6 []) same),
              (
                subscript_at sets has i 7 (field r 8) (within 7) (unused.1.1.1.1.1.1.1.0) (ap (λ fs. get_or fs 7 []) same),
                tt,
              ),
            ),
          ),
        ),
      ),
    ),
  ),
)
