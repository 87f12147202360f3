-- What the sets keep, from the empty ones on.
use Rattle.model_sets.proofs.Common.{◌≡◌, ◌≢◌, ℕ, ◌+◌, ◌-◌, ◌<◌, Bool, true, false, not, ◌&&◌, List, [], ◌∷◌, ◌++◌, length, nat_eq, nat_le, Option, None, Some, if◌then◌else◌, refl, sym, subst, ◌∙◌, arith, inl, inr, IsDistinct, bytes_eq, cases_eq, eq-eqb, leb-false, get_or-set_same, get_or-set_other, length-set, length-append, get_or-replicate, IsSet, set_count, year, limit_of, is_year, SetLists, no_members, members, with_member, is_among, first_refusal, twice_in_set, bad_year, too_many, KeepsRules, AreSets}
use Rattle.std.proofs.lemmas.List.Elements.{All-push}

-- no rule of the three refuses
none_refused : (a b c : Bool) → (if a then Some bad_year else if b then Some twice_in_set else if c then Some too_many else None) ≡ None → (a ≡ false) × (b ≡ false) × (c ≡ false)
none_refused true b c e = absurd cc
none_refused false true c e = absurd cc
none_refused false false true e = absurd cc
none_refused false false false e = (refl, refl, refl)

year_or_other : (b y : Bool) → (b && not y) ≡ false → b ≡ true → y ≡ true
year_or_other true true e t = refl
year_or_other true false e t = absurd cc
year_or_other false y e t = absurd cc

-- what holds of a name that is taken
pub record IsTaken (sets : SetLists) (k : ℕ) (name : List ℕ) : Type 0 where
  pub spells : k ≡ year → is_year name ≡ true
  pub new : is_among (members sets k) name ≡ false
  pub room : length (members sets k) < limit_of k

pub taken : (sets : SetLists) (k : ℕ) (name : List ℕ) → first_refusal sets k name ≡ None → IsTaken sets k name
taken sets k name e =
    let none = none_refused (nat_eq k year && not (is_year name)) (is_among (members sets k) name) (nat_le (limit_of k) (length (members sets k))) e in
    record {
      spells = λ same. year_or_other (nat_eq k year) (is_year name) none.0 (eq-eqb k year same);
      new = none.1;
      room = leb-false (limit_of k) (length (members sets k)) none.2;
    }

empty_keeps : (k : ℕ) → KeepsRules k []
unfolding IsDistinct
empty_keeps k = record { distinct = tt; within = omega arith; years = λ same i d below. absurd (omega arith) }

pub no_members_are : AreSets no_members
no_members_are = record { eleven = refl; rules = λ k is. subst (KeepsRules k) (sym (none k is)) (empty_keeps k) }
  where
    none : (k : ℕ) → IsSet k → members no_members k ≡ []
    none k is = let low = is.0 in let high = is.1 in get_or-replicate set_count (k - 1) [] [] (omega arith)

pub appended_keeps : (k : ℕ) (names : List (List ℕ)) (name : List ℕ) → KeepsRules k names → IsDistinct bytes_eq (names ++ name ∷ []) → length names < limit_of k → (k ≡ year → is_year name ≡ true) → KeepsRules k (names ++ name ∷ [])
appended_keeps k names name keeps distinct room spells = record {
  distinct = distinct;
  within = let long : length (names ++ name ∷ []) ≡ length names + 1 = length-append names (name ∷ []) in omega arith;
  years = λ same. All-push (λ other. is_year other ≡ true) names name (keeps.years same) (spells same);
}

pub with_member_are : (sets : SetLists) (k : ℕ) (name : List ℕ) → AreSets sets → IsSet k → first_refusal sets k name ≡ None → IsDistinct bytes_eq (members sets k ++ name ∷ []) → AreSets (with_member sets k name)
with_member_are sets k name are is free distinct = record {
  eleven = length-set sets (k - 1) (members sets k ++ name ∷ []) ∙ are.eleven;
  rules = λ j in_list. elim (cases_eq j k) [
    | inl same ↦
        let eleven = are.eleven in
        let high = is.1 in
        let low = is.0 in
        let below : k - 1 < length sets = omega arith in
        let fact = taken sets k name free in
        let now : members (with_member sets k name) k ≡ members sets k ++ name ∷ [] = get_or-set_same sets (k - 1) (members sets k ++ name ∷ []) [] below in
        let keeps : KeepsRules k (members (with_member sets k name) k) = subst (KeepsRules k) (sym now) (appended_keeps k (members sets k) name (are.rules k is) distinct fact.room fact.spells) in
        subst (λ i. KeepsRules i (members (with_member sets k name) i)) (sym same) keeps
    | inr other ↦
        let low = is.0 in
        let first = in_list.0 in
        let apart : (j - 1) ≢ (k - 1) = λ e. other (omega arith) in
        subst (KeepsRules j) (sym (get_or-set_other sets (k - 1) (j - 1) (members sets k ++ name ∷ []) [] apart)) (are.rules j in_list)
  ];
}

pub none_found : (found : Option ℕ) → ((n : ℕ) → found ≡ Some n → ⊥) → found ≡ None
none_found None other = refl
none_found (Some n) other = absurd (other n refl)
