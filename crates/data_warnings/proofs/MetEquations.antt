-- What a feasible plan meets at the positions of members, and which variables are at least 0.
use Rattle.data_warnings.proofs.Common.{◌≡◌, ℕ, ◌<◌, ℤ, Bool, true, List, [], ◌∷◌, refl, subst, inl, inr, lt-ltb, both_true, list_any, Data, Var, Has, at_rlfy, at_rfy, at_rrrfy, at_rrrlfy, at_rt, at_rty, Feasible, Meets, MeetsEach, count_of, Has-instances}
use Rattle.std.specs.Prelude.{nat_eq, nat_lt, ◌&&◌}
use Rattle.model_sets.specs.Names as sets
use Rattle.row_core.specs.declared.Index.{Index}
use Rattle.row_core.specs.declared.RowName.{RowName}
use Rattle.row_core.specs.Subscripts as place
use Rattle.named_equations.specs.Instances.{equation_numbers, instances, is_index, name_at, stands_at, subscripts_of}

-- the position is that of a member
abbrev pub In : Data → ℕ → ℕ → Type 0
In d set i = nat_lt i (count_of d set) ≡ true

pub in_of : (d : Data) (set i : ℕ) → i < count_of d set → In d set i
in_of d set i h = lt-ltb i (count_of d set) h

each-met : (places : ℕ) (d : Data) (q : ℕ) (x : Var → ℤ) (names : List RowName) (name : RowName) → MeetsEach places d q x names → Has names name → Meets places d q x name
each-met places d q x [] name met has = absurd has
each-met places d q x (n ∷ names) name met (inl e) = subst (Meets places d q x) e met.0
each-met places d q x (n ∷ names) name met (inr has) = each-met places d q x names name met.1 has

eight : {a b c d e f g h : Bool} → a ≡ true → b ≡ true → c ≡ true → d ≡ true → e ≡ true → f ≡ true → g ≡ true → h ≡ true → (a && b && c && d && e && f && g && h) ≡ true
eight a b c d e f g h = both_true (both_true (both_true (both_true (both_true (both_true (both_true a b) c) d) e) f) g) h

pub index-rty : (d : Data) (r t y : ℕ) → In d sets.region r → In d sets.technology t → In d sets.year y → is_index d (place.r ∷ place.t ∷ place.y ∷ []) (at_rty r t y) ≡ true
index-rty d r t y in_r in_t in_y = eight in_r refl refl in_t refl refl refl in_y

pub index-rt : (d : Data) (r t : ℕ) → In d sets.region r → In d sets.technology t → is_index d (place.r ∷ place.t ∷ []) (at_rt r t) ≡ true
index-rt d r t in_r in_t = eight in_r refl refl in_t refl refl refl refl

pub index-rfy : (d : Data) (r f y : ℕ) → In d sets.region r → In d sets.fuel f → In d sets.year y → is_index d (place.r ∷ place.f ∷ place.y ∷ []) (at_rfy r f y) ≡ true
index-rfy d r f y in_r in_f in_y = eight in_r refl refl refl in_f refl refl in_y

pub index-rlfy : (d : Data) (r l f y : ℕ) → In d sets.region r → In d sets.timeslice l → In d sets.fuel f → In d sets.year y → is_index d (place.r ∷ place.l ∷ place.f ∷ place.y ∷ []) (at_rlfy r l f y) ≡ true
index-rlfy d r l f y in_r in_l in_f in_y = eight in_r refl in_l refl in_f refl refl in_y

pub index-rrrlfy : (d : Data) (r rr l f y : ℕ) → In d sets.region r → In d sets.region rr → In d sets.timeslice l → In d sets.fuel f → In d sets.year y
    → is_index d (place.r ∷ place.rr ∷ place.l ∷ place.f ∷ place.y ∷ []) (at_rrrlfy r rr l f y) ≡ true
index-rrrlfy d r rr l f y in_r in_rr in_l in_f in_y = eight in_r in_rr in_l refl in_f refl refl in_y

pub index-rrrfy : (d : Data) (r rr f y : ℕ) → In d sets.region r → In d sets.region rr → In d sets.fuel f → In d sets.year y
    → is_index d (place.r ∷ place.rr ∷ place.f ∷ place.y ∷ []) (at_rrrfy r rr f y) ≡ true
index-rrrfy d r rr f y in_r in_rr in_f in_y = eight in_r in_rr refl refl in_f refl refl in_y

module _ (places : ℕ) (d : Data) (q : ℕ) (x : Var → ℤ) (plan : Feasible places d q x) where
  -- the equation of this number at this index, where it stands
  pub met : (eq : ℕ) (i : Index) → list_any (nat_eq eq) equation_numbers ≡ true → is_index d (subscripts_of eq) i ≡ true → stands_at d eq i ≡ true → Meets places d q x (name_at eq i)
  met eq i known within stands =
      each-met places d q x (instances d) (name_at eq i) plan.equations ((Has-instances d (name_at eq i)).1 (both_true (both_true known within) stands))
