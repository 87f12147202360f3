-- Names with the plans at their places.
use Rattle.conflict_sets.proofs.Common.{◌≡◌, List, [], ◌∷◌, ◌++◌, length, map, refl, ap, arith, RowName, Values, Multipliers, member_named, paired, Needed, member_of, plan_of}

abbrev Plans : Type 0
Plans = List Values

pub paired-more : (names : List RowName) (plans : Plans) (name : RowName) (plan : Values) → length names ≡ length plans → paired (names ++ name ∷ []) (plans ++ plan ∷ []) ≡ paired names plans ++ (name, plan) ∷ []
paired-more [] [] name plan e = refl
paired-more [] (p ∷ plans) name plan e = absurd (omega arith)
paired-more (n ∷ names) [] name plan e = absurd (omega arith)
paired-more (n ∷ names) (p ∷ plans) name plan e = ap {B = List Needed} (λ ones. (n, p) ∷ ones) (paired-more names plans name plan (omega arith))

pub paired-members : (m : Multipliers) (names : List RowName) (plans : Plans) → length names ≡ length plans → map (member_of m) (paired names plans) ≡ map (member_named m) names
paired-members m [] plans e = refl
paired-members m (n ∷ names) [] e = absurd (omega arith)
paired-members m (n ∷ names) (p ∷ plans) e = ap {B = Multipliers} (λ ms. member_named m n ∷ ms) (paired-members m names plans (omega arith))

pub paired-plans : (names : List RowName) (plans : Plans) → length names ≡ length plans → map plan_of (paired names plans) ≡ plans
paired-plans [] [] e = refl
paired-plans [] (p ∷ plans) e = absurd (omega arith)
paired-plans (n ∷ names) [] e = absurd (omega arith)
paired-plans (n ∷ names) (p ∷ plans) e = ap {B = Plans} (λ ps. p ∷ ps) (paired-plans names plans (omega arith))
