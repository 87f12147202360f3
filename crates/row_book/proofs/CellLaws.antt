-- The inner subscripts that are asked, by the number of the equation: those of which a ratio isn't 0, or all.
use Rattle.row_book.proofs.Common.{◌≡◌, ℕ, ◌⊎◌, inl, inr, Bool, true, false, cond, List, [], ◌∷◌, length, take, drop, refl, sym, ◌∙◌, subst, arith, AllByRecursion, filter, cases_lt, append-nil, drop_all, length-take-le, take-append-drop, Data, Index, at_r, by_rltfmy, by_rtemy, stands_at, annual_technology_emission_by_mode, rate_of_production_by_technology_by_mode, rate_of_use_by_technology_by_mode, ActivityRatio, Input, Output, Emission, cells_of_ratio, cells_of_some_mode, has_ratio, has_some_ratio, ratio_subscripts, AreAsked, AreFirstAsked, HaveRows, inner_subscripts, inners_of, joined, walk}
use Rattle.row_book.proofs.Lists.{AllByRecursion-parts, filter-all}

pub asked-everywhere : (d : Data) (eq r : ℕ) (cells : List Index) → cells ≡ inners_of d eq r → AreAsked d eq r cells
asked-everywhere d eq r cells are = record { asked = λ cell. true; are = are ∙ sym (filter-all (inners_of d eq r)); every = λ outer cell stands. refl }

-- ---- the first of those with a mode

all-pass : {A : Type 0} (test : A → Bool) (xs : List A) → AllByRecursion (λ x. test x ≡ true) (filter test xs)
all-pass test [] = tt
all-pass test (x ∷ xs) = by_test (test x) refl (all-pass test xs)
  where
    by_test : (b : Bool) → test x ≡ b → AllByRecursion (λ y. test y ≡ true) (filter test xs) → AllByRecursion (λ y. test y ≡ true) (cond b (x ∷ filter test xs) (filter test xs))
    by_test true is rest = (is, rest)
    by_test false is rest = rest

-- of cells that have rows, the first have rows
first-have_rows : (d : Data) (eq most : ℕ) (all : List Index) → HaveRows d eq all → HaveRows d eq (take most all)
first-have_rows d eq most all have = record {
  stand = λ outer.
      (AllByRecursion-parts (λ cell. stands_at d eq (joined outer cell) ≡ true) (take most all) (drop most all)
      (subst (AllByRecursion (λ cell. stands_at d eq (joined outer cell) ≡ true)) (sym (take-append-drop most all)) (have.stand outer))).0;
  define = have.define;
}

-- the first of all, where each has rows
first-asked : (d : Data) (eq r most : ℕ) (all : List Index) → AreAsked d eq r all → HaveRows d eq all → AreFirstAsked d eq r most (take most all)
first-asked d eq r most all are have = record {
  rest = drop most all;
  asked = subst (AreAsked d eq r) (sym (take-append-drop most all)) are;
  enough =
      elim (cases_lt (length all) most) [
        | inl less ↦ inl (drop_all most all (omega (arith, less)))
        | inr from ↦ inr ((let long : length (take most all) ≡ most = length-take-le most all from in omega (arith, long)), first-have_rows d eq most all have)
      ];
}

asked-by_ratio : (d : Data) (eq r most : ℕ) (ratio : ActivityRatio) (cells : List Index) → AreAsked d eq r (cells_of_ratio d ratio r) → HaveRows d eq (cells_of_ratio d ratio r)
    → cells ≡ take most (cells_of_ratio d ratio r) → AreFirstAsked d eq r most cells
asked-by_ratio d eq r most ratio cells asked have are = subst (AreFirstAsked d eq r most) (sym are) (first-asked d eq r most (cells_of_ratio d ratio r) asked have)

pub asked-output : (d : Data) (eq r most : ℕ) (cells : List Index) → eq ≡ 7 → cells ≡ take most (cells_of_ratio d Output r) → AreFirstAsked d eq r most cells
asked-output d eq r most cells is are =
    subst (λ n. AreFirstAsked d n r most cells) (sym is)
    (asked-by_ratio d 7 r most Output cells (record { asked = has_ratio d Output; are = refl; every = λ outer cell stands. stands })
    (record { stand = λ outer. all-pass (has_ratio d Output) (walk d (ratio_subscripts Output) inner_subscripts (at_r r)); define = λ i. (by_rltfmy rate_of_production_by_technology_by_mode i, refl) }) are)

pub asked-input : (d : Data) (eq r most : ℕ) (cells : List Index) → eq ≡ 10 → cells ≡ take most (cells_of_ratio d Input r) → AreFirstAsked d eq r most cells
asked-input d eq r most cells is are =
    subst (λ n. AreFirstAsked d n r most cells) (sym is)
    (asked-by_ratio d 10 r most Input cells (record { asked = has_ratio d Input; are = refl; every = λ outer cell stands. stands })
    (record { stand = λ outer. all-pass (has_ratio d Input) (walk d (ratio_subscripts Input) inner_subscripts (at_r r)); define = λ i. (by_rltfmy rate_of_use_by_technology_by_mode i, refl) }) are)

pub asked-emission : (d : Data) (eq r most : ℕ) (cells : List Index) → eq ≡ 35 → cells ≡ take most (cells_of_ratio d Emission r) → AreFirstAsked d eq r most cells
asked-emission d eq r most cells is are =
    subst (λ n. AreFirstAsked d n r most cells) (sym is)
    (asked-by_ratio d 35 r most Emission cells (record { asked = has_ratio d Emission; are = refl; every = λ outer cell stands. stands })
    (record { stand = λ outer. all-pass (has_ratio d Emission) (walk d (ratio_subscripts Emission) inner_subscripts (at_r r)); define = λ i. (by_rtemy annual_technology_emission_by_mode i, refl) }) are)

-- ---- all

-- all of them are the first, however many are asked for
pub asked-whole : (d : Data) (eq r most : ℕ) (cells : List Index) → AreAsked d eq r cells → AreFirstAsked d eq r most cells
asked-whole d eq r most cells are = record { rest = []; asked = subst (AreAsked d eq r) (sym (append-nil cells)) are; enough = inl refl }

pub asked-some_output : (d : Data) (eq r : ℕ) (cells : List Index) → (eq ≡ 8) ⊎ ((eq ≡ 22) ⊎ (eq ≡ 56)) → cells ≡ cells_of_some_mode d Output r → AreAsked d eq r cells
asked-some_output d eq r cells (inl is) are =
    subst (λ n. AreAsked d n r cells) (sym is) (record { asked = has_some_ratio d Output; are = are; every = λ outer cell stands. stands })
asked-some_output d eq r cells (inr (inl is)) are =
    subst (λ n. AreAsked d n r cells) (sym is) (record { asked = has_some_ratio d Output; are = are; every = λ outer cell stands. stands })
asked-some_output d eq r cells (inr (inr is)) are =
    subst (λ n. AreAsked d n r cells) (sym is) (record { asked = has_some_ratio d Output; are = are; every = λ outer cell stands. stands })

pub asked-some_input : (d : Data) (eq r : ℕ) (cells : List Index) → (eq ≡ 11) ⊎ ((eq ≡ 23) ⊎ (eq ≡ 60)) → cells ≡ cells_of_some_mode d Input r → AreAsked d eq r cells
asked-some_input d eq r cells (inl is) are =
    subst (λ n. AreAsked d n r cells) (sym is) (record { asked = has_some_ratio d Input; are = are; every = λ outer cell stands. stands })
asked-some_input d eq r cells (inr (inl is)) are =
    subst (λ n. AreAsked d n r cells) (sym is) (record { asked = has_some_ratio d Input; are = are; every = λ outer cell stands. stands })
asked-some_input d eq r cells (inr (inr is)) are =
    subst (λ n. AreAsked d n r cells) (sym is) (record { asked = has_some_ratio d Input; are = are; every = λ outer cell stands. stands })
