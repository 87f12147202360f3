-- The indices at which a ratio isn't 0 are those of its parameter at which its value says something.
use Rattle.std.proofs.Common.{◌≡◌, ℕ, zero, suc, ◌+◌, ◌^◌, ◌<◌, ◌≤◌, Bool, true, false, not, pos, List, [], ◌∷◌, ◌++◌, cond, get_or, length, map, filter, lit≤, refl, sym, ap, ◌∙◌, arith}
use Rattle.std.proofs.lemmas.Int.{ints}
use Rattle.std.proofs.lemmas.List.Elements.{filter-append}
use Rattle.std.specs.List.{AllByRecursion, flat_map, range_with_len}
use Rattle.std.specs.Ordering.{is_eq}
use Rattle.std.specs.Prelude.{unwrap_or}
use Rattle.exact_num.proofs.OrderLaws.{lowest-sign}
use Rattle.model_sets.specs.Data.{Data, IsUsedParam, value_at}
use Rattle.model_sets.specs.Members.{SetLists}
use Rattle.model_sets.specs.Names.{mode, region, technology, year}
use Rattle.model_sets.specs.Params.{subscript_sets}
use Rattle.param_tables.specs.Built.{amount_at}
use Rattle.param_tables.specs.Positions.{IsIndexOf, names_at}
use Rattle.param_tables.specs.Ratios.{commodity, count_in, is_nonzero_in, nonzero_indices, positions_in, ratio_index, ratio_indices, ratio_param}
use Rattle.param_tables.specs.declared.ratios.ActivityRatio.{ActivityRatio}
use Rattle.param_tables.specs.declared.ratios.ActivityRatio.TheVariants.{Emission, Input, Output}
use Rattle.param_tables.specs.declared.ratios.RatioIndex.{RatioIndex}
use Rattle.plan_files.specs.Texts.{records_text}
use Rattle.plan_tables.specs.declared.shown.NumberForm.{NumberForm}
use Rattle.data_tables.specs.ParamTables.{cell_record, positions_over, says}
use Rattle.data_tables.specs.RatioWalks.{AreWithin, positions_of}
use Rattle.data_tables.proofs.WalkLaws.{cells_text, flat_map-same, map-flat_map, map-map}

-- what holds of each of a list holds of the one at a place
pub within_at : {A B : Type 0} (P : B → Type 0) (f : A → B) (xs : List A) (i : ℕ) (x : A) → AllByRecursion P (map f xs) → i < length xs → P (f (get_or xs i x))
within_at P f [] i d all h = absurd (omega arith)
within_at P f (x ∷ xs) zero d all h = all.0
within_at P f (x ∷ xs) (suc i) d all h = within_at P f xs i d all.1 (omega arith)

filter-flat_map : {A B : Type 0} (p : B → Bool) (f : A → List B) (xs : List A) → filter p (flat_map f xs) ≡ flat_map (λ x. filter p (f x)) xs
filter-flat_map p f [] = refl
filter-flat_map p f (x ∷ xs) = filter-append p (f x) (flat_map f xs) ∙ ap (λ l. filter p (f x) ++ l) (filter-flat_map p f xs)

-- of those that pass one test all pass another that says the same
filter-kept : {A B : Type 0} (p : B → Bool) (q : A → Bool) (f : A → B) → ((x : A) → p (f x) ≡ q x) → (xs : List A) → filter p (map f (filter q xs)) ≡ filter p (map f xs)
filter-kept p q f same [] = refl
filter-kept {B = B} p q f same (x ∷ xs) = cases (q x) refl (filter-kept p q f same xs)
  where
    cases : (t : Bool) → q x ≡ t → filter p (map f (filter q xs)) ≡ filter p (map f xs) → filter p (map f (cond (q x) (x ∷ filter q xs) (filter q xs))) ≡ cond (p (f x)) (f x ∷ filter p (map f xs)) (filter p (map f xs))
    cases true e rest =
        ap (λ b. filter p (map f (cond b (x ∷ filter q xs) (filter q xs)))) e
        ∙ ap (λ (l : List B). cond (p (f x)) (f x ∷ l) l) rest
    cases false e rest =
        ap (λ b. filter p (map f (cond b (x ∷ filter q xs) (filter q xs)))) e
        ∙ rest ∙ sym (ap (λ (b : Bool). cond b (f x ∷ filter p (map f xs)) (filter p (map f xs))) (same x ∙ e))

-- what each element lists, mapped
map-nested : {A B C : Type 0} (f : B → C) (g : List ℕ → C) (lists : A → List B) (positions : A → List (List ℕ)) → ((x : A) → map f (lists x) ≡ map g (positions x)) → (xs : List A) → map f (flat_map lists xs) ≡ map g (flat_map positions xs)
map-nested f g lists positions same xs =
    map-flat_map f lists xs ∙ flat_map-same (λ x. map f (lists x)) (λ x. map g (positions x)) same xs ∙ sym (map-flat_map g positions xs)

-- the indices of the years
in_years : (r t c m : ℕ) (ys : List ℕ) → map (positions_of r) (map (λ y. ratio_index t c m y) ys) ≡ map (λ rest. r ∷ t ∷ c ∷ m ∷ rest) (flat_map (λ y. map (λ rest. y ∷ rest) ([] ∷ [])) ys)
in_years r t c m [] = refl
in_years r t c m (y ∷ ys) = ap (λ l. (r ∷ t ∷ c ∷ m ∷ y ∷ []) ∷ l) (in_years r t c m ys)

module _ (d : Data) where
  abbrev tells : ℕ → List ℕ → Bool
  tells param at = says param (amount_at d param at)

  -- the value says something where the ratio isn't 0
  pub told : (ratio : ActivityRatio) (r : ℕ) (i : RatioIndex) → says (ratio_param ratio) (amount_at d (ratio_param ratio) (positions_of r i)) ≡ is_nonzero_in d ratio r i
  told Input r i = ap (λ o. not (is_eq o)) (lowest-sign (unwrap_or (value_at d (ratio_param Input) (names_at d.sets (ratio_param Input) (positions_of r i))) (pos 0)) (pos (10 ^ 9)) (omega (arith, ints)))
  told Output r i = ap (λ o. not (is_eq o)) (lowest-sign (unwrap_or (value_at d (ratio_param Output) (names_at d.sets (ratio_param Output) (positions_of r i))) (pos 0)) (pos (10 ^ 9)) (omega (arith, ints)))
  told Emission r i = ap (λ o. not (is_eq o)) (lowest-sign (unwrap_or (value_at d (ratio_param Emission) (names_at d.sets (ratio_param Emission) (positions_of r i))) (pos 0)) (pos (10 ^ 9)) (omega (arith, ints)))

  -- the indices of a region at which the ratio isn't 0, by positions
  abbrev pub nonzero_positions : ActivityRatio → ℕ → List (List ℕ)
  nonzero_positions ratio r = map (positions_of r) (nonzero_indices d ratio r)

  -- all indices of a region
  abbrev region_positions : ActivityRatio → ℕ → List (List ℕ)
  region_positions ratio r = map (λ rest. r ∷ rest) (positions_over d.sets (technology ∷ commodity ratio ∷ mode ∷ year ∷ []))

  all_in_region : (ratio : ActivityRatio) (r : ℕ) → map (positions_of r) (ratio_indices d.sets ratio) ≡ region_positions ratio r
  all_in_region ratio r =
      let cs : List ℕ = positions_in d.sets (commodity ratio) in
      let ms : List ℕ = positions_in d.sets mode in
      let ys : List ℕ = positions_in d.sets year in
      let year_of : ℕ → ℕ → ℕ → List RatioIndex = λ t c m. map (λ y. ratio_index t c m y) ys in
      map-nested (positions_of r) (λ rest. r ∷ rest) (λ t. flat_map (λ c. flat_map (year_of t c) ms) cs) (λ t. map (λ rest. t ∷ rest) (positions_over d.sets (commodity ratio ∷ mode ∷ year ∷ [])))
      (λ t.
      map-nested (positions_of r) (λ rest. r ∷ t ∷ rest) (λ c. flat_map (year_of t c) ms) (λ c. map (λ rest. c ∷ rest) (positions_over d.sets (mode ∷ year ∷ [])))
      (λ c.
      map-nested (positions_of r) (λ rest. r ∷ t ∷ c ∷ rest) (year_of t c) (λ m. map (λ rest. m ∷ rest) (positions_over d.sets (year ∷ [])))
      (λ m. in_years r t c m ys ∙ sym (map-map (λ rest. r ∷ t ∷ c ∷ rest) (λ rest. m ∷ rest) (positions_over d.sets (year ∷ [])))) ms
      ∙ sym (map-map (λ rest. r ∷ t ∷ rest) (λ rest. c ∷ rest) (positions_over d.sets (mode ∷ year ∷ [])))) cs
      ∙ sym (map-map (λ rest. r ∷ rest) (λ rest. t ∷ rest) (positions_over d.sets (commodity ratio ∷ mode ∷ year ∷ [])))) (positions_in d.sets technology)

  -- of all indices those at which the value says something are those at which the ratio isn't 0
  nonzero_in_region : (ratio : ActivityRatio) (r : ℕ) → filter (tells (ratio_param ratio)) (nonzero_positions ratio r) ≡ filter (tells (ratio_param ratio)) (region_positions ratio r)
  nonzero_in_region ratio r =
      filter-kept (tells (ratio_param ratio)) (is_nonzero_in d ratio r) (positions_of r) (told ratio r) (ratio_indices d.sets ratio)
      ∙ ap (filter (tells (ratio_param ratio))) (all_in_region ratio r)

  all_regions : (ratio : ActivityRatio) → flat_map (region_positions ratio) (positions_in d.sets region) ≡ positions_over d.sets (subscript_sets (ratio_param ratio))
  all_regions Input = refl
  all_regions Output = refl
  all_regions Emission = refl

  -- so the records are the same
  pub ratio_whole : (form : NumberForm) (ratio : ActivityRatio)
      → cells_text form d (ratio_param ratio) (flat_map (nonzero_positions ratio) (positions_in d.sets region)) ≡ cells_text form d (ratio_param ratio) (positions_over d.sets (subscript_sets (ratio_param ratio)))
  ratio_whole form ratio =
      let test : List ℕ → Bool = tells (ratio_param ratio) in
      let rs : List ℕ = positions_in d.sets region in
      ap (λ at. records_text (map (cell_record form d (ratio_param ratio)) at))
      (filter-flat_map test (nonzero_positions ratio) rs
      ∙ flat_map-same (λ r. filter test (nonzero_positions ratio r)) (λ r. filter test (region_positions ratio r)) (nonzero_in_region ratio) rs
      ∙ sym (filter-flat_map test (region_positions ratio) rs)
      ∙ ap (filter test) (all_regions ratio))

-- ---- they are indices of the parameter

all-append : {A : Type 0} (P : A → Type 0) (xs ys : List A) → AllByRecursion P xs → AllByRecursion P ys → AllByRecursion P (xs ++ ys)
all-append P [] ys all rest = rest
all-append P (x ∷ xs) ys all rest = (all.0, all-append P xs ys all.1 rest)

all-listed : {A B : Type 0} (P : B → Type 0) (Q : A → Type 0) (f : A → List B) → ((x : A) → Q x → AllByRecursion P (f x)) → (xs : List A) → AllByRecursion Q xs → AllByRecursion P (flat_map f xs)
all-listed P Q f each [] all = tt
all-listed P Q f each (x ∷ xs) all = all-append P (f x) (flat_map f xs) (each x all.0) (all-listed P Q f each xs all.1)

all-mapped : {A B : Type 0} (P : B → Type 0) (Q : A → Type 0) (f : A → B) → ((x : A) → Q x → P (f x)) → (xs : List A) → AllByRecursion Q xs → AllByRecursion P (map f xs)
all-mapped P Q f each [] all = tt
all-mapped P Q f each (x ∷ xs) all = (each x all.0, all-mapped P Q f each xs all.1)

all-kept : {A B : Type 0} (P : B → Type 0) (f : A → B) (q : A → Bool) (xs : List A) → AllByRecursion (λ x. P (f x)) xs → AllByRecursion P (map f (filter q xs))
all-kept P f q [] all = tt
all-kept P f q (x ∷ xs) all = cases (q x) (all-kept P f q xs all.1)
  where
    cases : (t : Bool) → AllByRecursion P (map f (filter q xs)) → AllByRecursion P (map f (cond t (x ∷ filter q xs) (filter q xs)))
    cases true rest = (all.0, rest)
    cases false rest = rest

all-below : (a n end : ℕ) → a + n ≤ end → AllByRecursion (λ (i : ℕ). i < end) (range_with_len a n)
all-below a zero end h = tt
all-below a (suc n) end h = (omega (arith, h), all-below (a + 1) n end (omega (arith, h)))

index_of : (sets : SetLists) (ratio : ActivityRatio) (r t c m y : ℕ) → r < count_in sets region → t < count_in sets technology → c < count_in sets (commodity ratio) → m < count_in sets mode → y < count_in sets year
    → IsIndexOf sets (ratio_param ratio) (r ∷ t ∷ c ∷ m ∷ y ∷ [])
index_of sets Input r t c m y hr ht hc hm hy = (hr, (ht, (hc, (hm, (hy, tt)))))
index_of sets Output r t c m y hr ht hc hm hy = (hr, (ht, (hc, (hm, (hy, tt)))))
index_of sets Emission r t c m y hr ht hc hm hy = (hr, (ht, (hc, (hm, (hy, tt)))))

pub nonzero_within : (d : Data) (ratio : ActivityRatio) (r : ℕ) → r < count_in d.sets region → AreWithin d.sets (ratio_param ratio) r (nonzero_indices d ratio r)
nonzero_within d ratio r here =
    let sets : SetLists = d.sets in
    let Is : RatioIndex → Type 0 = λ i. IsIndexOf sets (ratio_param ratio) (positions_of r i) in
    let Below : ℕ → ℕ → Type 0 = λ k i. i < count_in sets k in
    let below : (k : ℕ) → AllByRecursion (Below k) (positions_in sets k) = λ k. all-below 0 (count_in sets k) (count_in sets k) (omega arith) in
    all-kept (IsIndexOf sets (ratio_param ratio)) (positions_of r) (is_nonzero_in d ratio r) (ratio_indices sets ratio)
    (all-listed Is (Below technology) _
    (λ t ht.
    all-listed Is (Below (commodity ratio)) _
    (λ c hc.
    all-listed Is (Below mode) _
    (λ m hm. all-mapped Is (Below year) (λ y. ratio_index t c m y) (λ y hy. index_of sets ratio r t c m y here ht hc hm hy) (positions_in sets year) (below year)) (positions_in sets mode) (below mode))
    (positions_in sets (commodity ratio)) (below (commodity ratio)))
    (positions_in sets technology) (below technology))

-- every data use it
pub ratio_used : (d : Data) (ratio : ActivityRatio) → IsUsedParam d (ratio_param ratio)
ratio_used d Input = ((lit≤ tt, lit≤ tt), refl)
ratio_used d Output = ((lit≤ tt, lit≤ tt), refl)
ratio_used d Emission = ((lit≤ tt, lit≤ tt), refl)
