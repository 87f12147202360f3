-- The instances ascend by equation and then by subscripts, and so do the variables that exist.
use Rattle.named_equations.proofs.Common.{◌≡◌, ℕ, ◌<◌, Bool, true, false, cond, List, [], ◌∷◌, filter, ap, ◌∙◌, refl, arith, ap₂, lt-ltb, le-ltb, eq-eqb, range_with_len, nat_cmp, ordering_then, ◌==◌, Ordering, Data, Index, RowName, Var, ascends, subscripts_of_kind, exists_at, kind_numbers, variables_of_kind, all_variables, index, set_at, is_one_of, values_at, each, indices, name_at, subscripts_of, stands_at, instances_of, instances, equation_numbers, count_of, variable}
use Rattle.std.specs.declared.cmp.Ordering.TheVariants.{Less, Equal, Greater}
use Rattle.row_core.specs.Order.{index_cmp, var_cmp, row_name_cmp}
use Rattle.row_core.specs.Subscripts as place
use Rattle.named_equations.proofs.SortedLists.{Every, Every-all, Every-flat_map, Every-weaker, Every-map, Sorted, Sorted-filter, Sorted-map, Sorted-flat_map, Grows, Grows-range, ascends-from_Sorted}

-- ---- comparing numbers

-- at the first number that is less
pub less_then : (a b : ℕ) (rest : Ordering) → a < b → ordering_then (nat_cmp a b) rest ≡ Less
less_then a b rest less = ap (λ test. ordering_then (cond test Less (cond (a == b) Equal Greater)) rest) (lt-ltb a b less)

-- after the same number
pub same_then : (a : ℕ) (rest : Ordering) → rest ≡ Less → ordering_then (nat_cmp a a) rest ≡ Less
same_then a rest less =
    ap (λ test. ordering_then (cond test Less (cond (a == a) Equal Greater)) rest) (le-ltb a a (omega arith))
    ∙ ap (λ test. ordering_then (cond test Equal Greater) rest) (eq-eqb a a refl)
    ∙ less

pub less_last : (a b : ℕ) → a < b → nat_cmp a b ≡ Less
less_last a b less = ap (λ test. cond test Less (cond (a == b) Equal Greater)) (lt-ltb a b less)

-- ---- the indices with some subscripts, and any after them

-- the values of a subscript grow
pub of_choice : (b : Bool) (n : ℕ) → Grows (cond b (range_with_len 0 n) (0 ∷ []))
of_choice true n = Grows-range 0 n
of_choice false n = (tt, tt)

pub Grows-values : (d : Data) (s : List ℕ) (p : ℕ) → Grows (values_at d s p)
Grows-values d s p = of_choice (is_one_of s p) (count_of d (set_at p))

abbrev pub AtY : ℕ → ℕ → ℕ → ℕ → ℕ → ℕ → ℕ → ℕ → Index → Type 0
AtY r rr l t f e m y i = i ≡ index r rr l t f e m y

abbrev pub AtM : ℕ → ℕ → ℕ → ℕ → ℕ → ℕ → ℕ → Index → Type 0
AtM r rr l t f e m i = (y : ℕ) × AtY r rr l t f e m y i

abbrev pub AtE : ℕ → ℕ → ℕ → ℕ → ℕ → ℕ → Index → Type 0
AtE r rr l t f e i = (m : ℕ) × AtM r rr l t f e m i

abbrev pub AtF : ℕ → ℕ → ℕ → ℕ → ℕ → Index → Type 0
AtF r rr l t f i = (e : ℕ) × AtE r rr l t f e i

abbrev pub AtT : ℕ → ℕ → ℕ → ℕ → Index → Type 0
AtT r rr l t i = (f : ℕ) × AtF r rr l t f i

abbrev pub AtL : ℕ → ℕ → ℕ → Index → Type 0
AtL r rr l i = (t : ℕ) × AtT r rr l t i

abbrev pub AtRR : ℕ → ℕ → Index → Type 0
AtRR r rr i = (l : ℕ) × AtL r rr l i

abbrev pub AtR : ℕ → Index → Type 0
AtR r i = (rr : ℕ) × AtRR r rr i

-- ---- the lists of these indices

abbrev pub from_y : Data → List ℕ → ℕ → ℕ → ℕ → ℕ → ℕ → ℕ → ℕ → List Index
from_y d s r rr l t f e m = each (values_at d s place.y) (λ y. index r rr l t f e m y ∷ [])

abbrev pub from_m : Data → List ℕ → ℕ → ℕ → ℕ → ℕ → ℕ → ℕ → List Index
from_m d s r rr l t f e = each (values_at d s place.m) (λ m. from_y d s r rr l t f e m)

abbrev pub from_e : Data → List ℕ → ℕ → ℕ → ℕ → ℕ → ℕ → List Index
from_e d s r rr l t f = each (values_at d s place.e) (λ e. from_m d s r rr l t f e)

abbrev pub from_f : Data → List ℕ → ℕ → ℕ → ℕ → ℕ → List Index
from_f d s r rr l t = each (values_at d s place.f) (λ f. from_e d s r rr l t f)

abbrev pub from_t : Data → List ℕ → ℕ → ℕ → ℕ → List Index
from_t d s r rr l = each (values_at d s place.t) (λ t. from_f d s r rr l t)

abbrev pub from_l : Data → List ℕ → ℕ → ℕ → List Index
from_l d s r rr = each (values_at d s place.l) (λ l. from_t d s r rr l)

abbrev pub from_rr : Data → List ℕ → ℕ → List Index
from_rr d s r = each (values_at d s place.rr) (λ rr. from_l d s r rr)

abbrev pub from_r : Data → List ℕ → List Index
from_r d s = each (values_at d s place.r) (λ r. from_rr d s r)

from_all : (d : Data) (s : List ℕ) → from_r d s ≡ indices d s
from_all d s = refl

-- ---- each of them has its subscripts

pub every_y : (d : Data) (s : List ℕ) (r rr l t f e m : ℕ) → Every (AtM r rr l t f e m) (from_y d s r rr l t f e m)
every_y d s r rr l t f e m =
    Every-flat_map (AtM r rr l t f e m) (λ y. index r rr l t f e m y ∷ []) (λ y. ((y, refl), tt)) (values_at d s place.y)

pub every_m : (d : Data) (s : List ℕ) (r rr l t f e : ℕ) → Every (AtE r rr l t f e) (from_m d s r rr l t f e)
every_m d s r rr l t f e =
    Every-flat_map (AtE r rr l t f e) (λ m. from_y d s r rr l t f e m)
    (λ m. Every-weaker (AtM r rr l t f e m) (AtE r rr l t f e) (λ i at. (m, at)) (from_y d s r rr l t f e m) (every_y d s r rr l t f e m))
    (values_at d s place.m)

pub every_e : (d : Data) (s : List ℕ) (r rr l t f : ℕ) → Every (AtF r rr l t f) (from_e d s r rr l t f)
every_e d s r rr l t f =
    Every-flat_map (AtF r rr l t f) (λ e. from_m d s r rr l t f e)
    (λ e. Every-weaker (AtE r rr l t f e) (AtF r rr l t f) (λ i at. (e, at)) (from_m d s r rr l t f e) (every_m d s r rr l t f e))
    (values_at d s place.e)

pub every_f : (d : Data) (s : List ℕ) (r rr l t : ℕ) → Every (AtT r rr l t) (from_f d s r rr l t)
every_f d s r rr l t =
    Every-flat_map (AtT r rr l t) (λ f. from_e d s r rr l t f)
    (λ f. Every-weaker (AtF r rr l t f) (AtT r rr l t) (λ i at. (f, at)) (from_e d s r rr l t f) (every_e d s r rr l t f))
    (values_at d s place.f)

pub every_t : (d : Data) (s : List ℕ) (r rr l : ℕ) → Every (AtL r rr l) (from_t d s r rr l)
every_t d s r rr l =
    Every-flat_map (AtL r rr l) (λ t. from_f d s r rr l t)
    (λ t. Every-weaker (AtT r rr l t) (AtL r rr l) (λ i at. (t, at)) (from_f d s r rr l t) (every_f d s r rr l t))
    (values_at d s place.t)

pub every_l : (d : Data) (s : List ℕ) (r rr : ℕ) → Every (AtRR r rr) (from_l d s r rr)
every_l d s r rr =
    Every-flat_map (AtRR r rr) (λ l. from_t d s r rr l)
    (λ l. Every-weaker (AtL r rr l) (AtRR r rr) (λ i at. (l, at)) (from_t d s r rr l) (every_t d s r rr l))
    (values_at d s place.l)

pub every_rr : (d : Data) (s : List ℕ) (r : ℕ) → Every (AtR r) (from_rr d s r)
every_rr d s r =
    Every-flat_map (AtR r) (λ rr. from_l d s r rr)
    (λ rr. Every-weaker (AtRR r rr) (AtR r) (λ i at. (rr, at)) (from_l d s r rr) (every_l d s r rr))
    (values_at d s place.rr)

-- ---- those with a lesser subscript are before those with a greater one

pub before_r : (v w : ℕ) (i j : Index) → v < w → AtR v i → AtR w j → index_cmp i j ≡ Less
before_r v w i j less at bt = ap₂ index_cmp at.1.1.1.1.1.1.1 bt.1.1.1.1.1.1.1 ∙ less_then v w _ less

pub before_rr : (r : ℕ) (v w : ℕ) (i j : Index) → v < w → AtRR r v i → AtRR r w j → index_cmp i j ≡ Less
before_rr r v w i j less at bt = ap₂ index_cmp at.1.1.1.1.1.1 bt.1.1.1.1.1.1 ∙ same_then r _ (less_then v w _ less)

pub before_l : (r rr : ℕ) (v w : ℕ) (i j : Index) → v < w → AtL r rr v i → AtL r rr w j → index_cmp i j ≡ Less
before_l r rr v w i j less at bt = ap₂ index_cmp at.1.1.1.1.1 bt.1.1.1.1.1 ∙ same_then r _ (same_then rr _ (less_then v w _ less))

pub before_t : (r rr l : ℕ) (v w : ℕ) (i j : Index) → v < w → AtT r rr l v i → AtT r rr l w j → index_cmp i j ≡ Less
before_t r rr l v w i j less at bt = ap₂ index_cmp at.1.1.1.1 bt.1.1.1.1 ∙ same_then r _ (same_then rr _ (same_then l _ (less_then v w _ less)))

pub before_f : (r rr l t : ℕ) (v w : ℕ) (i j : Index) → v < w → AtF r rr l t v i → AtF r rr l t w j → index_cmp i j ≡ Less
before_f r rr l t v w i j less at bt = ap₂ index_cmp at.1.1.1 bt.1.1.1 ∙ same_then r _ (same_then rr _ (same_then l _ (same_then t _ (less_then v w _ less))))

pub before_e : (r rr l t f : ℕ) (v w : ℕ) (i j : Index) → v < w → AtE r rr l t f v i → AtE r rr l t f w j → index_cmp i j ≡ Less
before_e r rr l t f v w i j less at bt = ap₂ index_cmp at.1.1 bt.1.1 ∙ same_then r _ (same_then rr _ (same_then l _ (same_then t _ (same_then f _ (less_then v w _ less)))))

pub before_m : (r rr l t f e : ℕ) (v w : ℕ) (i j : Index) → v < w → AtM r rr l t f e v i → AtM r rr l t f e w j → index_cmp i j ≡ Less
before_m r rr l t f e v w i j less at bt = ap₂ index_cmp at.1 bt.1 ∙ same_then r _ (same_then rr _ (same_then l _ (same_then t _ (same_then f _ (same_then e _ (less_then v w _ less))))))

pub before_y : (r rr l t f e m : ℕ) (v w : ℕ) (i j : Index) → v < w → AtY r rr l t f e m v i → AtY r rr l t f e m w j → index_cmp i j ≡ Less
before_y r rr l t f e m v w i j less at bt = ap₂ index_cmp at bt ∙ same_then r _ (same_then rr _ (same_then l _ (same_then t _ (same_then f _ (same_then e _ (same_then m _ (less_last v w less)))))))

-- ---- so the lists are sorted

pub sorted_y : (d : Data) (s : List ℕ) (r rr l t f e m : ℕ) → Sorted index_cmp (from_y d s r rr l t f e m)
sorted_y d s r rr l t f e m =
    Sorted-flat_map index_cmp (AtY r rr l t f e m) (λ y. index r rr l t f e m y ∷ []) (λ y. (tt, tt)) (λ y. (refl, tt)) (before_y r rr l t f e m) (values_at d s place.y) (Grows-values d s place.y)

pub sorted_m : (d : Data) (s : List ℕ) (r rr l t f e : ℕ) → Sorted index_cmp (from_m d s r rr l t f e)
sorted_m d s r rr l t f e =
    Sorted-flat_map index_cmp (AtM r rr l t f e) (λ m. from_y d s r rr l t f e m) (λ m. sorted_y d s r rr l t f e m) (λ m. every_y d s r rr l t f e m)
    (before_m r rr l t f e) (values_at d s place.m) (Grows-values d s place.m)

pub sorted_e : (d : Data) (s : List ℕ) (r rr l t f : ℕ) → Sorted index_cmp (from_e d s r rr l t f)
sorted_e d s r rr l t f =
    Sorted-flat_map index_cmp (AtE r rr l t f) (λ e. from_m d s r rr l t f e) (λ e. sorted_m d s r rr l t f e) (λ e. every_m d s r rr l t f e)
    (before_e r rr l t f) (values_at d s place.e) (Grows-values d s place.e)

pub sorted_f : (d : Data) (s : List ℕ) (r rr l t : ℕ) → Sorted index_cmp (from_f d s r rr l t)
sorted_f d s r rr l t =
    Sorted-flat_map index_cmp (AtF r rr l t) (λ f. from_e d s r rr l t f) (λ f. sorted_e d s r rr l t f) (λ f. every_e d s r rr l t f)
    (before_f r rr l t) (values_at d s place.f) (Grows-values d s place.f)

pub sorted_t : (d : Data) (s : List ℕ) (r rr l : ℕ) → Sorted index_cmp (from_t d s r rr l)
sorted_t d s r rr l =
    Sorted-flat_map index_cmp (AtT r rr l) (λ t. from_f d s r rr l t) (λ t. sorted_f d s r rr l t) (λ t. every_f d s r rr l t)
    (before_t r rr l) (values_at d s place.t) (Grows-values d s place.t)

pub sorted_l : (d : Data) (s : List ℕ) (r rr : ℕ) → Sorted index_cmp (from_l d s r rr)
sorted_l d s r rr =
    Sorted-flat_map index_cmp (AtL r rr) (λ l. from_t d s r rr l) (λ l. sorted_t d s r rr l) (λ l. every_t d s r rr l)
    (before_l r rr) (values_at d s place.l) (Grows-values d s place.l)

pub sorted_rr : (d : Data) (s : List ℕ) (r : ℕ) → Sorted index_cmp (from_rr d s r)
sorted_rr d s r =
    Sorted-flat_map index_cmp (AtRR r) (λ rr. from_l d s r rr) (λ rr. sorted_l d s r rr) (λ rr. every_l d s r rr)
    (before_rr r) (values_at d s place.rr) (Grows-values d s place.rr)

pub sorted_r : (d : Data) (s : List ℕ) → Sorted index_cmp (from_r d s)
sorted_r d s =
    Sorted-flat_map index_cmp (AtR) (λ r. from_rr d s r) (λ r. sorted_rr d s r) (λ r. every_rr d s r)
    (before_r) (values_at d s place.r) (Grows-values d s place.r)

-- all indices with these subscripts are sorted
pub Sorted-indices : (d : Data) (s : List ℕ) → Sorted index_cmp (indices d s)
Sorted-indices d s = sorted_r d s

-- ---- instances

-- the instances of one equation
pub sorted_instances : (d : Data) (eq : ℕ) → Sorted row_name_cmp (instances_of d eq)
sorted_instances d eq =
    Sorted-map index_cmp row_name_cmp (name_at eq) (λ i j less. same_then eq (index_cmp i j) less) (filter (stands_at d eq) (indices d (subscripts_of eq)))
    (Sorted-filter index_cmp (stands_at d eq) (indices d (subscripts_of eq)) (Sorted-indices d (subscripts_of eq)))

pub equation_is : (d : Data) (eq : ℕ) → Every (λ (name : RowName). name.eq ≡ eq) (instances_of d eq)
equation_is d eq =
    Every-map (λ (name : RowName). name.eq ≡ eq) (name_at eq) (filter (stands_at d eq) (indices d (subscripts_of eq)))
    (Every-all (λ (i : Index). eq ≡ eq) (λ i. refl) (filter (stands_at d eq) (indices d (subscripts_of eq))))

pub equations_before : (v w : ℕ) (a b : RowName) → v < w → a.eq ≡ v → b.eq ≡ w → row_name_cmp a b ≡ Less
equations_before v w a b less is_v is_w = less_then a.eq b.eq (index_cmp a.index b.index) (omega (arith, less, is_v, is_w))

-- all instances are sorted
pub Sorted-instances : (d : Data) → Sorted row_name_cmp (instances d)
Sorted-instances d =
    Sorted-flat_map row_name_cmp (λ eq (name : RowName). name.eq ≡ eq) (instances_of d) (sorted_instances d) (equation_is d) equations_before equation_numbers (Grows-range 1 64)

-- they ascend strictly, by equation and then by subscripts
pub instances-ascend : (d : Data) → ascends row_name_cmp (instances d) ≡ true
instances-ascend d = ascends-from_Sorted row_name_cmp (instances d) (Sorted-instances d)

-- ---- variables

pub sorted_variables : (d : Data) (kind : ℕ) → Sorted var_cmp (variables_of_kind d kind)
sorted_variables d kind =
    Sorted-map index_cmp var_cmp (variable kind) (λ i j less. same_then kind (index_cmp i j) less) (filter (exists_at d kind) (indices d (subscripts_of_kind kind)))
    (Sorted-filter index_cmp (exists_at d kind) (indices d (subscripts_of_kind kind)) (Sorted-indices d (subscripts_of_kind kind)))

kind_is : (d : Data) (kind : ℕ) → Every (λ (v : Var). v.kind ≡ kind) (variables_of_kind d kind)
kind_is d kind =
    Every-map (λ (v : Var). v.kind ≡ kind) (variable kind) (filter (exists_at d kind) (indices d (subscripts_of_kind kind)))
    (Every-all (λ (i : Index). kind ≡ kind) (λ i. refl) (filter (exists_at d kind) (indices d (subscripts_of_kind kind))))

kinds_before : (v w : ℕ) (a b : Var) → v < w → a.kind ≡ v → b.kind ≡ w → var_cmp a b ≡ Less
kinds_before v w a b less is_v is_w = less_then a.kind b.kind (index_cmp a.index b.index) (omega (arith, less, is_v, is_w))

-- the variables that exist are sorted
pub Sorted-variables : (d : Data) → Sorted var_cmp (all_variables d)
Sorted-variables d =
    Sorted-flat_map var_cmp (λ kind (v : Var). v.kind ≡ kind) (variables_of_kind d) (sorted_variables d) (kind_is d) kinds_before kind_numbers (Grows-range 1 48)

-- they ascend strictly, by kind and then by subscripts
pub variables-ascend : (d : Data) → ascends var_cmp (all_variables d) ≡ true
variables-ascend d = ascends-from_Sorted var_cmp (all_variables d) (Sorted-variables d)
