-- What is left as it is: by a change that leaves each value as it is, and by a file without changes. And changes that name no index in common may be made in either order.
use Rattle.data_changes.proofs.Common.{◌≡◌, ◌∙◌, ℕ, ◌+◌, zero, suc, ℤ, Bool, true, false, cond, List, [], ◌∷◌, ◌++◌, None, Some, Option, Ok, Err, ap, ap₂, refl, sym, subst, arith, get_or, inl, inr, append-nil, eq-eqb, ne_eqb, option_map, bytes_eq}
use Rattle.std.specs.Prelude.{pos, negsuc, neg_ℤ, ◌*◌, ◌*ℤ◌, ◌+ℤ◌, int_lt, unsigned_abs, ◌&&◌, nat_eq, filter, Contains, if◌then◌else◌}
use Rattle.std.specs.List.{cons_option, filter_map, find}
use Rattle.std.specs.Option.{option_and_then, option_or}
use Rattle.std.specs.Ordering.{int_eq}
use Rattle.std.specs.Cmp.{signed_Decides}
use Rattle.std.specs.Cmp.Lexicographic.{pointwise}
use Rattle.std.proofs.Common.{true≢false}
use Rattle.std.proofs.lemmas.Bool.{and_parts, cases_eq, eqb-true, le-ltb}
use Rattle.std.proofs.lemmas.Int.{ints, unsigned_abs-mul}
use Rattle.std.proofs.lemmas.List.Folds.{find-append}
use Rattle.model_sets.specs.Data.{Data, Given, IsUsedParam, default_of, given_at, indices_of, is_given_at, value_at, value_of_none}
use Rattle.param_tables.specs.Built.{Built}
use Rattle.param_tables.specs.Canonical.{canonical, given_value}
use Rattle.param_tables.specs.Changes.{Change, changed_at, changed_value, indices_named, is_left, names_index, product, value_by, with_change}
use Rattle.param_tables.specs.Ranges.{billion}
use Rattle.param_tables.specs.declared.change.ChangeKind.TheVariants.{Add, Multiply}
use Rattle.param_tables.proofs.CanonicalLaws.{canonical_one, default_canonical, filter_map-same, found_by_look, given_canonical, values_by}
use Rattle.param_tables.proofs.DataLaws.{option_or-map}
use Rattle.param_tables.proofs.RefusalLaws.{filter_map_none}
use Rattle.plan_files.specs.Files.{Fields, records_of}
use Rattle.scaled_decimals.specs.Rounding.{nearest}
use Rattle.scaled_decimals.proofs.RatioLemmas.{nearest-whole}
use Rattle.data_changes.specs.Columns.{is_header}
use Rattle.data_changes.specs.Faults.{BadHeader}
use Rattle.data_changes.specs.Files.{after_all}
use Rattle.data_changes.specs.Scenarios.{AreApart, IsIdle}
use Rattle.data_changes.proofs.AfterLaws.{file_keeps}
unfoldable use Rattle.data_changes.specs.Files.{after_file, after_records}

-- ---- a change that leaves each value as it is

module _ (d : Data) (change : Change) (same : (v : ℤ) → changed_value change v ≡ v) where
  none_changed : (index : List (List ℕ)) → changed_at d change index ≡ None
  none_changed index = by (value_at d change.param index)
    where
      by : (old : Option ℤ) → option_and_then (λ v. if int_eq (changed_value change v) v then None else Some (given_value change.param index (changed_value change v))) old ≡ None
      by None = refl
      by (Some v) = ap (λ b. cond b None (Some (given_value change.param index (changed_value change v)))) ((signed_Decides (changed_value change v) v).1 (same v))

  pub unchanged : with_change d change ≡ canonical d
  unchanged =
      let none : filter_map (changed_at d change) (indices_named d change) ≡ [] = filter_map_none (changed_at d change) (indices_named d change) [] (λ j below. none_changed (get_or (indices_named d change) j [])) in
      ap (λ (new : List Given). canonical (record { sets = d.sets; given = new ++ d.given; defaults = d.defaults; second = d.second })) none

-- a value stays as it is where the kind of change gives that value again
left_alike : (change : Change) (v : ℤ) → value_by change.kind change.amount v ≡ v → changed_value change v ≡ v
left_alike change v same = by (is_left change v)
  where
    by : (left : Bool) → cond left v (value_by change.kind change.amount v) ≡ v
    by true = refl
    by false = same

-- the product with 1
pub product_by_one : (v : ℤ) → product v (pos 1000000000) ≡ v
product_by_one v =
    ap (λ n. let size = pos n in if int_lt (v *ℤ pos 1000000000) (pos 0) then neg_ℤ size else size) (ap (λ n. nearest n billion) (unsigned_abs-mul v (pos 1000000000)) ∙ nearest-whole (unsigned_abs v) billion (omega arith))
    ∙ signed v
  where
    signed : (w : ℤ) → (if int_lt (w *ℤ pos 1000000000) (pos 0) then neg_ℤ (pos (unsigned_abs w)) else pos (unsigned_abs w)) ≡ w
    signed (pos n) = ap (λ b. if b then neg_ℤ (pos n) else pos n) (le-ltb (n * 1000000000) 0 (omega arith))
    signed (negsuc n) =
        let more : suc n * 1000000000 ≡ suc (n * 1000000000 + 999999999) = omega arith in
        ap (λ k. if int_lt (neg_ℤ (pos k)) (pos 0) then negsuc n else pos (suc n)) more

pub sum_with_zero : (v : ℤ) → (v +ℤ pos 0) ≡ v
sum_with_zero v = omega (arith, ints)

-- a change that multiplies by 1 leaves the data as they are, in canonical form
pub by_one : (d : Data) (change : Change) → change.kind ≡ Multiply → change.amount ≡ pos 1000000000 → with_change d change ≡ canonical d
by_one d change kind amount = unchanged d change (λ v. left_alike change v (ap₂ (λ k n. value_by k n v) kind amount ∙ product_by_one v))

-- and so does one that adds 0
pub plus_zero : (d : Data) (change : Change) → change.kind ≡ Add → change.amount ≡ pos 0 → with_change d change ≡ canonical d
plus_zero d change kind amount = unchanged d change (λ v. left_alike change v (ap₂ (λ k n. value_by k n v) kind amount ∙ sum_with_zero v))

-- data in canonical form are in canonical form
pub canonical_again : (d : Data) → canonical (canonical d) ≡ canonical d
canonical_again d =
    canonical_one (canonical d) d
    (record { sets = refl; second = refl; values = λ p used index has. given_canonical d p index has used; defaults = λ p used. default_canonical d p used })

-- so they stay as they are by either
pub idle : (d : Data) (change : Change) → canonical d ≡ d → IsIdle change → with_change d change ≡ d
idle d change own (inl (kind, amount)) = by_one d change kind amount ∙ own
idle d change own (inr (kind, amount)) = plus_zero d change kind amount ∙ own

-- data stay in canonical form by a file of changes
pub file_canonical : (built next : Built) (text : List ℕ) → canonical built.facts ≡ built.facts → after_file built text ≡ Ok next → canonical next.facts ≡ next.facts
file_canonical built next text own e = file_keeps (λ d. canonical d ≡ d) (λ d change same free. canonical_again (record { sets = d.sets; given = filter_map (changed_at d change) (indices_named d change) ++ d.given; defaults = d.defaults; second = d.second })) built next text own e

-- ---- a file without changes

-- a file that has its header alone leaves the data as they are
pub no_records : (built : Built) (text : List ℕ) (header : Fields) → records_of text ≡ header ∷ [] → is_header header ≡ true → after_file built text ≡ Ok built
unfolding after_file after_records
no_records built text header rows is = ap (after_all built) rows ∙ ap (λ b. cond b (after_records built header 2 []) (Err (record { number = 1; fault = BadHeader }))) is

-- ---- changes that name no index in common

-- whether the change names the index of the parameter
abbrev names_at : Change → ℕ → List (List ℕ) → Bool
names_at change param index = nat_eq change.param param && names_index change index

-- what a value becomes, where that is another
abbrev moved : Change → ℤ → Option ℤ
moved change v = if int_eq (changed_value change v) v then None else Some (changed_value change v)

-- the value that the change gives for the parameter at the index, where it gives one
abbrev put_at : Data → Change → ℕ → List (List ℕ) → Option ℤ
put_at d change param index = cond (names_at change param index) (option_and_then (moved change) (value_at d param index)) None

-- what a function finds of the items that pass a test, as what it finds of all items where it passes over the others
fused : {X Y : Type 0} (f : X → Option Y) (p : X → Bool) (xs : List X) → filter_map f (filter p xs) ≡ filter_map (λ x. cond (p x) (f x) None) xs
fused f p [] = refl
fused f p (x ∷ xs) = by (fused f p xs) (p x)
  where
    by : filter_map f (filter p xs) ≡ filter_map (λ y. cond (p y) (f y) None) xs → (b : Bool) → filter_map f (cond b (x ∷ filter p xs) (filter p xs)) ≡ cons_option (cond b (f x) None) (filter_map (λ y. cond (p y) (f y) None) xs)
    by rest true = ap (cons_option (f x)) rest
    by rest false = rest

-- values of another parameter aren't found
module _ (q p : ℕ) (index : List (List ℕ)) (other : nat_eq q p ≡ false) (look : List (List ℕ) → Option ℤ) where
  abbrev found_among : List Given → Option ℤ
  found_among gs = option_map (λ (g : Given). g.value) (find (is_given_at p index) gs)

  abbrev given_over : List (List (List ℕ)) → List Given
  given_over is = filter_map (λ i. option_map (given_value q i) (look i)) is

  none_of_another : (is : List (List (List ℕ))) → found_among (given_over is) ≡ None
  none_of_another [] = refl
  none_of_another (i ∷ is) = by (none_of_another is) (look i)
    where
      by : found_among (given_over is) ≡ None → (o : Option ℤ) → found_among (cons_option (option_map (given_value q i) o) (given_over is)) ≡ None
      by rest None = rest
      by rest (Some v) = ap (λ b. option_map (λ (g : Given). g.value) (cond (b && pointwise bytes_eq i index) (Some (given_value q i v)) (find (is_given_at p index) (given_over is)))) other ∙ rest

module _ (d : Data) (change : Change) where
  -- the data with the change, before they're put in canonical form
  abbrev in_front : Data
  in_front = record { sets = d.sets; given = filter_map (changed_at d change) (indices_named d change) ++ d.given; defaults = d.defaults; second = d.second }

  -- what is put at an index that is named
  put_there : (index : List (List ℕ)) → cond (names_index change index) (changed_at d change index) None ≡ option_map (given_value change.param index) (put_at d change change.param index)
  put_there index =
      by (names_index change index) (value_at d change.param index)
      ∙ sym (ap (λ b. option_map (given_value change.param index) (cond (b && names_index change index) (option_and_then (moved change) (value_at d change.param index)) None)) (eq-eqb change.param change.param refl))
    where
      one : (same : Bool) (v : ℤ) → cond same None (Some (given_value change.param index v)) ≡ option_map (given_value change.param index) (cond same None (Some v))
      one true v = refl
      one false v = refl

      by : (named : Bool) (old : Option ℤ) → cond named (option_and_then (λ v. if int_eq (changed_value change v) v then None else Some (given_value change.param index (changed_value change v))) old) None ≡ option_map (given_value change.param index) (cond named (option_and_then (moved change) old) None)
      by false old = refl
      by true None = refl
      by true (Some v) = one (int_eq (changed_value change v) v) (changed_value change v)

  puts_are : filter_map (changed_at d change) (indices_named d change) ≡ values_by d.sets (put_at d change) change.param
  puts_are = fused (changed_at d change) (names_index change) (indices_of d.sets change.param) ∙ filter_map-same (λ i. cond (names_index change i) (changed_at d change i) None) (λ i. option_map (given_value change.param i) (put_at d change change.param i)) (indices_of d.sets change.param) (λ i has. put_there i)

  module _ (p : ℕ) (index : List (List ℕ)) (has : Contains (indices_of d.sets p) index) where
    put_found : option_map (λ (g : Given). g.value) (find (is_given_at p index) (values_by d.sets (put_at d change) change.param)) ≡ put_at d change p index
    put_found = elim (cases_eq change.param p) [
      | inl same ↦
          subst (λ n. option_map (λ (g : Given). g.value) (find (is_given_at p index) (values_by d.sets (put_at d change) n)) ≡ put_at d change p index) (sym same)
          (ap (λ gs. option_map (λ (g : Given). g.value) (find (is_given_at p index) gs)) (sym (append-nil (values_by d.sets (put_at d change) p)))
          ∙ found_by_look d.sets (put_at d change) p index has (p ∷ []) (zero, omega arith, refl))
      | inr other ↦
          none_of_another change.param p index (ne_eqb change.param p other) (put_at d change change.param) (indices_of d.sets change.param)
          ∙ sym (ap (λ b. cond (b && names_index change index) (option_and_then (moved change) (value_at d p index)) None) (ne_eqb change.param p other))
    ]

    -- what is given with the change: what it puts, and else what was given
    given_in_front : given_at in_front p index ≡ option_or (put_at d change p index) (given_at d p index)
    given_in_front =
        ap (option_map (λ (g : Given). g.value)) (find-append (is_given_at p index) (filter_map (changed_at d change) (indices_named d change)) d.given)
        ∙ option_or-map (λ (g : Given). g.value) (find (is_given_at p index) (filter_map (changed_at d change) (indices_named d change))) (find (is_given_at p index) d.given)
        ∙ ap (λ o. option_or o (given_at d p index)) (ap (λ gs. option_map (λ (g : Given). g.value) (find (is_given_at p index) gs)) puts_are ∙ put_found)

    module _ (used : IsUsedParam d p) where
      given_with : given_at (with_change d change) p index ≡ option_or (put_at d change p index) (given_at d p index)
      given_with = given_canonical in_front p index has used ∙ given_in_front

      default_with : default_of (with_change d change) p ≡ default_of d p
      default_with = default_canonical in_front p used

      -- where the change doesn't name the index
      module _ (not_named : names_at change p index ≡ false) where
        given_kept : given_at (with_change d change) p index ≡ given_at d p index
        given_kept = given_with ∙ ap (λ b. option_or (cond b (option_and_then (moved change) (value_at d p index)) None) (given_at d p index)) not_named

        value_kept : value_at (with_change d change) p index ≡ value_at d p index
        value_kept = ap₂ (λ given default. option_or given (option_or default (value_of_none p))) given_kept default_with

-- where the second change doesn't name the index, the first gives there what it gives in either order
either_order : (d : Data) (a b : Change) (p : ℕ) (index : List (List ℕ)) → Contains (indices_of d.sets p) index → IsUsedParam d p → names_at b p index ≡ false → given_at (with_change (with_change d a) b) p index ≡ given_at (with_change (with_change d b) a) p index
either_order d a b p index has used not_named =
    given_kept (with_change d a) b p index has used not_named
    ∙ given_with d a p index has used
    ∙ sym
    (given_with (with_change d b) a p index has used
    ∙ ap₂ (λ value given. option_or (cond (names_at a p index) (option_and_then (moved a) value) None) given) (value_kept d b p index has used not_named) (given_kept d b p index has used not_named))

-- changes that name no index in common may be made in either order
pub commute : (d : Data) (a b : Change) → AreApart d a b → with_change (with_change d a) b ≡ with_change (with_change d b) a
commute d a b apart =
    canonical_one (in_front (with_change d a) b) (in_front (with_change d b) a)
    (record {
      sets = refl;
      second = refl;
      values = λ p used index has.
          sym (given_canonical (in_front (with_change d a) b) p index has used)
          ∙ same_given p index has used
          ∙ given_canonical (in_front (with_change d b) a) p index has used;
      defaults = λ p used. same_default p used;
    })
  where
    same_default : (p : ℕ) → IsUsedParam d p → default_of (canonical (in_front d a)) p ≡ default_of (canonical (in_front d b)) p
    same_default p used = default_canonical (in_front d a) p used ∙ sym (default_canonical (in_front d b) p used)

    same_given : (p : ℕ) (index : List (List ℕ)) → Contains (indices_of d.sets p) index → IsUsedParam d p → given_at (with_change (with_change d a) b) p index ≡ given_at (with_change (with_change d b) a) p index
    same_given p index has used = by (names_at a p index) (names_at b p index) refl refl
      where
        of_a : names_at a p index ≡ true → a.param ≡ p
        of_a named = eqb-true a.param p (and_parts (nat_eq a.param p) (names_index a index) named).0

        of_b : names_at b p index ≡ true → b.param ≡ p
        of_b named = eqb-true b.param p (and_parts (nat_eq b.param p) (names_index b index) named).0

        by : (in_a in_b : Bool) → names_at a p index ≡ in_a → names_at b p index ≡ in_b → given_at (with_change (with_change d a) b) p index ≡ given_at (with_change (with_change d b) a) p index
        by in_a false is_a is_b = either_order d a b p index has used is_b
        by false true is_a is_b = sym (either_order d b a p index has used is_a)
        by true true is_a is_b =
            let both : (names_index a index && names_index b index) ≡ true =
            ap₂ (λ x y. x && y) (and_parts (nat_eq a.param p) (names_index a index) is_a).1 (and_parts (nat_eq b.param p) (names_index b index) is_b).1 in
            let none = apart (of_a is_a ∙ sym (of_b is_b)) index (subst (λ n. Contains (indices_of d.sets n) index) (sym (of_a is_a)) has) in
            absurd (true≢false (sym both ∙ none))
