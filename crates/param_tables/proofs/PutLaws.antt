-- What a change does at places, place by place.
use Rattle.param_tables.proofs.Common.{◌≡◌, ℕ, zero, ◌+◌, ◌<◌, Bool, true, false, cond, if◌then◌else◌, filter-append, List, [], ◌∷◌, ◌++◌, Option, None, Some, length, get_or, take, drop, refl, sym, ap, ◌∙◌, arith, cons_option, filter, filter_map, filter_map-append, option_and_then, option_map, take_more, take-append-drop, drop_more, length-append, Contains, first_of, range_of, CellFault, PlaceFault}
use Rattle.std.specs.Option.{option_to_list}
use Rattle.param_tables.proofs.AscendingLaws.{contains_later}
use Rattle.param_tables.specs.Changes.{Change, changed_fault, changed_value}
use Rattle.param_tables.specs.OpenTables.{fault_by, open_value}
use Rattle.param_tables.specs.declared.changed_table.PlaceStop.{PlaceStop}
use Rattle.param_tables.specs.OpenTables.{IsPlaceStopDue}
use Rattle.param_tables.specs.declared.changed_table.PlaceStop.TheVariants as stop
use Rattle.param_tables.specs.declared.open_table.OpenTable.{OpenTable}

-- ---- one more place

module _ {X Y : Type 0} (f : X → Option Y) where
  one_kept : (x : X) → filter_map f (x ∷ []) ≡ option_to_list (f x)
  one_kept x = by (f x)
    where
      by : (o : Option Y) → cons_option o [] ≡ option_to_list o
      by None = refl
      by (Some y) = refl

  pub filter_map-more : (xs : List X) (i : ℕ) (x : X) → i < length xs → get_or xs i x ≡ x → filter_map f (take (i + 1) xs) ≡ filter_map f (take i xs) ++ option_to_list (f x)
  filter_map-more xs i x below at =
      ap (filter_map f) (take_more xs i x below ∙ ap (λ y. take i xs ++ y ∷ []) at)
      ∙ filter_map-append f (take i xs) (x ∷ [])
      ∙ ap (λ ys. filter_map f (take i xs) ++ ys) (one_kept x)

  -- where nothing is found before, what is found at the place is the first
  pub first_kept : (xs : List X) (i : ℕ) (x : X) (y : Y) → i < length xs → get_or xs i x ≡ x → filter_map f (take i xs) ≡ [] → f x ≡ Some y → first_of (filter_map f xs) ≡ Some y
  first_kept xs i x y below at free found =
      ap (λ ys. first_of (filter_map f ys)) (sym (take-append-drop i xs))
      ∙ ap first_of (filter_map-append f (take i xs) (drop i xs) ∙ ap (λ ys. ys ++ filter_map f (drop i xs)) free)
      ∙ ap (λ ys. first_of (filter_map f ys)) (drop_more xs i x below ∙ ap (λ z. z ∷ drop (i + 1) xs) at)
      ∙ ap (λ o. first_of (cons_option o (filter_map f (drop (i + 1) xs)))) found

module _ {X : Type 0} (p : X → Bool) where
  pub count_more : (xs : List X) (i : ℕ) (x : X) (b : Bool) → i < length xs → get_or xs i x ≡ x → p x ≡ b → length (filter p (take (i + 1) xs)) ≡ length (filter p (take i xs)) + (if b then 1 else 0)
  count_more xs i x b below at is =
      ap (λ ys. length (filter p ys)) (take_more xs i x below ∙ ap (λ y. take i xs ++ y ∷ []) at)
      ∙ ap length (filter-append p (take i xs) (x ∷ []))
      ∙ length-append (filter p (take i xs)) (filter p (x ∷ []))
      ∙ ap (λ n. length (filter p (take i xs)) + n) (ap (λ t. length (cond t (x ∷ []) [])) is ∙ one b)
    where
      one : (t : Bool) → length (cond t (x ∷ []) []) ≡ (if t then 1 else 0)
      one true = refl
      one false = refl

-- ---- the first fault

module _ (change : Change) (table : OpenTable) where
  -- the fault of a place is found there
  fault_there : (place : ℕ) (found : PlaceFault) → fault_by change table place ≡ Some found → found.place ≡ place
  fault_there place found e = by (option_and_then (λ v. changed_fault (range_of change.param) (changed_value change v)) (open_value change.param table place)) e
    where
      by : (o : Option CellFault) → option_map (λ fault. record { place = place; fault = fault }) o ≡ Some found → found.place ≡ place
      by None none = absurd cc
      by (Some fault) some = let same : Some (record { place = place; fault = fault }) ≡ Some found = some in sym (ap (λ f. f.place) (unsome (record { place = place; fault = fault }) found same))
        where
          unsome : (f g : PlaceFault) → Some f ≡ Some g → f ≡ g
          unsome f g e = cc

  pub first_fault_among : (places : List ℕ) (found : PlaceFault) → first_of (filter_map (fault_by change table) places) ≡ Some found → Contains places found.place
  first_fault_among [] found e = absurd cc
  first_fault_among (place ∷ places) found e = by (λ later. first_fault_among places found later) (fault_by change table place) refl e
    where
      by : (first_of (filter_map (fault_by change table) places) ≡ Some found → Contains places found.place) → (o : Option PlaceFault) → fault_by change table place ≡ o → first_of (cons_option o (filter_map (fault_by change table) places)) ≡ Some found → Contains (place ∷ places) found.place
      by rest None is later = contains_later place places found.place (rest later)
      by rest (Some first) is here = (zero, omega arith, sym (fault_there place found (is ∙ here)))

-- a stop that one place is the cause of
pub stop_first : (o p : Option PlaceFault) (why : PlaceStop) → ((f : PlaceFault) → o ≡ Some f → p ≡ Some f) → IsPlaceStopDue o why → IsPlaceStopDue p why
stop_first o p (stop.Fault f) first due = first f due
stop_first o p stop.Memory first due = tt
