-- Accepted data have a variable: NewCapacity of the first technology in the first region and year, since these sets have a member.
use Rattle.osemosys_run.proofs.Common.{◌≡◌, ℕ, zero, suc, Bool, true, false, ◌&&◌, List, [], ◌∷◌, ◌++◌, length, map, filter, None, refl, sym, subst, arith, lt-ltb, if◌then◌else◌, flat_map, range_with_len, Data, SetLists, empty_set, is_without_members, members, Blocks, Var, all_variables, exists, Has-from_Contains, Accepted, Source}
use Rattle.std.specs.Prelude.{Contains, nat_eq, nat_lt}
use Rattle.model_sets.specs.Names.{fuel, mode, region, required_sets, set_count, technology, timeslice, year}
use Rattle.param_tables.specs.BlockData.{set_lists}
use Rattle.command_answers.proofs.AcceptedData.{accepted-sets}
use Rattle.param_tables.specs.InTurn.{first_of}
use Rattle.param_tables.specs.SetRefusals.{fault_in, member_refusals, set_refusals}
use Rattle.named_equations.specs.Variables.{new_capacity}
use Rattle.named_equations.proofs.InstanceTests.{Contains-variables}

-- ---- a list without a first is empty

none-first : {X : Type 0} (xs : List X) → first_of xs ≡ None → xs ≡ []
none-first [] h = refl
none-first (x ∷ xs) h = absurd (cc h)

none-last : {X : Type 0} (xs ys : List X) → xs ++ ys ≡ [] → ys ≡ []
none-last [] ys h = h
none-last (x ∷ xs) ys h = absurd (cc h)

none-mapped : {X Y : Type 0} (f : X → Y) (xs : List X) → map f xs ≡ [] → xs ≡ []
none-mapped f [] h = refl
none-mapped f (x ∷ xs) h = absurd (cc h)

-- nothing passes: neither the first nor a later one does
none-passes : {X : Type 0} (p : X → Bool) (x : X) (xs : List X) → filter p (x ∷ xs) ≡ [] → (p x ≡ false) × (filter p xs ≡ [])
none-passes p x xs h = by (p x) refl h
  where
    by : (b : Bool) → p x ≡ b → (if b then x ∷ filter p xs else filter p xs) ≡ [] → (p x ≡ false) × (filter p xs ≡ [])
    by true is h = absurd (cc h)
    by false is h = (is, h)

-- ---- the sets of accepted data

some-members : (sets : SetLists) (k : ℕ) → is_without_members sets k ≡ false → nat_lt 0 (length (members sets k)) ≡ true
some-members sets k h = by (length (members sets k)) h
  where
    by : (n : ℕ) → nat_eq n 0 ≡ false → nat_lt 0 n ≡ true
    by zero h = absurd (cc h)
    by (suc n) h = lt-ltb 0 (suc n) (omega arith)

module _ (source : Source) (d : Data) (accepted : Accepted source d) where
  abbrev blocks : Blocks
  blocks = accepted.says.blocks

  abbrev sets : SetLists
  sets = set_lists blocks

  without : filter (is_without_members sets) required_sets ≡ []
  without =
      none-mapped (λ (k : ℕ). fault_in k empty_set) (filter (is_without_members sets) required_sets)
      (none-last (flat_map (λ k. member_refusals k (members sets k)) (range_with_len 1 set_count)) (map (λ k. fault_in k empty_set) (filter (is_without_members sets) required_sets))
      (none-first (set_refusals sets) accepted.says.sets_accepted))

  at_region : (is_without_members sets region ≡ false) × (filter (is_without_members sets) (technology ∷ fuel ∷ mode ∷ timeslice ∷ year ∷ []) ≡ [])
  at_region = none-passes (is_without_members sets) region (technology ∷ fuel ∷ mode ∷ timeslice ∷ year ∷ []) without

  at_technology : (is_without_members sets technology ≡ false) × (filter (is_without_members sets) (fuel ∷ mode ∷ timeslice ∷ year ∷ []) ≡ [])
  at_technology = none-passes (is_without_members sets) technology (fuel ∷ mode ∷ timeslice ∷ year ∷ []) at_region.1

  at_fuel : (is_without_members sets fuel ≡ false) × (filter (is_without_members sets) (mode ∷ timeslice ∷ year ∷ []) ≡ [])
  at_fuel = none-passes (is_without_members sets) fuel (mode ∷ timeslice ∷ year ∷ []) at_technology.1

  at_mode : (is_without_members sets mode ≡ false) × (filter (is_without_members sets) (timeslice ∷ year ∷ []) ≡ [])
  at_mode = none-passes (is_without_members sets) mode (timeslice ∷ year ∷ []) at_fuel.1

  at_timeslice : (is_without_members sets timeslice ≡ false) × (filter (is_without_members sets) (year ∷ []) ≡ [])
  at_timeslice = none-passes (is_without_members sets) timeslice (year ∷ []) at_mode.1

  at_year : (is_without_members sets year ≡ false) × (filter (is_without_members sets) [] ≡ [])
  at_year = none-passes (is_without_members sets) year [] at_timeslice.1

  -- the three tests of its index
  abbrev three : Bool → Bool → Bool → Bool
  three r t y = r && true && true && t && true && true && true && y

  -- and so has each set of the data, whatever changes there are
  own-members : (k : ℕ) → is_without_members sets k ≡ false → nat_lt 0 (length (members d.sets k)) ≡ true
  own-members k has = subst (λ (own : SetLists). nat_lt 0 (length (members own k)) ≡ true) (sym (accepted-sets source d accepted)) (some-members sets k has)

  there : exists d (new_capacity 0 0 0) ≡ true
  there = by (nat_lt 0 (length (members d.sets region))) (nat_lt 0 (length (members d.sets technology))) (nat_lt 0 (length (members d.sets year)))
      (own-members region at_region.0) (own-members technology at_technology.0) (own-members year at_year.0)
    where
      by : (r t y : Bool) → r ≡ true → t ≡ true → y ≡ true → (true && three r t y && true) ≡ true
      by r t y hr ht hy = rw (hr, ht, hy) refl

  pub some-variable : all_variables d ≡ [] → ⊥
  some-variable none =
      let found : Contains (all_variables d) (new_capacity 0 0 0) = (Contains-variables d (new_capacity 0 0 0)).1 there in
      Has-from_Contains [] (new_capacity 0 0 0) (subst (λ (vs : List Var). Contains vs (new_capacity 0 0 0)) none found)
