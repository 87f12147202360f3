-- Accepted data are complete: their sets keep the rules, and each used parameter has a value in its range at each of its indices.
use Rattle.std.proofs.Common.{◌≡◌, ℕ, zero, suc, ◌+◌, ◌-◌, ◌<◌, ◌≤◌, false, List, [], ◌∷◌, ◌++◌, length, get_or, take, Option, Some, None, Ok, ap, refl, sym, ◌∙◌, subst, arith, take_all}
use Rattle.std.specs.Option.{option_map}
use Rattle.std.specs.List.{AllByRecursion, IsDistinct, cons_option, flat_map, range_with_len}
use Rattle.command_answers.proofs.Common.{take_more, Blocks, Says, Data, data_told, set_lists, first_refusal, fault_in, first_set_refusal, member_refusals, only, refusal_after, Accepted, SaysData, Source, built_of, changed_by}
use Rattle.std.proofs.lemmas.List.FromFn.{get_or-range_with_len}
use Rattle.std.proofs.lemmas.Cmp.{nat_list_eq_equiv}
use Rattle.std.proofs.lemmas.Map.Keys.{IsDistinct-push}
use Rattle.model_sets.specs.Members.{AreSets, KeepsRules, SetLists, first_refusal as member_refusal, is_among, members, no_members}
use Rattle.model_sets.specs.Names.{IsSet, limit_of, set_count}
use Rattle.model_sets.proofs.SetLaws.{IsTaken, appended_keeps, taken}
use Rattle.mathprog_data.proofs.ReadingLaws.{says_well}
use Rattle.data_changes.proofs.AfterLaws.{all_sets}
use Rattle.data_changes.proofs.CompleteChanges.{file_complete}
use Rattle.param_tables.specs.Built.{AreComplete, Built}
use Rattle.param_tables.specs.InTurn.{first_of}
use Rattle.param_tables.proofs.KeptLaws.{complete_canonical, complete_of, values_are_numbers}
use Rattle.param_tables.proofs.SetLaws.{members-set}
use Rattle.param_tables.proofs.TurnLaws.{in_turn_from, in_turn_more}

-- ---- lists without refusals

none-first : {A : Type 0} (xs : List A) → first_of xs ≡ None → xs ≡ []
none-first [] none = refl
none-first (x ∷ xs) none = absurd (cc none)

none-left : {A : Type 0} (xs ys : List A) → xs ++ ys ≡ [] → xs ≡ []
none-left [] ys none = refl
none-left (x ∷ xs) ys none = absurd (cc none)

none-right : {A : Type 0} (xs ys : List A) → xs ++ ys ≡ [] → ys ≡ []
none-right [] ys none = none
none-right (x ∷ xs) ys none = absurd (cc none)

none-each : {A B : Type 0} (f : A → List B) (xs : List A) → flat_map f xs ≡ [] → AllByRecursion (λ x. f x ≡ []) xs
none-each f [] none = tt
none-each f (x ∷ xs) none = (none-left (f x) (flat_map f xs) none, none-each f xs (none-right (f x) (flat_map f xs) none))

no-option : {A : Type 0} (o : Option A) (xs : List A) → cons_option o xs ≡ [] → (o ≡ None) × (xs ≡ [])
no-option None xs none = (refl, none)
no-option (Some x) xs none = absurd (cc none)

unmapped : {A B : Type 0} (f : A → B) (o : Option A) → option_map f o ≡ None → o ≡ None
unmapped f None e = refl
unmapped f (Some x) e = absurd (cc e)

-- ---- sets

no-names : (k : ℕ) → KeepsRules k []
unfolding IsDistinct
no-names k = record { distinct = tt; within = omega arith; years = λ same i d below. absurd (omega arith) }

-- one name more
one-more : (k : ℕ) (before : List (List ℕ)) (name : List ℕ) → IsSet k → KeepsRules k before → refusal_after k before name ≡ None → KeepsRules k (before ++ name ∷ [])
one-more k before name is keeps free =
    let own : members (only k before) k ≡ before = members-set no_members k before is refl in
    let fact : IsTaken (only k before) k name = taken (only k before) k name (unmapped (fault_in k) (member_refusal (only k before) k name) free) in
    let new : is_among before name ≡ false = subst (λ names. is_among names name ≡ false) own fact.new in
    appended_keeps k before name keeps (IsDistinct-push nat_list_eq_equiv before name keeps.distinct new) (subst (λ names. length names < limit_of k) own fact.room) fact.spells

-- the names up to a place, and no refusal from there on
fronts-keep : (k : ℕ) (names : List (List ℕ)) → IsSet k → member_refusals k names ≡ [] → (i : ℕ) → i ≤ length names
    → KeepsRules k (take i names) × (in_turn_from (refusal_after k) names i ≡ [])
fronts-keep k names is free zero within = (no-names k, free)
fronts-keep k names is free (suc i) within =
    let before = fronts-keep k names is free i (omega arith) in
    let below : i < length names = omega arith in
    let here = no-option (refusal_after k (take i names) (get_or names i [])) (in_turn_from (refusal_after k) names (i + 1)) (sym (in_turn_more (refusal_after k) names i [] below) ∙ before.1) in
    let next : i + 1 ≡ suc i = omega arith in (
      subst (λ n. KeepsRules k (take n names)) next (subst (KeepsRules k) (sym (take_more names i [] below)) (one-more k (take i names) (get_or names i []) is before.0 here.0)),
      subst (λ n. in_turn_from (refusal_after k) names n ≡ []) next here.1,
    )

names-keep : (k : ℕ) (names : List (List ℕ)) → IsSet k → member_refusals k names ≡ [] → KeepsRules k names
names-keep k names is free = subst (KeepsRules k) (take_all (length names) names (omega arith)) (fronts-keep k names is free (length names) (omega arith)).0

at-place : (P : ℕ → Type 0) (xs : List ℕ) (i d : ℕ) → AllByRecursion P xs → P d → P (get_or xs i d)
at-place P [] i d all other = other
at-place P (x ∷ xs) zero d all other = all.0
at-place P (x ∷ xs) (suc i) d all other = at-place P xs i d all.1 other

sets-keep : (sets : SetLists) → length sets ≡ set_count → flat_map (λ k. member_refusals k (members sets k)) (range_with_len 1 set_count) ≡ [] → AreSets sets
sets-keep sets eleven none = record { eleven = eleven; rules = rules }
  where
    rules : (k : ℕ) → IsSet k → KeepsRules k (members sets k)
    rules k is =
        let all = none-each (λ k. member_refusals k (members sets k)) (range_with_len 1 set_count) none in
        let inside : k - 1 < set_count = omega (arith, is.0, is.1) in
        let at : get_or (range_with_len 1 set_count) (k - 1) 1 ≡ 1 + (k - 1) = get_or-range_with_len 1 set_count (k - 1) 1 inside in
        let number : 1 + (k - 1) ≡ k = omega (arith, is.0) in
        names-keep k (members sets k) is (subst (λ n. member_refusals n (members sets n) ≡ []) (at ∙ number) (at-place (λ n. member_refusals n (members sets n) ≡ []) (range_with_len 1 set_count) (k - 1) 1 all all.0))

-- ---- data

told-complete : (blocks : Blocks) (text : List ℕ) → first_set_refusal blocks ≡ None → first_refusal blocks ≡ None → Says text blocks → AreComplete (data_told blocks)
told-complete blocks text sets_free free says =
    let sets : AreSets (set_lists blocks) = sets-keep (set_lists blocks) refl (none-left _ _ (none-first _ sets_free)) in
    complete_of (data_told blocks) sets (none-right _ _ (none-first _ free))
    (λ p used index has. values_are_numbers (set_lists blocks) blocks.params p index (says_well text blocks says).params.each)

pub plain-complete : (text : List ℕ) (says : SaysData text) → AreComplete (built_of says.blocks).facts
plain-complete text says = complete_canonical (data_told says.blocks) (told-complete says.blocks text says.sets_accepted says.data_accepted says.says)

changed-complete : (changes : Option (List ℕ)) (built next : Built) → AreComplete built.facts → changed_by changes built ≡ Ok next → AreComplete next.facts
changed-complete None built next complete is = let same : built ≡ next = cc is in subst (λ (n : Built). AreComplete n.facts) same complete
changed-complete (Some changes) built next complete is = file_complete built next changes complete is

pub accepted-complete : (source : Source) (d : Data) → Accepted source d → AreComplete d
accepted-complete source d accepted = changed-complete source.changes (built_of accepted.says.blocks) _ (plain-complete source.text accepted.says) accepted.told

-- the sets are those of the data file, whatever its changes
changed-sets : (changes : Option (List ℕ)) (built next : Built) → changed_by changes built ≡ Ok next → next.facts.sets ≡ built.facts.sets
changed-sets None built next is = let same : built ≡ next = cc is in sym (ap (λ (n : Built). n.facts.sets) same)
changed-sets (Some changes) built next is = all_sets built next changes is

pub accepted-sets : (source : Source) (d : Data) (accepted : Accepted source d) → d.sets ≡ set_lists accepted.says.blocks
accepted-sets source d accepted = changed-sets source.changes (built_of accepted.says.blocks) _ accepted.told
