-- What a change of data that are open says of the data that they mean.
use Rattle.param_tables.proofs.Common.{◌≡◌, ℕ, ◌-◌, Bool, List, [], length, filter, filter_map, map, set, get_or, sym, ap, ◌∙◌, subst, option_map, ℤ, first_of, SetLists, AreComplete, Built}
use Rattle.param_tables.specs.Changes.{change_refusals, rounded_by, with_change}
use Rattle.param_tables.specs.ChangeTold.{IsChangeFailDue, IsChangeOf, change_told}
use Rattle.param_tables.specs.OpenTables.{AreOpen, ArePut, KeepsShape, MayBePut, facts_opened, fault_by, places_of_change, put_by, refusal_by, rounds_at, rule_of}
use Rattle.param_tables.specs.declared.change.Change.{Change as ChangeByPositions}
use Rattle.param_tables.specs.declared.fault.ChangeFail.{ChangeFail}
use Rattle.param_tables.specs.declared.open_table.OpenTable.{OpenTable}
use Rattle.param_tables.proofs.AppliedLaws.{facts_changed, first_refusal_is, open_after, refusals_are, rounded_are}
use Rattle.param_tables.proofs.OpenLaws.{complete_opened}

-- the table of the change's parameter is the i-th of all
module _ (sets : SetLists) (tables : List OpenTable) (second : Bool) (n : ℕ) (is : AreOpen sets tables second) (old : Built) (view : record { facts = facts_opened sets tables second; rounded = n } ≡ old) where
  pub complete_told : AreComplete old.facts
  complete_told = subst (λ (b : Built). AreComplete b.facts) view (complete_opened sets tables second is)

  module _ (change : ChangeByPositions) (ok : IsChangeOf old.facts change) (table : OpenTable) (at : table ≡ get_or tables (change.param - 1) table) where
    ok_here : IsChangeOf (facts_opened sets tables second) change
    ok_here = subst (λ (b : Built). IsChangeOf b.facts change) (sym view) ok

    pub fail_told : (fail : ChangeFail) → IsChangeFailDue (option_map (refusal_by sets change.param) (first_of (filter_map (fault_by (rule_of change) table) (places_of_change sets change)))) sets fail
        → IsChangeFailDue (first_of (change_refusals old.facts (change_told old.facts.sets change))) old.facts.sets fail
    fail_told fail due =
        subst (λ (b : Built). IsChangeFailDue (first_of (change_refusals b.facts (change_told b.facts.sets change))) b.facts.sets fail) view
        (subst (λ o. IsChangeFailDue o sets fail) (first_refusal_is sets tables second is change ok_here table)
        (subst (λ t. IsChangeFailDue (option_map (refusal_by sets change.param) (first_of (filter_map (fault_by (rule_of change) t) (places_of_change sets change)))) sets fail) at due))

    module _ (free : filter_map (fault_by (rule_of change) table) (places_of_change sets change) ≡ []) where
      pub none_refused : change_refusals old.facts (change_told old.facts.sets change) ≡ []
      none_refused =
          subst (λ (b : Built). change_refusals b.facts (change_told b.facts.sets change) ≡ []) view
          (refusals_are sets tables second is change ok_here table
          ∙ ap (λ t. map (refusal_by sets change.param) (filter_map (fault_by (rule_of change) t) (places_of_change sets change))) (sym at)
          ∙ ap (map (refusal_by sets change.param)) free)

      pub open_told : (i : ℕ) (puts : List (ℕ × ℤ)) (new : OpenTable) → i ≡ change.param - 1 → puts ≡ filter_map (put_by (rule_of change) table) (places_of_change sets change) → KeepsShape table new → MayBePut puts table new → AreOpen sets (set tables i new) second
      open_told i puts new place all shape some =
          subst (λ (j : ℕ). AreOpen sets (set tables j new) second) (sym place)
          (open_after sets tables second is change ok_here table new
          (subst (λ t. KeepsShape t new) at shape)
          (subst (λ t. MayBePut (filter_map (put_by (rule_of change) t) (places_of_change sets change)) t new) at (subst (λ ps. MayBePut ps table new) all some))
          (ap (λ t. filter_map (fault_by (rule_of change) t) (places_of_change sets change)) (sym at) ∙ free))

    pub facts_told : (i : ℕ) (puts : List (ℕ × ℤ)) (new : OpenTable) → i ≡ change.param - 1 → puts ≡ filter_map (put_by (rule_of change) table) (places_of_change sets change) → KeepsShape table new → ArePut puts table new → facts_opened sets (set tables i new) second ≡ with_change old.facts (change_told old.facts.sets change)
    facts_told i puts new place all shape are =
        ap (λ (j : ℕ). facts_opened sets (set tables j new) second) place
        ∙ facts_changed sets tables second is change ok_here table new
        (subst (λ t. KeepsShape t new) at shape)
        (subst (λ t. ArePut (filter_map (put_by (rule_of change) t) (places_of_change sets change)) t new) at (subst (λ ps. ArePut ps table new) all are))
        ∙ ap (λ (b : Built). with_change b.facts (change_told b.facts.sets change)) view

    pub rounded_told : length (filter (rounds_at (rule_of change) table) (places_of_change sets change)) ≡ rounded_by old.facts (change_told old.facts.sets change)
    rounded_told =
        ap (λ t. length (filter (rounds_at (rule_of change) t) (places_of_change sets change))) at
        ∙ rounded_are sets tables second is change ok_here table
        ∙ ap (λ (b : Built). rounded_by b.facts (change_told b.facts.sets change)) view
