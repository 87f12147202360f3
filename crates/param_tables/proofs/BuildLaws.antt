-- The first refusal among those of STORAGE, of the values and of the parameters.
use Rattle.param_tables.proofs.Common.{◌≡◌, ◌<◌, ◌≤◌, List, [], ◌∷◌, ◌++◌, Some, length, sym, ap, ◌∙◌, subst, if◌then◌else◌, flat_map, lt-ltb, le-ltb, Data, used_params, SetLists, members, data_of, data_told, set_lists, first_of, Refusal, StorageMember, first_refusal, param_refusals, storage, storage_refusals, value_refusals, ParamBlock, Blocks, AreTablesFor, ParamTable}
use Rattle.param_tables.proofs.TurnLaws.{first_of-found}

in_order : SetLists → Data → List ParamBlock → List Refusal
in_order sets d params = storage_refusals sets ++ flat_map (value_refusals sets) params ++ flat_map (param_refusals d) (used_params d)

no_storage : (sets : SetLists) → length (members sets storage) ≤ 0 → storage_refusals sets ≡ []
no_storage sets none = ap (λ b. if b then StorageMember ∷ [] else []) (le-ltb 0 (length (members sets storage)) none)

module _ (s : Blocks) (sets : SetLists) (same : sets ≡ set_lists s) where
  by_parts : first_refusal s ≡ first_of (in_order sets (data_told s) s.params)
  unfolding in_order
  by_parts = ap (λ all. first_of (in_order all (data_told s) s.params)) (sym same)

  pub storage_first : 0 < length (members sets storage) → first_refusal s ≡ Some StorageMember
  unfolding in_order
  storage_first some = by_parts ∙ ap (λ b. first_of ((if b then StorageMember ∷ [] else []) ++ flat_map (value_refusals sets) s.params ++ flat_map (param_refusals (data_told s)) (used_params (data_told s)))) (lt-ltb 0 (length (members sets storage)) some)

  pub value_first : (r : Refusal) → length (members sets storage) ≤ 0 → first_of (flat_map (value_refusals sets) s.params) ≡ Some r → first_refusal s ≡ Some r
  unfolding in_order
  value_first r none found =
      by_parts
      ∙ ap (λ rs. first_of (rs ++ flat_map (value_refusals sets) s.params ++ flat_map (param_refusals (data_told s)) (used_params (data_told s)))) (no_storage sets none)
      ∙ first_of-found (flat_map (value_refusals sets) s.params) (flat_map (param_refusals (data_told s)) (used_params (data_told s))) r found

  pub params_left : length (members sets storage) ≤ 0 → flat_map (value_refusals sets) s.params ≡ [] → first_refusal s ≡ first_of (flat_map (param_refusals (data_told s)) (used_params (data_told s)))
  unfolding in_order
  params_left none free =
      by_parts
      ∙ ap (λ rs. first_of (rs ++ flat_map (value_refusals sets) s.params ++ flat_map (param_refusals (data_told s)) (used_params (data_told s)))) (no_storage sets none)
      ∙ ap (λ rs. first_of (rs ++ flat_map (param_refusals (data_told s)) (used_params (data_told s)))) free

  -- the data over these sets are those of the statements
  pub tables_told : (tables : List ParamTable) → AreTablesFor (data_of sets s.params) tables → AreTablesFor (data_told s) tables
  tables_told tables for = subst (λ all. AreTablesFor (data_of all s.params) tables) same for
