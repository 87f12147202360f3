use Rattle.param_tables.proofs.Common.{◌≡◌, ℕ, ◌-◌, get_or, sym, ap, ◌∙◌, subst, is_some, IsUsedParam, subscript_sets, Built, is_given, IsPlaceOf, names_at, names_over}
use Rattle.param_tables.proofs.ViewLaws.{given_kept}
use Rattle.param_tables.proofs.model_data.ModelData.is_given.Goals as goal

pub returns : goal.returns
returns c =
    let sets = c.self.inside.sets in
    let tables = c.self.inside.tables.items in
    let second = c.self.inside.second in
    let p : ℕ = c.args.param in
    let is = c.args.index.now in
    let table = c.index.result.now in
    let place : ℕ = c.place_of-place.result in
    let used = subst (λ (b : Built). IsUsedParam b.facts p) (sym c.self.view_is) c.requires.used in
    let at : IsPlaceOf sets (subscript_sets p) (names_at sets p is) place =
    subst (λ ks. IsPlaceOf sets ks (names_over sets ks is) place) c.subscript_sets.ensures.sets c.place_of-place.ensures in
    let its_table : table ≡ get_or tables (p - 1) table = c.index.ensures ∙ ap (λ n. get_or tables n table) c.from.ensures in
    c.is_given_at.ensures
    ∙ sym (ap is_some (given_kept sets tables second c.self.invariant.kept p used (names_at sets p is) place at table its_table))
    ∙ ap (λ (b : Built). is_given b.facts p (names_at b.facts.sets p is)) c.self.view_is
