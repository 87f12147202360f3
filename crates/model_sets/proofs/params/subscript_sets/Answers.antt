use Rattle.model_sets.proofs.Common.{◌≡◌, ℕ, ◌≤◌, List, length, sym, ap, subst, All, IsSet, Param, subscript_sets}
use Rattle.model_sets.proofs.ParamLaws.{subscripts_are_sets, subscripts-most}
use Rattle.model_sets.proofs.params.subscript_sets.Goals as goal

pub returns-clause-listed : goal.returns-clause-listed
returns-clause-listed c =
    let same : c.entry.result.now.1.now ≡ subscript_sets c.args.param = ap (λ (p : Param). p.subscripts) c.entry.ensures in
    let P : List ℕ → Type 0 = λ ks. All IsSet ks in
    subst P (sym same) (subscripts_are_sets c.args.param c.requires)

pub returns-clause-most : goal.returns-clause-most
returns-clause-most c =
    let same : c.entry.result.now.1.now ≡ subscript_sets c.args.param = ap (λ (p : Param). p.subscripts) c.entry.ensures in
    let P : List ℕ → Type 0 = λ ks. length ks ≤ 5 in
    subst P (sym same) (subscripts-most c.args.param c.requires)
