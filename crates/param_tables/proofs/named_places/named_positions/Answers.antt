use Rattle.param_tables.proofs.Common.{◌≡◌, ◌∷◌, [], length, range_with_len, members, IfOk-weaker, ◌∙◌}
use Rattle.param_tables.proofs.NamedLaws.{named_every, named_one, positions_named}
use Rattle.param_tables.proofs.named_places.named_positions.Goals as goal

pub returns-in-Every : goal.returns-in-Every
returns-in-Every c =
    let sets = c.args.sets.now in
    let set = c.args.set in
    IfOk-weaker c.all_positions.result (λ v. v.items ≡ range_with_len 0 (length (members sets set))) (λ v. v.items ≡ positions_named sets set c.args.named)
    (λ v is. is ∙ named_every sets set c.args.named c.in-Every.is)
    c.all_positions.ensures

pub returns-in-One : goal.returns-in-One
returns-in-One c =
    let sets = c.args.sets.now in
    let set = c.args.set in
    IfOk-weaker c.one_position.result (λ v. v.items ≡ c.in-One.position ∷ []) (λ v. v.items ≡ positions_named sets set c.args.named)
    (λ v is. is ∙ named_one sets set c.args.named c.in-One.position c.requires.sets c.requires.listed c.in-One.is c.requires.named)
    c.one_position.ensures
