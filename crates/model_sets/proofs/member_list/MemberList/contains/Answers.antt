use Rattle.model_sets.proofs.Common.{sym, ap, ◌∙◌, bytes_eq, is_among}
use Rattle.model_sets.proofs.NameLists.{list_any-map}
use Rattle.model_sets.proofs.member_list.MemberList.contains.Goals as goal

pub returns : goal.returns
returns c =
    c.contains.ensures
    ∙ sym (list_any-map (λ name. name.items) (bytes_eq c.args.name.now) c.self.inside.names.keys)
    ∙ ap (λ names. is_among names c.args.name.now) c.self.view_is
