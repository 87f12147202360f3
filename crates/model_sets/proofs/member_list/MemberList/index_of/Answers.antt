use Rattle.model_sets.proofs.Common.{sym, ap, ◌∙◌, bytes_eq, index_of}
use Rattle.model_sets.proofs.NameLists.{position-map}
use Rattle.model_sets.proofs.member_list.MemberList.index_of.Goals as goal

pub returns : goal.returns
returns c =
    c.get_index_of.ensures.index
    ∙ sym (position-map (λ name. name.items) (bytes_eq c.args.name.now) c.self.inside.names.keys)
    ∙ ap (λ names. index_of names c.args.name.now) c.self.view_is
