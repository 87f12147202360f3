use Rattle.model_sets.proofs.Common.{ap, map, ◌∙◌, bytes_eq}
use Rattle.model_sets.proofs.NameLists.{IsDistinct-map, map-insert_key}
use Rattle.model_sets.proofs.member_list.MemberList.append.Goals as goal

pub returns-clause-appended : goal.returns-clause-appended
returns-clause-appended c =
    ap (map (λ name. name.items)) c.in_ok-insert.ensures.keys
    ∙ map-insert_key (λ name. name.items) bytes_eq c.self.inside.names.keys c.in_ok-copy.copy c.args.self.now c.args.name.now c.self.view_is c.in_ok-copy.ensures.items c.requires

pub returns-clause-distinct : goal.returns-clause-distinct
returns-clause-distinct c = IsDistinct-map (λ name. name.items) bytes_eq c.insert.new.self.keys c.insert.ensures.unique
