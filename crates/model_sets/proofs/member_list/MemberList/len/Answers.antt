use Rattle.model_sets.proofs.Common.{subst, IsDistinct, bytes_eq}
use Rattle.model_sets.proofs.NameLists.{IsDistinct-map}
use Rattle.model_sets.proofs.member_list.MemberList.len.Goals as goal

pub returns-clause-distinct : goal.returns-clause-distinct
returns-clause-distinct c = subst (IsDistinct bytes_eq) c.self.view_is (IsDistinct-map (λ name. name.items) bytes_eq c.self.inside.names.keys c.len.ensures.unique)
