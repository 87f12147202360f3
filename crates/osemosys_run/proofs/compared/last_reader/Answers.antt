use Rattle.osemosys_run.proofs.Common.{◌∷◌, ◌++◌, [], List, subst, PieceState, StandsFor, AllHold}
use Rattle.osemosys_run.proofs.RequestLaws.{last_holds}
use Rattle.osemosys_run.proofs.compared.last_reader.Goals as goal

pub returns : goal.returns
returns c = λ texts text all.
    last_holds c.pop.new.self.items c.in-Some.reader texts text (subst (λ (fed : List PieceState). AllHold StandsFor fed (texts ++ text ∷ [])) c.in-Some.ensures.items all)
