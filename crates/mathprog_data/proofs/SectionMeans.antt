-- A list that the machine takes to an end is loose.
use Rattle.mathprog_data.proofs.Common.{◌≡◌, true, List, [], ◌∷◌, codes, refl, Placed, Open, Fresh, Between, EndRead, Ended, Event, may_end, Statement, IsSign, IsKeyword}
use Rattle.mathprog_data.proofs.SectionsSound.{sound}
use Rattle.mathprog_data.proofs.SectionsTaken.{Finished, finished}
use Rattle.mathprog_data.proofs.StatementsGo.{StepsBack, after, Goes, fresh, between, cut_ended}
use Rattle.mathprog_data.proofs.Walks.{Takes, statements_events}
use Rattle.mathprog_data.specs.declared.lexeme.Sign.TheVariants as signs
use Rattle.mathprog_data.specs.Meaning.{Opening, Statements, Closing, IsLoose}
use Rattle.mathprog_data.specs.Meaning as sections

-- one semicolon
data OneSemicolon : List Placed → Type 0 where
  semicolon : {t : Placed} → IsSign signs.Semicolon t → OneSemicolon (t ∷ [])

-- no token
data NoToken : List Placed → Type 0 where
  no_token : NoToken []

-- what may follow at the end of a section
abbrev AtEnd : Open → List Placed → Type 0
AtEnd Between ts = Closing ts
AtEnd EndRead ts = OneSemicolon ts
AtEnd Ended ts = NoToken ts
AtEnd o ts = ⊥

ended : (t : Placed) (ts : List Placed) → IsSign signs.Semicolon t → NoToken ts → OneSemicolon (t ∷ ts)
ended t [] is no_token = semicolon is
ended t (u ∷ us) is none = elim none [ ]

closed : (t : Placed) (ts : List Placed) → IsKeyword (codes "end") t → OneSemicolon ts → Closing (t ∷ ts)
closed t [] is none = elim none [ ]
closed t (u ∷ []) is (semicolon s) = sections.Closing.words is s
closed t (u ∷ v ∷ us) is none = elim none [ ]

AtEnd-StepsBack : StepsBack AtEnd
AtEnd-StepsBack = record {
  ends = closed;
  closes = ended;
  sets = λ t ts is f. absurd f;
  params = λ t ts is f. absurd f;
  colon = λ t ts is f. absurd f;
  leads = λ t ts is f. absurd f;
  reads = λ t ts v is f. absurd f;
  commas = λ t ts v is f. absurd f;
  colons = λ t ts v c is f. absurd f;
}

last-end : (o : Open) → may_end o ≡ true → Goes AtEnd o [] []
last-end Fresh e = fresh sections.Opening.none (after sections.Statements.none sections.Closing.none)
last-end Between e = between (after sections.Statements.none sections.Closing.none)
last-end Ended e = cut_ended no_token
last-end o e = cc

last : (o : Open) (ts : List Placed) → Finished o ts → Goes AtEnd o ts []
last o ts (finished e) = last-end o e

-- a loose list with the events of its statements
pub record LooseBy (ts : List Placed) (events : List Event) : Type 0 where
  pub statements : List Statement
  pub loose : IsLoose ts statements
  pub events_are : events ≡ statements_events statements []

loose_by : {ts : List Placed} {events : List Event} → Goes AtEnd Fresh ts events → LooseBy ts events
loose_by (fresh opening (after {ss = ss} statements closing)) = record { statements = ss; loose = sections.IsLoose.loose opening statements closing; events_are = refl }

pub taken-loose : {ts : List Placed} {events : List Event} → Takes Finished Fresh ts events → LooseBy ts events
taken-loose w = loose_by (sound Finished AtEnd AtEnd-StepsBack last w)
