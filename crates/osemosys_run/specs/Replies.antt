-- What is to be sent for a request: an answer, or the equations of a model, which are written as they are made.
use Rattle.std.specs.Prelude.{◌≡◌, List, ℕ, ⊤}
use Rattle.discount_factors.specs.Factors.{IsPlaces}
use Rattle.command_answers.specs.Accepted.{Source}
use Rattle.command_answers.specs.DueForText.{DueForText}
use Rattle.command_answers.specs.declared.status.Status.{Status}
use Rattle.command_answers.specs.declared.status.Status.TheVariants.{ReadFault, WriteFault, Memory}
use Rattle.command_words.specs.Words.{Request, Mps}
use Rattle.osemosys_run.specs.declared.reply.Reply.{Reply}
use Rattle.osemosys_run.specs.declared.reply.Reply.TheVariants.{Told, Equations}
use Rattle.osemosys_run.specs.Due.{DueOver}
use Rattle.osemosys_run.specs.Mps.{DueForEquations}

-- a command answers so: none says that a file couldn't be read, that a write failed, or that memory ran out
abbrev pub IsOwn : Status → Type 0
IsOwn (ReadFault stop) = ⊥
IsOwn WriteFault = ⊥
IsOwn Memory = ⊥
IsOwn status = ⊤

-- a status that is sent with its text isn't that a write failed, or that memory ran out
abbrev pub CanBeTold : Status → Type 0
CanBeTold WriteFault = ⊥
CanBeTold Memory = ⊥
CanBeTold status = ⊤

-- this status and this text alone
abbrev pub IsTold : Status → List ℕ → Status → List ℕ → Type 0
IsTold said line status text = (status ≡ said) × (text ≡ line)

-- the answer that is told; or what is due for `mps` over the model's data
abbrev pub DueForReply : Reply → Status → List ℕ → Type 0
DueForReply (Told answer) status text = IsTold answer.status answer.text.items status text
DueForReply (Equations model places) status text = DueForEquations places model.facts status text

-- the text of the reply is written as it is made
abbrev pub IsAsMade : Reply → Type 0
IsAsMade (Told answer) = ⊥
IsAsMade (Equations model places) = ⊤

-- the reply can be sent
abbrev pub CanBeSent : Reply → Type 0
CanBeSent (Told answer) = CanBeTold answer.status
CanBeSent (Equations model places) = IsPlaces places

-- the request is for the equations
pub record IsForEquations (request : Request) : Type 0 where
  pub name : List ℕ
  pub places : ℕ
  pub is : request.question ≡ Mps name places

-- the reply is the equations of the data of this file, with its changes and with written factors of so many decimal places, or the answer that refuses it; private functions alone cite this
pub record IsForEquationsOf (source : Source) (places : ℕ) (reply : Reply) : Type 0 where
  pub due : (status : Status) (text : List ℕ) → DueForReply reply status text → DueForText (λ rounded. DueForEquations places) source status text
  pub own : (status : Status) (text : List ℕ) → DueForReply reply status text → IsOwn status
  pub can_be_sent : CanBeSent reply

-- what comes of the reply is due for the request over these contents
pub record IsReplyTo (request : Request) (contents : List (List ℕ)) (reply : Reply) : Type 0 where
  pub due : (status : Status) (text : List ℕ) → DueForReply reply status text → DueOver request contents status text
  pub own : (status : Status) (text : List ℕ) → DueForReply reply status text → IsOwn status
  pub can_be_sent : CanBeSent reply
  pub as_made : IsAsMade reply → IsForEquations request
