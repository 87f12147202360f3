-- What is known of a reply: of an answer that is told, and of equations.
use Rattle.osemosys_run.proofs.Common.{◌≡◌, ℕ, List, inl, inr, sym, subst, Data, Answer, Status, Done, Infeasible, Unbounded, Uncertified, Unguessed, Refused, Words, ReadFault, WriteFault, Memory, Rejected, Request, Source, DueForText, DueOver, DueForEquations, CanBeTold, IsForEquationsOf, IsOwn, IsReplyTo, IsTold, Reply, Told}

-- the status and the text that are told are the ones of which something is known
pub told_so : (P : Status → List ℕ → Type 0) (said : Status) (line : List ℕ) → P said line → (status : Status) (text : List ℕ) → IsTold said line status text → P status text
told_so P said line h status text told = subst (λ (s : Status). P s text) (sym told.0) (subst (λ (t : List ℕ). P said t) (sym told.1) h)

-- a command's own status can be told
pub own_told : (status : Status) → IsOwn status → CanBeTold status
own_told Done own = tt
own_told Infeasible own = tt
own_told Unbounded own = tt
own_told (Uncertified stop) own = tt
own_told (Unguessed pivots) own = tt
own_told (Refused refusal) own = tt
own_told (Words fault) own = tt
own_told (ReadFault stop) own = tt
own_told WriteFault own = own
own_told Memory own = own
own_told (Rejected rejection) own = tt

-- the answer of a command is a reply
pub told_reply : (request : Request) (contents : List (List ℕ)) (answer : Answer) (reply : Reply) → (reply ≡ Told answer) × IsOwn answer.status → DueOver request contents answer.status answer.text.items → IsReplyTo request contents reply
told_reply request contents answer reply is due =
    subst (IsReplyTo request contents) (sym is.0)
    (record {
      due = λ status text said. told_so (DueOver request contents) answer.status answer.text.items due status text said;
      own = λ status text said. subst IsOwn (sym said.0) is.1;
      can_be_sent = own_told answer.status is.1;
      as_made = λ made. absurd made;
    })

-- what is due for equations has a status of a command's own
pub equations_own : (places : ℕ) (d : Data) (status : Status) (text : List ℕ) → DueForEquations places d status text → IsOwn status
equations_own places d status text (inl written) = subst IsOwn (sym written.status_is) tt
equations_own places d status text (inr (inl wide)) = subst IsOwn (sym wide.status_is) tt
equations_own places d status text (inr (inr many)) = subst IsOwn (sym many.status_is) tt

-- the answer that refuses a data file is a reply where its equations are asked for
pub told_equations : (source : Source) (places : ℕ) (answer : Answer) (reply : Reply) → (reply ≡ Told answer) × IsOwn answer.status → DueForText (λ rounded. DueForEquations places) source answer.status answer.text.items
    → IsForEquationsOf source places reply
told_equations source places answer reply is due =
    subst (IsForEquationsOf source places) (sym is.0)
    (record {
      due = λ status text said. told_so (DueForText (λ rounded. DueForEquations places) source) answer.status answer.text.items due status text said;
      own = λ status text said. subst IsOwn (sym said.0) is.1;
      can_be_sent = own_told answer.status is.1;
    })
