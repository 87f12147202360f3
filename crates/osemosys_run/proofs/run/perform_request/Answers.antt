use Rattle.osemosys_run.proofs.Common.{◌≡◌, ◌+◌, ◌∙◌, List, ℕ, ap, arith, inl, inr, length, refl, subst, sym, length-map, IfOk-weaker, MatchResult-at_err, MatchResult-at_ok, Status, request_of, Request, names_of, marks_of, StopsAt, seen, ReadEnd, all-short, as-many, stops-within, CanBeTold, marks_for, TellsEnd}
use Rattle.request_files.specs.Marked as marked
use Rattle.request_files.specs.declared.marked.RequestFile.{RequestFile}
use Rattle.request_files.specs.declared.whole.ReadEnd.TheVariants.{NoFile, Failed, TooLong, Memory}
use Rattle.request_files.proofs.MarkedLaws.{found-as}
use Rattle.osemosys_run.proofs.ReplyLaws.{told_so}
use Rattle.osemosys_run.proofs.run.perform_request.Goals as goal

-- an end that is told can be told
end-told : (number : ℕ) (end : ReadEnd) (status : Status) (text : List ℕ) → TellsEnd number end status text → CanBeTold status
end-told number NoFile status text tells = subst CanBeTold (sym tells.0) tt
end-told number Failed status text tells = subst CanBeTold (sym tells.0) tt
end-told number TooLong status text tells = subst CanBeTold (sym tells.0) tt
end-told number Memory status text tells = absurd tells

pub answer-requires-clause-read : goal.answer-requires-clause-read
answer-requires-clause-read g c =
    let read = MatchResult-at_ok _ _ c.in-Ok.found c.in-Ok.is c.in_ok-found.ensures.read in
    let names : marked.names_of c.deref.result.now ≡ names_of (request_of c.args.request) = ap marked.names_of c.deref.ensures.value ∙ c.in_ok-files.ensures.names in
    let marks : marks_of c.deref.result.now ≡ marks_for (request_of c.args.request) = ap marks_of c.deref.ensures.value ∙ c.in_ok-files.ensures.marks in
    let found = found-as _ c.in-Ok.found.fed.items _ _ _ _ _ read.0 _ _ names marks read.1 read.2 read.3 in (
      read.0,
      record { many = as-many (names_of (request_of c.args.request)) read.0 _ _ found.0; short = all-short (names_of (request_of c.args.request)) read.0 _ _ found.0; stand = found.1; held_is = found.2 },
    )

pub returns-in-Ok-clause-reply : goal.returns-in-Ok-clause-reply
returns-in-Ok-clause-reply g c =
    let request : Request = request_of c.args.request in
    let read = MatchResult-at_ok _ _ c.in-Ok.found c.in-Ok.is c.in_ok-found.ensures.read in
    let names : marked.names_of c.deref.result.now ≡ names_of request = ap marked.names_of c.deref.ensures.value ∙ c.in_ok-files.ensures.names in
    let marks : marks_of c.deref.result.now ≡ marks_for request = ap marks_of c.deref.ensures.value ∙ c.in_ok-files.ensures.marks in
    let found = found-as _ c.in-Ok.found.fed.items _ _ _ _ _ read.0 _ _ names marks read.1 read.2 read.3 in
    IfOk-weaker c.answer.result _ _
    (λ reply is.
    record {
      caused = λ status text said. inl (record { contents = read.0; read = found.0; due = is.due status text said; own = is.own status text said });
      can_be_sent = is.can_be_sent;
      as_made = λ made. (request, refl, is.as_made made);
    })
    (c.answer.ensures read.0 (record { many = as-many (names_of request) read.0 _ _ found.0; short = all-short (names_of request) read.0 _ _ found.0; stand = found.1; held_is = found.2 }))

pub refuse_file-requires : goal.refuse_file-requires
refuse_file-requires g c =
    let stops = MatchResult-at_err _ _ c.in-Err.stopped c.in-Err.is c.in_ok-found.ensures.read in
    let within = stops-within (marked.names_of c.deref.result.now) c.in-Err.stopped.place c.in-Err.stopped.end _ _ stops in
    let many : length (marked.names_of c.deref.result.now) ≡ length c.in_ok-files.files.items = length-map c.deref.result.now (λ (file : RequestFile). file.name.now) ∙ ap length c.deref.ensures.value in
    omega (arith, within, many, c.in_ok-files.ensures.few)

pub returns-in_ok-answer-in-Err-clause-reply : goal.returns-in_ok-answer-in-Err-clause-reply
returns-in_ok-answer-in-Err-clause-reply g c =
    let stopped = c.in-Err.stopped in
    let answer = c.in_ok-answer-in-Err.answer in
    let stops = MatchResult-at_err _ _ stopped c.in-Err.is c.in_ok-found.ensures.read in
    let names : marked.names_of c.deref.result.now ≡ names_of (request_of c.args.request) = ap marked.names_of c.deref.ensures.value ∙ c.in_ok-files.ensures.names in
    let stops_at = subst (λ (all : List (List ℕ)). StopsAt all stopped.place stopped.end (seen g.S.Shelf c.args.shelf.now) (seen g.S.Shelf c.read_files.new.shelf)) names stops in
    record {
      caused = λ status text said.
          inr (record {
            place = stopped.place;
            end = stopped.end;
            stops = stops_at;
            told = told_so (TellsEnd (stopped.place + 1) stopped.end) answer.status answer.text.items c.in_ok-answer-in-Err.ensures status text said;
          });
      can_be_sent = end-told (stopped.place + 1) stopped.end answer.status answer.text.items c.in_ok-answer-in-Err.ensures;
      as_made = λ made. absurd made;
    }
