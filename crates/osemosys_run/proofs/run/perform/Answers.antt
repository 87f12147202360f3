use Rattle.osemosys_run.proofs.Common.{◌≡◌, ◌∙◌, [], Result, Ok, Err, ap, inl, refl, sym, subst, map, IfOk-weaker, string_bytes, request_of, request_of_result, Request, asked, WordFault, seen, DueOverAsked, CanBeTold, IsOwn, Told, IsReplyFor}
use Rattle.osemosys_run.proofs.ReplyLaws.{told_so}
use Rattle.command_words.proofs.Requests.{in_range}
use Rattle.osemosys_run.proofs.run.perform.Goals as goal

pub perform_request-requires : goal.perform_request-requires
perform_request-requires g c =
    in_range (map string_bytes c.args.words.now) (request_of c.in-Ok.request) (sym (ap request_of_result (sym c.in-Ok.is) ∙ c.in_ok-request.ensures))

pub returns-in-Ok-clause-reply : goal.returns-in-Ok-clause-reply
returns-in-Ok-clause-reply g c =
    let is : Ok (request_of c.in-Ok.request) ≡ asked (map string_bytes c.args.words.now) = ap request_of_result (sym c.in-Ok.is) ∙ c.in_ok-request.ensures in
    IfOk-weaker c.perform_request.result _ _
    (λ reply for. subst (λ (request : Result Request WordFault). IsReplyFor request (seen g.S.Shelf c.args.shelf.now) (seen g.S.Shelf c.perform_request.new.shelf) reply) is for)
    c.perform_request.ensures.reply

pub returns-in_ok-answer-in-Err-clause-reply : goal.returns-in_ok-answer-in-Err-clause-reply
returns-in_ok-answer-in-Err-clause-reply g c =
    let is : Err c.in-Err.fault ≡ asked (map string_bytes c.args.words.now) = ap request_of_result (sym c.in-Err.is) ∙ c.in_ok-request.ensures in
    let answer = c.in_ok-answer-in-Err.answer in
    let told = c.in_ok-answer-in-Err.ensures in
    subst (λ (request : Result Request WordFault). IsReplyFor request (seen g.S.Shelf c.args.shelf.now) (seen g.S.Shelf c.args.shelf.now) (Told answer)) is
    (record {
      caused = λ status text said. inl (record {
        contents = [];
        read = refl;
        due = told_so (DueOverAsked (Err c.in-Err.fault) []) answer.status answer.text.items (told.0, told.1) status text said;
        own = subst IsOwn (sym (said.0 ∙ told.0)) tt;
      });
      can_be_sent = subst CanBeTold (sym told.0) tt;
      as_made = λ made. absurd made;
    })
