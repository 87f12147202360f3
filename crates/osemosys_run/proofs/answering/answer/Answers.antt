use Rattle.std.specs.Option.{option_to_list}
use Rattle.osemosys_run.proofs.Common.{◌≡◌, ◌∷◌, ◌∙◌, [], List, ℕ, suc, length, ap, arith, map, subst, sym, IfOk-weaker, option_map, DueForText, DueForEquations, request_of, question_of, Question, Request, Compare, Mps, Source, source_of, source_in, source2_in, names_in, bytes_at, changes_at, titled, DueForQuestion, DueOver, DueOverData}
use Rattle.result_pages.specs.Pages.{title_of}
use Rattle.osemosys_run.proofs.ReplyLaws.{told_reply}
use Rattle.osemosys_run.proofs.RequestLaws.{has_one_model, of_mps, of_one_model, one_read, same_source, two_due, two_read}
use Rattle.osemosys_run.proofs.answering.answer.Goals as goal

-- ---- `mps`

pub last_reader-reader-requires : goal.last_reader-reader-requires
last_reader-reader-requires g c =
    let read = c.requires.read in
    let request : Request = request_of c.args.request in
    let named = of_mps request c.in-Mps.file.now c.in-Mps.places (ap question_of c.in-Mps.is) in
    let one = one_read request c.in-Mps.file.now _ read.0 _ _ named.0 named.1 read.1 in
    ([], one.text, one.stands)

pub answer_mps-requires-clause-stands : goal.answer_mps-requires-clause-stands
answer_mps-requires-clause-stands g c =
    let read = c.requires.read in
    let request : Request = request_of c.args.request in
    let named = of_mps request c.in-Mps.file.now c.in-Mps.places (ap question_of c.in-Mps.is) in
    let one = one_read request c.in-Mps.file.now _ read.0 _ _ named.0 named.1 read.1 in
    (one.text, (c.last_reader-reader.ensures [] one.text one.stands).1)

pub returns-in-Mps : goal.returns-in-Mps
returns-in-Mps g c = λ contents read.
    let request : Request = request_of c.args.request in
    let held : List (List ℕ) = map (λ bytes. bytes.items) c.args.found.held.items in
    let is : request.question ≡ Mps c.in-Mps.file.now c.in-Mps.places = ap question_of c.in-Mps.is in
    let named = of_mps request c.in-Mps.file.now c.in-Mps.places is in
    let one = one_read request c.in-Mps.file.now _ contents _ held named.0 named.1 read in
    let at : option_map (λ bytes. bytes.now) c.bytes_if.result ≡ changes_at held 0 request.changes =
    c.bytes_if.ensures ∙ ap (λ l. changes_at (map (λ bytes. bytes.items) l) 0 request.changes) c.deref.ensures.value in
    let source : source_of one.text c.bytes_if.result ≡ source_in request contents =
    same_source request contents one.text held 0 c.bytes_if.result one.is (ap (λ question. length (names_in question)) is) at in
    IfOk-weaker c.answer_mps.result _ _
    (λ reply for.
    record {
      due = λ status text said.
          subst (λ (question : Question). DueForQuestion question (source_in request contents) (source2_in request contents) contents status text) (sym is)
          (subst (λ (of : Source). DueForText (λ rounded. DueForEquations c.in-Mps.places) of status text) source (for.due status text said));
      own = for.own;
      can_be_sent = for.can_be_sent;
      as_made = λ made. record { name = c.in-Mps.file.now; places = c.in-Mps.places; is = is };
    })
    (c.answer_mps.ensures one.text (c.last_reader-reader.ensures [] one.text one.stands).1 one.short)

-- ---- `make`

pub returns-in-Make : goal.returns-in-Make
returns-in-Make g c = λ contents read.
    let request : Request = request_of c.args.request in
    let answer = c.in_ok-perform_make-in-Make.field-0 in
    IfOk-weaker c.told.result _ _
    (λ reply is.
    told_reply request contents answer reply is
    (subst (λ (question : Question). DueForQuestion question (source_in request contents) (source2_in request contents) contents answer.status answer.text.items) (sym (ap question_of c.in-Make.is))
    c.in_ok-perform_make-in-Make.ensures))
    c.told.ensures

-- ---- `compare`

pub last_reader-second_reader-requires : goal.last_reader-second_reader-requires
last_reader-second_reader-requires g c =
    let read = c.requires.read in
    let two = two_read (request_of c.args.request) _ _ _ _ _ _ _ read.0 _ _ (ap question_of c.in-Compare.is) read.1 in
    (two.text ∷ [], two.text2, two.stand)

pub last_reader-first_reader-requires : goal.last_reader-first_reader-requires
last_reader-first_reader-requires g c =
    let read = c.requires.read in
    let two = two_read (request_of c.args.request) _ _ _ _ _ _ _ read.0 _ _ (ap question_of c.in-Compare.is) read.1 in
    ([], two.text, (c.last_reader-second_reader.ensures (two.text ∷ []) two.text2 two.stand).0)

pub answer_pairs-requires-clause-first : goal.answer_pairs-requires-clause-first
answer_pairs-requires-clause-first g c =
    let read = c.requires.read in
    let two = two_read (request_of c.args.request) _ _ _ _ _ _ _ read.0 _ _ (ap question_of c.in-Compare.is) read.1 in
    (two.text, (c.last_reader-first_reader.ensures [] two.text (c.last_reader-second_reader.ensures (two.text ∷ []) two.text2 two.stand).0).1, two.short)

pub answer_pairs-requires-clause-second : goal.answer_pairs-requires-clause-second
answer_pairs-requires-clause-second g c =
    let read = c.requires.read in
    let two = two_read (request_of c.args.request) _ _ _ _ _ _ _ read.0 _ _ (ap question_of c.in-Compare.is) read.1 in
    (two.text2, (c.last_reader-second_reader.ensures (two.text ∷ []) two.text2 two.stand).1, two.short2)

pub returns-in-Compare : goal.returns-in-Compare
returns-in-Compare g c = λ contents read.
    let request : Request = request_of c.args.request in
    let held : List (List ℕ) = map (λ bytes. bytes.items) c.args.found.held.items in
    let compare = c.in-Compare in
    let is : request.question ≡ Compare compare.first.now compare.first_proof.now compare.second.now compare.second_proof.now compare.gap compare.places compare.show = ap question_of compare.is in
    let two = two_read request _ _ _ _ _ _ _ contents _ held is read in
    let second = c.last_reader-second_reader.ensures (two.text ∷ []) two.text2 two.stand in
    let first = c.last_reader-first_reader.ensures [] two.text second.0 in
    let answer = c.in_ok-answer_pairs-in-Compare.field-0 in
    let place : ℕ = suc (suc (length (option_to_list request.changes))) in
    let place_is : c.second_place.result ≡ place = c.second_place.ensures ∙ omega arith in
    let changes : option_map (λ bytes. bytes.now) c.bytes_if-first_changes.result ≡ changes_at held 2 request.changes =
    c.bytes_if-first_changes.ensures ∙ ap (λ l. changes_at (map (λ bytes. bytes.items) l) 2 request.changes) c.deref-in-Compare.ensures.value in
    let changes2 : option_map (λ bytes. bytes.now) c.bytes_if-second_changes.result ≡ changes_at held place request.changes2 =
    c.bytes_if-second_changes.ensures ∙ ap (λ l. changes_at (map (λ bytes. bytes.items) l) c.second_place.result request.changes2) c.deref-in-Compare-2.ensures.value
    ∙ ap (λ n. changes_at held n request.changes2) place_is in
    let over : DueOver request contents answer.status answer.text.items =
    two_due request compare.first.now compare.first_proof.now compare.second.now compare.second_proof.now compare.gap compare.places compare.show is contents c.args.found.fed.items held two answer.status answer.text.items
    (title_of c.titled.result) (title_of c.titled-in-Compare.result) c.bytes_at.result.now c.bytes_at-in-Compare.result.now
    (c.titled.ensures ∙ ap (titled compare.first.now) changes) (c.titled-in-Compare.ensures ∙ ap (titled compare.second.now) changes2)
    (c.bytes_at.ensures ∙ ap (λ l. bytes_at (map (λ bytes. bytes.items) l) 0) c.deref-in-Compare-3.ensures.value)
    (c.bytes_at-in-Compare.ensures ∙ ap (λ l. bytes_at (map (λ bytes. bytes.items) l) 1) c.deref-in-Compare-4.ensures.value)
    (c.in_ok-answer_pairs-in-Compare.ensures two.text two.text2 first.1 two.short second.1 two.short2) in
    IfOk-weaker c.told-in-Compare.result _ _ (λ reply told. told_reply request contents answer reply told over) c.told-in-Compare.ensures

-- ---- commands of one data file

pub last_reader-reader-requires-in_default : goal.last_reader-reader-requires-in_default
last_reader-reader-requires-in_default g c =
    let read = c.requires.read in
    let request : Request = request_of c.args.request in
    let of_one = of_one_model request (has_one_model c.args.request.command c.in_default.not-Mps c.in_default.not-Make c.in_default.not-Compare) in
    let one = one_read request of_one.data_file of_one.others read.0 _ _ of_one.names of_one.marks read.1 in
    ([], one.text, one.stands)

pub answer_read-requires : goal.answer_read-requires
answer_read-requires g c =
    let read = c.requires.read in
    let request : Request = request_of c.args.request in
    let has_one = has_one_model c.args.request.command c.in_default.not-Mps c.in_default.not-Make c.in_default.not-Compare in
    let of_one = of_one_model request has_one in
    let one = one_read request of_one.data_file of_one.others read.0 _ _ of_one.names of_one.marks read.1 in
    record { in_range = c.requires.in_range; one = has_one; stands = (one.text, (c.last_reader-reader-in_default.ensures [] one.text one.stands).1) }

pub returns : goal.returns
returns g c = λ contents read.
    let request : Request = request_of c.args.request in
    let held : List (List ℕ) = map (λ bytes. bytes.items) c.args.found.held.items in
    let of_one = of_one_model request (has_one_model c.args.request.command c.in_default.not-Mps c.in_default.not-Make c.in_default.not-Compare) in
    let one = one_read request of_one.data_file of_one.others contents c.args.found.fed.items held of_one.names of_one.marks read in
    let answer = c.in_ok-answer_read-in_default.field-0 in
    let many : length (names_in request.question) ≡ suc c.others_of.result = c.others_of.ensures ∙ omega arith in
    let at : option_map (λ bytes. bytes.now) c.bytes_if-changes.result ≡ changes_at held c.others_of.result request.changes =
    c.bytes_if-changes.ensures ∙ ap (λ l. changes_at (map (λ bytes. bytes.items) l) c.others_of.result request.changes) c.deref-in_default.ensures.value in
    let source : source_of one.text c.bytes_if-changes.result ≡ source_in request contents = same_source request contents one.text held c.others_of.result c.bytes_if-changes.result one.is many at in
    let read_whole : one.text ∷ map (λ bytes. bytes.items) c.deref-in_default-2.result.now ≡ contents = ap (λ l. one.text ∷ map (λ bytes. bytes.items) l) c.deref-in_default-2.ensures.value ∙ sym one.is in
    let over : DueForText (DueOverData request.question (source_in request contents).changes contents) (source_in request contents) answer.status answer.text.items =
    subst (λ (of : Source). DueForText (DueOverData request.question of.changes contents) of answer.status answer.text.items) source
    (subst (λ (all : List (List ℕ)). DueForText (DueOverData request.question (source_of one.text c.bytes_if-changes.result).changes all) (source_of one.text c.bytes_if-changes.result) answer.status answer.text.items) read_whole
    (c.in_ok-answer_read-in_default.ensures one.text (c.last_reader-reader-in_default.ensures [] one.text one.stands).1 one.short)) in
    IfOk-weaker c.told-in_default.result _ _ (λ reply is. told_reply request contents answer reply is (of_one.over contents answer.status answer.text.items over)) c.told-in_default.ensures
