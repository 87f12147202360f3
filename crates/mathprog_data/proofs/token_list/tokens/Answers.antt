use Rattle.mathprog_data.proofs.Common.{List, length, map, IfOk-weaker, Placed, Tokens, lexed, slice_of, AreSlices, AreApart, ListsAll, IsDone}
use Rattle.mathprog_data.proofs.TokenListLaws.{listed, apart, first_fault, refuses_no_tokens, refuses_each_fault}
use Rattle.mathprog_data.proofs.token_list.tokens.Goals as goal

pub returns-clause-listed : goal.returns-clause-listed
returns-clause-listed c =
    let text = c.args.text.now in
    IfOk-weaker c.all_tokens.result (λ found. ListsAll text found.items) (λ found. (placed : List Placed) × Tokens text placed × AreSlices text found.items placed)
    (λ found. listed text found.items) c.all_tokens.ensures.done

pub returns-clause-apart : goal.returns-clause-apart
returns-clause-apart c =
    let text = c.args.text.now in
    IfOk-weaker c.all_tokens.result (λ found. ListsAll text found.items) (λ found. AreApart 0 (length text) (map slice_of found.items))
    (λ found. apart text found.items) c.all_tokens.ensures.done

pub returns-clause-first_fault : goal.returns-clause-first_fault
returns-clause-first_fault c = first_fault c.args.text.now c.all_tokens.result c.all_tokens.ensures.fault

pub returns-clause-refuses_no_tokens : goal.returns-clause-refuses_no_tokens
returns-clause-refuses_no_tokens c = refuses_no_tokens c.args.text.now c.all_tokens.result c.all_tokens.ensures.fault

pub returns-clause-refuses_each_fault : goal.returns-clause-refuses_each_fault
returns-clause-refuses_each_fault c =
    let text = c.args.text.now in
    refuses_each_fault text c.all_tokens.result
    (IfOk-weaker c.all_tokens.result (λ found. ListsAll text found.items) (λ _. IsDone (lexed text).end) (λ found all. all.1) c.all_tokens.ensures.done)
    c.all_tokens.ensures.fault
