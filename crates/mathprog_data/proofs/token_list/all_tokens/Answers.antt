use Rattle.mathprog_data.proofs.Common.{◌≡◌, ◌+◌, drop, true, false, Ok, Err, Bool, ap, sym, ◌∙◌, Fault, run, and_then, lexed_run, nothing_more, slices_of, slices, preceded_by, ListsAll}
use Rattle.mathprog_data.proofs.TokenRunLemmas.{run_end, all_open, all_closed, drop_byte, drop_end}
use Rattle.mathprog_data.proofs.token_list.all_tokens.Goals as goal
use Rattle.mathprog_data.proofs.token_list.all_tokens.Goals.{In-Ok}

pub returns-in-Err-clause-fault : goal.returns-in-Err-clause-fault
returns-in-Err-clause-fault c fault r =
    let e : c.in-Err.fail ≡ Fault fault = cc in
    let i = c.loop-byte.byte-index in
    ap (λ s. s.end) (sym c.loop-byte.invariant.1)
    ∙ ap (λ t. (lexed_run c.args.text.now c.loop-byte.closing (run c.loop-byte.lexer t)).end) (drop_byte c.args.text.now i c.loop-byte-test.true)
    ∙ c.in-Err.ensures.fault fault (ap Err e) (drop (i + 1) c.args.text.now)

-- what comes of the end of the text, by what it ends
at_end : (c : In-Ok) → preceded_by c.loop-byte.found.items (slices_of c.args.text.now (lexed_run c.args.text.now c.loop-byte.closing (and_then c.end-last.result nothing_more))) ≡ slices c.args.text.now
at_end c =
    ap (λ r. preceded_by c.loop-byte.found.items (slices_of c.args.text.now (lexed_run c.args.text.now c.loop-byte.closing r)))
    (sym (run_end c.loop-byte.lexer c.end-last.result c.end-last.ensures.seen)
    ∙ ap (run c.loop-byte.lexer) (sym (drop_end c.args.text.now c.loop-byte.byte-index c.loop-byte-test.false)))
    ∙ c.loop-byte.invariant.1

by_last : (c : In-Ok) (b : Bool) → c.add_seen.result ≡ Ok b → ListsAll c.args.text.now c.add_seen.new.found.items
by_last c false e = all_open c.args.text.now c.add_seen.new.found.items c.add_seen.new.closing (sym (c.add_seen.ensures.open e nothing_more) ∙ at_end c)
by_last c true e = all_closed c.args.text.now c.add_seen.new.found.items (sym (c.add_seen.ensures.closed e nothing_more) ∙ at_end c)

pub returns-in-Ok-clause-done : goal.returns-in-Ok-clause-done
returns-in-Ok-clause-done c = by_last c c.in-Ok.field-0 c.in-Ok.is

pub returns-clause-fault : goal.returns-clause-fault
returns-clause-fault c fault r =
    let e : c.in-Err-add_seen.fail ≡ Fault fault = cc in
    ap (λ s. s.end) (sym c.loop-byte.invariant.1)
    ∙ ap (λ t. (lexed_run c.args.text.now c.loop-byte.closing (run c.loop-byte.lexer t)).end) (drop_end c.args.text.now c.loop-byte.byte-index c.loop-byte-test.false)
    ∙ ap (λ r. (lexed_run c.args.text.now c.loop-byte.closing r).end) (run_end c.loop-byte.lexer c.end-last.result c.end-last.ensures.seen)
    ∙ ap (λ s. s.end) (c.in-Err-add_seen.ensures.fault fault (ap Err e) nothing_more)
