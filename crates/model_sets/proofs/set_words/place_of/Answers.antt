use Rattle.model_sets.proofs.Common.{◌≡◌, ◌<◌, ℕ, List, [], length, get_or, ap, sym, ◌∙◌, arith, Bor, bytes_eq, set_words}
use Rattle.model_sets.proofs.Tables.{described_entry, described_length, found_here, passed_more, passed_all, passed_none}
use Rattle.model_sets.proofs.set_words.place_of.Goals as goal

pub returns-then-eq : goal.returns-then-eq
returns-then-eq c =
    let inside : c.loop-i.i < length set_words = omega (arith, described_length (λ (text : Bor (List ℕ)). text.now) c.args.table.now set_words c.requires) in
    let entry : c.as_bytes.result.now ≡ get_or set_words c.loop-i.i [] = c.as_bytes.ensures.value ∙ described_entry (λ (text : Bor (List ℕ)). text.now) c.args.table.now set_words c.loop-i.i _ [] c.requires inside in
    found_here (bytes_eq c.args.word.now) set_words c.loop-i.i c.loop-i.invariant inside (sym (c.if-eq.ensures ∙ ap (bytes_eq c.args.word.now) entry))

pub loop-i-preserved : goal.loop-i-preserved
loop-i-preserved c =
    let inside : c.loop-i.i < length set_words = omega (arith, described_length (λ (text : Bor (List ℕ)). text.now) c.args.table.now set_words c.requires) in
    let entry : c.as_bytes.result.now ≡ get_or set_words c.loop-i.i [] = c.as_bytes.ensures.value ∙ described_entry (λ (text : Bor (List ℕ)). text.now) c.args.table.now set_words c.loop-i.i _ [] c.requires inside in
    passed_more (bytes_eq c.args.word.now) set_words c.loop-i.i c.loop-i.invariant inside (sym (c.if-eq.ensures ∙ ap (bytes_eq c.args.word.now) entry))

pub loop-i-init : goal.loop-i-init
loop-i-init c = passed_none (bytes_eq c.args.word.now) set_words

pub returns : goal.returns
returns c = passed_all (bytes_eq c.args.word.now) set_words c.loop-i.i c.loop-i.invariant (omega (arith, described_length (λ (text : Bor (List ℕ)). text.now) c.args.table.now set_words c.requires))
