use Rattle.model_sets.proofs.Common.{◌≡◌, ◌<◌, [], length, get_or, ap, sym, ◌∙◌, arith, bytes_eq, get_or-map, described_param, Param, no_param, params, param_words}
use Rattle.model_sets.proofs.Tables.{described_entry, described_length, found_here, passed_more, passed_all, passed_none}
use Rattle.model_sets.proofs.params.place_of.Goals as goal

pub loop-i-init : goal.loop-i-init
loop-i-init c = passed_none (bytes_eq c.args.word.now) param_words

pub returns-then-eq : goal.returns-then-eq
returns-then-eq c =
    let inside : c.loop-i.i < length params = omega (arith, described_length described_param c.args.table.now params c.requires) in
    let word = get_or-map (λ (p : Param). p.word) params c.loop-i.i no_param [] inside in
    let entry : c.as_bytes.result.now ≡ get_or param_words c.loop-i.i [] = c.as_bytes.ensures.value ∙ ap (λ (p : Param). p.word) (described_entry described_param c.args.table.now params c.loop-i.i _ no_param c.requires inside) ∙ sym word in
    found_here (bytes_eq c.args.word.now) param_words c.loop-i.i c.loop-i.invariant inside (sym (c.if-eq.ensures ∙ ap (bytes_eq c.args.word.now) entry))

pub loop-i-preserved : goal.loop-i-preserved
loop-i-preserved c =
    let inside : c.loop-i.i < length params = omega (arith, described_length described_param c.args.table.now params c.requires) in
    let word = get_or-map (λ (p : Param). p.word) params c.loop-i.i no_param [] inside in
    let entry : c.as_bytes.result.now ≡ get_or param_words c.loop-i.i [] = c.as_bytes.ensures.value ∙ ap (λ (p : Param). p.word) (described_entry described_param c.args.table.now params c.loop-i.i _ no_param c.requires inside) ∙ sym word in
    passed_more (bytes_eq c.args.word.now) param_words c.loop-i.i c.loop-i.invariant inside (sym (c.if-eq.ensures ∙ ap (bytes_eq c.args.word.now) entry))

pub returns : goal.returns
returns c = passed_all (bytes_eq c.args.word.now) param_words c.loop-i.i c.loop-i.invariant (omega (arith, described_length described_param c.args.table.now params c.requires))
