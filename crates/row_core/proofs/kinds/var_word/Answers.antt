use Rattle.row_core.proofs.Common.{◌∙◌, sym, ap, subst, Kind, IsPlain}
use Rattle.row_core.proofs.Words.{word_of_kind_apart, word_of_kind_plain}
use Rattle.row_core.proofs.kinds.var_word.Goals as goal

pub returns-clause-plain : goal.returns-clause-plain
returns-clause-plain c =
    subst IsPlain (sym (ap (λ (k : Kind). k.word) c.entry.ensures)) (word_of_kind_plain c.args.kind c.requires)

pub returns-clause-apart : goal.returns-clause-apart
returns-clause-apart c other h same =
    word_of_kind_apart other c.args.kind h c.requires (same ∙ ap (λ (k : Kind). k.word) c.entry.ensures)
