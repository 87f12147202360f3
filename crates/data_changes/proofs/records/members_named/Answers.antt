use Rattle.data_changes.proofs.Common.{◌∙◌, ℕ, None, ap, cond, eq-eqb, ne_eqb, option_map, sym}
use Rattle.model_sets.specs.Members.{members}
use Rattle.model_sets.specs.Names.{year}
use Rattle.param_tables.specs.ChangeTold.{named_by}
use Rattle.data_changes.specs.Records.{years_named}
use Rattle.data_changes.proofs.RecordLaws.{none_named, one_named}
use Rattle.data_changes.proofs.records.members_named.Goals as goal

pub returns-in-Some-clause-named : goal.returns-in-Some-clause-named
returns-in-Some-clause-named c = one_named c.args.sets.now c.args.set c.args.text.now (sym c.is_every.ensures ∙ c.if-is_every.false) c.in-Some.position (sym c.index_of.ensures.index ∙ c.in-Some.is)

pub returns-in-None-clause-named : goal.returns-in-None-clause-named
returns-in-None-clause-named c =
    let sets = c.args.sets.now in
    let text = c.args.text.now in
    let same = c.if-set-eq-YEAR.true in
    ap (λ (k : ℕ). option_map (named_by sets k) c.years_named.result) same
    ∙ c.years_named.ensures.named
    ∙ ap (λ (k : ℕ). years_named (members sets k) text) (sym same)
    ∙ sym (
    none_named sets c.args.set text (sym c.is_every.ensures ∙ c.if-is_every.false) (sym c.index_of.ensures.index ∙ c.in-None.is)
    ∙ ap (λ b. cond b (years_named (members sets c.args.set) text) None) (eq-eqb c.args.set year same))

pub returns-in-None-2-clause-named : goal.returns-in-None-2-clause-named
returns-in-None-2-clause-named c =
    sym (
    none_named c.args.sets.now c.args.set c.args.text.now (sym c.is_every.ensures ∙ c.if-is_every.false) (sym c.index_of.ensures.index ∙ c.in-None.is)
    ∙ ap (λ b. cond b (years_named (members c.args.sets.now c.args.set) c.args.text.now) None) (ne_eqb c.args.set year c.if-set-eq-YEAR.false))
