-- The multipliers that were read, in the order of the rows.
use Rattle.plan_files.proofs.Common.{◌≡◌, List, Option, map, sym, subst, ap, ap₂, ◌∙◌, Frac, ascends, keys_of, row_name_cmp, valued, RowName, row_name_cmp_total, AreGiven, row_names, is_named_in, records_of, name_of_row, AreRead, with_values, row_fields}
use Rattle.plan_files.proofs.ToldLaws.{ascends_filter, given_told, keys_told, keys_valued}
use Rattle.plan_files.proofs.reading.read_multipliers.Goals as goal

pub of-requires : goal.of-requires
of-requires c =
    let f = row_fields c.args.sets.now in
    let names : List RowName = map name_of_row c.args.rows.now in
    let items : List (Option Frac) = c.in_ok-values.values.items in
    let read : AreRead (row_names c.args.sets.now names) (records_of c.args.text.now) items =
    subst (λ ns. AreRead (row_names c.args.sets.now ns) (records_of c.args.text.now) items) (c.deref.ensures.value ∙ c.in_ok-names.ensures) c.in_ok-values.ensures.read in
    let entries : c.in_ok-with_values.field-0.items ≡ with_values names items =
    c.in_ok-with_values.ensures ∙ ap₂ with_values (c.deref-2.ensures.value ∙ c.in_ok-names.ensures) c.deref-3.ensures.value in
    ap (λ (es : List (RowName × Frac)). ascends row_name_cmp (keys_of es)) entries
    ∙ ap (ascends row_name_cmp) (keys_told f read.rows names items read.taken)
    ∙ ascends_filter row_name_cmp row_name_cmp_total (λ name. is_named_in read.rows (f name)) names c.requires.ascending

pub returns-clause-multipliers : goal.returns-clause-multipliers
returns-clause-multipliers c =
    let f = row_fields c.args.sets.now in
    let names : List RowName = map name_of_row c.args.rows.now in
    let items : List (Option Frac) = c.in_ok-values.values.items in
    let read : AreRead (row_names c.args.sets.now names) (records_of c.args.text.now) items =
    subst (λ ns. AreRead (row_names c.args.sets.now ns) (records_of c.args.text.now) items) (c.deref.ensures.value ∙ c.in_ok-names.ensures) c.in_ok-values.ensures.read in
    let entries : c.in_ok-with_values.field-0.items ≡ with_values names items =
    c.in_ok-with_values.ensures ∙ ap₂ with_values (c.deref-2.ensures.value ∙ c.in_ok-names.ensures) c.deref-3.ensures.value in
    let multipliers : c.of.result ≡ map valued (with_values names items) = c.of.ensures ∙ ap (map valued) entries in
    record {
      rows = read.rows;
      form = read.form;
      named = ap keys_of multipliers ∙ keys_valued (with_values names items) ∙ keys_told f read.rows names items read.taken;
      values = subst (AreGiven f read.rows) (sym multipliers) (given_told f read.rows names items read.taken);
    }
