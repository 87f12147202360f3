-- The values that were read, in the order of the variables.
use Rattle.plan_files.proofs.Common.{◌≡◌, List, Option, None, length, map, inr, refl, sym, subst, ap, ◌∙◌, length-map, Frac, ascends, keys_of, var_cmp, valued, Var, AreGiven, variable_fields, first_without, with_values}
use Rattle.plan_files.proofs.ToldLaws.{all_keys, first_told, given_told, keys_valued}
use Rattle.plan_files.proofs.reading.read_plan.Goals as goal

pub returns-in-Some-clause-fault : goal.returns-in-Some-clause-fault
returns-in-Some-clause-fault c =
    let vars = c.args.vars.now in
    let items : List (Option Frac) = c.in_ok-values.values.items in
    let read = c.in_ok-values.ensures.read in
    inr (record {
      rows = read.rows;
      form = read.form;
      v = c.in-Some.variable;
      first = first_told (variable_fields c.args.sets.now) read.rows vars items read.taken ∙ ap (first_without vars) (sym c.deref.ensures.value) ∙ sym c.in-Some.ensures;
      missing = refl;
    })

pub of-requires : goal.of-requires
of-requires c =
    let vars = c.args.vars.now in
    let items : List (Option Frac) = c.in_ok-values.values.items in
    let read = c.in_ok-values.ensures.read in
    let entries : c.in_ok-with_values.field-0.items ≡ with_values vars items = c.in_ok-with_values.ensures ∙ ap (with_values vars) c.deref-2.ensures.value in
    let none : first_without vars items ≡ None = ap (first_without vars) (sym c.deref.ensures.value) ∙ sym c.first_without.ensures ∙ c.in_default.is in
    let many : length items ≡ length vars = read.taken.many ∙ length-map vars (variable_fields c.args.sets.now) in
    ap (λ (es : List (Var × Frac)). ascends var_cmp (keys_of es)) entries ∙ ap (ascends var_cmp) (all_keys vars items many none) ∙ c.requires.ascending

pub returns-clause-plan : goal.returns-clause-plan
returns-clause-plan c =
    let f = variable_fields c.args.sets.now in
    let vars = c.args.vars.now in
    let items : List (Option Frac) = c.in_ok-values.values.items in
    let read = c.in_ok-values.ensures.read in
    let entries : c.in_ok-with_values.field-0.items ≡ with_values vars items = c.in_ok-with_values.ensures ∙ ap (with_values vars) c.deref-2.ensures.value in
    let none : first_without vars items ≡ None = ap (first_without vars) (sym c.deref.ensures.value) ∙ sym c.first_without.ensures ∙ c.in_default.is in
    let many : length items ≡ length vars = read.taken.many ∙ length-map vars f in
    let plan : c.of.result ≡ map valued (with_values vars items) = c.of.ensures ∙ ap (map valued) entries in
    record {
      rows = read.rows;
      form = read.form;
      variables = ap keys_of plan ∙ keys_valued (with_values vars items) ∙ all_keys vars items many none;
      values = subst (AreGiven f read.rows) (sym plan) (given_told f read.rows vars items read.taken);
    }
