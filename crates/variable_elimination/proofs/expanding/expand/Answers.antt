-- One variable of the row after another.
use Rattle.variable_elimination.proofs.Common.{◌≡◌, pos, Bool, false, get_or, sym, ap, ap₂, ◌∙◌, subst, ◌<ℤ◌, Option, Some, None, get, err_from_is_err_and, all_fit, Frac, all_fit-nil, Row, Var, Form, form_of, variables_of, var_cmp, number_at, Equal, IsStop-more, no_entry, Scaled, definition_among, without, without_formed, without_all, without_all_formed, expanded_formed, scale_value, scaled_of, forms_in, IsReducedOver, IsReducedOne}
use Rattle.variable_elimination.proofs.ExpandLaws.{made-next, formed-next, formed-stop, formed-done}
use Rattle.variable_elimination.proofs.LookUpLaws.{form_there, definition_among-get, IfSome-at}
use Rattle.variable_elimination.proofs.ReductionLaws.{IsReducedOver-form}
use Rattle.variable_elimination.proofs.expanding.expand.Goals as goal
use Rattle.variable_elimination.proofs.expanding.expand.Goals.{in-Some+in_ok-next, in_default}

pub loop-entry-init : goal.loop-entry-init
loop-entry-init c =
    let row = c.args.row.now in
    let forms = forms_in c.args.definitions.now in
    let start : scaled_of c.in_ok-made.made c.args.scale ≡ scaled_of row c.args.scale = ap (λ (f : Form). let s : Scaled = record { form = f; scale = scale_value c.args.scale } in s) c.in_ok-made.ensures.same.form in
    record {
      name = c.in_ok-made.ensures.same.name;
      sense = c.in_ok-made.ensures.same.sense;
      made = ap (without_all forms (variables_of row.entries.items)) start;
      formed = ap (λ s. all_fit (without_all_formed forms (variables_of row.entries.items) s)) (sym start);
      reduced = λ named first h r. IsReducedOver-form named first (scale_value c.args.scale) row c.in_ok-made.made c.in_ok-made.ensures.same.form r;
    }

pub remove-requires-clause-defines : goal.remove-requires-clause-defines
remove-requires-clause-defines c =
    let v : Var = (get_or c.deref-entry-items.result.now c.loop-entry.entry-index no_entry).0 in
    (IfSome-at (get var_cmp c.args.definitions.now v) (λ (row : Row). (row.sense ≡ Equal) × (pos 0 <ℤ number_at row.entries.items v)) c.in-Some.definition.now (sym c.in-Some.ensures.value) (c.requires v)).0

pub remove-requires-clause-positive : goal.remove-requires-clause-positive
remove-requires-clause-positive c =
    let v : Var = (get_or c.deref-entry-items.result.now c.loop-entry.entry-index no_entry).0 in
    (IfSome-at (get var_cmp c.args.definitions.now v) (λ (row : Row). (row.sense ≡ Equal) × (pos 0 <ℤ number_at row.entries.items v)) c.in-Some.definition.now (sym c.in-Some.ensures.value) (c.requires v)).1

pub returns-in_err-next-clause-stopped : goal.returns-in_err-next-clause-stopped
returns-in_err-next-clause-stopped c =
    let row = c.args.row.now in
    let m = c.args.definitions.now in
    let d : Row = c.in-Some.definition.now in
    let xs = c.deref-entry-items.result.now in
    let i = c.loop-entry.entry-index in
    let v : Var = (get_or xs i no_entry).0 in
    let s : Scaled = scaled_of c.loop-entry.made c.loop-entry.scale in
    let some : Bool = all_fit (without_formed (Some (form_of d)) v s) in
    let all : Bool = all_fit (expanded_formed (forms_in m) (scaled_of row c.args.scale)) in
    let there : definition_among (forms_in m) v ≡ Some (form_of d) = definition_among-get m v ∙ ap form_there (sym c.in-Some.ensures.value) in
    let wider : some ≡ false → all ≡ false =
    formed-stop (forms_in m) xs row.entries.items i no_entry (Some (form_of d)) s all c.deref-entry-items.ensures.value c.loop-entry-test.true there c.loop-entry.invariant.formed in
    let stop = IsStop-more c.args.place some all c.in_err-next.field-0.0 wider c.in_err-next.ensures.stopped in
    let p = err_from_is_err_and c.from_residual-in_err-next.result c.from_residual-in_err-next.ensures.1 in
    rw (p.1, p.2) stop

pub loop-entry-preserved : goal.loop-entry-preserved
loop-entry-preserved c =
    let row = c.args.row.now in
    let defs = c.args.definitions.now in
    let forms = forms_in defs in
    let xs = c.deref-entry-items.result.now in
    let i = c.loop-entry.entry-index in
    let v : Var = (get_or xs i no_entry).0 in
    let s : Scaled = scaled_of c.loop-entry.made c.loop-entry.scale in
    let m = c.match-get.made in
    let t = c.match-get.scale in
    elim c.match-get.branch [
      | in-Some+in_ok-next w ↦
          let d : Row = w.in-Some.definition.now in
          let o : Option Form = Some (form_of d) in
          let there : definition_among forms v ≡ o = definition_among-get defs v ∙ ap form_there (sym w.in-Some.ensures.value) in
          let next : scaled_of m t ≡ without o v s =
          ap₂ {C = Scaled} (λ (a : Row) (b : Option Frac). scaled_of a b) w.made-is w.scale-is ∙ w.in_ok-next.ensures.made.scaled in
          record {
            name = ap (λ (a : Row). a.name) w.made-is ∙ w.in_ok-next.ensures.made.name ∙ c.loop-entry.invariant.name;
            sense = ap (λ (a : Row). a.sense) w.made-is ∙ w.in_ok-next.ensures.made.sense ∙ c.loop-entry.invariant.sense;
            made = made-next forms xs row.entries.items i no_entry o s (scaled_of m t) _ c.deref-entry-items.ensures.value c.loop-entry-test.true there next c.loop-entry.invariant.made;
            formed = formed-next forms xs row.entries.items i no_entry o s (scaled_of m t) _ c.deref-entry-items.ensures.value c.loop-entry-test.true there next w.in_ok-next.ensures.fits c.loop-entry.invariant.formed;
            reduced = λ named first h r.
                let one : IsReducedOne named d = IfSome-at (get var_cmp defs v) (IsReducedOne named) d (sym w.in-Some.ensures.value) (h v) in
                subst (λ (a : Row). IsReducedOver named first (scale_value t) a) (sym w.made-is)
                (subst (λ (b : Option Frac). IsReducedOver named first (scale_value b) w.in_ok-next.next) (sym w.scale-is)
                (w.in_ok-next.ensures.reduced named first one.position (c.loop-entry.invariant.reduced named first h r) one.within one.reduced));
          }
      | in_default w ↦
          let there : definition_among forms v ≡ None = definition_among-get defs v ∙ ap form_there (sym w.in_default.ensures.value) in
          let next : scaled_of m t ≡ s = ap₂ {C = Scaled} (λ (a : Row) (b : Option Frac). scaled_of a b) w.made-is w.scale-is in
          record {
            name = ap (λ (a : Row). a.name) w.made-is ∙ c.loop-entry.invariant.name;
            sense = ap (λ (a : Row). a.sense) w.made-is ∙ c.loop-entry.invariant.sense;
            made = made-next forms xs row.entries.items i no_entry None s (scaled_of m t) _ c.deref-entry-items.ensures.value c.loop-entry-test.true there next c.loop-entry.invariant.made;
            formed = formed-next forms xs row.entries.items i no_entry None s (scaled_of m t) _ c.deref-entry-items.ensures.value c.loop-entry-test.true there next all_fit-nil c.loop-entry.invariant.formed;
            reduced = λ named first h r.
                subst (λ (a : Row). IsReducedOver named first (scale_value t) a) (sym w.made-is)
                (subst (λ (b : Option Frac). IsReducedOver named first (scale_value b) c.loop-entry.made) (sym w.scale-is) (c.loop-entry.invariant.reduced named first h r));
          }
    ]

pub returns-clause-fits : goal.returns-clause-fits
returns-clause-fits c =
    formed-done (forms_in c.args.definitions.now) c.deref-entry-items.result.now c.args.row.now.entries.items c.loop-entry.entry-index (scaled_of c.loop-entry.made c.loop-entry.scale)
    (all_fit (expanded_formed (forms_in c.args.definitions.now) (scaled_of c.args.row.now c.args.scale)))
    c.deref-entry-items.ensures.value c.loop-entry-test.false c.loop-entry.invariant.formed
