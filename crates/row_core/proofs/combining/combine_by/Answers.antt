-- The entries, then the right side, then the division.
use Rattle.row_core.proofs.Common.{◌≡◌, ℤ, pos, Bool, false, ◌∷◌, refl, sym, ap, ap₂, ◌∙◌, to_z, of_z, List, w128, int_div, err_from_is_err_and, InRange, all_fit, lowest, back_in_range, Row, Var, numbers_of, variables_of, ascends, none_zero, var_cmp, row_divisor, entries_divided, Form, form_of, beside, lessened, less, less_formed, all_less_formed, undivided_formed, undivided_entries, undivided_right}
use Rattle.row_core.proofs.WritingSteps.{IsStop-more}
use Rattle.row_core.proofs.CombinedLaws.{row_fits, rhs_fits, formed-fit, formed-wide_entries, formed-wide_right}
use Rattle.row_core.proofs.LessenedLaws.{ascends-beside, ascends-lessened, none_zero-lessened, lessened-fit}
use Rattle.row_core.proofs.combining.combine_by.Goals as goal

pub merge-requires-clause-entries : goal.merge-requires-clause-entries
merge-requires-clause-entries c = ap (λ (es : List (Var × ℤ)). all_fit (numbers_of es)) c.deref.ensures.value ∙ row_fits c.args.row.now

pub merge-requires-clause-others : goal.merge-requires-clause-others
merge-requires-clause-others c = ap (λ (es : List (Var × ℤ)). all_fit (numbers_of es)) c.deref-2.ensures.value ∙ row_fits c.args.definition.now

abbrev read : ℤ → ℤ
read z = to_z w128 (of_z w128 z)

-- what the merge made, and what it formed
entries_from : (row def : Row) (a b : ℤ) (es os made : List (Var × ℤ)) → InRange a → InRange b → es ≡ row.entries.items → os ≡ def.entries.items → made ≡ lessened (read a) (read b) (beside es os) → made ≡ undivided_entries a b (form_of row) (form_of def)
entries_from row def a b es os made h k e o m =
    m ∙ ap₂ (λ x y. lessened x y (beside es os)) (back_in_range a h) (back_in_range b k) ∙ ap₂ (λ xs ys. lessened a b (beside xs ys)) e o

formed_from : (row def : Row) (a b : ℤ) (es os : List (Var × ℤ)) → InRange a → InRange b → es ≡ row.entries.items → os ≡ def.entries.items
    → all_fit (all_less_formed (read a) (read b) (beside es os)) ≡ all_fit (all_less_formed a b (beside row.entries.items def.entries.items))
formed_from row def a b es os h k e o =
    ap₂ (λ x y. all_fit (all_less_formed x y (beside es os))) (back_in_range a h) (back_in_range b k) ∙ ap₂ (λ xs ys. all_fit (all_less_formed a b (beside xs ys))) e o

rights_formed : (a b : ℤ) (row def : Row) → InRange a → InRange b
    → all_fit (less_formed (to_z w128 (of_z w128 a)) (to_z w128 (of_z w128 b)) (to_z w128 (of_z w128 row.rhs)) (to_z w128 (of_z w128 def.rhs))) ≡ all_fit (less_formed a b row.rhs def.rhs)
rights_formed a b row def h k =
    ap₂ (λ x y. all_fit (less_formed x y (to_z w128 (of_z w128 row.rhs)) (to_z w128 (of_z w128 def.rhs)))) (back_in_range a h) (back_in_range b k)
    ∙ ap₂ (λ x y. all_fit (less_formed a b x y)) (back_in_range row.rhs (rhs_fits row)) (back_in_range def.rhs (rhs_fits def))

pub returns-in_err-entries-clause-stopped : goal.returns-in_err-entries-clause-stopped
returns-in_err-entries-clause-stopped c =
    let row = c.args.row.now in
    let def = c.args.definition.now in
    let a : ℤ = to_z w128 (of_z w128 c.args.a) in
    let b : ℤ = to_z w128 (of_z w128 c.args.b) in
    let some : Bool = all_fit (all_less_formed a b (beside c.deref.result.now c.deref-2.result.now)) in
    let same : some ≡ all_fit (all_less_formed c.args.a c.args.b (beside row.entries.items def.entries.items)) =
    formed_from c.args.row.now c.args.definition.now c.args.a c.args.b c.deref.result.now c.deref-2.result.now c.requires.a c.requires.b c.deref.ensures.value c.deref-2.ensures.value in
    let wider : some ≡ false → all_fit (undivided_formed c.args.a c.args.b (form_of row) (form_of def)) ≡ false = λ wide. formed-wide_entries c.args.a c.args.b row def (sym same ∙ wide) in
    let stop = IsStop-more c.args.place some (all_fit (undivided_formed c.args.a c.args.b (form_of row) (form_of def))) c.in_err-entries.field-0.0 wider c.in_err-entries.ensures.stopped in
    let p = err_from_is_err_and c.from_residual.result c.from_residual.ensures.1 in
    rw (p.1, p.2) stop

pub returns-in_default-clause-stopped : goal.returns-in_default-clause-stopped
returns-in_default-clause-stopped c = (
  refl,
  formed-wide_right c.args.a c.args.b c.args.row.now c.args.definition.now
      (sym (rights_formed c.args.a c.args.b c.args.row.now c.args.definition.now c.requires.a c.requires.b) ∙ sym c.in_default.ensures.refused),
)

pub divided-requires-clause-ascending : goal.divided-requires-clause-ascending
divided-requires-clause-ascending c =
    let row = c.args.row.now in
    let def = c.args.definition.now in
    ap (λ (es : List (Var × ℤ)). ascends var_cmp (variables_of es)) (entries_from c.args.row.now c.args.definition.now c.args.a c.args.b c.deref.result.now c.deref-2.result.now c.in_ok-entries.entries.items c.requires.a c.requires.b c.deref.ensures.value c.deref-2.ensures.value c.in_ok-entries.ensures.entries)
    ∙ ascends-lessened c.args.a c.args.b (beside row.entries.items def.entries.items) (ascends-beside row.entries.items def.entries.items row.ascending def.ascending)

pub divided-requires-clause-nonzero : goal.divided-requires-clause-nonzero
divided-requires-clause-nonzero c =
    ap (λ (es : List (Var × ℤ)). none_zero (numbers_of es)) (entries_from c.args.row.now c.args.definition.now c.args.a c.args.b c.deref.result.now c.deref-2.result.now c.in_ok-entries.entries.items c.requires.a c.requires.b c.deref.ensures.value c.deref-2.ensures.value c.in_ok-entries.ensures.entries)
    ∙ none_zero-lessened c.args.a c.args.b (beside c.args.row.now.entries.items c.args.definition.now.entries.items)

pub divided-requires-clause-entries_fit : goal.divided-requires-clause-entries_fit
divided-requires-clause-entries_fit c =
    ap (λ (es : List (Var × ℤ)). all_fit (numbers_of es)) (entries_from c.args.row.now c.args.definition.now c.args.a c.args.b c.deref.result.now c.deref-2.result.now c.in_ok-entries.entries.items c.requires.a c.requires.b c.deref.ensures.value c.deref-2.ensures.value c.in_ok-entries.ensures.entries)
    ∙ lessened-fit c.args.a c.args.b (beside c.args.row.now.entries.items c.args.definition.now.entries.items) (sym (formed_from c.args.row.now c.args.definition.now c.args.a c.args.b c.deref.result.now c.deref-2.result.now c.requires.a c.requires.b c.deref.ensures.value c.deref-2.ensures.value) ∙ c.in_ok-entries.ensures.fits)

pub returns-clause-fits : goal.returns-clause-fits
returns-clause-fits c =
    formed-fit c.args.a c.args.b c.args.row.now c.args.definition.now (sym (formed_from c.args.row.now c.args.definition.now c.args.a c.args.b c.deref.result.now c.deref-2.result.now c.requires.a c.requires.b c.deref.ensures.value c.deref-2.ensures.value) ∙ c.in_ok-entries.ensures.fits)
    (sym (rights_formed c.args.a c.args.b c.args.row.now c.args.definition.now c.requires.a c.requires.b) ∙ sym c.in-Ok.ensures.refused)

pub returns-clause-made : goal.returns-clause-made
returns-clause-made c =
    let row = c.args.row.now in
    let def = c.args.definition.now in
    let rhs : c.in-Ok.rhs ≡ undivided_right c.args.a c.args.b (form_of row) (form_of def) =
    c.in-Ok.ensures.value
    ∙ ap₂ (λ x y. less x y (to_z w128 (of_z w128 row.rhs)) (to_z w128 (of_z w128 def.rhs))) (back_in_range c.args.a c.requires.a) (back_in_range c.args.b c.requires.b)
    ∙ ap₂ (λ x y. less c.args.a c.args.b x y) (back_in_range row.rhs (rhs_fits row)) (back_in_range def.rhs (rhs_fits def)) in
    let right : to_z w128 (of_z w128 c.in-Ok.rhs) ≡ undivided_right c.args.a c.args.b (form_of row) (form_of def) = back_in_range c.in-Ok.rhs c.in-Ok.ensures.range ∙ rhs in
    let divisor : row_divisor (to_z w128 (of_z w128 c.in-Ok.rhs) ∷ numbers_of c.in_ok-entries.entries.items) ≡ row_divisor (undivided_right c.args.a c.args.b (form_of row) (form_of def) ∷ numbers_of (undivided_entries c.args.a c.args.b (form_of row) (form_of def))) =
    ap₂ (λ z (es : List (Var × ℤ)). row_divisor (z ∷ numbers_of es)) right (entries_from c.args.row.now c.args.definition.now c.args.a c.args.b c.deref.result.now c.deref-2.result.now c.in_ok-entries.entries.items c.requires.a c.requires.b c.deref.ensures.value c.deref-2.ensures.value c.in_ok-entries.ensures.entries) in
    record {
      name = c.divided.ensures.name;
      sense = c.divided.ensures.sense;
      form = ap₂ {C = Form} (λ es r. record { entries = es; right = r })
          (c.divided.ensures.entries ∙ ap₂ entries_divided divisor (entries_from c.args.row.now c.args.definition.now c.args.a c.args.b c.deref.result.now c.deref-2.result.now c.in_ok-entries.entries.items c.requires.a c.requires.b c.deref.ensures.value c.deref-2.ensures.value c.in_ok-entries.ensures.entries))
          (c.divided.ensures.right_side ∙ ap₂ (λ z g. int_div z (pos g)) right divisor);
      scale = c.divided.ensures.scale ∙ ap₂ (λ z g. lowest z (pos g)) (back_in_range c.args.a c.requires.a) divisor;
    }
