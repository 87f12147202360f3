-- The variables of terms, entries and rows.
use Rattle.std.proofs.Common.{◌≡◌, ◌≤◌, ℤ, pos, Bool, true, false, List, [], ◌∷◌, ◌++◌, length, arith, refl, ap, sym, ◌∙◌, subst, inl, inr, lit<, if◌then◌else◌}
use Rattle.std.specs.Prelude.{◌&&◌, ◌<ℤ◌}
use Rattle.std.proofs.lemmas.Int.{ints}
use Rattle.exact_num.specs.Range.{InRange, all_fit}
use Rattle.exact_num.proofs.RangeLaws.{in_range-yes}
use Rattle.exact_num.proofs.StepLaws.{all_fit-cons, all_fit-nil}
use Rattle.std.specs.declared.cmp.Ordering.{Ordering}
use Rattle.std.specs.declared.cmp.Ordering.TheVariants.{Less, Equal, Greater}
use Rattle.exact_num.specs.Rational.{Rational, plus}
use Rattle.row_core.specs.declared.Row.{Row}
use Rattle.row_core.specs.declared.Var.{Var}
use Rattle.row_core.specs.Numbers.{ascends, is_zero, numbers_of, variables_of}
use Rattle.row_core.specs.Order.{var_cmp}
use Rattle.row_core.specs.Terms.{with_term}
use Rattle.row_core.specs.Written.{kept}
use Rattle.written_method.specs.Ready.{IsAmong, AreAmong, IsReady, RowsAreAmong}
use Rattle.written_method.specs.FirstTableau.{width_of}
use Rattle.written_method.specs.declared.reduced.Reduced.{Reduced}
use Rattle.solver_cases.specs.declared.small_rows.TheConstants.{ACTIVITY, CAPACITY}
use Rattle.solver_cases.specs.declared.programs.TheConstants.{EXCHANGE}
use Rattle.solver_cases.specs.Programs.{variables, AreKnown}

pub known-with : (third : Var) (v : Var) (c : Rational) (ts : List (Var × Rational)) → IsAmong v (variables third) → AreKnown third ts → AreKnown third (with_term (v, c) ts)
known-with third v c [] h w = (h, tt)
known-with third v c (t ∷ ts) h w = cases (var_cmp v t.0) (known-with third v c ts h w.1)
  where
    cases : (o : Ordering) → AreKnown third (with_term (v, c) ts) → AreKnown third (elim o as (λ _. List (Var × Rational)) [ Less ↦ (v, c) ∷ t ∷ ts | Equal ↦ (t.0, plus t.1 c) ∷ ts | Greater ↦ t ∷ with_term (v, c) ts ])
    cases Less k = (h, w)
    cases Equal k = (w.0, w.1)
    cases Greater k = (w.0, k)

pub known-kept : (third : Var) (ts : List (Var × Rational)) → AreKnown third ts → AreKnown third (kept ts)
known-kept third [] w = tt
known-kept third (t ∷ ts) w = cases (is_zero t.1.top) (known-kept third ts w.1)
  where
    cases : (b : Bool) → AreKnown third (kept ts) → AreKnown third (if b then kept ts else (t ∷ kept ts))
    cases true k = k
    cases false k = (w.0, k)

pub among-known : (third : Var) (es : List (Var × ℤ)) (ts : List (Var × Rational)) → variables_of es ≡ variables_of ts → AreKnown third ts → AreAmong (variables third) es
among-known third [] ts h w = tt
among-known third (e ∷ es) [] h w = absurd (cc h)
among-known third (e ∷ es) (t ∷ ts) h w =
    let first : e.0 ≡ t.0 = cc h in
    let rest : variables_of es ≡ variables_of ts = cc h in
    (subst (λ v. IsAmong v (variables third)) (sym first) w.0, among-known third es ts rest w.1)

pub rows-push : (third : Var) (rows : List Row) (row : Row) → RowsAreAmong (variables third) rows → AreAmong (variables third) row.entries.items → RowsAreAmong (variables third) (rows ++ row ∷ [])
rows-push third [] row w h = (h, tt)
rows-push third (r ∷ rows) row w h = (w.0, rows-push third rows row w.1 h)

three_fit : (a b c : ℤ) → InRange a → InRange b → InRange c → all_fit (a ∷ b ∷ c ∷ []) ≡ true
three_fit a b c h k l =
    all_fit-cons a (b ∷ c ∷ []) ∙ ap (λ t. t && all_fit (b ∷ c ∷ [])) (in_range-yes a h)
    ∙ all_fit-cons b (c ∷ []) ∙ ap (λ t. t && all_fit (c ∷ [])) (in_range-yes b k)
    ∙ all_fit-cons c [] ∙ ap (λ t. t && all_fit []) (in_range-yes c l)
    ∙ all_fit-nil

-- the numbers of the cost, each with its variable
abbrev pub costs : ℤ → ℤ → ℤ → List (Var × ℤ)
costs a b c = (ACTIVITY, a) ∷ (CAPACITY, b) ∷ (EXCHANGE, c) ∷ []

pub made-IsReady : (r : Reduced) (a b c : ℤ) → r.columns.items ≡ variables EXCHANGE → r.cost.items ≡ costs a b c → r.cost_rhs ≡ pos 0 → r.cost_own ≡ pos 1
    → RowsAreAmong (variables EXCHANGE) r.rows.items → InRange a → InRange b → InRange c → length r.rows.items ≤ 100 → IsReady r
made-IsReady r a b c columns cost right own rows h k l few = record {
  columns = ap (λ (vs : List Var). ascends var_cmp vs) columns;
  rows_among = subst (λ (vs : List Var). RowsAreAmong vs r.rows.items) (sym columns) rows;
  cost_ascends = ap (λ (es : List (Var × ℤ)). ascends var_cmp (variables_of es)) cost;
  cost_among = subst (λ (vs : List Var). AreAmong vs r.cost.items) (sym columns) (subst (λ (es : List (Var × ℤ)). AreAmong (variables EXCHANGE) es) (sym cost) (inl refl, (inr (inl refl), (inr (inr (inl refl)), tt))));
  cost_fits = ap (λ (es : List (Var × ℤ)). all_fit (numbers_of es)) cost ∙ three_fit a b c h k l;
  right_fits = subst InRange (sym right) (lit< tt);
  own_fits = subst InRange (sym own) (lit< tt);
  own_positive = subst (λ z. pos 0 <ℤ z) (sym own) (omega (arith, ints));
  countable = let width : width_of r.columns.items ≡ 4 = ap (λ (vs : List Var). width_of vs) columns in omega arith;
}
