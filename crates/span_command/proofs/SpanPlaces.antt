-- The place at which a span stops is that of the row that limits the cost, or of a row or a variable of the sets, so its name can be written.
use Rattle.span_command.proofs.Common.{◌≡◌, ℕ, List, [], ◌∷◌, ◌++◌, map, Option, Some, None, refl, inl, inr, sym, ap, ap₂, ◌∙◌, subst, arith, ⊤, AllByRecursion, Rational, first_wide, SetLists, Row, Var, Place, span_name, IsWithinSets, AllByRecursion-append, AllByRecursion-weaker, elimination_steps, HasOptimum, IsWide, MethodEnd, solved_end, IsListedBook, definer, definers, IsRowOfSets, IsVariableOfSets, StopKeeps, define-within, vars-named, IsStopped, SpanEnd, Stops, both_trials, greatest_end, least_end, spanned, unless_stopped}
use Rattle.row_core.specs.declared.RowName.{RowName}
use Rattle.row_core.specs.Contents.{RowContents, contents_of}
use Rattle.named_equations.specs.Instances.{variable_of}
use Rattle.row_book.specs.Kept.{IsBook}
use Rattle.row_book.proofs.KindLaws.{nothing-defined}
use Rattle.certified_answers.specs.declared.costs.Cost.TheVariants.{One}
use Rattle.certified_answers.specs.declared.costs.Goal.{Goal}
use Rattle.certified_answers.specs.declared.costs.Goal.TheVariants.{Least, Greatest}
use Rattle.simplex_core.specs.declared.stops.Stop.{Stop}
use Rattle.command_answers.proofs.KeptPlaces.{DefinesKept, EndIsKept, elimination-kept, solved-end-kept, wide-kept}
use Rattle.span_finder.specs.LimitRows.{HasLimitRow}
use Rattle.span_finder.specs.declared.found.SpanFail.TheVariants.{Stopped}
use Rattle.span_command.specs.LimitedPlaces.{NameIsLimited, StopIsLimited}

-- ---- rows that pass a test of names

module _ (sets : SetLists) (Passes : RowName → Type 0) (rows : List Row) (vars : List Var) (define : AllByRecursion (DefinesKept sets Passes) rows) (listed : AllByRecursion (IsWithinSets sets) vars) (var : Var) (pivots : ℕ) where
  trial-kept : (goal : Goal) → EndIsKept sets Passes (solved_end rows (definers rows) vars (One var goal) pivots)
  trial-kept goal = solved-end-kept sets Passes rows vars define listed (One var goal) pivots

  -- ---- both

  abbrev SpanIsKept : SpanEnd → Type 0
  SpanIsKept (IsStopped stop) = StopKeeps sets Passes stop
  SpanIsKept end = ⊤

  greatest-kept : (low : List (Var × Rational)) (end : MethodEnd) → EndIsKept sets Passes end → SpanIsKept (greatest_end pivots low end)
  greatest-kept low (IsWide place) of = of
  greatest-kept low end of = tt

  least-kept : (next : List (Var × Rational) → SpanEnd) (end : MethodEnd) → ((low : List (Var × Rational)) → SpanIsKept (next low)) → EndIsKept sets Passes end → SpanIsKept (least_end pivots next end)
  least-kept next (HasOptimum low multipliers made) later of = later low
  least-kept next (IsWide place) later of = of
  least-kept next end later of = tt

  both-ends-kept : SpanIsKept (both_trials rows (definers rows) vars var pivots)
  unfolding both_trials
  both-ends-kept =
      let second = solved_end rows (definers rows) vars (One var Greatest) pivots in
      least-kept (λ low. greatest_end pivots low second) (solved_end rows (definers rows) vars (One var Least) pivots) (λ low. greatest-kept low second (trial-kept Greatest)) (trial-kept Least)

  spanned-kept : SpanIsKept (spanned rows (definers rows) vars var pivots)
  unfolding spanned
  spanned-kept = cases (first_wide (elimination_steps rows (definers rows))) refl
    where
      cases : (wide : Option Place) → first_wide (elimination_steps rows (definers rows)) ≡ wide → SpanIsKept (unless_stopped wide (both_trials rows (definers rows) vars var pivots))
      cases None is = both-ends-kept
      cases (Some place) is = wide-kept sets Passes (elimination_steps rows (definers rows)) place (elimination-kept sets Passes rows define) is

  stop-kept : (stop : Stop) → spanned rows (definers rows) vars var pivots ≡ IsStopped stop → StopKeeps sets Passes stop
  stop-kept stop is = subst SpanIsKept is spanned-kept

-- ---- rows with the row that limits the cost after them

-- what is said of names is said of the names of copies
names-kept : (P : RowName → Type 0) (all those : List Row) → map contents_of all ≡ map contents_of those → AllByRecursion (λ (r : Row). P r.name) those → AllByRecursion (λ (r : Row). P r.name) all
names-kept P [] [] e h = tt
names-kept P [] (b ∷ those) e h = absurd (cc e)
names-kept P (a ∷ all) [] e h = absurd (cc e)
names-kept P (a ∷ all) (b ∷ those) e h =
    let first : contents_of a ≡ contents_of b = cc e in
    let rest : map contents_of all ≡ map contents_of those = cc e in
    (subst P (sym (ap (λ (c : RowContents). c.name) first)) h.0, names-kept P all those rest h.1)

-- and copies define what the rows do, and the last of them nothing
last-defines : (all rows : List Row) (last : Row) → map contents_of all ≡ map contents_of (rows ++ last ∷ []) → None ≡ definer last → definers all ≡ definers rows ++ None ∷ []
last-defines [] [] last e none = absurd (cc e)
last-defines [] (b ∷ rows) last e none = absurd (cc e)
last-defines (a ∷ []) [] last e none =
    let same : contents_of a ≡ contents_of last = cc e in
    ap (λ (found : Option Var). found ∷ []) (ap (λ (c : RowContents). variable_of c.name) same ∙ sym none)
last-defines (a ∷ b ∷ all) [] last e none = absurd (cc e)
last-defines (a ∷ all) (b ∷ rows) last e none =
    let first : contents_of a ≡ contents_of b = cc e in
    let rest : map contents_of all ≡ map contents_of (rows ++ last ∷ []) = cc e in
    ap₂ (λ (found : Option Var) (others : List (Option Var)). found ∷ others) (ap (λ (c : RowContents). variable_of c.name) first) (last-defines all rows last rest none)

module _ (sets : SetLists) (rows : List Row) (vars : List Var) (listed : IsListedBook sets rows vars) (book : IsBook rows vars) where
  -- the name is that of the row that limits the cost, or one of the sets, and what it defines is of the sets
  abbrev IsNamed : RowName → Type 0
  IsNamed name = NameIsLimited sets name × ((v : Var) → variable_of name ≡ Some v → IsVariableOfSets sets v)

  none-defined : (row : Row) → row.name ≡ span_name → None ≡ definer row
  none-defined row is = nothing-defined span_name (inr (omega arith, omega arith)) ∙ sym (ap variable_of is)

  last-named : (row : Row) → row.name ≡ span_name → IsNamed row.name
  last-named row is = (inl (ap (λ (n : RowName). n.eq) is), λ v defines. absurd (cc (none-defined row is ∙ defines)))

  define-limited : (limit : Rational) (all : List Row) → HasLimitRow rows vars limit all → AllByRecursion (DefinesKept sets (NameIsLimited sets)) all
  define-limited limit all of =
      names-kept IsNamed all (rows ++ of.row ∷ []) of.contents
      (AllByRecursion-append (λ (r : Row). IsNamed r.name) rows (of.row ∷ [])
      (AllByRecursion-weaker (DefinesKept sets (IsRowOfSets sets)) (λ (r : Row). IsNamed r.name) (λ row d. (inr d.0, d.1)) rows (define-within sets rows vars listed book)) (last-named of.row of.is.name, tt))

  pub stop-limited : (limit : Rational) (var : Var) (pivots : ℕ) (stop : Stop) → Stops rows (definers rows) vars limit var pivots (Stopped stop) → StopIsLimited sets stop
  stop-limited limit var pivots stop (inl w) = subst (StopIsLimited sets) (sym w.is) (inl refl)
  stop-limited limit var pivots stop (inr e) =
      let row = e.limited.row in
      let defs : definers e.all ≡ definers rows ++ None ∷ [] = last-defines e.all rows row e.limited.contents (none-defined row e.limited.is.name) in
      stop-kept sets (NameIsLimited sets) e.all vars (define-limited limit e.all e.limited) (vars-named sets rows vars listed) var pivots stop
      (subst (λ (ds : List (Option Var)). spanned e.all ds vars var pivots ≡ IsStopped stop) (sym defs) e.ends)
