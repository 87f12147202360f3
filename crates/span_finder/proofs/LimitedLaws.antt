-- Rows with the row that limits the cost after them are a problem where those rows are; and plans meet them that are near the best, and no others.
use Rattle.span_finder.proofs.Common.{◌≡◌, ℕ, ◌+◌, ◌<◌, ℤ, pos, ◌*ℤ◌, true, false, not, ◌&&◌, List, [], ◌∷◌, ◌++◌, ◌⊎◌, inl, inr, length, map, refl, sym, ap, ap₂, ◌∙◌, subst, arith, append-nil, Option, Some, None, ◌<ℤ◌, ◌≤ℤ◌, Contains, IsTrue, flat_map, Less, is_lt, length-append, length-map, map-append, all_fit, Rational, Row, RowName, Equal, Most, Var, SPAN, RowContents, contents_of, kind_is_free, ascends, variables_of, index_cmp, row_name_cmp, AreVariablesOf, entry_variables, names_of, RowHolds, number_at, both_passed, Contains-from_Has, Has, Has-append_left, Has-from_Contains, Has-map, append_parts, map_parts, AreTriangular, Definition, avoids, defined, definitions_of, is_among, others_of, rows_of, cost_variable, AllStand, MeetsAll, KeepSigns, only_raises, HaveNone, IsProblem, IsRepeatedBy, HasLimitRow, IsLimitRow, limit_formed, HasNearBest, HasPlan, IsNearBest}
use Rattle.std.specs.List.{AllByRecursion}
use Rattle.std.specs.Ordering.{ordering_then}
use Rattle.std.proofs.lemmas.Grind.{flat_map-append}
use Rattle.std.proofs.lemmas.List.Folds.{flat_map-map}
use Rattle.std.proofs.lemmas.Simd.{map-map}
use Rattle.exact_num.proofs.OrderLaws.{nat_cmp-less}
use Rattle.row_problem.proofs.CopiedRows.{copied-stand}
use Rattle.span_finder.proofs.LimitLaws.{limit-has}

-- ---- a row more, which defines nothing

pub definitions-last : (rows : List Row) (last : Row) (defs : List (Option Var)) → length defs ≡ length rows → definitions_of (rows ++ last ∷ []) (defs ++ None ∷ []) ≡ definitions_of rows defs
definitions-last [] last [] h = refl
definitions-last [] last (d ∷ defs) h = absurd (omega (arith, h))
definitions-last (r ∷ rows) last [] h = absurd (omega (arith, h))
definitions-last (r ∷ rows) last (None ∷ defs) h = definitions-last rows last defs (omega (arith, h))
definitions-last (r ∷ rows) last (Some v ∷ defs) h = ap (λ ds. record { row = r; variable = v } ∷ ds) (definitions-last rows last defs (omega (arith, h)))

pub others-last : (rows : List Row) (last : Row) (defs : List (Option Var)) → length defs ≡ length rows → others_of (rows ++ last ∷ []) (defs ++ None ∷ []) ≡ others_of rows defs ++ last ∷ []
others-last [] last [] h = refl
others-last [] last (d ∷ defs) h = absurd (omega (arith, h))
others-last (r ∷ rows) last [] h = absurd (omega (arith, h))
others-last (r ∷ rows) last (None ∷ defs) h = ap {B = List Row} (λ rs. r ∷ rs) (others-last rows last defs (omega (arith, h)))
others-last (r ∷ rows) last (Some v ∷ defs) h = others-last rows last defs (omega (arith, h))

-- a name of a lesser number is before
lesser : (a b : RowName) → a.eq < b.eq → row_name_cmp a b ≡ Less
lesser a b h = ap (λ o. ordering_then o (index_cmp a.index b.index)) (nat_cmp-less a.eq b.eq h)

ascends-last : (rows : List Row) (last : Row) → AllByRecursion (λ (r : Row). r.name.eq < last.name.eq) rows → ascends row_name_cmp (names_of rows) ≡ true → ascends row_name_cmp (names_of (rows ++ last ∷ [])) ≡ true
ascends-last [] last before up = refl
ascends-last (r ∷ []) last before up = ap (λ o. is_lt o && true) (lesser r.name last.name before.0)
ascends-last (r ∷ s ∷ rows) last before up =
    let both = both_passed (is_lt (row_name_cmp r.name s.name)) (ascends row_name_cmp (names_of (s ∷ rows))) up in
    ap₂ (λ a b. a && b) both.0 (ascends-last (s ∷ rows) last before.1 both.1)

entries-last : (rows : List Row) (last : Row) → entry_variables (rows ++ last ∷ []) ≡ entry_variables rows ++ variables_of last.entries.items
entries-last rows last =
    flat_map-append (λ (r : Row). variables_of r.entries.items) rows (last ∷ []) ∙ ap (λ vs. entry_variables rows ++ vs) (append-nil (variables_of last.entries.items))

module _ (rows : List Row) (defs : List (Option Var)) (vars : List Var) (last : Row) (problem : IsProblem rows defs vars) where
  after : AllByRecursion (λ (r : Row). r.name.eq < last.name.eq) rows → last.sense ≡ Most → ((v : Var) → Has (variables_of last.entries.items) v → Has vars v) → IsProblem (rows ++ last ∷ []) (defs ++ None ∷ []) vars
  after before most listed = record {
    same = length-append defs (None ∷ []) ∙ ap (λ n. n + 1) problem.same ∙ sym (length-append rows (last ∷ []));
    named = ascends-last rows last before problem.named;
    ascending = problem.ascending;
    listed = λ v h. either v (append_parts (entry_variables rows) (variables_of last.entries.items) v (subst (λ vs. Has vs v) (entries-last rows last) (Has-from_Contains (entry_variables (rows ++ last ∷ [])) v h)));
    known = rw are problem.known;
    apart = rw are problem.apart;
    triangular = rw are problem.triangular;
    plain = rw are problem.plain;
    signs = rw are problem.signs;
    repeated = λ row h equal. rw are (repeats row (append_parts (others_of rows defs) (last ∷ []) row (subst (λ rs. Has rs row) (others-last rows last defs problem.same) (Has-from_Contains (others_of (rows ++ last ∷ []) (defs ++ None ∷ [])) row h))) equal);
  }
    where
      are : definitions_of (rows ++ last ∷ []) (defs ++ None ∷ []) ≡ definitions_of rows defs
      are = definitions-last rows last defs problem.same

      either : (v : Var) → Has (entry_variables rows) v ⊎ Has (variables_of last.entries.items) v → Contains vars v
      either v (inl h) = problem.listed v (Contains-from_Has (entry_variables rows) v h)
      either v (inr h) = Contains-from_Has vars v (listed v h)

      repeats : (row : Row) → Has (others_of rows defs) row ⊎ Has (last ∷ []) row → row.sense ≡ Equal → IsRepeatedBy (definitions_of rows defs) row
      repeats row (inl h) equal = problem.repeated row (Contains-from_Has (others_of rows defs) row h) equal
      repeats row (inr (inl e)) equal = absurd (cc (sym most ∙ ap (λ (r : Row). r.sense) e ∙ equal))
      repeats row (inr (inr h)) equal = absurd h

-- ---- copies of rows

-- what a definition says
abbrev pub said : Definition → RowContents × Var
said d = (contents_of d.row, d.variable)

pub copied : (all those : List Row) (defs : List (Option Var)) → map contents_of all ≡ map contents_of those
    → (map said (definitions_of all defs) ≡ map said (definitions_of those defs)) × (map contents_of (others_of all defs) ≡ map contents_of (others_of those defs))
copied [] [] defs e = (refl, refl)
copied [] (b ∷ those) defs e = absurd (cc e)
copied (a ∷ all) [] defs e = absurd (cc e)
copied (a ∷ all) (b ∷ those) [] e = (refl, refl)
copied (a ∷ all) (b ∷ those) (None ∷ defs) e =
    let first : contents_of a ≡ contents_of b = cc e in
    let rest : map contents_of all ≡ map contents_of those = cc e in
    let later = copied all those defs rest in
    (later.0, ap₂ {C = List RowContents} (λ c cs. c ∷ cs) first later.1)
copied (a ∷ all) (b ∷ those) (Some v ∷ defs) e =
    let first : contents_of a ≡ contents_of b = cc e in
    let rest : map contents_of all ≡ map contents_of those = cc e in
    let later = copied all those defs rest in
    (ap₂ {C = List (RowContents × Var)} (λ c ss. (c, v) ∷ ss) first later.0, later.1)

defined-said : (ds : List Definition) → defined ds ≡ map (λ (s : RowContents × Var). s.1) (map said ds)
defined-said [] = refl
defined-said (d ∷ ds) = ap {B = List Var} (λ vs. d.variable ∷ vs) (defined-said ds)

defined-copied : (ds those : List Definition) → map said ds ≡ map said those → defined ds ≡ defined those
defined-copied ds those e = defined-said ds ∙ ap (map (λ (s : RowContents × Var). s.1)) e ∙ sym (defined-said those)

-- what a problem asks of its definitions
abbrev Serve : List Definition → Type 0
Serve ds = AreTriangular ds × HaveNone cost_variable (rows_of ds) × KeepSigns ds

serve-copied : (ds those : List Definition) → map said ds ≡ map said those → Serve those → Serve ds
serve-copied [] [] e h = (tt, tt, tt)
serve-copied [] (x ∷ those) e h = absurd (cc e)
serve-copied (d ∷ ds) [] e h = absurd (cc e)
serve-copied (d ∷ ds) (x ∷ those) e h =
    let first : said x ≡ said d = cc e in
    let rest : map said ds ≡ map said those = cc e in
    let later = serve-copied ds those rest (h.0.3, h.1.1, h.2.1) in
    let vs : defined those ≡ defined ds = sym (defined-copied ds those rest) in (
      (
        record {
          equal = subst (λ (s : RowContents × Var). s.0.sense ≡ Equal) first h.0.0.equal;
          positive = subst (λ (s : RowContents × Var). pos 0 <ℤ number_at s.0.entries s.1) first h.0.0.positive;
        },
        subst (λ ws. IsTrue (avoids ws d.row.entries.items)) vs (subst (λ (s : RowContents × Var). IsTrue (avoids (defined those) s.0.entries)) first h.0.1),
        subst (λ ws. IsTrue (not (is_among ws d.variable))) vs (subst (λ (s : RowContents × Var). IsTrue (not (is_among (defined those) s.1))) first h.0.2),
        later.0,
      ),
      (subst (λ (s : RowContents × Var). number_at s.0.entries cost_variable ≡ pos 0) first h.1.0, later.1),
      (subst (λ (s : RowContents × Var). kind_is_free s.1.kind ≡ false → IsTrue (only_raises s.1 s.0.entries) × (pos 0 ≤ℤ s.0.rhs)) first h.2.0, later.2),
    )

module _ (all those : List Row) (same : map contents_of all ≡ map contents_of those) where
  names-copied : names_of all ≡ names_of those
  names-copied = sym (map-map (λ (c : RowContents). c.name) contents_of all) ∙ ap (map (λ (c : RowContents). c.name)) same ∙ map-map (λ (c : RowContents). c.name) contents_of those

  entries-copied : entry_variables all ≡ entry_variables those
  entries-copied =
      sym (flat_map-map (λ (c : RowContents). variables_of c.entries) contents_of all) ∙ ap (flat_map (λ (c : RowContents). variables_of c.entries)) same
      ∙ flat_map-map (λ (c : RowContents). variables_of c.entries) contents_of those

repeated-so : (ds those : List Definition) (row other : Row) → contents_of other ≡ contents_of row → (r : IsRepeatedBy those other) → (d : Definition) → Has ds d → said d ≡ said r.definition → IsRepeatedBy ds row
repeated-so ds those row other same r d there same-definition = record {
  definition = d;
  among = Contains-from_Has ds d there;
  entries = ap (λ (s : RowContents × Var). s.0.entries) same-definition ∙ r.entries ∙ ap (λ (c : RowContents). c.entries) same;
  right_side = ap (λ (s : RowContents × Var). s.0.rhs) same-definition ∙ r.right_side ∙ ap (λ (c : RowContents). c.rhs) same;
}

-- rows that say what those of a problem say
module _ (all those : List Row) (defs : List (Option Var)) (vars : List Var) (problem : IsProblem those defs vars) (same : map contents_of all ≡ map contents_of those) where
  same-said : map said (definitions_of all defs) ≡ map said (definitions_of those defs)
  same-said = (copied all those defs same).0

  same-defined : defined (definitions_of all defs) ≡ defined (definitions_of those defs)
  same-defined = defined-copied (definitions_of all defs) (definitions_of those defs) same-said

  serve : Serve (definitions_of all defs)
  serve = serve-copied (definitions_of all defs) (definitions_of those defs) same-said (problem.triangular, problem.plain, problem.signs)

  repeats : (row : Row) → Contains (others_of all defs) row → row.sense ≡ Equal → IsRepeatedBy (definitions_of all defs) row
  repeats row h equal =
      let there = subst (λ cs. Has cs (contents_of row)) (copied all those defs same).1 (Has-map contents_of (others_of all defs) row (Has-from_Contains (others_of all defs) row h)) in
      let other = map_parts contents_of (others_of those defs) (contents_of row) there in
      let r = problem.repeated other.0 (Contains-from_Has (others_of those defs) other.0 other.1) (ap (λ (c : RowContents). c.sense) other.2 ∙ equal) in
      let among = subst (λ ss. Has ss (said r.definition)) (sym same-said) (Has-map said (definitions_of those defs) r.definition (Has-from_Contains (definitions_of those defs) r.definition r.among)) in
      let d = map_parts said (definitions_of all defs) (said r.definition) among in
      repeated-so (definitions_of all defs) (definitions_of those defs) row other.0 other.2 r d.0 d.1 d.2

  copy-problem : IsProblem all defs vars
  copy-problem = record {
    same = problem.same ∙ sym (length-map those contents_of) ∙ sym (ap length same) ∙ length-map all contents_of;
    named = ap (ascends row_name_cmp) (names-copied all those same) ∙ problem.named;
    ascending = problem.ascending;
    listed = λ v h. problem.listed v (subst (λ vs. Contains vs v) (entries-copied all those same) h);
    known = rw same-defined problem.known;
    apart = rw same-defined problem.apart;
    triangular = serve.0;
    plain = serve.1;
    signs = serve.2;
    repeated = repeats;
  }

-- ---- with the row that limits the cost

pub has-limit-row : (rows copies all : List Row) (vars : List Var) (limit : Rational) (row : Row) → IsLimitRow vars limit row → all_fit (limit_formed vars limit) ≡ true → map contents_of copies ≡ map contents_of rows → all ≡ copies ++ row ∷ []
    → HasLimitRow rows vars limit all
has-limit-row rows copies all vars limit row is fits copied pushed = record {
  row = row;
  is = is;
  contents = ap (map contents_of) pushed ∙ map-append contents_of copies (row ∷ []) ∙ ap (λ (cs : List RowContents). cs ++ contents_of row ∷ []) copied ∙ sym (map-append contents_of rows (row ∷ []));
  fits = fits;
}

module _ (rows : List Row) (defs : List (Option Var)) (vars : List Var) (limit : Rational) (all : List Row) (problem : IsProblem rows defs vars) (named : AllByRecursion (λ (r : Row). r.name.eq < SPAN) rows) (of : HasLimitRow rows vars limit all) where
  pub limited-problem : IsProblem all (defs ++ None ∷ []) vars
  limited-problem =
      copy-problem all (rows ++ of.row ∷ []) (defs ++ None ∷ []) vars
      (after rows defs vars of.row problem (subst (λ (n : RowName). AllByRecursion (λ (r : Row). r.name.eq < n.eq) rows) (sym of.is.name) named) of.is.sense
      (λ v h. limit-has vars v (subst (λ vs. Has vs v) of.is.variables h))) of.contents

  pub limited-variables : AreVariablesOf rows vars → AreVariablesOf all vars
  limited-variables variables = record {
    ascending = variables.ascending;
    each = λ v. (to v, limited-problem.listed v);
  }
    where
      to : (v : Var) → Contains vars v → Contains (entry_variables all) v
      to v h =
          let there = Has-from_Contains (entry_variables rows) v ((variables.each v).0 h) in
          Contains-from_Has (entry_variables all) v
          (subst (λ vs. Has vs v) (sym (entries-copied all (rows ++ of.row ∷ []) of.contents ∙ entries-last rows of.row)) (Has-append_left (entry_variables rows) (variables_of of.row.entries.items) v there))

-- ---- plans

stand-last : (q : ℕ) (x : Var → ℤ) (rows : List Row) (extra : Row) → AllStand (λ row. row.rhs *ℤ pos q) (rows ++ extra ∷ []) x → AllStand (λ row. row.rhs *ℤ pos q) rows x × RowHolds extra q x
stand-last q x [] end h = (tt, h.0)
stand-last q x (r ∷ rows) extra h = let later = stand-last q x rows extra h.1 in ((h.0, later.0), later.1)

last-stand : (q : ℕ) (x : Var → ℤ) (rows : List Row) (extra : Row) → AllStand (λ row. row.rhs *ℤ pos q) rows x → RowHolds extra q x → AllStand (λ row. row.rhs *ℤ pos q) (rows ++ extra ∷ []) x
last-stand q x [] extra h k = (k, tt)
last-stand q x (r ∷ rows) extra h k = (h.0, last-stand q x rows extra h.1 k)

module _ (rows : List Row) (vars : List Var) (limit : Rational) (all : List Row) (of : HasLimitRow rows vars limit all) where
  pub near-from : (q : ℕ) (x : Var → ℤ) → MeetsAll all vars q x → IsNearBest rows vars limit q x
  near-from q x h =
      let both = stand-last q x rows of.row (copied-stand q x all (rows ++ of.row ∷ []) of.contents h.rows_hold) in
      record { meets = record { positive = h.positive; rows_hold = both.0; signs = h.signs }; costs = (of.is.says q x).0 both.1 }

  pub near-to : (q : ℕ) (x : Var → ℤ) → IsNearBest rows vars limit q x → MeetsAll all vars q x
  near-to q x h = record {
    positive = h.meets.positive;
    rows_hold = copied-stand q x (rows ++ of.row ∷ []) all (sym of.contents) (last-stand q x rows of.row h.meets.rows_hold ((of.is.says q x).1 h.costs));
    signs = h.meets.signs;
  }

  pub some-plan : HasNearBest rows vars limit → HasPlan all vars
  some-plan h = record { over = h.over; plan = h.plan; meets = near-to h.over h.plan h.near }
