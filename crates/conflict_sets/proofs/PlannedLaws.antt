-- Values that meet the linear program of a trial become a plan that meets the rows of the trial.
use Rattle.conflict_sets.proofs.Common.{◌≡◌, ◌≢◌, ℕ, ℤ, pos, Bool, true, false, not, ◌||◌, List, [], ◌∷◌, inl, inr, length, map, refl, sym, ap, ap₂, ◌∙◌, arith, if◌then◌else◌, Option, Some, None, ints, value_of, Frac, Row, RowName, Sense, Equal, Most, Var, RowHolds, Definition, definitions_of, others_of, rows_of, defined, AreTriangular, lifted, right_side, inequality_of, ArePosed, AvoidAll, AreMet, contents_of, AreReductions, lifted-others, lifted_meet, plan_met, reduced_hold, reduced_says, is_unequal, by_test, Values, Least, is_taken, selected, tests_of, rows_with}
use Rattle.variable_elimination.specs.Lifts.{CarriesPlan}
use Rattle.variable_elimination.proofs.LiftedLaws.{AllHold, defined_holds, empty_holds}
use Rattle.conflict_sets.proofs.TriedLaws.{reduction-copied}

either-hold : (row : Row) (rows : List Row) (t : Bool) (q : ℕ) (x : Var → ℤ) → RowHolds row q x → AllHold rows q x → AllHold (if t then (row ∷ rows) else rows) q x
either-hold row rows true q x h k = (h, k)
either-hold row rows false q x h k = k

not-equal : (sense : Sense) → sense ≢ Equal → is_unequal sense ≡ true
not-equal Least h = refl
not-equal Equal h = absurd (h refl)
not-equal Most h = refl

-- rows that define nothing: each was dropped, or is tried, or isn't on the list
others-tried : (listed : RowName → Bool) (columns : List Var) (ds : List Definition) (others rows : List Row) (scales : List Frac) (made : List Row) (p : ℕ) (z : Var → ℤ)
    → AreReductions (rows_of ds) others rows scales → ArePosed columns (map inequality_of rows) → map contents_of made ≡ selected (tests_of listed rows) (map contents_of rows)
    → AreMet ds (pos p) z → AllHold made p z → AllHold (rows_with listed others) p z
others-tried listed columns ds [] rows scales made p z r posed e met holds = tt
others-tried listed columns ds (named ∷ others) rows scales made p z (inl (dropped, r)) posed e met holds =
    either-hold named (rows_with listed others) (is_taken listed named) p z
    ((reduced_says ds named (value_of dropped.scale) dropped.new p z dropped.reduction.reduced dropped.reduction.sense met).0 (empty_holds dropped.new p z dropped.empty dropped.holds))
    (others-tried listed columns ds others rows scales made p z r posed e met holds)
others-tried listed columns ds (named ∷ others) rows scales made p z (inr (new, scale, more, more_scales, ee, ff, r, h)) posed e met holds =
    cases (listed new.name) refl made (e ∙ ap (λ (rs : List Row). selected (tests_of listed rs) (map contents_of rs)) ee) holds (λ ks i k. others-tried listed columns ds others more more_scales ks p z h posed_new.3 i met k)
  where
    posed_new : ArePosed columns (map inequality_of (new ∷ more))
    posed_new = rw ee at posed

    cases : (t : Bool) → listed new.name ≡ t → (made : List Row) → map contents_of made ≡ selected (t ∷ tests_of listed more) (contents_of new ∷ map contents_of more) → AllHold made p z
        → ((ks : List Row) → map contents_of ks ≡ selected (tests_of listed more) (map contents_of more) → AllHold ks p z → AllHold (rows_with listed others) p z) → AllHold (rows_with listed (named ∷ others)) p z
    cases true is [] e holds rest = absurd (cc e)
    cases true is (m ∷ made) e holds rest =
        let first : contents_of m ≡ contents_of new = cc e in
        let later : map contents_of made ≡ selected (tests_of listed more) (map contents_of more) = cc e in
        let copied = reduction-copied (rows_of ds) named (value_of scale) new m first r in
        either-hold named (rows_with listed others) (is_taken listed named) p z ((reduced_says ds named (value_of scale) m p z copied.reduced copied.sense met).0 holds.0) (rest made later holds.1)
    cases false is made e holds rest =
        let left_out : is_taken listed named ≡ false =
        ap₂ (λ a b. not a || b) (ap is_unequal (sym r.sense) ∙ not-equal new.sense posed_new.0) (ap listed (sym r.name) ∙ is) in
        rw left_out (rest made e holds)

all-tried : (listed : RowName → Bool) (rows : List Row) (defs : List (Option Var)) (p : ℕ) (z : Var → ℤ) → length defs ≡ length rows → AreTriangular (definitions_of rows defs) → AreMet (definitions_of rows defs) (pos p) z
    → AllHold (rows_with listed (others_of rows defs)) p z → AllHold (rows_with listed rows) p z
all-tried listed [] defs p z same h met others = tt
all-tried listed (row ∷ rows) [] p z same h met others = absurd (omega arith)
all-tried listed (row ∷ rows) (None ∷ defs) p z same h met others =
    by_test (is_taken listed row)
    (λ is. let k = rw is at others in rw is (k.0, all-tried listed rows defs p z (omega arith) h met k.1))
    (λ is. rw is (all-tried listed rows defs p z (omega arith) h met (rw is at others)))
all-tried listed (row ∷ rows) (Some v ∷ defs) p z same h met others =
    either-hold row (rows_with listed rows) (is_taken listed row) p z (defined_holds (record { row = row; variable = v }) p z h.0.equal met.0) (all-tried listed rows defs p z (omega arith) h.3 met.1 others)

pub carries-tried : (listed : RowName → Bool) (columns : List Var) (rows : List Row) (defs : List (Option Var)) (values : Values) (reduced : List Row) (scales : List Frac) (made : List Row)
    → length defs ≡ length rows → AreTriangular (definitions_of rows defs) → AreReductions (rows_of (definitions_of rows defs)) (others_of rows defs) reduced scales → ArePosed columns (map inequality_of reduced)
    → map contents_of made ≡ selected (tests_of listed reduced) (map contents_of reduced) → AvoidAll (defined (definitions_of rows defs)) made
    → CarriesPlan (rows_with listed rows) made values (lifted right_side (definitions_of rows defs) values)
carries-tried listed columns rows defs values reduced scales made same triangular r posed e apart q p x z hq hp over over_made holds =
    let ds : List Definition = definitions_of rows defs in
    let met : AreMet ds (pos p) z = plan_met ds (pos p) z (lifted_meet right_side ds values (pos p) z (omega (arith, ints)) triangular over_made) in
    all-tried listed rows defs p z same triangular met
    (others-tried listed columns ds (others_of rows defs) reduced scales made p z r posed e met (reduced_hold (defined ds) values (lifted right_side ds values) (lifted-others right_side ds values) q p x z hq hp over over_made made apart holds))
