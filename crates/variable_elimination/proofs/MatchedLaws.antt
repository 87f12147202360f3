-- The multipliers of rows that define nothing are those of their reduced rows, times the scales.
use Rattle.variable_elimination.proofs.Common.{◌≡◌, ℕ, suc, ℤ, pos, ◌+ℤ◌, ◌*ℤ◌, Bool, true, false, ◌||◌, List, [], ◌∷◌, ◌⊎◌, inl, inr, map, length, refl, sym, ap, ap₂, ◌∙◌, subst, arith, if◌then◌else◌, Option, Some, None, ◌<ℤ◌, ◌≤ℤ◌, insert_entry, is_eq, ints, Rational, whole, times, value_of, Frac, *ℤ_cancel, *ℤ_nonnegative, nonzero_of_pos, ≤ℤ_cancel, *ℤ_pos, products, *ℤ-one, zero-*ℤ, Row, RowName, Sense, Least, Equal, Most, Var, row_name_cmp, value_in, IsOver, row_name_cmp_total, IsOver-agree, IsOver-own, IsOver-times, AreOverFrom, HasSign, HaveSigns, Definition, definitions_of, others_of, rows_of, AreTriangular, scaled_multipliers, inequality_of, weighted, AreSigned, AreNamedOver, AreAmongReductions, excess, AreMet, multiples_of, IsReduced, names_of}
use Rattle.variable_elimination.proofs.LiftLaws.{product_down}
use Rattle.variable_elimination.proofs.ReductionLaws.{IsReduced-met}
use Rattle.variable_elimination.proofs.RowNameLaws.{NamesAscend, RowIn, names-rest, first_apart, later_apart, name_itself}
use Rattle.variable_elimination.proofs.ValueSteps.{value_in-insert}

-- each of the named rows in turn has the multiplier 0, or that of the next of the reduced rows times a scale: y is l times top over bottom
abbrev pub AreMatched : List Row → List Row → List Row → (RowName → ℤ) → (ℕ → ℤ) → ℕ → Type 0
AreMatched definitions [] rows y l i = rows ≡ []
AreMatched definitions (named ∷ others) rows y l i =
    ((y named.name ≡ pos 0) × AreMatched definitions others rows y l i)
    ⊎ ((new : Row) × (more : List Row) × (scale : Rational) × (rows ≡ new ∷ more) × (new.sense ≡ named.sense) × IsReduced definitions named scale new × (y named.name *ℤ scale.bottom ≡ l i *ℤ scale.top) × AreMatched definitions others more y l (suc i))

-- ---- what they say of numbers that meet the definitions

same_excess : (ds : List Definition) (named new : Row) (scale : Rational) (m k : ℤ) (q : ℤ) (x : Var → ℤ) → IsReduced (rows_of ds) named scale new → m *ℤ scale.bottom ≡ k *ℤ scale.top → AreMet ds q x → m *ℤ excess named q x ≡ k *ℤ excess new q x
same_excess ds named new scale m k q x r e met =
    let n : ℤ = excess named q x in
    let z : ℤ = excess new q x in
    let down : ℤ = scale.bottom *ℤ r.over in
    *ℤ_cancel (m *ℤ n) (k *ℤ z) down (nonzero_of_pos down (*ℤ_pos scale.bottom r.over r.bottom_positive r.over_positive))
    (first m n scale.bottom r.over ∙ ap (λ a. a *ℤ (n *ℤ r.over)) e ∙ second k scale.top n r.over ∙ ap (λ a. k *ℤ a) (sym (IsReduced-met ds named scale new q x met r)) ∙ third k z down)
  where
    first : (m n b o : ℤ) → (m *ℤ n) *ℤ (b *ℤ o) ≡ (m *ℤ b) *ℤ (n *ℤ o)
    first m n b o = simp products

    second : (k t n o : ℤ) → (k *ℤ t) *ℤ (n *ℤ o) ≡ k *ℤ ((t *ℤ o) *ℤ n)
    second k t n o = simp products

    third : (k z d : ℤ) → k *ℤ (z *ℤ d) ≡ (k *ℤ z) *ℤ d
    third k z d = simp products

pub matched-excess : (ds : List Definition) (others rows : List Row) (y : RowName → ℤ) (l : ℕ → ℤ) (i : ℕ) (q : ℤ) (x : Var → ℤ) → AreMatched (rows_of ds) others rows y l i → AreMet ds q x
    → weighted y (λ row. excess row q x) others ≡ multiples_of i l (λ row. excess row q x) rows
matched-excess ds [] rows y l i q x h met = ap (multiples_of i l (λ row. excess row q x)) (sym h)
matched-excess ds (named ∷ others) rows y l i q x (inl h) met =
    ap₂ (λ a b. (a *ℤ excess named q x) +ℤ b) h.0 (matched-excess ds others rows y l i q x h.1 met) ∙ plain (excess named q x) (multiples_of i l (λ row. excess row q x) rows)
  where
    plain : (n z : ℤ) → (pos 0 *ℤ n) +ℤ z ≡ z
    plain n z = omega (arith, ints, zero-*ℤ n)
matched-excess ds (named ∷ others) rows y l i q x (inr (new, more, scale, e, sense, r, m, h)) met =
    ap₂ (λ a b. a +ℤ b) (same_excess ds named new scale (y named.name) (l i) q x r m met) (matched-excess ds others more y l (suc i) q x h met)
    ∙ ap (multiples_of i l (λ row. excess row q x)) (sym e)

-- ---- signs

signed-zero : (sense : Sense) → HasSign sense (pos 0)
signed-zero Least = omega (arith, ints)
signed-zero Equal = tt
signed-zero Most = omega (arith, ints)

signed-scaled : (sense : Sense) (m k top bottom : ℤ) → pos 0 <ℤ top → pos 0 <ℤ bottom → m *ℤ bottom ≡ k *ℤ top → HasSign sense k → HasSign sense m
signed-scaled Least m k top bottom ht hb e h =
    let up : pos 0 ≤ℤ (k *ℤ top) = *ℤ_nonnegative k top h (omega (arith, ints)) in
    let zero_is = zero-*ℤ bottom in
    ≤ℤ_cancel (pos 0) m bottom hb (omega (arith, ints))
signed-scaled Equal m k top bottom ht hb e h = tt
signed-scaled Most m k top bottom ht hb e h =
    let down : (k *ℤ top) ≤ℤ pos 0 = product_down k top h (omega (arith, ints)) in
    let zero_is = zero-*ℤ bottom in
    ≤ℤ_cancel m (pos 0) bottom hb (omega (arith, ints))

pub matched-signs : (definitions others rows : List Row) (y : RowName → ℤ) (l : ℕ → ℤ) (i : ℕ) → AreMatched definitions others rows y l i → HaveSigns l i (map inequality_of rows) → AreSigned y others
matched-signs definitions [] rows y l i h k = tt
matched-signs definitions (named ∷ others) rows y l i (inl h) k = (subst (HasSign named.sense) (sym h.0) (signed-zero named.sense), matched-signs definitions others rows y l i h.1 k)
matched-signs definitions (named ∷ others) rows y l i (inr (new, more, scale, e, sense, r, m, h)) k =
    let parts : HaveSigns l i (map inequality_of (new ∷ more)) = subst (λ (rs : List Row). HaveSigns l i (map inequality_of rs)) e k in (
      subst (λ t. HasSign t (y named.name)) sense (signed-scaled new.sense (y named.name) (l i) scale.top scale.bottom r.scale_positive r.bottom_positive m parts.0),
      matched-signs definitions others more y l (suc i) h parts.1,
    )

-- definitions may have any sign
pub all-signed : (rows : List Row) (defs : List (Option Var)) (y : RowName → ℤ) → length defs ≡ length rows → AreTriangular (definitions_of rows defs) → AreSigned y (others_of rows defs) → AreSigned y rows
all-signed [] defs y same h k = tt
all-signed (row ∷ rows) [] y same h k = absurd (omega arith)
all-signed (row ∷ rows) (None ∷ defs) y same h k = (k.0, all-signed rows defs y (omega arith) h k.1)
all-signed (row ∷ rows) (Some v ∷ defs) y same h k = (subst (λ t. HasSign t (y row.name)) (sym h.0.equal) tt, all-signed rows defs y (omega arith) h.3 k)

-- ---- the values

abbrev is_name_in : List RowName → RowName → Bool
is_name_in [] n = false
is_name_in (m ∷ names) n = is_eq (row_name_cmp n m) || is_name_in names n

neither_name : (a b : Bool) → (a || b) ≡ false → (a ≡ false) × (b ≡ false)
neither_name true b h = absurd (cc h)
neither_name false b h = (refl, h)

scaled-others : (names : List RowName) (scales multipliers : List Rational) (made : List (RowName × Rational)) (n : RowName) → is_name_in names n ≡ false
    → value_in row_name_cmp (scaled_multipliers names scales multipliers made) n ≡ value_in row_name_cmp made n
scaled-others [] scales multipliers made n h = refl
scaled-others (m ∷ names) [] multipliers made n h = refl
scaled-others (m ∷ names) (scale ∷ scales) [] made n h = refl
scaled-others (m ∷ names) (scale ∷ scales) (k ∷ multipliers) made n h =
    let parts = neither_name (is_eq (row_name_cmp n m)) (is_name_in names n) h in
    scaled-others names scales multipliers (insert_entry row_name_cmp made m (times k scale)) n parts.1
    ∙ value_in-insert row_name_cmp row_name_cmp_total made m (times k scale) n
    ∙ ap (λ t. if t then times k scale else value_in row_name_cmp made n) parts.0

-- a name that none of the named rows has isn't that of a reduced row
apart_names : (definitions others rows : List Row) (scales : List Frac) (n : RowName) → AreAmongReductions definitions others rows scales → ((r : Row) → RowIn r others → is_eq (row_name_cmp n r.name) ≡ false) → is_name_in (names_of rows) n ≡ false
apart_names definitions [] rows scales n h k = ap (λ (rs : List Row). is_name_in (names_of rs) n) h.0
apart_names definitions (named ∷ others) rows scales n (inl h) k = apart_names definitions others rows scales n h (λ r m. k r (inr m))
apart_names definitions (named ∷ others) rows scales n (inr (new, scale, more, more_scales, e, f, r, h)) k =
    ap (λ (rs : List Row). is_name_in (names_of rs) n) e
    ∙ ap₂ (λ a b. a || b) (ap (λ m. is_eq (row_name_cmp n m)) r.name ∙ k named (inl refl)) (apart_names definitions others more more_scales n h (λ t m. k t (inr m)))

over_zero : (s m : ℤ) → IsOver s (whole (pos 0)) m → m ≡ pos 0
over_zero s m h = sym (*ℤ-one m) ∙ h.cross ∙ zero-*ℤ s

over_scaled : (s : ℤ) (k scale : Rational) (m n : ℤ) → pos 0 <ℤ s → pos 0 <ℤ scale.bottom → IsOver s k n → IsOver s (times k scale) m → m *ℤ scale.bottom ≡ n *ℤ scale.top
over_scaled s k scale m n hs hb h j =
    let agree : m *ℤ (s *ℤ scale.bottom) ≡ (n *ℤ scale.top) *ℤ s = IsOver-agree s (s *ℤ scale.bottom) (times k scale) m (n *ℤ scale.top) j (IsOver-times s scale.bottom k scale n scale.top h (IsOver-own scale hb)) in
    *ℤ_cancel (m *ℤ scale.bottom) (n *ℤ scale.top) s (nonzero_of_pos s hs) (moved m s scale.bottom ∙ agree)
  where
    moved : (m s b : ℤ) → (m *ℤ b) *ℤ s ≡ m *ℤ (s *ℤ b)
    moved m s b = simp products

module _ (definitions : List Row) (s : ℤ) (y : RowName → ℤ) (l : ℕ → ℤ) (positive : pos 0 <ℤ s) (final : RowName → Rational) (over : AreNamedOver s y final) where
  -- what is put in so far has nothing at the names of the rows that are left
  abbrev IsFresh : List Row → List (RowName × Rational) → Type 0
  IsFresh others made = (r : Row) → RowIn r others → value_in row_name_cmp made r.name ≡ whole (pos 0)

  abbrev AreFinal : List Row → List RowName → List Rational → List Rational → List (RowName × Rational) → Type 0
  AreFinal others names scales multipliers made = (r : Row) → RowIn r others → final r.name ≡ value_in row_name_cmp (scaled_multipliers names scales multipliers made) r.name

  pub matched : (others rows : List Row) (scales : List Frac) (multipliers : List Rational) (i : ℕ) (made : List (RowName × Rational)) → AreAmongReductions definitions others rows scales → NamesAscend others → IsFresh others made
      → AreFinal others (names_of rows) (map value_of scales) multipliers made → AreOverFrom s l i multipliers → length multipliers ≡ length rows → AreMatched definitions others rows y l i
  matched [] rows scales multipliers i made h up fresh is from count = h.0
  matched (named ∷ others) rows scales multipliers i made (inl h) up fresh is from count = inl (
    over_zero s (y named.name)
        (subst (λ r. IsOver s r (y named.name))
        (is named (inl refl) ∙ scaled-others (names_of rows) (map value_of scales) multipliers made named.name (apart_names definitions others rows scales named.name h (λ r k. first_apart named others r up k)) ∙ fresh named (inl refl))
        (over named.name)),
    matched others rows scales multipliers i made h (names-rest named others up) (λ r k. fresh r (inr k)) (λ r k. is r (inr k)) from count,
  )
  matched (named ∷ others) rows scales multipliers i made (inr (new, scale, more, more_scales, e, f, r, h)) up fresh is from count =
      next multipliers from
      (subst (λ (rs : List Row). length multipliers ≡ length rs) e count)
      (subst (λ (ss : List Frac). AreFinal (named ∷ others) (names_of (new ∷ more)) (map value_of ss) multipliers made) f (subst (λ (rs : List Row). AreFinal (named ∷ others) (names_of rs) (map value_of scales) multipliers made) e is))
      (λ ms js final_is count_is j fresh_is. matched others more more_scales ms (suc i) js h (names-rest named others up) fresh_is final_is j count_is)
    where
      Later : Type 0
      Later = (ms : List Rational) (js : List (RowName × Rational)) → AreFinal others (names_of more) (map value_of more_scales) ms js → length ms ≡ length more → AreOverFrom s l (suc i) ms → IsFresh others js → AreMatched definitions others more y l (suc i)

      next : (ms : List Rational) → AreOverFrom s l i ms → length ms ≡ length (new ∷ more) → AreFinal (named ∷ others) (names_of (new ∷ more)) (map value_of (scale ∷ more_scales)) ms made → Later → AreMatched definitions (named ∷ others) rows y l i
      next [] j c is later = absurd (omega arith)
      next (k ∷ ms) j c is later = inr (
        new,
        more,
        value_of scale,
        e,
        r.sense,
        r.reduced,
        over_scaled s k (value_of scale) (y named.name) (l i) positive r.lowest.positive j.0
            (subst (λ t. IsOver s t (y named.name))
            (is named (inl refl)
            ∙ scaled-others (names_of more) (map value_of more_scales) ms put named.name (apart_names definitions others more more_scales named.name h (λ t m. first_apart named others t up m))
            ∙ value_in-insert row_name_cmp row_name_cmp_total made new.name (times k (value_of scale)) named.name
            ∙ ap (λ o. if is_eq o then times k (value_of scale) else value_in row_name_cmp made named.name) (ap (λ n. row_name_cmp named.name n) r.name ∙ name_itself named.name))
            (over named.name)),
        later ms put (λ t m. is t (inr m)) (omega arith) j.1 (λ t m.
            value_in-insert row_name_cmp row_name_cmp_total made new.name (times k (value_of scale)) t.name
            ∙ ap (λ b. if b then times k (value_of scale) else value_in row_name_cmp made t.name) (ap (λ n. is_eq (row_name_cmp t.name n)) r.name ∙ later_apart named others t up m)
            ∙ fresh t (inr m)),
      )
        where
          put : List (RowName × Rational)
          put = insert_entry row_name_cmp made new.name (times k (value_of scale))
