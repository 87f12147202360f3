-- Rows of which one is put in the place of its twin are the rows of other data, where all other rows of these are the same; and so many of them can be made.
use Rattle.curve_command.proofs.Common.{◌≡◌, ◌≢◌, ℕ, ◌+◌, ◌≤◌, true, List, [], ◌∷◌, ◌++◌, length, refl, sym, ap, ap₂, ◌∙◌, subst, inl, inr, true≢false, both_true, list_all, and_parts, cases_eq, Data, Row, RowName, Var, row_name_cmp, Has, Has-append_right, instances, is_instance, IsNamedRow, Has-instances, AreRowsOf, CanBeMade, entries_in, entry_count, entry_limit, row_fits, terms_at, are_rows_of, count-same, fits-same, is_named_row}
use Rattle.std.specs.Prelude.{ℤ}
use Rattle.std.specs.declared.cmp.Ordering.TheVariants.{Less, Equal as Alike}
use Rattle.std.proofs.lemmas.Cmp.{tied_itself}
use Rattle.std.proofs.lemmas.List.Sums.{sum_by-cons}
use Rattle.row_core.proofs.Orders.{row_name_cmp_total}
use Rattle.named_equations.proofs.InstanceOrder.{Sorted-instances}
use Rattle.named_equations.proofs.SortedLists.{Every, Sorted}
use Rattle.row_book.specs.Replaced.{IsReplaced, same_variables}
use Rattle.row_book.proofs.ReplacedLaws.{other-many}
use Rattle.curve_command.proofs.LimitedLaws.{AreAlikeBut, at-name}

-- ---- names in order

-- the first name is none of the later ones
first-apart : (name other : RowName) (names : List RowName) → Every (λ n. row_name_cmp name n ≡ Less) names → Has names other → name ≢ other
first-apart name other [] before has same = absurd has
first-apart name other (n ∷ names) before (inl at) same =
    let clash : Less ≡ Alike = sym before.0 ∙ ap (row_name_cmp name) (at ∙ sym same) ∙ tied_itself row_name_cmp_total name in cc
first-apart name other (n ∷ names) before (inr later) same = first-apart name other names before.1 later same

same-many : (es fs : List (Var × ℤ)) → same_variables es fs ≡ true → length es ≡ length fs
same-many es fs same = elim (cases_eq (length es) (length fs)) [ inl is ↦ is | inr not ↦ absurd (true≢false (sym same ∙ other-many es fs not)) ]

module _ (places : ℕ) where
  -- the row of the name over the data
  abbrev pub IsRowAt : Data → RowName → Row → Type 0
  IsRowAt d name row = IsNamedRow places d name (terms_at places d name) row

  -- a row is that of its name, which is among the names
  row-there : (d : Data) (names : List RowName) (rows : List Row) (row : Row) → AreRowsOf places d names rows → Has rows row → Has names row.name × IsRowAt d row.name row
  row-there d [] [] row are has = absurd has
  row-there d [] (first ∷ rows) row are has = absurd are
  row-there d (name ∷ names) [] row are has = absurd are
  row-there d (name ∷ names) (first ∷ rows) row are (inl at) =
      subst (λ r. Has (name ∷ names) r.name × IsRowAt d r.name r) at (inl (sym are.0.written.named), subst (λ n. IsRowAt d n first) (sym are.0.written.named) are.0)
  row-there d (name ∷ names) (first ∷ rows) row are (inr later) = let there = row-there d names rows row are.1 later in (inr there.0, there.1)

  -- ---- data of which all rows but one are the same

  module _ (one other : Data) (limit : RowName) (alike : AreAlikeBut places one other limit) (row : Row) (is : IsRowAt other limit row) where
    abbrev AreInstances : List RowName → Type 0
    AreInstances names = (name : RowName) → Has names name → is_instance one name ≡ true

    renewed-rows : (names : List RowName) (earlier later : List Row) (before : Row) → Sorted row_name_cmp names → AreInstances names → before.name ≡ limit → AreRowsOf places one names (earlier ++ before ∷ later)
        → AreRowsOf places other names (earlier ++ row ∷ later)
    renewed-rows [] [] later before sorted there named are = absurd are
    renewed-rows [] (first ∷ earlier) later before sorted there named are = absurd are
    renewed-rows (name ∷ names) [] later before sorted there named are =
        let same : name ≡ limit = sym are.0.written.named ∙ named in
        let apart : (n : RowName) → Has names n → n ≢ limit = λ n has at. first-apart name n names sorted.0 has (same ∙ sym at) in (
          subst (λ n. IsRowAt other n row) (sym same) is,
          are_rows_of places one other names later (λ n has. alike.same_terms n (there n (inr has)) (apart n has)) (λ n has. alike.says_same n (there n (inr has)) (apart n has)) are.1,
        )
    renewed-rows (name ∷ names) (first ∷ earlier) later before sorted there named are =
        let among = (row-there one names (earlier ++ before ∷ later) before are.1 (Has-append_right earlier (before ∷ later) before (inl refl))).0 in
        let apart : name ≢ limit = first-apart name limit names sorted.0 (subst (Has names) named among) in
        let of_name = there name (inl refl) in (
          is_named_row places one other name first (alike.same_terms name of_name apart) (alike.says_same name of_name apart) are.0,
          renewed-rows names earlier later before sorted.1 (λ n has. there n (inr has)) named are.1,
        )

    -- ---- how many entries they have, and that all numbers fit

    module _ (fits : row_fits places other limit ≡ true) (many : entry_count places one limit ≡ entry_count places other limit) where
      size-kept : (name : RowName) → is_instance one name ≡ true → row_fits places one name ≡ true → (row_fits places other name ≡ true) × (entry_count places one name ≡ entry_count places other name)
      size-kept name =
          at-name (λ n. is_instance one n ≡ true → row_fits places one n ≡ true → (row_fits places other n ≡ true) × (entry_count places one n ≡ entry_count places other n)) limit name
          (λ of_name fitted. (fits, many))
          (λ apart of_name fitted.
          let terms = alike.same_terms name of_name apart in (sym (fits-same places one other name terms) ∙ fitted, count-same places one other name terms))

      sizes-kept : (names : List RowName) → AreInstances names → list_all (row_fits places one) names ≡ true
          → (list_all (row_fits places other) names ≡ true) × (entries_in places one names ≡ entries_in places other names)
      sizes-kept [] there fitted = (refl, refl)
      sizes-kept (name ∷ names) there fitted =
          let parts = and_parts (row_fits places one name) (list_all (row_fits places one) names) fitted in
          let first = size-kept name (there name (inl refl)) parts.0 in
          let rest = sizes-kept names (λ n has. there n (inr has)) parts.1 in (
            both_true first.0 rest.0,
            sum_by-cons (entry_count places one) name names ∙ ap₂ (λ m n. m + n) first.1 rest.1 ∙ sym (sum_by-cons (entry_count places other) name names),
          )

    -- ---- all rows

    pub other-rows : (old new : List Row) → IsReplaced row old new → row_fits places other limit ≡ true → AreRowsOf places one (instances one) old → CanBeMade places one 0 (instances one)
        → AreRowsOf places other (instances other) new × CanBeMade places other 0 (instances other)
    other-rows old new replaced fits are made =
        let before = replaced.before in
        let before_are = subst (AreRowsOf places one (instances one)) replaced.old_is are in
        let named : before.name ≡ limit = replaced.twins.named ∙ is.written.named in
        let there : AreInstances (instances one) = λ name has. (Has-instances one name).0 has in
        let before_is : IsRowAt one limit before =
        subst (λ n. IsRowAt one n before) named
        (row-there one (instances one) (replaced.earlier ++ before ∷ replaced.later) before before_are (Has-append_right replaced.earlier (before ∷ replaced.later) before (inl refl))).1 in
        let many : entry_count places one limit ≡ entry_count places other limit =
        sym (ap length before_is.written.entries) ∙ same-many before.entries.items row.entries.items replaced.twins.variables ∙ ap length is.written.entries in
        let sizes = sizes-kept fits many (instances one) there made.fit in (
          subst (λ names. AreRowsOf places other names new) alike.same_instances
              (subst (AreRowsOf places other (instances one)) (sym replaced.new_is) (renewed-rows (instances one) replaced.earlier replaced.later before (Sorted-instances one) there named before_are)),
          subst (λ names. CanBeMade places other 0 names) alike.same_instances (record { fit = sizes.0; few = subst (λ n. 0 + n ≤ entry_limit) sizes.1 made.few }),
        )
