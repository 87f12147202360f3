-- A table of prices forgets no row: each inequality that is neither capacity adequacy nor the balance of a fuel has a kind of variables that it
-- limits, each balance of a fuel one that it asks for, and a row whose multiplier isn't 0 is shown with the variable of the kind.
use Rattle.std.proofs.Common.{◌≡◌, ◌≢◌, ℕ, ◌+◌, ◌<◌, ◌≤◌, ℤ, pos, Bool, true, false, ◌&&◌, ◌||◌, List, [], ◌∷◌, Contains, Option, Some, None, refl, sym, subst, ap, ◌∙◌, arith, inl, inr, nat_eq, if◌then◌else◌}
use Rattle.std.specs.Prelude.{is_some}
use Rattle.std.specs.List.{list_any, range_with_len}
use Rattle.std.proofs.lemmas.Bool.{and_parts}
use Rattle.exact_num.specs.Rational.{Rational}
use Rattle.model_sets.specs.Data.{Data}
use Rattle.row_core.specs.declared.Index.{Index}
use Rattle.row_core.specs.declared.Row.{Row}
use Rattle.row_core.specs.declared.RowName.{RowName}
use Rattle.row_core.specs.declared.Sense.TheVariants.{Equal}
use Rattle.row_core.specs.declared.Var.{Var}
use Rattle.row_core.specs.declared.equation_numbers.TheConstants.{EBA11, EBB4}
use Rattle.row_core.specs.declared.kind_numbers.TheConstants.{PRODUCTION, PRODUCTION_ANNUAL}
use Rattle.row_core.specs.Order.{row_name_cmp}
use Rattle.row_core.specs.Plans.{value_in}
use Rattle.row_core.proofs.DivisionLaws.{nonzero-test}
use Rattle.row_core.proofs.Members.{Contains-from_Has, Has, Has-flat_map, Has-from_Contains}
use Rattle.row_core.specs.Statements.{Statement}
use Rattle.named_equations.specs.CapitalCosts.{paid_at_once, recovered}
use Rattle.named_equations.specs.Instances.{equation_of, is_index, stands_at, subscripts_of}
use Rattle.named_equations.proofs.TermMeaning.{EachFrom, at_number}
use Rattle.price_tables.specs.declared.shown.PriceTable.{PriceTable}
use Rattle.price_tables.specs.declared.shown.PriceTable.TheVariants.{Fuels, Limits}
use Rattle.price_tables.specs.PricedRows.{fuel_kind, limited_kind, priced_kind, priced_row, priced_rows, priced_variable, with_variable}
use Rattle.plan_quantities.specs.ShownRows.{IsLimit, IsToBeShown, asks_for_capacity, balances_fuel}
use Rattle.row_book.proofs.Numbers.{in-range}

-- ---- kinds

-- an inequality of this number, at this index, that is neither of the two limits a kind
abbrev IsLimiting : ℕ → Data → Index → ℕ → Type 0
IsLimiting places d i n =
    asks_for_capacity n ≡ false → balances_fuel n ≡ false → ((equation_of n).says places d 1 (λ v. pos 0) i).sign ≢ Equal → is_some (limited_kind n) ≡ true

-- an equation either way
either_way : (b : Bool) (s t : Statement) → s.sign ≡ Equal → t.sign ≡ Equal → (if b then s else t).sign ≡ Equal
either_way true s t h k = h
either_way false s t h k = k

each_limiting : (places : ℕ) (d : Data) (i : Index) → EachFrom (IsLimiting places d i) 1 64
each_limiting places d i =
    (λ a b h. absurd (h refl), (λ a b h. absurd (h refl), (λ a b h. absurd (h refl), (λ a b h. absurd (h refl), (λ a b h. cc, (λ a b h. cc, (λ a b h. absurd (h refl), (λ a b h. absurd (h refl), (λ a b h. absurd (h refl), (λ a b h. absurd (h refl), (λ a b h. absurd (h refl), (λ a b h. absurd (h refl), (λ a b h. absurd (h refl), (λ a b h. absurd (h refl), (λ a b h. absurd (h refl), (λ a b h. absurd (h refl), (λ a b h. cc, (λ a b h. absurd (h refl), (λ a b h. absurd (h refl), (λ a b h. absurd (h refl), (λ a b h. cc, (λ a b h. absurd (h refl), (λ a b h. absurd (h refl), (λ a b h. absurd (h refl), (λ a b h. absurd (h (either_way d.second (recovered places d (λ v. pos 0) i.region i.tech i.year) (paid_at_once d (λ v. pos 0) i.region i.tech i.year) refl refl)), (λ a b h. absurd (h refl), (λ a b h. absurd (h refl), (λ a b h. absurd (h refl), (λ a b h. absurd (h refl), (λ a b h. absurd (h refl), (λ a b h. absurd (h refl), (λ a b h. absurd (h refl), (λ a b h. absurd (h refl), (λ a b h. absurd (h refl), (λ a b h. absurd (h refl), (λ a b h. absurd (h refl), (λ a b h. absurd (h refl), (λ a b h. absurd (h refl), (λ a b h. absurd (h refl), (λ a b h. absurd (h refl), (λ a b h. absurd (h refl), (λ a b h. absurd (h refl), (λ a b h. refl, (λ a b h. refl, (λ a b h. refl, (λ a b h. refl, (λ a b h. absurd (h refl), (λ a b h. refl, (λ a b h. refl, (λ a b h. absurd (h refl), (λ a b h. refl, (λ a b h. refl, (λ a b h. absurd (h refl), (λ a b h. absurd (h refl), (λ a b h. refl, (λ a b h. absurd (h refl), (λ a b h. absurd (h refl), (λ a b h. absurd (h refl), (λ a b h. refl, (λ a b h. absurd (h refl), (λ a b h. absurd (h refl), (λ a b h. absurd (h refl), (λ a b h. refl, (λ a b h. refl, tt))))))))))))))))))))))))))))))))))))))))))))))))))))))))))))))))

limited : (places : ℕ) (d : Data) (name : RowName) → IsLimit places d name → is_some (limited_kind name.eq) ≡ true
limited places d name limit =
    let number : Bool = list_any (nat_eq name.eq) (range_with_len 1 64) in
    let inside : Bool = is_index d (subscripts_of name.eq) name.index in
    let parts = and_parts (number && inside) (stands_at d name.eq name.index) limit.stands in
    let range = in-range name.eq 1 64 (and_parts number inside parts.0).0 in
    at_number (IsLimiting places d name.index) 1 64 name.eq (each_limiting places d name.index) range.0 range.1 limit.no_adequacy limit.no_balance (limit.unequal 1 (λ v. pos 0))

balanced : (eq : ℕ) → balances_fuel eq ≡ true → is_some (fuel_kind eq) ≡ true
balanced eq is = by_first (nat_eq eq EBA11) (nat_eq eq EBB4) is
  where
    by_first : (first second : Bool) → (first || second) ≡ true → is_some {T = ℕ} (if first then Some PRODUCTION else if second then Some PRODUCTION_ANNUAL else None) ≡ true
    by_first true second h = refl
    by_first false true h = refl
    by_first false false h = cc

-- ---- rows

shown : (multipliers : List (RowName × Rational)) (row : Row) (kind : Option ℕ) → is_some kind ≡ true → (value_in row_name_cmp multipliers row.name).top ≢ pos 0
    → (p : Var) × Has (with_variable multipliers row kind) (row, p)
shown multipliers row None is nonzero = absurd (cc is)
shown multipliers row (Some kind) is nonzero =
    let p : Var = priced_variable kind row.name.index in
    let alone : List (Row × Var) = (row, p) ∷ [] in
    (p, subst (λ b. Has (if b then [] else alone) (row, p)) (sym (nonzero-test (value_in row_name_cmp multipliers row.name).top nonzero)) (inl refl))

shown-among : (table : PriceTable) (multipliers : List (RowName × Rational)) (rows : List Row) (row : Row) → is_some (priced_kind table row.name.eq) ≡ true → Contains rows row
    → (value_in row_name_cmp multipliers row.name).top ≢ pos 0 → (p : Var) × Contains (priced_rows table multipliers rows) (row, p)
shown-among table multipliers rows row is given nonzero =
    let one = shown multipliers row (priced_kind table row.name.eq) is nonzero in
    (one.0, Contains-from_Has (priced_rows table multipliers rows) (row, one.0) (Has-flat_map (priced_row table multipliers) rows row (row, one.0) (Has-from_Contains rows row given) one.1))

pub row-shown : (places : ℕ) (d : Data) (table : PriceTable) (multipliers : List (RowName × Rational)) (rows : List Row) (row : Row) → IsToBeShown places d table row.name → Contains rows row
    → (value_in row_name_cmp multipliers row.name).top ≢ pos 0 → (p : Var) × Contains (priced_rows table multipliers rows) (row, p)
row-shown places d Limits multipliers rows row limit = shown-among Limits multipliers rows row (limited places d row.name limit)
row-shown places d Fuels multipliers rows row balance = shown-among Fuels multipliers rows row (balanced row.name.eq balance)
