-- The definitions, computed: each with a near miss.
use Rattle.row_problem.proofs.Common.{◌≡◌, ℕ, pos, negsuc, false, List, [], ◌∷◌, refl, sym, ap, inl, inr, arith, Vec, ℤ, Some, None, Row, RowName, Equal, Most, Var, ACCUMULATED_NEW_CAPACITY, RATE_OF_ACTIVITY, TOTAL_CAPACITY_ANNUAL, Contains-from_Has, Has-from_Contains, cost_variable, is_column, LinearProgram, made_row, Model, One, Least, Greatest, IsProblem, aim_entries, program_left, MayAim}

-- the variable of this kind at the first members
abbrev of_kind : ℕ → Var
of_kind kind = record { kind = kind; index = record { region = 0; other = 0; slice = 0; tech = 0; fuel = 0; emission = 0; mode = 0; year = 0 } }

abbrev named : ℕ → RowName
named eq = record { eq = eq; index = (of_kind 0).index }

abbrev activity : Var
activity = of_kind RATE_OF_ACTIVITY

abbrev built : Var
built = of_kind ACCUMULATED_NEW_CAPACITY

abbrev total : Var
total = of_kind TOTAL_CAPACITY_ANNUAL

-- ---- another cost

-- z less the value, and less the value turned
least_entries : aim_entries (One activity Least) ≡ (activity, negsuc 0) ∷ []
least_entries = refl

greatest_entries : aim_entries (One activity Greatest) ≡ (activity, pos 1) ∷ []
greatest_entries = refl

-- without rows: the columns are those of the variables that a plan chooses
left_of_nothing : program_left [] [] (activity ∷ total ∷ []) (One activity Least)
    ≡ (let p : LinearProgram = record { rows = []; columns = activity ∷ []; cost = (activity, negsuc 0) ∷ []; cost_right = pos 0; cost_own = pos 1 } in p)
unfolding program_left
left_of_nothing = refl

-- only a column's value may take the place of another cost
may_aim : MayAim (activity ∷ []) (One activity Greatest)
may_aim = Contains-from_Has (activity ∷ []) activity (inl refl)

may_not : ¬ (MayAim (activity ∷ []) (One total Greatest))
may_not h = elim (Has-from_Contains (activity ∷ []) total h) [ inl e ↦ let kinds : RATE_OF_ACTIVITY ≡ TOTAL_CAPACITY_ANNUAL = ap (λ (w : Var). w.kind) e in absurd (omega (arith, kinds)) | inr k ↦ k ]

may_not_model : ¬ (MayAim (activity ∷ []) Model)
may_not_model h = h

-- ---- problems

-- an activity that nothing is said of
alone : IsProblem [] [] (activity ∷ [])
alone = record {
  same = refl;
  named = refl;
  ascending = refl;
  listed = λ v h. absurd (Has-from_Contains [] v h);
  known = λ v h. elim (Has-from_Contains (activity ∷ []) v h) [ inl e ↦ inr (ap is_column (sym e)) | inr k ↦ absurd k ];
  apart = λ v h. absurd (cc h);
  triangular = tt;
  plain = tt;
  signs = tt;
  repeated = λ row h. absurd (Has-from_Contains [] row h);
}

-- a plan doesn't choose the total capacity, and nothing defines it
not_known : ¬ (IsProblem [] [] (total ∷ []))
not_known h = elim (h.known total (Contains-from_Has (total ∷ []) total (inl refl))) [ inl e ↦ cc e | inr e ↦ cc e ]

-- the variables don't ascend
not_ascending : ¬ (IsProblem [] [] (built ∷ activity ∷ []))
not_ascending h = cc h.ascending

module _ (v : Vec (Var × ℤ)) where
  abbrev rows : List Row
  rows = made_row v (named 1) Equal ((activity, pos 1) ∷ []) (pos 0) refl ∷ []

  -- the row has an entry at a variable that isn't listed
  not_listed : ¬ (IsProblem rows (None ∷ []) [])
  not_listed h = Has-from_Contains [] activity (h.listed activity (Contains-from_Has (activity ∷ []) activity (inl refl)))

  -- it defines a variable that a plan chooses
  not_apart : ¬ (IsProblem rows (Some activity ∷ []) (activity ∷ []))
  not_apart h = let chosen : is_column activity ≡ false = h.apart activity refl in cc chosen

  -- it says that the activity is 0, which no definition says
  not_repeated : ¬ (IsProblem rows (None ∷ []) (activity ∷ []))
  not_repeated h = Has-from_Contains [] _ ((h.repeated _ (Contains-from_Has rows _ (inl refl)) refl).among)

  -- the names of the rows don't ascend
  not_named : ¬ (IsProblem (made_row v (named 1) Most ((activity, pos 1) ∷ []) (pos 0) refl ∷ rows) (None ∷ None ∷ []) (activity ∷ []))
  not_named h = cc h.named

  -- what defines is no equation; and it has an entry at a variable that is defined later
  not_equal : ¬ (IsProblem (made_row v (named 1) Most ((total, pos 1) ∷ []) (pos 0) refl ∷ []) (Some total ∷ []) (total ∷ []))
  not_equal h = cc h.triangular.0.equal

  not_triangular : ¬ (IsProblem (made_row v (named 1) Equal ((built, negsuc 0) ∷ (total, pos 1) ∷ []) (pos 0) refl ∷ made_row v (named 2) Equal ((built, pos 1) ∷ []) (pos 0) refl ∷ []) (Some total ∷ Some built ∷ []) (built ∷ total ∷ []))
  not_triangular h = cc h.triangular.1

  -- what defines has an entry at the variable that stands for the cost
  not_plain : ¬ (IsProblem (made_row v (named 1) Equal ((cost_variable, pos 1) ∷ (total, pos 1) ∷ []) (pos 0) refl ∷ []) (Some total ∷ []) (total ∷ []))
  not_plain h = cc h.plain.0

  -- what is defined may be below 0, where the activity is above it
  not_signed : ¬ (IsProblem (made_row v (named 1) Equal ((activity, pos 1) ∷ (total, pos 1) ∷ []) (pos 0) refl ∷ []) (Some total ∷ []) (activity ∷ total ∷ []))
  not_signed h = cc (h.signs.0 refl).0

  -- what it defines isn't told
  not_same : ¬ (IsProblem rows [] (activity ∷ []))
  not_same h = cc h.same
