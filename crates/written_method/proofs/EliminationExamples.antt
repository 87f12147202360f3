-- A small model, eliminated by computation: an activity x, a capacity n, the total capacity t that is n, and the cost c of both.
use Rattle.written_method.proofs.Common.{◌≡◌, ℕ, pos, negsuc, [], ◌∷◌, true, false, refl, gcd_of, gcd_within, whole, lowest, times, Least, Most, Var, RowName, Form, var_cmp, unscaled, is_kept, is_column, cost_variable, cost_form, cost_row, other_entries, expanded}
use Rattle.std.specs.Prelude.{None, Some}

-- the variable of this kind whose first subscript is r
abbrev pub variable : ℕ → ℕ → Var
variable kind r = record { kind = kind; index = record { region = r; other = 0; slice = 0; tech = 0; fuel = 0; emission = 0; mode = 0; year = 0 } }

abbrev pub x : Var
x = variable 1 0

abbrev pub n : Var
n = variable 2 0

abbrev pub t : Var
t = variable 6 0

abbrev pub c : Var
c = variable 37 0

-- t - n = 0, and the same with twice t
abbrev total : Form
total = record { entries = (n, negsuc 0) ∷ (t, pos 1) ∷ []; right = pos 0 }

abbrev twice : Form
twice = record { entries = (n, negsuc 0) ∷ (t, pos 2) ∷ []; right = pos 0 }

-- c - 2x - 6t = 0 becomes c - 2x - 6n = 0
cost_by_capacity : (expanded ((t, total) ∷ []) (unscaled (record { entries = (x, negsuc 1) ∷ (t, negsuc 5) ∷ (c, pos 1) ∷ []; right = pos 0 }))).form
    ≡ record { entries = (x, negsuc 1) ∷ (n, negsuc 5) ∷ (c, pos 1) ∷ []; right = pos 0 }
unfolding gcd_of gcd_within lowest
cost_by_capacity = refl

-- a row in which nothing is defined stays, over the scale 1
stays : expanded ((t, total) ∷ []) (record { form = record { entries = (x, pos 1) ∷ []; right = pos 10 }; scale = Some (whole (pos 1)) }) ≡ record { form = record { entries = (x, pos 1) ∷ []; right = pos 10 }; scale = Some (whole (pos 1)) }
stays = refl

-- x - 3t at most 0 becomes 2x - 3n at most 0 over the scale 2, where 2t - n = 0
over_two : expanded ((t, twice) ∷ []) (record { form = record { entries = (x, pos 1) ∷ (t, negsuc 2) ∷ []; right = pos 0 }; scale = Some (whole (pos 1)) })
    ≡ record { form = record { entries = (x, pos 2) ∷ (n, negsuc 2) ∷ []; right = pos 0 }; scale = Some (whole (pos 2)) }
unfolding gcd_of gcd_within lowest times
over_two = refl

-- the cost z less c is 0, with c - 2x - 6n = 0, becomes z - 2x - 6n = 0
abbrev of_cost : Form
of_cost = record { entries = (x, negsuc 1) ∷ (n, negsuc 5) ∷ (c, pos 1) ∷ []; right = pos 0 }

cost_at_first : cost_form (None ∷ Some t ∷ Some c ∷ []) ≡ record { entries = (cost_variable, pos 1) ∷ (c, negsuc 0) ∷ []; right = pos 0 }
cost_at_first = refl

cost_is : cost_row ((c, of_cost) ∷ (t, total) ∷ []) (None ∷ Some t ∷ Some c ∷ []) ≡ record { entries = (cost_variable, pos 1) ∷ (x, negsuc 1) ∷ (n, negsuc 5) ∷ []; right = pos 0 }
unfolding gcd_of gcd_within lowest
cost_is = refl

cost_apart : other_entries var_cmp cost_variable ((cost_variable, pos 1) ∷ (x, negsuc 1) ∷ (n, negsuc 5) ∷ []) ≡ (x, negsuc 1) ∷ (n, negsuc 5) ∷ []
cost_apart = refl

-- costs that are given in any order are taken in their order, each once
in_order : cost_form (Some (variable 37 1) ∷ Some c ∷ Some (variable 37 1) ∷ []) ≡ record { entries = (cost_variable, pos 1) ∷ (c, negsuc 0) ∷ (variable 37 1, negsuc 0) ∷ []; right = pos 0 }
in_order = refl

-- ---- rows without entries

abbrev name : RowName
name = record { eq = 11; index = x.index }

-- 0 at least 10 is kept, and 0 at most 10 is dropped
false_of_zero : is_kept (record { name = name; sense = Least; scaled = unscaled (record { entries = []; right = pos 10 }) }) ≡ true
false_of_zero = refl

true_of_zero : is_kept (record { name = name; sense = Most; scaled = unscaled (record { entries = []; right = pos 10 }) }) ≡ false
true_of_zero = refl

-- a row with entries is kept, whatever it says of 0
has_some : is_kept (record { name = name; sense = Most; scaled = unscaled (record { entries = (x, pos 1) ∷ []; right = pos 10 }) }) ≡ true
has_some = refl

-- ---- columns

abbrev trade : ℕ → ℕ → Var
trade r rr = record { kind = 3; index = record { region = r; other = rr; slice = 0; tech = 0; fuel = 0; emission = 0; mode = 0; year = 0 } }

one_way : is_column (trade 0 1) ≡ true
one_way = refl

-- the same the other way round, and within a region, is defined
other_way : is_column (trade 1 0) ≡ false
other_way = refl

within : is_column (trade 1 1) ≡ false
within = refl

not_chosen : is_column t ≡ false
not_chosen = refl
