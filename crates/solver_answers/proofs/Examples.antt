-- The definitions, computed on short answers over three columns and two rows, and on near misses.
use Rattle.solver_answers.proofs.Common.{◌≡◌, pos, negsuc, true, false, [], ◌∷◌, None, Some, refl, Float, fin, float_is_finite, float_zero, codes, count_by, Value, Passed, Blank, form_of, text_tells, number_in, place_in, whole_in, Breaks, Lacks, Gives, is_value, last_value, words}
use Rattle.std.proofs.lemmas.Float.Parse.{parse_float_on_literals}
use Rattle.solver_answers.specs.declared.form.Form.TheVariants.{Coin, Glpsol, Highs}

abbrev ten : Float
ten = fin false 5 (pos 1)

abbrev minus_two_and_a_half : Float
minus_two_and_a_half = fin true 5 (negsuc 0)

-- ---- words, numbers and forms

words_of_a_line : words (codes " **\t0 C1 10 \r") ≡ codes "**" ∷ codes "0" ∷ codes "C1" ∷ codes "10" ∷ []
unfolding words
words_of_a_line = refl

a_number : number_in (codes "-2.5") ≡ Some minus_two_and_a_half
unfolding number_in parse_float_on_literals float_is_finite
a_number = refl

no_number : number_in (codes "nan") ≡ None
unfolding number_in parse_float_on_literals float_is_finite
no_number = refl

not_finite : number_in (codes "-inf") ≡ None
unfolding number_in parse_float_on_literals float_is_finite
not_finite = refl

last_place : place_in 3 (codes "3") ≡ Some 2
unfolding whole_in
last_place = refl

no_place : place_in 3 (codes "4") ≡ None
unfolding whole_in
no_place = refl

no_zeroth_place : place_in 3 (codes "0") ≡ None
unfolding whole_in
no_zeroth_place = refl

-- whole numbers end below 2^64
greatest_whole : whole_in (codes "18446744073709551615") ≡ Some 18446744073709551615
unfolding whole_in
greatest_whole = refl

no_such_whole : whole_in (codes "18446744073709551616") ≡ None
unfolding whole_in
no_such_whole = refl

forms : form_of (codes "Optimal" ∷ []) ≡ Some Coin
forms = refl

other_forms : form_of (codes "c" ∷ codes "Problem:" ∷ []) ≡ Some Glpsol
other_forms = refl

no_form : form_of (codes "NAME,REGION,REGION2" ∷ []) ≡ None
no_form = refl

form_of_highs : form_of (codes "Model" ∷ codes "status" ∷ []) ≡ Some Highs
form_of_highs = refl

form_of_stopped : form_of (codes "Stopped" ∷ codes "on" ∷ codes "time" ∷ []) ≡ Some Coin
form_of_stopped = refl

form_of_integer : form_of (codes "Integer" ∷ codes "infeasible" ∷ []) ≡ Some Coin
form_of_integer = refl

form_of_status : form_of (codes "Status" ∷ codes "unknown" ∷ []) ≡ Some Coin
form_of_status = refl

form_of_solution : form_of (codes "s" ∷ codes "bas" ∷ []) ≡ Some Glpsol
form_of_solution = refl

-- ---- Clp and CBC

coin_text : text_tells Coin 3 2 (codes "Optimal - objective value              80\n      0 R1         10            8\n**       0 C1      10            0\r\n      2 C3    -2.5          0\n") ≡ Gives (Blank ∷ Passed ∷ Value 0 ten ∷ Value 2 minus_two_and_a_half ∷ [])
unfolding words number_in whole_in parse_float_on_literals float_is_finite
coin_text = refl

coin_without_plan : text_tells Coin 3 2 (codes "Infeasible - objective value 105\n      0 R1         nan            8\n") ≡ Lacks
unfolding words number_in whole_in parse_float_on_literals float_is_finite
coin_without_plan = refl

coin_of_more_columns : text_tells Coin 3 2 (codes "optimal\nObjective value 80\n 0 C4 10 0\n") ≡ Breaks 3
unfolding words number_in whole_in parse_float_on_literals float_is_finite
coin_of_more_columns = refl

-- a combination of rows, of the smaller program, and a row that the model lacks
coin_of_sums : text_tells Coin 3 2 (codes "optimal\n 0 M7 10 0\n 1 R3 10 0\n") ≡ Breaks 3
unfolding words number_in whole_in parse_float_on_literals float_is_finite
coin_of_sums = refl

-- a search that was stopped may have values of a plan; what is no plan has none
coin_stopped : text_tells Coin 3 2 (codes "Stopped on time - objective value 80\n 0 C1 10 0\n") ≡ Gives (Blank ∷ Value 0 ten ∷ [])
unfolding words number_in whole_in parse_float_on_literals float_is_finite
coin_stopped = refl

coin_of_integers : text_tells Coin 3 2 (codes "Integer infeasible - objective value 80\n 0 C1 10 0\n") ≡ Lacks
unfolding words number_in whole_in parse_float_on_literals float_is_finite
coin_of_integers = refl

coin_of_unknown_status : text_tells Coin 3 2 (codes "Status unknown\n 0 C1 10 0\n") ≡ Lacks
unfolding words number_in whole_in parse_float_on_literals float_is_finite
coin_of_unknown_status = refl

coin_unbounded : text_tells Coin 3 2 (codes "Unbounded - objective value 80\n 0 C1 10 0\n") ≡ Lacks
unfolding words number_in whole_in parse_float_on_literals float_is_finite
coin_unbounded = refl

-- ---- glpsol

glpsol_text : text_tells Glpsol 3 2 (codes "c Status: OPTIMAL\ns bas 2 3 f f 80\ni 1 s 10 8\nj 1 b 10 0\nj 3 b -2.5 0\ne o f\n?\n") ≡ Gives (Blank ∷ Blank ∷ Passed ∷ Value 0 ten ∷ Value 2 minus_two_and_a_half ∷ [])
unfolding words number_in whole_in parse_float_on_literals float_is_finite
glpsol_text = refl

interior_text : text_tells Glpsol 3 2 (codes "s ipt 2 3 o 80\nj 1 10 0\ne o f") ≡ Gives (Blank ∷ Value 0 ten ∷ [])
unfolding words number_in whole_in parse_float_on_literals float_is_finite
interior_text = refl

glpsol_without_plan : text_tells Glpsol 3 2 (codes "s bas 2 3 u u 0\n") ≡ Lacks
unfolding words number_in whole_in parse_float_on_literals float_is_finite
glpsol_without_plan = refl

-- of the smaller program, which has other rows
glpsol_of_fewer_rows : text_tells Glpsol 3 2 (codes "s bas 1 3 f f 80\ni 1 s 10 8\nj 1 b 10 0\ne o f\n") ≡ Gives (Blank ∷ Passed ∷ Value 0 ten ∷ [])
unfolding words number_in whole_in parse_float_on_literals float_is_finite
glpsol_of_fewer_rows = refl

glpsol_of_more_columns : text_tells Glpsol 3 2 (codes "c\ns bas 2 4 f f 80\n") ≡ Breaks 2
unfolding words number_in whole_in parse_float_on_literals float_is_finite
glpsol_of_more_columns = refl

glpsol_cut_off : text_tells Glpsol 3 2 (codes "s bas 2 3 f f 80\nj 1 b 10 0\n") ≡ Breaks 3
unfolding words number_in whole_in parse_float_on_literals float_is_finite
glpsol_cut_off = refl

-- ---- HiGHS

highs_text : text_tells Highs 3 2 (codes "Model status\nOptimal\n\n# Primal solution values\nFeasible\nObjective 80\n# Columns 3\nC1 10\nC3 -2.5\n# Rows 2\nR1 10\n\n# Dual solution values\nFeasible\n") ≡ Gives (Blank ∷ Blank ∷ Blank ∷ Blank ∷ Blank ∷ Blank ∷ Blank ∷ Value 0 ten ∷ Value 2 minus_two_and_a_half ∷ Blank ∷ Passed ∷ Blank ∷ [])
unfolding words number_in whole_in parse_float_on_literals float_is_finite
highs_text = refl

highs_without_plan : text_tells Highs 3 2 (codes "Model status\nInfeasible\n") ≡ Lacks
unfolding words number_in whole_in parse_float_on_literals float_is_finite
highs_without_plan = refl

highs_without_values : text_tells Highs 3 2 (codes "Model status\nTime limit reached\n\n# Primal solution values\nNone\n") ≡ Lacks
unfolding words number_in whole_in parse_float_on_literals float_is_finite
highs_without_values = refl

highs_unbounded : text_tells Highs 3 2 (codes "Model status\nUnbounded\n") ≡ Lacks
unfolding words number_in whole_in parse_float_on_literals float_is_finite
highs_unbounded = refl

highs_of_neither : text_tells Highs 3 2 (codes "Model status\nPrimal infeasible or unbounded\n") ≡ Lacks
unfolding words number_in whole_in parse_float_on_literals float_is_finite
highs_of_neither = refl

-- values of no plan are taken all the same
highs_stopped : text_tells Highs 3 2 (codes "Model status\nTime limit reached\n\n# Primal solution values\nInfeasible\nObjective 80\n# Columns 3\nC1 10\n# Rows 1\nM4 10\n# Dual solution values\n") ≡ Gives (Blank ∷ Blank ∷ Blank ∷ Blank ∷ Blank ∷ Blank ∷ Blank ∷ Value 0 ten ∷ Blank ∷ Passed ∷ [])
unfolding words number_in whole_in parse_float_on_literals float_is_finite
highs_stopped = refl

highs_of_more_columns : text_tells Highs 3 2 (codes "Model status\nOptimal\n# Columns 4\n") ≡ Breaks 3
unfolding words number_in whole_in parse_float_on_literals float_is_finite
highs_of_more_columns = refl

highs_without_row_count : text_tells Highs 3 2 (codes "Model status\nOptimal\n# Rows many\n") ≡ Breaks 3
unfolding words number_in whole_in parse_float_on_literals float_is_finite
highs_without_row_count = refl

highs_of_another_part : text_tells Highs 3 2 (codes "Model status\nOptimal\n# Basis\n") ≡ Breaks 3
unfolding words number_in whole_in parse_float_on_literals float_is_finite
highs_of_another_part = refl

highs_value_and_more : text_tells Highs 3 2 (codes "Model status\nOptimal\nC1 10 0\n") ≡ Breaks 3
unfolding words number_in whole_in parse_float_on_literals float_is_finite
highs_value_and_more = refl

highs_cut_off : text_tells Highs 3 2 (codes "Model status\nOptimal\nC1 10\n") ≡ Breaks 4
unfolding words number_in whole_in parse_float_on_literals float_is_finite
highs_cut_off = refl

-- ---- values

last_one_counts : last_value 1 (Value 1 float_zero ∷ Value 0 float_zero ∷ Value 1 ten ∷ Passed ∷ []) ≡ Some ten
last_one_counts = refl

each_counts : count_by is_value (Value 1 float_zero ∷ Value 0 float_zero ∷ Value 1 ten ∷ Passed ∷ []) ≡ 3
each_counts = refl
