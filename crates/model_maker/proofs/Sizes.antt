-- How long a made file is at most.
use Rattle.std.proofs.Common.{◌<◌, ◌≤◌, ◌+◌, ◌-◌, ◌*◌, ◌++◌, ℕ, suc, zero, List, [], ◌∷◌, length, codes, arith, lit≤, length-append}
use Rattle.std.specs.List.{flat_map, range_with_len}
use Rattle.std.proofs.Math.Nat.{mul-le-mul_left}
use Rattle.std.proofs.lemmas.Fmt.{length-decimal-le}
use Rattle.model_maker.specs.MadeModel.{Parameter, Value, Growing, Same, parameters}
use Rattle.model_maker.specs.MadeText.{first_sets, last_sets, line, made_text, parameter_text, record_line, record_lines, sets_text, value_text, year_lines, year_member, year_set, year_text, years_from_first}

-- ---- numbers

year_short : (k : ℕ) → k < 1000 → length (year_text k) ≤ 4
year_short k small = length-decimal-le 4 (2020 + k) (lit≤ tt) (omega (arith, small)) (omega (arith, small))

-- the bytes of a value, at most
abbrev value_size : Value → ℕ
value_size Growing = 4
value_size (Same text) = length text

value_short : (k : ℕ) (v : Value) → k < 1000 → length (value_text k v) ≤ value_size v
value_short k Growing small = length-decimal-le 4 (40 + 4 * k) (lit≤ tt) (omega (arith, small)) (omega (arith, small))
value_short k (Same text) small = omega arith

-- ---- records

abbrev record_size : List ℕ × Value → ℕ
record_size r = length r.0 + value_size r.1 + 7

record_short : (k : ℕ) (r : List ℕ × Value) → k < 1000 → length (record_line k r) ≤ record_size r
record_short k r small =
    let year = year_text k in
    let value = value_text k r.1 in
    let a = length-append r.0 (codes " ") in
    let b = length-append (r.0 ++ codes " ") year in
    let c = length-append (r.0 ++ codes " " ++ year) (codes " ") in
    let d = length-append (r.0 ++ codes " " ++ year ++ codes " ") value in
    let e = length-append (r.0 ++ codes " " ++ year ++ codes " " ++ value) (codes "\n") in
    omega (arith, a, b, c, d, e, year_short k small, value_short k r.1 small)

-- of a year
abbrev records_size : List (List ℕ × Value) → ℕ
records_size [] = 0
records_size (r ∷ records) = record_size r + records_size records

records_short : (k : ℕ) (records : List (List ℕ × Value)) → k < 1000 → length (year_lines records k) ≤ records_size records
records_short k [] small = omega arith
records_short k (r ∷ records) small =
    omega (arith, length-append (record_line k r) (year_lines records k), record_short k r small, records_short k records small)

-- so many years of no more bytes each
years_short : (f : ℕ → List ℕ) (b : ℕ) → ((k : ℕ) → k < 1000 → length (f k) ≤ b) → (first count : ℕ) → first + count ≤ 1000
    → length (flat_map f (range_with_len first count)) ≤ b * count
years_short f b short first zero small = omega arith
years_short f b short first (suc count) small =
    let here = short first (omega (arith, small)) in
    let rest = years_short f b short (first + 1) count (omega (arith, small)) in
    omega (arith, length-append (f first) (flat_map f (range_with_len (first + 1) count)), here, rest)

-- ---- parameters

abbrev parameter_size : Parameter → ℕ
parameter_size p = length p.name + length p.default_value + records_size p.records * 120 + 21

parameter_short : (count : ℕ) (p : Parameter) → count ≤ 120 → length (parameter_text count p) ≤ parameter_size p
parameter_short count p few =
    let b = records_size p.records in
    let records = years_short (year_lines p.records) b (λ k small. records_short k p.records small) 0 count (omega (arith, few)) in
    let more : b * count ≤ b * 120 = mul-le-mul_left b few in
    let head = codes "param " ++ p.name in
    let a = length-append (codes "param ") p.name in
    let c = length-append head (codes " default ") in
    let d = length-append (head ++ codes " default ") p.default_value in
    let e = length-append (head ++ codes " default " ++ p.default_value) (codes " :=") in
    let f = length-append (head ++ codes " default " ++ p.default_value ++ codes " :=") (codes "\n") in
    let g = length-append (line (head ++ codes " default " ++ p.default_value ++ codes " :=")) (record_lines count p.records) in
    let h = length-append (line (head ++ codes " default " ++ p.default_value ++ codes " :=") ++ record_lines count p.records) (line (codes ";")) in
    omega (arith, a, c, d, e, f, g, h, records, more)

abbrev parameters_size : List Parameter → ℕ
parameters_size [] = 0
parameters_size (p ∷ ps) = parameter_size p + parameters_size ps

parameters_short : (count : ℕ) (ps : List Parameter) → count ≤ 120 → length (flat_map (parameter_text count) ps) ≤ parameters_size ps
parameters_short count [] few = omega arith
parameters_short count (p ∷ ps) few =
    omega (arith, length-append (parameter_text count p) (flat_map (parameter_text count) ps), parameter_short count p few, parameters_short count ps few)

-- ---- the file

member_short : (k : ℕ) → k < 1000 → length (year_member k) ≤ 5
member_short k small = omega (arith, length-append (codes " ") (year_text k), year_short k small)

sets_short : (count : ℕ) → count ≤ 120 → length (sets_text count) ≤ 1000
sets_short count few =
    let members = flat_map year_member (years_from_first count) in
    let years = years_short year_member 5 member_short 0 count (omega (arith, few)) in
    let a = length-append (codes "set YEAR :=") members in
    let b = length-append (codes "set YEAR :=" ++ members) (codes " ;") in
    let c = length-append (codes "set YEAR :=" ++ members ++ codes " ;") (codes "\n") in
    let d = length-append first_sets (year_set count) in
    let e = length-append (first_sets ++ year_set count) last_sets in
    omega (arith, years, a, b, c, d, e)

pub made_short : (n : ℕ) → 3 ≤ n → n ≤ 122 → length (made_text n) ≤ 100000
made_short n least most =
    let count = n - 2 in
    let few : count ≤ 120 = omega (arith, most) in
    let a = length-append (line (codes "data;")) (sets_text count) in
    let b = length-append (line (codes "data;") ++ sets_text count) (flat_map (parameter_text count) parameters) in
    let c = length-append (line (codes "data;") ++ sets_text count ++ flat_map (parameter_text count) parameters) (line (codes "end;")) in
    let sets = sets_short count few in
    let all = parameters_short count parameters few in
    let size : parameters_size parameters ≤ 98000 = lit≤ tt in
    omega (arith, a, b, c, sets, all, size)
