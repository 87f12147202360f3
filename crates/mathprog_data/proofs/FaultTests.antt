-- The number of the fault with which the machine stops, by what else could stand there.
use Rattle.mathprog_data.proofs.Common.{◌≡◌, ℕ, pos, Bool, true, false, not, List, [], ◌∷◌, codes, Option, Some, None, refl, nat_eq, is_none, Mark, unknown_name, wrong_slice, row_too_short, bad_number, tabbing, Seen, SignSeen, SymbolSeen, Open, Fresh, DataRead, Between, EndRead, Ended, SetRead, InSet, ParamRead, ParamNamed, DefaultRead, LeadingDefault, LeadingNumber, TabbingColon, TabbingNamed, InRecords, InPlain, PlaceDue, PlaceRead, ParenRead, TrRead, TrClosed, InColumns, InRows, InRow, Turn, Stop, Go, Emit, turn, set_name, param_name, tabbing_name, set_number, param_number, subscript_count, Listed, Number}
use Rattle.std.specs.Prelude.{◌&&◌, ◌||◌}
use Rattle.mathprog_data.specs.declared.lexeme.Sign.TheVariants as signs
use Rattle.mathprog_data.specs.declared.words.Word.TheVariants as words

-- ---- what else could stand there
-- the turn isn't a stop
abbrev pub goes_on : Turn → Bool
goes_on (Stop fault) = false
goes_on (Go next) = true
goes_on (Emit event next) = true

abbrev pub on : Open → Seen → Mark → Bool
on s x at = goes_on (turn s x at)

-- the symbols that are tried: a number, one that is none, `.`, the name of a set, and that of a parameter
abbrev pub zero_seen : Seen
zero_seen = SymbolSeen words.Other (codes "0") (Some (pos 0, false))

abbrev pub x_seen : Seen
x_seen = SymbolSeen words.Other (codes "x") None

abbrev pub point_seen : Seen
point_seen = SymbolSeen words.Point (codes ".") None

abbrev pub set_seen : Seen
set_seen = SymbolSeen words.Other (codes "REGION") None

abbrev pub param_seen : Seen
param_seen = SymbolSeen words.Other (codes "YearSplit") None

-- after a comma `*` could stand
abbrev pub star_after : Turn → Mark → Bool
star_after (Stop fault) at = false
star_after (Go next) at = on next (SignSeen signs.Star) at
star_after (Emit event next) at = on next (SignSeen signs.Star) at

-- the state is inside the records of an ordinary statement of a parameter without subscripts
abbrev pub lacks : Open → Bool
lacks (ParamNamed param c) = nat_eq (subscript_count param) 0
lacks (DefaultRead param) = nat_eq (subscript_count param) 0
lacks (InRecords Listed param slice c) = nat_eq (subscript_count param) 0
lacks (InPlain Listed param slice names mark left c) = nat_eq (subscript_count param) 0
lacks (PlaceDue param places left) = nat_eq (subscript_count param) 0
lacks (PlaceRead param places left) = nat_eq (subscript_count param) 0
lacks (ParenRead param slice) = nat_eq (subscript_count param) 0
lacks (TrRead param slice) = nat_eq (subscript_count param) 0
lacks (TrClosed param slice) = nat_eq (subscript_count param) 0
lacks (InColumns param slice transposed columns c) = nat_eq (subscript_count param) 0
lacks (InRows param slice transposed columns c) = nat_eq (subscript_count param) 0
lacks (InRow param slice transposed columns row mark left c) = nat_eq (subscript_count param) 0
lacks s = false

-- ---- the tests of the faults
abbrev pub unknown_test : Open → Seen → Mark → Bool
unknown_test s (SymbolSeen w name n) at = (on s set_seen at || on s param_seen at) && (is_none (set_number name) && is_none (param_number name))
unknown_test s x at = false

-- where a record may begin, for a parameter without subscripts
abbrev pub bare_record : Open → Mark → Bool
bare_record s at = on s (SignSeen signs.Gives) at && lacks s

abbrev pub wrong_test : Open → Seen → Mark → Bool
wrong_test s (SignSeen signs.Comma) at = on s (SignSeen signs.CloseBracket) at
wrong_test s (SignSeen signs.CloseBracket) at = on s (SignSeen signs.Star) at || star_after (turn s (SignSeen signs.Comma) at) at
wrong_test s (SignSeen signs.OpenBracket) at = bare_record s at
wrong_test s (SignSeen signs.Colon) at = on s (SignSeen signs.OpenBracket) at || bare_record s at
wrong_test s (SignSeen signs.OpenParen) at = on s (SignSeen signs.OpenBracket) at || bare_record s at
wrong_test s x at = false

-- a value of a row is due
abbrev pub cell_due : Open → Mark → Bool
cell_due s at = on s point_seen at && not (on s x_seen at)

abbrev pub short_test : Open → Seen → Mark → Bool
short_test s (SignSeen signs.Semicolon) at = cell_due s at
short_test s (SignSeen signs.OpenBracket) at = cell_due s at
short_test s (SignSeen signs.Colon) at = cell_due s at
short_test s (SignSeen signs.OpenParen) at = cell_due s at
short_test s x at = false

abbrev pub bad_test : Open → Seen → Mark → Bool
bad_test s (SymbolSeen w name n) at = on s zero_seen at
bad_test s x at = false

-- `:=` alone is due
abbrev pub gives_due : Open → Mark → Bool
gives_due s at = on s (SignSeen signs.Gives) at && not (on s zero_seen at)

abbrev pub tabbing_test : Open → Seen → Mark → Bool
tabbing_test s (SymbolSeen w name n) at = gives_due s at
tabbing_test s (SignSeen signs.Colon) at = gives_due s at
tabbing_test s x at = false

abbrev pub tests : Open → Seen → Mark → List Bool
tests s x at = unknown_test s x at ∷ wrong_test s x at ∷ short_test s x at ∷ bad_test s x at ∷ tabbing_test s x at ∷ []

-- which test holds at a fault
abbrev pub expected : ℕ → List Bool
expected n = nat_eq n unknown_name ∷ nat_eq n wrong_slice ∷ nat_eq n row_too_short ∷ nat_eq n bad_number ∷ nat_eq n tabbing ∷ []

-- where the machine stops, the test of that fault holds and no other
abbrev pub Agrees : Turn → List Bool → Type 0
Agrees (Stop fault) found = found ≡ expected fault
Agrees (Go next) found = Unit {0}
Agrees (Emit event next) found = Unit {0}

abbrev pub Agreed : Open → Seen → Mark → Type 0
Agreed s x at = Agrees (turn s x at) (tests s x at)

-- ---- the words round the statements
pub fresh-agreed : (x : Seen) (at : Mark) → Agreed Fresh x at
fresh-agreed (SignSeen signs.Comma) at = refl
fresh-agreed (SymbolSeen words.Data name n) at = tt
fresh-agreed (SymbolSeen words.Set name n) at = tt
fresh-agreed (SymbolSeen words.Param name n) at = tt
fresh-agreed (SymbolSeen words.End name n) at = tt
fresh-agreed x at = refl

pub between-agreed : (x : Seen) (at : Mark) → Agreed Between x at
between-agreed (SignSeen signs.Comma) at = refl
between-agreed (SymbolSeen words.Set name n) at = tt
between-agreed (SymbolSeen words.Param name n) at = tt
between-agreed (SymbolSeen words.End name n) at = tt
between-agreed x at = refl

pub data-agreed : (x : Seen) (at : Mark) → Agreed DataRead x at
data-agreed (SignSeen signs.Semicolon) at = tt
data-agreed x at = refl

pub end-agreed : (x : Seen) (at : Mark) → Agreed EndRead x at
end-agreed (SignSeen signs.Semicolon) at = tt
end-agreed x at = refl

pub ended-agreed : (x : Seen) (at : Mark) → Agreed Ended x at
ended-agreed (SignSeen signs.Semicolon) at = refl
ended-agreed x at = refl

-- ---- sets
-- a name where that of a set is due
set_name-agreed : (set param : Option ℕ) → Agrees (set_name set param) ((is_none set && is_none param) ∷ false ∷ false ∷ false ∷ false ∷ [])
set_name-agreed (Some n) param = tt
set_name-agreed None (Some n) = refl
set_name-agreed None None = refl

pub set_read-agreed : (x : Seen) (at : Mark) → Agreed SetRead x at
set_read-agreed (SignSeen signs.Comma) at = refl
set_read-agreed (SymbolSeen w name n) at = set_name-agreed (set_number name) (param_number name)
set_read-agreed x at = refl

pub in_set-agreed : (set : ℕ) (c : Bool) (x : Seen) (at : Mark) → Agreed (InSet set c) x at
in_set-agreed set c (SignSeen signs.Semicolon) at = tt
in_set-agreed set c (SignSeen signs.Gives) at = tt
in_set-agreed set true (SignSeen signs.Comma) at = tt
in_set-agreed set false (SignSeen signs.Comma) at = refl
in_set-agreed set true (SignSeen signs.CloseBracket) at = refl
in_set-agreed set false (SignSeen signs.CloseBracket) at = refl
in_set-agreed set c (SymbolSeen w name n) at = tt
in_set-agreed set c x at = refl

-- ---- the beginning of a parameter
param_name-agreed : (param set : Option ℕ) → Agrees (param_name param set) ((is_none set && is_none param) ∷ false ∷ false ∷ false ∷ false ∷ [])
param_name-agreed (Some n) set = tt
param_name-agreed None (Some n) = refl
param_name-agreed None None = refl

pub param_read-agreed : (x : Seen) (at : Mark) → Agreed ParamRead x at
param_read-agreed (SignSeen signs.Colon) at = tt
param_read-agreed (SymbolSeen words.Default name n) at = tt
param_read-agreed (SymbolSeen w name n) at = param_name-agreed (param_number name) (set_number name)
param_read-agreed x at = refl

pub leading_default-agreed : (x : Seen) (at : Mark) → Agreed LeadingDefault x at
leading_default-agreed (SignSeen signs.Comma) at = refl
leading_default-agreed (SymbolSeen w name (Some v)) at = tt
leading_default-agreed (SymbolSeen w name None) at = refl
leading_default-agreed x at = refl

pub default_read-agreed : (param : ℕ) (x : Seen) (at : Mark) → Agreed (DefaultRead param) x at
default_read-agreed param (SignSeen signs.Comma) at = refl
default_read-agreed param (SymbolSeen w name (Some v)) at = tt
default_read-agreed param (SymbolSeen w name None) at = refl
default_read-agreed param x at = refl

pub leading_number-agreed : (v : Option Number) (c : Bool) (x : Seen) (at : Mark) → Agreed (LeadingNumber v c) x at
leading_number-agreed v c (SignSeen signs.Colon) at = tt
leading_number-agreed v true (SignSeen signs.Comma) at = tt
leading_number-agreed v false (SignSeen signs.Comma) at = refl
leading_number-agreed v true (SignSeen signs.CloseBracket) at = refl
leading_number-agreed v false (SignSeen signs.CloseBracket) at = refl
leading_number-agreed v c x at = refl

tabbing_name-agreed : (v : Option Number) (param set : Option ℕ) → Agrees (tabbing_name v param set) ((is_none set && is_none param) ∷ false ∷ false ∷ false ∷ false ∷ [])
tabbing_name-agreed v (Some n) set = tt
tabbing_name-agreed v None (Some n) = refl
tabbing_name-agreed v None None = refl

pub tabbing_colon-agreed : (v : Option Number) (x : Seen) (at : Mark) → Agreed (TabbingColon v) x at
tabbing_colon-agreed v (SignSeen signs.Comma) at = refl
tabbing_colon-agreed v (SymbolSeen w name n) at = tabbing_name-agreed v (param_number name) (set_number name)
tabbing_colon-agreed v x at = refl

pub tabbing_named-agreed : (param : ℕ) (c : Bool) (x : Seen) (at : Mark) → Agreed (TabbingNamed param c) x at
tabbing_named-agreed param c (SignSeen signs.Gives) at = tt
tabbing_named-agreed param true (SignSeen signs.Comma) at = tt
tabbing_named-agreed param false (SignSeen signs.Comma) at = refl
tabbing_named-agreed param true (SignSeen signs.CloseBracket) at = refl
tabbing_named-agreed param false (SignSeen signs.CloseBracket) at = refl
tabbing_named-agreed param c x at = refl
