-- The number of the fault with which the machine stops in slices and tables.
use Rattle.mathprog_data.proofs.Common.{◌≡◌, ◌≤◌, ◌+◌, ℕ, zero, suc, Bool, true, false, List, [], ◌∷◌, Some, None, refl, ap, nat_eq, Mark, Seen, SignSeen, SymbolSeen, Open, Fresh, DataRead, Between, EndRead, Ended, SetRead, InSet, ParamRead, ParamNamed, DefaultRead, LeadingDefault, LeadingNumber, TabbingColon, TabbingNamed, InRecords, InPlain, PlaceDue, PlaceRead, ParenRead, TrRead, TrClosed, InColumns, InRows, InRow, Stop, bracket, subscript_count, Slice, free_count, Name}
use Rattle.std.specs.Prelude.{◌||◌}
use Rattle.mathprog_data.specs.declared.lexeme.Sign.TheVariants as signs
use Rattle.mathprog_data.specs.declared.words.Word.TheVariants as words
use Rattle.mathprog_data.proofs.FaultTests.{goes_on, Agrees, Agreed, fresh-agreed, between-agreed, data-agreed, end-agreed, ended-agreed, set_read-agreed, in_set-agreed, param_read-agreed, leading_default-agreed, default_read-agreed, leading_number-agreed, tabbing_colon-agreed, tabbing_named-agreed}
use Rattle.mathprog_data.proofs.FaultRecords.{table-agreed, in_records-agreed, param_named-agreed, in_plain-agreed}

-- ---- slices
place_due-agreed : (param : ℕ) (places : Slice) (left : ℕ) (x : Seen) (at : Mark) → Agreed (PlaceDue param places left) x at
place_due-agreed param places left (SignSeen signs.Star) at = tt
place_due-agreed param places left (SymbolSeen w name n) at = tt
place_due-agreed param places left x at = refl

place_read-agreed : (param : ℕ) (places : Slice) (left : ℕ) (x : Seen) (at : Mark) → Agreed (PlaceRead param places left) x at
place_read-agreed param places zero (SignSeen signs.CloseBracket) at = tt
place_read-agreed param places (suc left) (SignSeen signs.CloseBracket) at = refl
place_read-agreed param places zero (SignSeen signs.Comma) at = refl
place_read-agreed param places (suc left) (SignSeen signs.Comma) at = tt
place_read-agreed param places zero x at = refl
place_read-agreed param places (suc left) x at = refl

-- ---- tables
paren_read-agreed : (param : ℕ) (slice : Slice) (x : Seen) (at : Mark) → Agreed (ParenRead param slice) x at
paren_read-agreed param slice (SignSeen signs.Comma) at = refl
paren_read-agreed param slice (SymbolSeen words.Tr name n) at = tt
paren_read-agreed param slice x at = refl

tr_read-agreed : (param : ℕ) (slice : Slice) (x : Seen) (at : Mark) → Agreed (TrRead param slice) x at
tr_read-agreed param slice (SignSeen signs.CloseParen) at = tt
tr_read-agreed param slice x at = refl

tr_closed-agreed : (param : ℕ) (slice : Slice) (x : Seen) (at : Mark) → Agreed (TrClosed param slice) x at
tr_closed-agreed param slice (SignSeen signs.Colon) at = tt
tr_closed-agreed param slice x at = refl

-- the parameter has a subscript
abbrev pub HasSubscripts : ℕ → Type 0
HasSubscripts param = nat_eq (subscript_count param) 0 ≡ false

bare-off : (b : Bool) → b ≡ false → Agrees (Stop 4) (false ∷ b ∷ false ∷ false ∷ false ∷ [])
bare-off b e = ap (λ z. false ∷ z ∷ false ∷ false ∷ false ∷ []) e

in_columns-agreed : (param : ℕ) (slice : Slice) (transposed : Bool) (columns : List Name) (c : Bool) → HasSubscripts param → (x : Seen) (at : Mark) → Agreed (InColumns param slice transposed columns c) x at
in_columns-agreed param slice transposed columns true has (SignSeen signs.Comma) at = tt
in_columns-agreed param slice transposed columns false has (SignSeen signs.Comma) at = refl
in_columns-agreed param slice transposed columns true has (SignSeen signs.CloseBracket) at = refl
in_columns-agreed param slice transposed columns false has (SignSeen signs.CloseBracket) at = refl
in_columns-agreed param slice transposed [] c has (SignSeen signs.Gives) at = refl
in_columns-agreed param slice transposed (column ∷ columns) c has (SignSeen signs.Gives) at = tt
in_columns-agreed param slice transposed [] c has (SignSeen signs.OpenBracket) at = refl
in_columns-agreed param slice transposed (column ∷ columns) c has (SignSeen signs.OpenBracket) at = bare-off _ has
in_columns-agreed param slice transposed [] c has (SignSeen signs.Colon) at = refl
in_columns-agreed param slice transposed (column ∷ columns) c has (SignSeen signs.Colon) at = bare-off _ has
in_columns-agreed param slice transposed [] c has (SignSeen signs.OpenParen) at = refl
in_columns-agreed param slice transposed (column ∷ columns) c has (SignSeen signs.OpenParen) at = bare-off _ has
in_columns-agreed param slice transposed columns c has (SymbolSeen w name n) at = tt
in_columns-agreed param slice transposed columns c has x at = refl

bracket-on : (param m : ℕ) → nat_eq m 0 ≡ false → Agrees (bracket param m) (false ∷ false ∷ false ∷ false ∷ false ∷ [])
bracket-on param zero has = cc
bracket-on param (suc m) has = tt

opens : (param m : ℕ) → nat_eq m 0 ≡ false → (goes_on (bracket param m) || false) ≡ true
opens param zero has = cc
opens param (suc m) has = refl

in_rows-agreed : (param : ℕ) (slice : Slice) (transposed : Bool) (columns : List Name) (c : Bool) → HasSubscripts param → (x : Seen) (at : Mark) → Agreed (InRows param slice transposed columns c) x at
in_rows-agreed param slice transposed columns true has (SignSeen signs.Comma) at = tt
in_rows-agreed param slice transposed columns false has (SignSeen signs.Comma) at = refl
in_rows-agreed param slice transposed columns true has (SignSeen signs.CloseBracket) at = refl
in_rows-agreed param slice transposed columns false has (SignSeen signs.CloseBracket) at = refl
in_rows-agreed param slice transposed columns c has (SignSeen signs.Semicolon) at = tt
in_rows-agreed param slice transposed columns c has (SignSeen signs.OpenBracket) at = bracket-on param (subscript_count param) has
in_rows-agreed param slice transposed columns c has (SignSeen signs.Colon) at = table-agreed (free_count slice) _ _ _ _ (opens param (subscript_count param) has) refl refl
in_rows-agreed param slice transposed columns c has (SignSeen signs.OpenParen) at = table-agreed (free_count slice) _ _ _ _ (opens param (subscript_count param) has) refl refl
in_rows-agreed param slice transposed columns c has (SymbolSeen w name n) at = tt
in_rows-agreed param slice transposed columns c has x at = refl

in_row-agreed : (param : ℕ) (slice : Slice) (transposed : Bool) (columns : List Name) (row : Name) (mark : Mark) (column : Name) (left : List Name) (c : Bool) (x : Seen) (at : Mark) → Agreed (InRow param slice transposed columns row mark (column ∷ left) c) x at
in_row-agreed param slice transposed columns row mark column left true (SignSeen signs.Comma) at = tt
in_row-agreed param slice transposed columns row mark column left false (SignSeen signs.Comma) at = refl
in_row-agreed param slice transposed columns row mark column left true (SignSeen signs.CloseBracket) at = refl
in_row-agreed param slice transposed columns row mark column left false (SignSeen signs.CloseBracket) at = refl
in_row-agreed param slice transposed columns row mark column left c (SymbolSeen words.Point name n) at = tt
in_row-agreed param slice transposed columns row mark column left c (SymbolSeen words.Data name (Some v)) at = tt
in_row-agreed param slice transposed columns row mark column left c (SymbolSeen words.Set name (Some v)) at = tt
in_row-agreed param slice transposed columns row mark column left c (SymbolSeen words.Param name (Some v)) at = tt
in_row-agreed param slice transposed columns row mark column left c (SymbolSeen words.End name (Some v)) at = tt
in_row-agreed param slice transposed columns row mark column left c (SymbolSeen words.Default name (Some v)) at = tt
in_row-agreed param slice transposed columns row mark column left c (SymbolSeen words.Tr name (Some v)) at = tt
in_row-agreed param slice transposed columns row mark column left c (SymbolSeen words.Other name (Some v)) at = tt
in_row-agreed param slice transposed columns row mark column left c (SymbolSeen w name None) at = refl
in_row-agreed param slice transposed columns row mark column left c x at = refl

-- ---- all states
-- a list that isn't empty
abbrev pub IsSome : List Name → Type 0
IsSome [] = ⊥
IsSome (x ∷ xs) = Unit {0}

-- what holds of every state that the machine comes to
abbrev pub Sound : Open → Type 0
Sound (InRecords form param slice c) = free_count slice ≤ subscript_count param
Sound (InPlain form param slice names mark left c) = free_count slice ≤ subscript_count param
Sound (PlaceDue param places left) = free_count places + suc left ≤ subscript_count param
Sound (PlaceRead param places left) = free_count places + left ≤ subscript_count param
Sound (ParenRead param slice) = (free_count slice ≤ subscript_count param) × HasSubscripts param
Sound (TrRead param slice) = (free_count slice ≤ subscript_count param) × HasSubscripts param
Sound (TrClosed param slice) = (free_count slice ≤ subscript_count param) × HasSubscripts param
Sound (InColumns param slice transposed columns c) = (free_count slice ≤ subscript_count param) × HasSubscripts param
Sound (InRows param slice transposed columns c) = (free_count slice ≤ subscript_count param) × HasSubscripts param × IsSome columns
Sound (InRow param slice transposed columns row mark left c) = (free_count slice ≤ subscript_count param) × HasSubscripts param × IsSome columns × IsSome left
Sound s = Unit {0}

row-by : (param : ℕ) (slice : Slice) (transposed : Bool) (columns : List Name) (row : Name) (mark : Mark) (left : List Name) (c : Bool) → IsSome left → (x : Seen) (at : Mark) → Agreed (InRow param slice transposed columns row mark left c) x at
row-by param slice transposed columns row mark [] c some x at = absurd some
row-by param slice transposed columns row mark (column ∷ left) c some x at = in_row-agreed param slice transposed columns row mark column left c x at

-- where the machine stops, the test of that fault holds and no other
pub agreed : (s : Open) → Sound s → (x : Seen) (at : Mark) → Agreed s x at
agreed Fresh sound x at = fresh-agreed x at
agreed DataRead sound x at = data-agreed x at
agreed Between sound x at = between-agreed x at
agreed EndRead sound x at = end-agreed x at
agreed Ended sound x at = ended-agreed x at
agreed SetRead sound x at = set_read-agreed x at
agreed (InSet set c) sound x at = in_set-agreed set c x at
agreed ParamRead sound x at = param_read-agreed x at
agreed (ParamNamed param c) sound x at = param_named-agreed param c x at
agreed (DefaultRead param) sound x at = default_read-agreed param x at
agreed LeadingDefault sound x at = leading_default-agreed x at
agreed (LeadingNumber v c) sound x at = leading_number-agreed v c x at
agreed (TabbingColon v) sound x at = tabbing_colon-agreed v x at
agreed (TabbingNamed param c) sound x at = tabbing_named-agreed param c x at
agreed (InRecords form param slice c) sound x at = in_records-agreed form param slice c x at
agreed (InPlain form param slice names mark left c) sound x at = in_plain-agreed form param slice names mark left c x at
agreed (PlaceDue param places left) sound x at = place_due-agreed param places left x at
agreed (PlaceRead param places left) sound x at = place_read-agreed param places left x at
agreed (ParenRead param slice) sound x at = paren_read-agreed param slice x at
agreed (TrRead param slice) sound x at = tr_read-agreed param slice x at
agreed (TrClosed param slice) sound x at = tr_closed-agreed param slice x at
agreed (InColumns param slice transposed columns c) sound x at = in_columns-agreed param slice transposed columns c sound.1 x at
agreed (InRows param slice transposed columns c) sound x at = in_rows-agreed param slice transposed columns c sound.1 x at
agreed (InRow param slice transposed columns row mark left c) sound x at = row-by param slice transposed columns row mark left c sound.3 x at
