-- What holds of every turn of the machine: which states it keeps sound, which it leads to by a semicolon, and in which statement it stays.
use Rattle.mathprog_data.proofs.Common.{◌≡◌, ℕ, zero, suc, ◌+◌, nat_eq, Bool, true, false, cond, ◌&&◌, ◌||◌, List, [], ◌∷◌, ◌++◌, length, Option, Some, None, refl, arith, eqb-true, Mark, Word, unexpected, unknown_name, wrong_slice, row_too_short, bad_number, tabbing, Seen, SignSeen, SymbolSeen, Open, Fresh, DataRead, Between, EndRead, Ended, SetRead, InSet, ParamRead, ParamNamed, DefaultRead, LeadingDefault, LeadingNumber, TabbingColon, TabbingNamed, InRecords, InPlain, PlaceDue, PlaceRead, ParenRead, TrRead, TrClosed, InColumns, InRows, InRow, Event, DefaultGiven, ValueGiven, Turn, Stop, Go, Emit, turn, set_name, param_name, tabbing_name, comma, number, plain, bracket, columns_end, cell, row_left, set_number, param_number, subscript_count, results_path, Slice, free_count, all_free, index_at, Form, Listed, Tabbing, Name, Number}
use Rattle.std.specs.Prelude.{pos, if◌then◌else◌}
use Rattle.mathprog_data.specs.declared.lexeme.Sign.TheVariants as signs
use Rattle.mathprog_data.specs.declared.words.Word.TheVariants as words

-- ---- sound states
-- the list isn't empty
abbrev pub has_some : {A : Type 0} → List A → Bool
has_some [] = false
has_some (x ∷ xs) = true

-- the slice has a place for each subscript, and two of them are free
pub record Tabled (param : ℕ) (slice : Slice) : Type 0 where
  pub fits : length slice ≡ subscript_count param
  pub two : free_count slice ≡ 2

-- the parts of the state fit one another, as they do in each state that is reached
abbrev pub IsSane : Open → Type 0
IsSane (InRecords form param slice c) = length slice ≡ subscript_count param
IsSane (InPlain form param slice names mark left c) = length slice ≡ subscript_count param
IsSane (PlaceDue param places left) = length places + suc left ≡ subscript_count param
IsSane (PlaceRead param places left) = length places + left ≡ subscript_count param
IsSane (ParenRead param slice) = Tabled param slice
IsSane (TrRead param slice) = Tabled param slice
IsSane (TrClosed param slice) = Tabled param slice
IsSane (InColumns param slice transposed names c) = Tabled param slice
IsSane (InRows param slice transposed names c) = Tabled param slice × (has_some names ≡ true)
IsSane (InRow param slice transposed names row mark left c) = Tabled param slice × (has_some names ≡ true) × (has_some left ≡ true)
IsSane o = Unit {0}

-- ---- what a turn keeps
abbrev pub is_semicolon : Seen → Bool
is_semicolon (SignSeen signs.Semicolon) = true
is_semicolon x = false

abbrev pub is_param_word : Seen → Bool
is_param_word (SymbolSeen words.Param name n) = true
is_param_word x = false

-- whole statements were read, or the section was closed
abbrev pub is_closed : Open → Bool
is_closed Between = true
is_closed Ended = true
is_closed o = false

abbrev pub is_start : Open → Bool
is_start Fresh = true
is_start Between = true
is_start o = false

abbrev pub is_fresh : Open → Bool
is_fresh Fresh = true
is_fresh o = false

abbrev pub is_param_read : Open → Bool
is_param_read ParamRead = true
is_param_read o = false

-- the parameter whose statement is open, where its name stands directly after `param`
abbrev pub listed_in : Open → Option ℕ
listed_in (ParamNamed param c) = Some param
listed_in (DefaultRead param) = Some param
listed_in (InRecords Listed param slice c) = Some param
listed_in (InPlain Listed param slice names mark left c) = Some param
listed_in (PlaceDue param places left) = Some param
listed_in (PlaceRead param places left) = Some param
listed_in (ParenRead param slice) = Some param
listed_in (TrRead param slice) = Some param
listed_in (TrClosed param slice) = Some param
listed_in (InColumns param slice transposed names c) = Some param
listed_in (InRows param slice transposed names c) = Some param
listed_in (InRow param slice transposed names row mark left c) = Some param
listed_in o = None

-- a step from the one state to the other, by a token that is seen so
pub record Moved (o : Open) (x : Seen) (next : Open) : Type 0 where
  -- sound states lead to sound ones
  pub sane : IsSane o → IsSane next
  -- whole statements stand after a semicolon alone
  pub closes : is_closed next ≡ is_semicolon x
  -- the beginning of a parameter's statement stands after `param` alone
  pub starts : is_param_read next ≡ (is_start o && is_param_word x)
  pub not_fresh : is_fresh next ≡ false
  -- the open statement stays open
  pub kept : is_param_read o ≡ false → is_closed next ≡ false → listed_in next ≡ listed_in o

-- the number is that of a fault of statements, but for the second statement
abbrev pub is_fault : ℕ → Bool
is_fault k = nat_eq k unexpected || (nat_eq k unknown_name || (nat_eq k wrong_slice || (nat_eq k row_too_short || (nat_eq k bad_number || nat_eq k tabbing))))

pub data Holds (o : Open) (x : Seen) : Turn → Type 0 where
  stop : {k : ℕ} → is_fault k ≡ true → Holds o x (Stop k)
  goes : {next : Open} → Moved o x next → Holds o x (Go next)
  emits : {event : Event} {next : Open} → Moved o x next → Holds o x (Emit event next)

moved : {o next : Open} {x : Seen} → (IsSane o → IsSane next) → is_closed next ≡ is_semicolon x → is_param_read next ≡ (is_start o && is_param_word x) → is_fresh next ≡ false → (is_param_read o ≡ false → is_closed next ≡ false → listed_in next ≡ listed_in o) → Moved o x next
moved a b c d e = record { sane = a; closes = b; starts = c; not_fresh = d; kept = e }

-- ---- parts of turns
holds-comma : {o next : Open} {x : Seen} (c : Bool) → Moved o x next → Holds o x (comma c next)
holds-comma true m = goes m
holds-comma false m = stop refl

holds-value : {o next : Open} {x : Seen} (n : Option Number) (f : Number → Event) → Moved o x next → Holds o x (number n (λ v. Emit (f v) next))
holds-value None f m = stop refl
holds-value (Some v) f m = emits m

pub length-all_free : (n : ℕ) → length (all_free n) ≡ n
length-all_free zero = refl
length-all_free (suc n) = let h = length-all_free n in omega (arith, h)

append-one : {A : Type 0} (xs : List A) (x : A) → length (xs ++ x ∷ []) ≡ length xs + 1
append-one [] x = refl
append-one (y ∷ ys) x = let h = append-one ys x in omega (arith, h)

holds-bracket : {slice : Slice} {c : Bool} (param count : ℕ) → subscript_count param ≡ count → Holds (InRecords Listed param slice c) (SignSeen signs.OpenBracket) (bracket param count)
holds-bracket param zero e = stop refl
holds-bracket {slice = slice} {c = c} param (suc left) e = goes (moved (λ h. first) refl refl refl (λ a b. cc))
  where
    first : 0 + suc left ≡ subscript_count param
    first = omega (arith, e)

holds-table : {o next : Open} {x : Seen} (free : ℕ) (b : Bool) → nat_eq free 2 ≡ b → (free ≡ 2 → Moved o x next) → Holds o x (cond b (Go next) (Stop 8))
holds-table free false e m = stop refl
holds-table free true e m = goes (m (eqb-true free 2 e))

tabled : (param : ℕ) (slice : Slice) → length slice ≡ subscript_count param → free_count slice ≡ 2 → Tabled param slice
tabled param slice fits two = record { fits = fits; two = two }

holds-plain : {c : Bool} (form : Form) (param : ℕ) (slice : Slice) (at : Mark) (left : ℕ) (w : Word) (name : Name) (n : Option Number) → Holds (InRecords form param slice c) (SymbolSeen w name n) (plain form param slice [] at left name n)
holds-plain Listed param slice at zero w name n = holds-value (if nat_eq param results_path then Some (pos 0, false) else n) (λ v. ValueGiven (record { index = index_at slice []; number = v; at = at })) (moved (λ h. h) refl refl refl (λ a b. cc))
holds-plain Tabbing param slice at zero w name n = holds-value (if nat_eq param results_path then Some (pos 0, false) else n) (λ v. ValueGiven (record { index = index_at slice []; number = v; at = at })) (moved (λ h. h) refl refl refl (λ a b. cc))
holds-plain Listed param slice at (suc left) w name n = goes (moved (λ h. h) refl refl refl (λ a b. cc))
holds-plain Tabbing param slice at (suc left) w name n = goes (moved (λ h. h) refl refl refl (λ a b. cc))

holds-more : {c : Bool} (form : Form) (param : ℕ) (slice : Slice) (names : List Name) (mark : Mark) (left : ℕ) (w : Word) (name : Name) (n : Option Number) → Holds (InPlain form param slice names mark left c) (SymbolSeen w name n) (plain form param slice names mark left name n)
holds-more Listed param slice names mark zero w name n = holds-value (if nat_eq param results_path then Some (pos 0, false) else n) (λ v. ValueGiven (record { index = index_at slice names; number = v; at = mark })) (moved (λ h. h) refl refl refl (λ a b. cc))
holds-more Tabbing param slice names mark zero w name n = holds-value (if nat_eq param results_path then Some (pos 0, false) else n) (λ v. ValueGiven (record { index = index_at slice names; number = v; at = mark })) (moved (λ h. h) refl refl refl (λ a b. cc))
holds-more Listed param slice names mark (suc left) w name n = goes (moved (λ h. h) refl refl refl (λ a b. cc))
holds-more Tabbing param slice names mark (suc left) w name n = goes (moved (λ h. h) refl refl refl (λ a b. cc))

holds-set : (w : Word) (name : Name) (n : Option Number) (s p : Option ℕ) → Holds SetRead (SymbolSeen w name n) (set_name s p)
holds-set w name n (Some k) p = emits (moved (λ h. tt) refl refl refl (λ a b. cc))
holds-set w name n None (Some k) = stop refl
holds-set w name n None None = stop refl

-- a name after `param` isn't that keyword again, for it would not be taken
holds-param : (w : Word) (name : Name) (n : Option Number) (p s : Option ℕ) → Holds ParamRead (SymbolSeen w name n) (param_name p s)
holds-param w name n (Some k) s = emits (moved (λ h. tt) refl refl refl (λ a b. cc))
holds-param w name n None (Some k) = stop refl
holds-param w name n None None = stop refl

holds-tabbing : (v : Option Number) (w : Word) (name : Name) (n : Option Number) (p s : Option ℕ) → Holds (TabbingColon v) (SymbolSeen w name n) (tabbing_name v p s)
holds-tabbing v w name n (Some k) s = emits (moved (λ h. tt) refl refl refl (λ a b. cc))
holds-tabbing v w name n None (Some k) = stop refl
holds-tabbing v w name n None None = stop refl

holds-leading : (w : Word) (name : Name) (n : Option Number) → Holds LeadingDefault (SymbolSeen w name n) (number n (λ v. Go (LeadingNumber (Some v) true)))
holds-leading w name None = stop refl
holds-leading w name (Some v) = goes (moved (λ h. tt) refl refl refl (λ a b. cc))

holds-records : (form : Form) (param : ℕ) (slice : Slice) (c : Bool) (x : Seen) (at : Mark) → Holds (InRecords form param slice c) x (turn (InRecords form param slice c) x at)
holds-records form param slice c (SignSeen signs.Semicolon) at = emits (moved (λ h. tt) refl refl refl (λ a b. cc))
holds-records Listed param slice c (SignSeen signs.Comma) at = holds-comma c (moved (λ h. h) refl refl refl (λ a b. cc))
holds-records Tabbing param slice c (SignSeen signs.Comma) at = holds-comma c (moved (λ h. h) refl refl refl (λ a b. cc))
holds-records Listed param slice c (SignSeen signs.Gives) at = goes (moved (λ h. h) refl refl refl (λ a b. cc))
holds-records Listed param slice c (SignSeen signs.OpenBracket) at = holds-bracket param (subscript_count param) refl
holds-records Listed param slice c (SignSeen signs.Colon) at = holds-table (free_count slice) (nat_eq (free_count slice) 2) refl (λ two. (moved (λ h. tabled param slice h two) refl refl refl (λ a b. cc)))
holds-records Listed param slice c (SignSeen signs.OpenParen) at = holds-table (free_count slice) (nat_eq (free_count slice) 2) refl (λ two. (moved (λ h. tabled param slice h two) refl refl refl (λ a b. cc)))
holds-records form param slice c (SymbolSeen w name n) at = holds-plain form param slice at (free_count slice) w name n
holds-records form param slice c x at = stop refl

as_named : {param : ℕ} {c : Bool} {x : Seen} {turned : Turn} → Holds (InRecords Listed param (all_free (subscript_count param)) false) x turned → Holds (ParamNamed param c) x turned
as_named (stop e) = stop e
as_named {param = param} (goes m) = goes (moved (λ h. m.sane (length-all_free (subscript_count param))) m.closes m.starts m.not_fresh m.kept)
as_named {param = param} (emits m) = emits (moved (λ h. m.sane (length-all_free (subscript_count param))) m.closes m.starts m.not_fresh m.kept)

as_rows : {param : ℕ} {slice : Slice} {transposed : Bool} {names : List Name} {c : Bool} {x : Seen} {turned : Turn} → Holds (InRecords Listed param slice false) x turned → Holds (InRows param slice transposed names c) x turned
as_rows (stop e) = stop e
as_rows (goes m) = goes (moved (λ h. m.sane h.0.fits) m.closes m.starts m.not_fresh m.kept)
as_rows (emits m) = emits (moved (λ h. m.sane h.0.fits) m.closes m.starts m.not_fresh m.kept)

holds-columns : {slice : Slice} {transposed c : Bool} (param : ℕ) (names : List Name) → Holds (InColumns param slice transposed names c) (SignSeen signs.Gives) (columns_end param slice transposed names)
holds-columns param [] = stop refl
holds-columns param (name ∷ names) = goes (moved (λ h. (h, refl)) refl refl refl (λ a b. cc))

left-moved : {c : Bool} (param : ℕ) (slice : Slice) (transposed : Bool) (names : List Name) (row : Name) (mark : Mark) (column : Name) (left : List Name) (w : Word) (x : Name) (n : Option Number) → Moved (InRow param slice transposed names row mark (column ∷ left) c) (SymbolSeen w x n) (row_left param slice transposed names row mark left)
left-moved param slice transposed names row mark column [] w x n = moved (λ h. (h.0, h.1)) refl refl refl (λ a b. cc)
left-moved param slice transposed names row mark column (next ∷ left) w x n = moved (λ h. (h.0, h.1, refl)) refl refl refl (λ a b. cc)

holds-cell : {c : Bool} (param : ℕ) (slice : Slice) (transposed : Bool) (names : List Name) (row : Name) (mark : Mark) (left : List Name) (w : Word) (x : Name) (n : Option Number) → Holds (InRow param slice transposed names row mark left c) (SymbolSeen w x n) (cell param slice transposed names row mark left w n)
holds-cell param slice transposed names row mark [] w x n = stop refl
holds-cell param slice transposed names row mark (column ∷ left) words.Point x n = goes (left-moved param slice transposed names row mark column left words.Point x n)
holds-cell param slice transposed names row mark (column ∷ left) w x n = holds-value n _ (left-moved param slice transposed names row mark column left _ x n)

-- what holds of each turn
pub holds : (o : Open) (x : Seen) (at : Mark) → Holds o x (turn o x at)
holds Fresh (SymbolSeen words.Data name n) at = goes (moved (λ h. tt) refl refl refl (λ a b. cc))
holds Fresh (SymbolSeen words.Set name n) at = goes (moved (λ h. tt) refl refl refl (λ a b. cc))
holds Fresh (SymbolSeen words.Param name n) at = goes (moved (λ h. tt) refl refl refl (λ a b. cc))
holds Fresh (SymbolSeen words.End name n) at = goes (moved (λ h. tt) refl refl refl (λ a b. cc))
holds Fresh x at = stop refl
holds DataRead (SignSeen signs.Semicolon) at = goes (moved (λ h. tt) refl refl refl (λ a b. cc))
holds DataRead x at = stop refl
holds Between (SymbolSeen words.Set name n) at = goes (moved (λ h. tt) refl refl refl (λ a b. cc))
holds Between (SymbolSeen words.Param name n) at = goes (moved (λ h. tt) refl refl refl (λ a b. cc))
holds Between (SymbolSeen words.End name n) at = goes (moved (λ h. tt) refl refl refl (λ a b. cc))
holds Between x at = stop refl
holds EndRead (SignSeen signs.Semicolon) at = goes (moved (λ h. tt) refl refl refl (λ a b. cc))
holds EndRead x at = stop refl
holds Ended x at = stop refl
holds SetRead (SymbolSeen w name n) at = holds-set w name n (set_number name) (param_number name)
holds SetRead x at = stop refl
holds (InSet k c) (SignSeen signs.Semicolon) at = emits (moved (λ h. tt) refl refl refl (λ a b. cc))
holds (InSet k c) (SignSeen signs.Gives) at = goes (moved (λ h. tt) refl refl refl (λ a b. cc))
holds (InSet k c) (SignSeen signs.Comma) at = holds-comma c (moved (λ h. tt) refl refl refl (λ a b. cc))
holds (InSet k c) (SymbolSeen w name n) at = emits (moved (λ h. tt) refl refl refl (λ a b. cc))
holds (InSet k c) x at = stop refl
holds ParamRead (SignSeen signs.Colon) at = goes (moved (λ h. tt) refl refl refl (λ a b. cc))
holds ParamRead (SymbolSeen words.Default name n) at = goes (moved (λ h. tt) refl refl refl (λ a b. cc))
holds ParamRead (SymbolSeen w name n) at = holds-param _ name n (param_number name) (set_number name)
holds ParamRead x at = stop refl
holds (ParamNamed param c) (SignSeen signs.Comma) at = holds-comma c (moved (λ h. tt) refl refl refl (λ a b. cc))
holds (ParamNamed param c) (SymbolSeen words.Default name n) at = goes (moved (λ h. tt) refl refl refl (λ a b. cc))
holds (ParamNamed param c) x at = as_named (holds-records Listed param (all_free (subscript_count param)) false x at)
holds (DefaultRead param) (SymbolSeen w name n) at = holds-value n DefaultGiven (moved (λ h. length-all_free (subscript_count param)) refl refl refl (λ a b. cc))
holds (DefaultRead param) x at = stop refl
holds LeadingDefault (SymbolSeen w name n) at = holds-leading w name n
holds LeadingDefault x at = stop refl
holds (LeadingNumber v c) (SignSeen signs.Colon) at = goes (moved (λ h. tt) refl refl refl (λ a b. cc))
holds (LeadingNumber v c) (SignSeen signs.Comma) at = holds-comma c (moved (λ h. tt) refl refl refl (λ a b. cc))
holds (LeadingNumber v c) x at = stop refl
holds (TabbingColon v) (SymbolSeen w name n) at = holds-tabbing v w name n (param_number name) (set_number name)
holds (TabbingColon v) x at = stop refl
holds (TabbingNamed param c) (SignSeen signs.Gives) at = goes (moved (λ h. length-all_free (subscript_count param)) refl refl refl (λ a b. cc))
holds (TabbingNamed param c) (SignSeen signs.Comma) at = holds-comma c (moved (λ h. tt) refl refl refl (λ a b. cc))
holds (TabbingNamed param c) (SignSeen signs.Colon) at = stop refl
holds (TabbingNamed param c) (SymbolSeen w name n) at = stop refl
holds (TabbingNamed param c) x at = stop refl
holds (InRecords form param slice c) x at = holds-records form param slice c x at
holds (InPlain Listed param slice names mark left c) (SignSeen signs.Comma) at = holds-comma c (moved (λ h. h) refl refl refl (λ a b. cc))
holds (InPlain Tabbing param slice names mark left c) (SignSeen signs.Comma) at = holds-comma c (moved (λ h. h) refl refl refl (λ a b. cc))
holds (InPlain form param slice names mark left c) (SymbolSeen w name n) at = holds-more form param slice names mark left w name n
holds (InPlain form param slice names mark left c) x at = stop refl
holds (PlaceDue param places left) (SignSeen signs.Star) at = goes (moved (λ h. let one = append-one places None in omega (arith, h, one)) refl refl refl (λ a b. cc))
holds (PlaceDue param places left) (SignSeen signs.CloseBracket) at = stop refl
holds (PlaceDue param places left) (SymbolSeen w name n) at = goes (moved (λ h. let one = append-one places (Some name) in omega (arith, h, one)) refl refl refl (λ a b. cc))
holds (PlaceDue param places left) x at = stop refl
holds (PlaceRead param places zero) (SignSeen signs.CloseBracket) at = goes (moved (λ h. omega (arith, h)) refl refl refl (λ a b. cc))
holds (PlaceRead param places (suc left)) (SignSeen signs.CloseBracket) at = stop refl
holds (PlaceRead param places zero) (SignSeen signs.Comma) at = stop refl
holds (PlaceRead param places (suc left)) (SignSeen signs.Comma) at = goes (moved (λ h. h) refl refl refl (λ a b. cc))
holds (PlaceRead param places left) x at = stop refl
holds (ParenRead param slice) (SymbolSeen words.Tr name n) at = goes (moved (λ h. h) refl refl refl (λ a b. cc))
holds (ParenRead param slice) x at = stop refl
holds (TrRead param slice) (SignSeen signs.CloseParen) at = goes (moved (λ h. h) refl refl refl (λ a b. cc))
holds (TrRead param slice) x at = stop refl
holds (TrClosed param slice) (SignSeen signs.Colon) at = goes (moved (λ h. h) refl refl refl (λ a b. cc))
holds (TrClosed param slice) x at = stop refl
holds (InColumns param slice transposed names c) (SignSeen signs.Gives) at = holds-columns param names
holds (InColumns param slice transposed names c) (SignSeen signs.Comma) at = holds-comma c (moved (λ h. h) refl refl refl (λ a b. cc))
holds (InColumns param slice transposed names c) (SymbolSeen w name n) at = goes (moved (λ h. h) refl refl refl (λ a b. cc))
holds (InColumns param slice transposed names c) x at = stop refl
holds (InRows param slice transposed names c) (SignSeen signs.Gives) at = stop refl
holds (InRows param slice transposed names c) (SignSeen signs.Comma) at = holds-comma c (moved (λ h. h) refl refl refl (λ a b. cc))
holds (InRows param slice transposed names c) (SymbolSeen w name n) at = goes (moved (λ h. (h.0, h.1, h.1)) refl refl refl (λ a b. cc))
holds (InRows param slice transposed names c) x at = as_rows (holds-records Listed param slice false x at)
holds (InRow param slice transposed names row mark left c) (SignSeen signs.Comma) at = holds-comma c (moved (λ h. h) refl refl refl (λ a b. cc))
holds (InRow param slice transposed names row mark left c) (SymbolSeen w name n) at = holds-cell param slice transposed names row mark left w name n
holds (InRow param slice transposed names row mark left c) x at = stop refl
