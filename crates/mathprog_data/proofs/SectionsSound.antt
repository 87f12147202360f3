-- A step backwards of the machine keeps what may follow: beginnings of statements, and the section as a whole.
use Rattle.mathprog_data.proofs.Common.{◌≡◌, ℕ, Bool, true, false, List, [], ◌∷◌, codes, Option, Some, None, sym, refl, ap, ◌∙◌, subst, Word, Placed, Seen, SignSeen, SymbolSeen, Open, Fresh, DataRead, Between, EndRead, Ended, SetRead, InSet, ParamRead, ParamNamed, DefaultRead, LeadingDefault, LeadingNumber, TabbingColon, TabbingNamed, InRecords, InPlain, PlaceDue, PlaceRead, ParenRead, TrRead, TrClosed, InColumns, InRows, InRow, Event, Begins, DefaultGiven, Turn, Stop, Go, Emit, Opening, Statements, set_number, subscript_count, param_number, all_free, Listed, Tabbing, Default, NoDefault, SetBegun, ParamBegun, TabbingBegun, Name, Number, IsSign, IsKeyword, IsSymbol, IsNumberToken}
use Rattle.mathprog_data.proofs.StatementsGo.{StepsBack, After, after, set_rest, records_rest, named_rest, tabbed_rest, colon_rest, Goes, fresh, data_read, between, cut_end, cut_ended, set_read, cut_set, in_set, param_read, tabbing_read, cut_param, param_named, default_read, leading_default, cut_default, leading_number, cut_number, tabbing_colon, cut_tabbing, tabbing_named, in_records, Back, back}
use Rattle.mathprog_data.proofs.StatementsSound.{back_in_set, back_in_plain, back_place_due, back_place_read}
use Rattle.mathprog_data.proofs.TablesSound.{back_in_records, back_paren_read, back_tr_read, back_tr_closed, back_in_columns, back_in_rows, back_in_row}
use Rattle.mathprog_data.proofs.TokensSeen.{seen, seen-sign, seen-symbol, seen-number, seen-keyword}
use Rattle.mathprog_data.proofs.Walks.{Takes, done, go, emit}
use Rattle.mathprog_data.specs.declared.lexeme.Sign.TheVariants as signs
use Rattle.mathprog_data.specs.declared.words.Word.TheVariants as words
use Rattle.mathprog_data.specs.MachineSteps.{turn, comma, number, set_name, param_name, tabbing_name, records, in_records as records_turn, between as between_turn}
use Rattle.mathprog_data.specs.Meaning as sections
use Rattle.mathprog_data.specs.Statements as trees
use Rattle.mathprog_data.proofs.OptionalCommas.{none, one, comma_of}

-- a sign or another word is not the keyword `default`
pub not_default : (t : Placed) (x : Seen) → seen t ≡ x → ((name : Name) (n : Option Number) → x ≡ SymbolSeen words.Default name n → ⊥) → IsKeyword (codes "default") t → ⊥
not_default t x e other is = other (codes "default") _ (sym e ∙ ap (λ l. seen (record t { lexeme = l })) is)

-- ---- the names of sets
set_step : {K : Open → List Placed → Type 0} {n : ℕ} {t : Placed} {ts : List Placed} (name : Name) → IsSymbol t name → set_number name ≡ Some n → (events : List Event) → Goes K (InSet n true) ts events → Goes K SetRead (t ∷ ts) (Begins (SetBegun n) ∷ events)
set_step name is numbered events (in_set r) = set_read name is numbered r

back_set_name : {K : Open → List Placed → Type 0} {t : Placed} {ts : List Placed} (name : Name) (s p : Option ℕ) → set_number name ≡ s → IsSymbol t name → Back K SetRead (t ∷ ts) ts (set_name s p)
back_set_name name (Some n) p e is = back (set_step name is e)
back_set_name name None (Some p) e is = back tt
back_set_name name None None e is = back tt

back_set_read : {K : Open → List Placed → Type 0} (t : Placed) (ts : List Placed) (x : Seen) → seen t ≡ x → Back K SetRead (t ∷ ts) ts (turn SetRead x t.at)
back_set_read t ts (SymbolSeen w name n) e = back_set_name name (set_number name) (param_number name) refl (seen-symbol t w name n e)
back_set_read t ts x e = back tt

-- ---- the names of parameters
param_step : {K : Open → List Placed → Type 0} {param : ℕ} {t : Placed} {ts : List Placed} (name : Name) → IsSymbol t name → param_number name ≡ Some param → (events : List Event) → Goes K (ParamNamed param true) ts events → Goes K ParamRead (t ∷ ts) (Begins (ParamBegun param) ∷ events)
param_step name is numbered events (param_named r) = param_read name is numbered r

back_param_name : {K : Open → List Placed → Type 0} {t : Placed} {ts : List Placed} (name : Name) (p s : Option ℕ) → param_number name ≡ p → IsSymbol t name → Back K ParamRead (t ∷ ts) ts (param_name p s)
back_param_name name (Some n) s e is = back (param_step name is e)
back_param_name name None (Some s) e is = back tt
back_param_name name None None e is = back tt

colon_step : {K : Open → List Placed → Type 0} → StepsBack K → (t : Placed) (ts : List Placed) → seen t ≡ SignSeen signs.Colon → (events : List Event) → Goes K (TabbingColon None) ts events → Goes K ParamRead (t ∷ ts) events
colon_step k t ts e events (cut_tabbing c) = cut_param (k.colon t ts (seen-sign signs.Colon t e) c)
colon_step k t ts e events (tabbing_colon (colon_rest name is numbered r)) =
    tabbing_read (trees.Default.none (not_default t (SignSeen signs.Colon) e (λ x n h. cc))) (seen-sign signs.Colon t e) (colon_rest name is numbered r)

default_step : {K : Open → List Placed → Type 0} → StepsBack K → (t : Placed) (ts : List Placed) → IsKeyword (codes "default") t → (events : List Event) → Goes K LeadingDefault ts events → Goes K ParamRead (t ∷ ts) events
default_step k t ts is events (cut_default c) = cut_param (k.leads t ts is c)
default_step k t ts is events (leading_default v d colon r) = tabbing_read (trees.Default.stated is v d) colon r

back_param_read : {K : Open → List Placed → Type 0} → StepsBack K → (t : Placed) (ts : List Placed) (x : Seen) → seen t ≡ x → Back K ParamRead (t ∷ ts) ts (turn ParamRead x t.at)
back_param_read k t ts (SignSeen signs.Colon) e = back (colon_step k t ts e)
back_param_read k t ts (SymbolSeen words.Default name n) e = back (default_step k t ts (seen-keyword t words.Default name n (λ h. cc) e))
back_param_read k t ts (SymbolSeen w name n) e = back_param_name name (param_number name) (set_number name) refl (seen-symbol t _ name n e)
back_param_read k t ts x e = back tt

-- ---- defaults
named_goes : {K : Open → List Placed → Type 0} {param : ℕ} {c : Bool} {t : Placed} {ts : List Placed} {events : List Event} → (IsKeyword (codes "default") t → ⊥) → Goes K (InRecords Listed param (all_free (subscript_count param)) false) (t ∷ ts) events → Goes K (ParamNamed param c) (t ∷ ts) events
named_goes other (in_records none r) = param_named (named_rest none (trees.Default.none other) r)

named_step : {K : Open → List Placed → Type 0} {param : ℕ} {c : Bool} {t : Placed} {ts : List Placed} (turned : Turn) → (IsKeyword (codes "default") t → ⊥) → Back K (InRecords Listed param (all_free (subscript_count param)) false) (t ∷ ts) ts turned → Back K (ParamNamed param c) (t ∷ ts) ts turned
named_step (Stop k) other b = back tt
named_step (Go next) other b = back (λ events g. named_goes other (b.step events g))
named_step (Emit event next) other b = back (λ events g. named_goes other (b.step events g))

named_comma : {K : Open → List Placed → Type 0} {param : ℕ} {t : Placed} {ts : List Placed} → IsSign signs.Comma t → (events : List Event) → Goes K (ParamNamed param false) ts events → Goes K (ParamNamed param true) (t ∷ ts) events
named_comma is events (param_named (named_rest none d r)) = param_named (named_rest (one is) d r)

back_named_comma : {K : Open → List Placed → Type 0} {param : ℕ} (c : Bool) {t : Placed} {ts : List Placed} → IsSign signs.Comma t → Back K (ParamNamed param c) (t ∷ ts) ts (comma c (ParamNamed param false))
back_named_comma false is = back tt
back_named_comma true is = back (named_comma is)

stated_step : {K : Open → List Placed → Type 0} {param : ℕ} {c : Bool} {t : Placed} {ts : List Placed} → IsKeyword (codes "default") t → (events : List Event) → Goes K (DefaultRead param) ts events → Goes K (ParamNamed param c) (t ∷ ts) events
stated_step is events (default_read v d r) = param_named (named_rest none (trees.Default.stated is v d) r)

named_other : {K : Open → List Placed → Type 0} (param : ℕ) (c : Bool) (t : Placed) (ts : List Placed) (x : Seen) → seen t ≡ x → ((name : Name) (n : Option Number) → x ≡ SymbolSeen words.Default name n → ⊥) → Back K (ParamNamed param c) (t ∷ ts) ts (records_turn Listed param (all_free (subscript_count param)) false x t.at)
named_other param c t ts x e other = named_step (records_turn Listed param (all_free (subscript_count param)) false x t.at) (not_default t x e other) (back_in_records Listed param (all_free (subscript_count param)) false t ts x e)

back_param_named : {K : Open → List Placed → Type 0} (param : ℕ) (c : Bool) (t : Placed) (ts : List Placed) (x : Seen) → seen t ≡ x → Back K (ParamNamed param c) (t ∷ ts) ts (turn (ParamNamed param c) x t.at)
back_param_named param c t ts (SignSeen signs.Comma) e = back_named_comma c (seen-sign signs.Comma t e)
back_param_named param c t ts (SymbolSeen words.Default name n) e = back (stated_step (seen-keyword t words.Default name n (λ h. cc) e))
back_param_named param c t ts x e = named_other param c t ts _ e (λ name n h. cc)

records_first : {K : Open → List Placed → Type 0} {param : ℕ} {v : Number} {t : Placed} {ts : List Placed} → IsNumberToken t v → (events : List Event) → Goes K (records Listed param true) ts events → Goes K (DefaultRead param) (t ∷ ts) (DefaultGiven v ∷ events)
records_first is events (in_records d r) = default_read is (comma_of d) r

default_number : {K : Open → List Placed → Type 0} {param : ℕ} (t : Placed) {ts : List Placed} (w : Word) (name : Name) (n : Option Number) → seen t ≡ SymbolSeen w name n → Back K (DefaultRead param) (t ∷ ts) ts (number n (λ v. Emit (DefaultGiven v) (records Listed param true)))
default_number t w name None e = back tt
default_number t w name (Some v) e = back (records_first (seen-number t w name v e))

back_default_read : {K : Open → List Placed → Type 0} (param : ℕ) (t : Placed) (ts : List Placed) (x : Seen) → seen t ≡ x → Back K (DefaultRead param) (t ∷ ts) ts (turn (DefaultRead param) x t.at)
back_default_read param t ts (SymbolSeen w name n) e = default_number t w name n e
back_default_read param t ts x e = back tt

-- ---- tabbing data
leading_step : {K : Open → List Placed → Type 0} → StepsBack K → (t : Placed) (ts : List Placed) (v : Number) → IsNumberToken t v → (events : List Event) → Goes K (LeadingNumber (Some v) true) ts events → Goes K LeadingDefault (t ∷ ts) events
leading_step k t ts v is events (leading_number d colon r) = leading_default is (comma_of d) colon r
leading_step k t ts v is events (cut_number c) = cut_default (k.reads t ts v is c)

leading_value : {K : Open → List Placed → Type 0} → StepsBack K → (t : Placed) (ts : List Placed) (w : Word) (name : Name) (n : Option Number) → seen t ≡ SymbolSeen w name n → Back K LeadingDefault (t ∷ ts) ts (number n (λ v. Go (LeadingNumber (Some v) true)))
leading_value k t ts w name None e = back tt
leading_value k t ts w name (Some v) e = back (leading_step k t ts v (seen-number t w name v e))

back_leading_default : {K : Open → List Placed → Type 0} → StepsBack K → (t : Placed) (ts : List Placed) (x : Seen) → seen t ≡ x → Back K LeadingDefault (t ∷ ts) ts (turn LeadingDefault x t.at)
back_leading_default k t ts (SymbolSeen w name n) e = leading_value k t ts w name n e
back_leading_default k t ts x e = back tt

leading_comma : {K : Open → List Placed → Type 0} → StepsBack K → (v : Option Number) (t : Placed) (ts : List Placed) → IsSign signs.Comma t → (events : List Event) → Goes K (LeadingNumber v false) ts events → Goes K (LeadingNumber v true) (t ∷ ts) events
leading_comma k v t ts is events (leading_number none colon r) = leading_number (one is) colon r
leading_comma k v t ts is events (cut_number c) = cut_number (k.commas t ts v is c)

back_leading_comma : {K : Open → List Placed → Type 0} → StepsBack K → (v : Option Number) (c : Bool) (t : Placed) (ts : List Placed) → IsSign signs.Comma t → Back K (LeadingNumber v c) (t ∷ ts) ts (comma c (LeadingNumber v false))
back_leading_comma k v false t ts is = back tt
back_leading_comma k v true t ts is = back (leading_comma k v t ts is)

leading_colon : {K : Open → List Placed → Type 0} → StepsBack K → (v : Option Number) (c : Bool) (t : Placed) (ts : List Placed) → IsSign signs.Colon t → (events : List Event) → Goes K (TabbingColon v) ts events → Goes K (LeadingNumber v c) (t ∷ ts) events
leading_colon k v c t ts is events (cut_tabbing f) = cut_number (k.colons t ts v c is f)
leading_colon k v c t ts is events (tabbing_colon (colon_rest name s numbered r)) = leading_number none is (colon_rest name s numbered r)

back_leading_number : {K : Open → List Placed → Type 0} → StepsBack K → (v : Option Number) (c : Bool) (t : Placed) (ts : List Placed) (x : Seen) → seen t ≡ x → Back K (LeadingNumber v c) (t ∷ ts) ts (turn (LeadingNumber v c) x t.at)
back_leading_number k v c t ts (SignSeen signs.Colon) e = back (leading_colon k v c t ts (seen-sign signs.Colon t e))
back_leading_number k v c t ts (SignSeen signs.Comma) e = back_leading_comma k v c t ts (seen-sign signs.Comma t e)
back_leading_number k v c t ts x e = back tt

tabbing_step : {K : Open → List Placed → Type 0} {default : Option Number} {param : ℕ} {t : Placed} {ts : List Placed} (name : Name) → IsSymbol t name → param_number name ≡ Some param → (events : List Event) → Goes K (TabbingNamed param true) ts events → Goes K (TabbingColon default) (t ∷ ts) (Begins (TabbingBegun param default) ∷ events)
tabbing_step name is numbered events (tabbing_named r) = tabbing_colon (colon_rest name is numbered r)

back_tabbing_name : {K : Open → List Placed → Type 0} {default : Option Number} {t : Placed} {ts : List Placed} (name : Name) (p s : Option ℕ) → param_number name ≡ p → IsSymbol t name → Back K (TabbingColon default) (t ∷ ts) ts (tabbing_name default p s)
back_tabbing_name name (Some n) s e is = back (tabbing_step name is e)
back_tabbing_name name None (Some s) e is = back tt
back_tabbing_name name None None e is = back tt

back_tabbing_colon : {K : Open → List Placed → Type 0} (default : Option Number) (t : Placed) (ts : List Placed) (x : Seen) → seen t ≡ x → Back K (TabbingColon default) (t ∷ ts) ts (turn (TabbingColon default) x t.at)
back_tabbing_colon default t ts (SymbolSeen w name n) e = back_tabbing_name name (param_number name) (set_number name) refl (seen-symbol t w name n e)
back_tabbing_colon default t ts x e = back tt

tabbed_comma : {K : Open → List Placed → Type 0} {param : ℕ} {t : Placed} {ts : List Placed} → IsSign signs.Comma t → (events : List Event) → Goes K (TabbingNamed param false) ts events → Goes K (TabbingNamed param true) (t ∷ ts) events
tabbed_comma is events (tabbing_named (tabbed_rest none gives r)) = tabbing_named (tabbed_rest (one is) gives r)

back_tabbed_comma : {K : Open → List Placed → Type 0} {param : ℕ} (c : Bool) {t : Placed} {ts : List Placed} → IsSign signs.Comma t → Back K (TabbingNamed param c) (t ∷ ts) ts (comma c (TabbingNamed param false))
back_tabbed_comma false is = back tt
back_tabbed_comma true is = back (tabbed_comma is)

tabbed_gives : {K : Open → List Placed → Type 0} {param : ℕ} {c : Bool} {t : Placed} {ts : List Placed} → IsSign signs.Gives t → (events : List Event) → Goes K (records Tabbing param false) ts events → Goes K (TabbingNamed param c) (t ∷ ts) events
tabbed_gives is events (in_records none r) = tabbing_named (tabbed_rest none is r)

back_tabbing_named : {K : Open → List Placed → Type 0} (param : ℕ) (c : Bool) (t : Placed) (ts : List Placed) (x : Seen) → seen t ≡ x → Back K (TabbingNamed param c) (t ∷ ts) ts (turn (TabbingNamed param c) x t.at)
back_tabbing_named param c t ts (SignSeen signs.Gives) e = back (tabbed_gives (seen-sign signs.Gives t e))
back_tabbing_named param c t ts (SignSeen signs.Comma) e = back_tabbed_comma c (seen-sign signs.Comma t e)
back_tabbing_named param c t ts (SignSeen signs.Colon) e = back tt
back_tabbing_named param c t ts (SymbolSeen w name n) e = back tt
back_tabbing_named param c t ts x e = back tt

-- ---- statements
set_after : {K : Open → List Placed → Type 0} → StepsBack K → (t : Placed) (ts : List Placed) → IsKeyword (codes "set") t → (events : List Event) → Goes K SetRead ts events → After K (t ∷ ts) events
set_after k t ts is events (cut_set c) = after sections.Statements.none (k.sets t ts is c)
set_after k t ts is events (set_read name s numbered (set_rest d members (after ss rest))) =
    after (sections.Statements.more (trees.IsStatement.set_is (trees.Beginning.set_begins name is s numbered) (comma_of d) members) ss) rest

param_after : {K : Open → List Placed → Type 0} → StepsBack K → (t : Placed) (ts : List Placed) → IsKeyword (codes "param") t → (events : List Event) → Goes K ParamRead ts events → After K (t ∷ ts) events
param_after k t ts is events (cut_param c) = after sections.Statements.none (k.params t ts is c)
param_after k t ts is events (tabbing_read leads colon (colon_rest name s numbered (tabbed_rest d gives (records_rest r (after ss rest))))) =
    after (sections.Statements.more (trees.IsStatement.tabbing_is (trees.Beginning.tabbing_begins name is leads colon s numbered) (comma_of d) gives r) ss) rest
param_after k t ts is events (param_read name s numbered (named_rest d default (records_rest r (after ss rest)))) =
    after (sections.Statements.more (trees.IsStatement.param_is (trees.Beginning.param_begins name is s numbered) (comma_of d) default r) ss) rest

end_after : {K : Open → List Placed → Type 0} → StepsBack K → (o : Open) (t : Placed) (ts : List Placed) → ((events : List Event) → After K (t ∷ ts) events → Goes K o (t ∷ ts) events) → IsKeyword (codes "end") t → (events : List Event) → Goes K EndRead ts events → Goes K o (t ∷ ts) events
end_after k o t ts whole is events (cut_end c) = whole events (after sections.Statements.none (k.ends t ts is c))

between_step : {K : Open → List Placed → Type 0} → StepsBack K → (o : Open) (t : Placed) (ts : List Placed) → ((events : List Event) → After K (t ∷ ts) events → Goes K o (t ∷ ts) events) → (x : Seen) → seen t ≡ x → Back K o (t ∷ ts) ts (between_turn x)
between_step k o t ts whole (SymbolSeen words.Set name n) e = back (λ events g. whole events (set_after k t ts (seen-keyword t words.Set name n (λ h. cc) e) events g))
between_step k o t ts whole (SymbolSeen words.Param name n) e = back (λ events g. whole events (param_after k t ts (seen-keyword t words.Param name n (λ h. cc) e) events g))
between_step k o t ts whole (SymbolSeen words.End name n) e = back (end_after k o t ts whole (seen-keyword t words.End name n (λ h. cc) e))
between_step k o t ts whole x e = back tt

back_between : {K : Open → List Placed → Type 0} → StepsBack K → (t : Placed) (ts : List Placed) (x : Seen) → seen t ≡ x → Back K Between (t ∷ ts) ts (turn Between x t.at)
back_between k t ts x e = between_step k Between t ts (λ events a. between a) x e

data_step : {K : Open → List Placed → Type 0} (t : Placed) (ts : List Placed) → IsKeyword (codes "data") t → (events : List Event) → Goes K DataRead ts events → Goes K Fresh (t ∷ ts) events
data_step t ts is events (data_read semicolon a) = fresh (sections.Opening.words is semicolon) a

back_fresh : {K : Open → List Placed → Type 0} → StepsBack K → (t : Placed) (ts : List Placed) (x : Seen) → seen t ≡ x → Back K Fresh (t ∷ ts) ts (turn Fresh x t.at)
back_fresh k t ts (SymbolSeen words.Data name n) e = back (data_step t ts (seen-keyword t words.Data name n (λ h. cc) e))
back_fresh k t ts x e = between_step k Fresh t ts (λ events a. fresh sections.Opening.none a) _ e

semicolon_step : {K : Open → List Placed → Type 0} (t : Placed) (ts : List Placed) → IsSign signs.Semicolon t → (events : List Event) → Goes K Between ts events → Goes K DataRead (t ∷ ts) events
semicolon_step t ts is events (between a) = data_read is a

back_data_read : {K : Open → List Placed → Type 0} (t : Placed) (ts : List Placed) (x : Seen) → seen t ≡ x → Back K DataRead (t ∷ ts) ts (turn DataRead x t.at)
back_data_read t ts (SignSeen signs.Semicolon) e = back (semicolon_step t ts (seen-sign signs.Semicolon t e))
back_data_read t ts x e = back tt

ended_step : {K : Open → List Placed → Type 0} → StepsBack K → (t : Placed) (ts : List Placed) → IsSign signs.Semicolon t → (events : List Event) → Goes K Ended ts events → Goes K EndRead (t ∷ ts) events
ended_step k t ts is events (cut_ended c) = cut_end (k.closes t ts is c)

back_end_read : {K : Open → List Placed → Type 0} → StepsBack K → (t : Placed) (ts : List Placed) (x : Seen) → seen t ≡ x → Back K EndRead (t ∷ ts) ts (turn EndRead x t.at)
back_end_read k t ts (SignSeen signs.Semicolon) e = back (ended_step k t ts (seen-sign signs.Semicolon t e))
back_end_read k t ts x e = back tt

-- a step backwards, in each state
back_all : {K : Open → List Placed → Type 0} → StepsBack K → (o : Open) (t : Placed) (ts : List Placed) (x : Seen) → seen t ≡ x → Back K o (t ∷ ts) ts (turn o x t.at)
back_all k Fresh t ts x e = back_fresh k t ts x e
back_all k DataRead t ts x e = back_data_read t ts x e
back_all k Between t ts x e = back_between k t ts x e
back_all k EndRead t ts x e = back_end_read k t ts x e
back_all k Ended t ts x e = back tt
back_all k SetRead t ts x e = back_set_read t ts x e
back_all k (InSet n c) t ts x e = back_in_set n c t ts x e
back_all k ParamRead t ts x e = back_param_read k t ts x e
back_all k (ParamNamed param c) t ts x e = back_param_named param c t ts x e
back_all k (DefaultRead param) t ts x e = back_default_read param t ts x e
back_all k LeadingDefault t ts x e = back_leading_default k t ts x e
back_all k (LeadingNumber v c) t ts x e = back_leading_number k v c t ts x e
back_all k (TabbingColon default) t ts x e = back_tabbing_colon default t ts x e
back_all k (TabbingNamed param c) t ts x e = back_tabbing_named param c t ts x e
back_all k (InRecords form param slice c) t ts x e = back_in_records form param slice c t ts x e
back_all k (InPlain form param slice names mark left c) t ts x e = back_in_plain form param slice names mark left c t ts x e
back_all k (PlaceDue param places left) t ts x e = back_place_due param places left t ts x e
back_all k (PlaceRead param places left) t ts x e = back_place_read param places left t ts x e
back_all k (ParenRead param slice) t ts x e = back_paren_read param slice t ts x e
back_all k (TrRead param slice) t ts x e = back_tr_read param slice t ts x e
back_all k (TrClosed param slice) t ts x e = back_tr_closed param slice t ts x e
back_all k (InColumns param slice transposed names c) t ts x e = back_in_columns param slice transposed names c t ts x e
back_all k (InRows param slice transposed names c) t ts x e = back_in_rows param slice transposed names c t ts x e
back_all k (InRow param slice transposed names name mark left c) t ts x e = back_in_row param slice transposed names name mark left c t ts x e

step_go : {K : Open → List Placed → Type 0} {o next : Open} {t : Placed} {ts : List Placed} {turned : Turn} {events : List Event} → Back K o (t ∷ ts) ts turned → turned ≡ Go next → Goes K next ts events → Goes K o (t ∷ ts) events
step_go {K = K} {o = o} {t = t} {ts = ts} {events = events} b e g =
    let P : Turn → Type 0 = λ x. Back K o (t ∷ ts) ts x in
    let b' = subst P e b in
    b'.step events g

step_emit : {K : Open → List Placed → Type 0} {o next : Open} {t : Placed} {ts : List Placed} {turned : Turn} {event : Event} {events : List Event} → Back K o (t ∷ ts) ts turned → turned ≡ Emit event next → Goes K next ts events → Goes K o (t ∷ ts) (event ∷ events)
step_emit {K = K} {o = o} {t = t} {ts = ts} {events = events} b e g =
    let P : Turn → Type 0 = λ x. Back K o (t ∷ ts) ts x in
    let b' = subst P e b in
    b'.step events g

-- where the machine takes tokens as far as F says, and K says what may follow there, what it takes is what may follow before
pub sound : (F K : Open → List Placed → Type 0) → StepsBack K → ((o : Open) (ts : List Placed) → F o ts → Goes K o ts []) → {o : Open} {ts : List Placed} {events : List Event} → Takes F o ts events → Goes K o ts events
sound F K k last {o = o} {ts = ts} (done f) = last o ts f
sound F K k last {o = o} (go {t = t} {ts = ts} e w) = step_go (back_all k o t ts (seen t) refl) e (sound F K k last w)
sound F K k last {o = o} (emit {t = t} {ts = ts} e w) = step_emit (back_all k o t ts (seen t) refl) e (sound F K k last w)
