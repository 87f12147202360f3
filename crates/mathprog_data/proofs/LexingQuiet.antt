-- Past a byte that is quiet the lexer only goes on.
use Rattle.mathprog_data.proofs.Common.{◌≡◌, ℕ, Bool, true, false, not, cond, List, ◌∷◌, None, Some, refl, ap, not_from_false, Pending, is_line_feed, is_separator, is_symbol_byte, State, quiet, passed, begun, in_comment, token_of, run, and_then}
use Rattle.mathprog_data.specs.declared.lexer.Kind.TheVariants.{Bare}
use Rattle.mathprog_data.specs.declared.lexer.pending.Pending.TheVariants as pendings
use Rattle.mathprog_data.proofs.LexingByteLemmas.{separator_is_no_symbol}

where_true : (b : Bool) (x p : Pending) → cond b (Some x) None ≡ Some p → (b ≡ true) × (x ≡ p)
where_true true x p e = (refl, cc)
where_true false x p e = cc

where_false : (b : Bool) (x p : Pending) → cond b None (Some x) ≡ Some p → (b ≡ false) × (x ≡ p)
where_false true x p e = cc
where_false false x p e = (refl, cc)

quiet_in : (pending : Pending) (s : State) (byte : ℕ) (bytes : List ℕ) (p : Pending) → quiet pending byte ≡ Some p → run (record s { pending = pending }) (byte ∷ bytes) ≡ run (passed s byte p) bytes
unfolding run
quiet_in pendings.Gap s byte bytes p e =
    let found = where_true (is_separator byte) pendings.Gap p e in
    rw (separator_is_no_symbol byte found.0, found.0) (ap (λ q. run (passed s byte q) bytes) found.1)
quiet_in pendings.Bare s byte bytes p e =
    let found = where_true (is_symbol_byte byte) pendings.Bare p e in
    rw found.0 (ap (λ q. run (passed s byte q) bytes) found.1)
quiet_in pendings.LineComment s byte bytes p e =
    let found = where_false (is_line_feed byte) pendings.LineComment p e in
    let goes_on : not (is_line_feed byte) ≡ true = not_from_false (is_line_feed byte) found.0 in
    rw goes_on (ap (λ q. run (passed s byte q) bytes) found.1)
quiet_in pendings.BlockComment s byte bytes p e = let same : in_comment byte ≡ p = cc in ap (λ q. run (passed s byte q) bytes) same
quiet_in pendings.Slash s byte bytes p e = cc
quiet_in pendings.Star s byte bytes p e = cc
quiet_in pendings.Colon s byte bytes p e = cc
quiet_in (pendings.Quoted quote) s byte bytes p e = cc
quiet_in (pendings.Quote quote) s byte bytes p e = cc

-- past a quiet byte what is seen is what is seen of the rest
pub run_quiet : (s : State) (byte : ℕ) (bytes : List ℕ) (p : Pending) → quiet s.pending byte ≡ Some p → run s (byte ∷ bytes) ≡ run (passed s byte p) bytes
run_quiet s byte bytes p e = quiet_in s.pending s byte bytes p e

begun_in : (pending : Pending) (s : State) (byte : ℕ) (bytes : List ℕ) → pending ≡ pendings.Gap → is_symbol_byte byte ≡ true → run (record s { pending = pending }) (byte ∷ bytes) ≡ run (begun s byte pendings.Bare) bytes
unfolding run
begun_in pendings.Gap s byte bytes gap symbol = rw symbol refl
begun_in pendings.Bare s byte bytes gap symbol = cc
begun_in pendings.LineComment s byte bytes gap symbol = cc
begun_in pendings.BlockComment s byte bytes gap symbol = cc
begun_in pendings.Slash s byte bytes gap symbol = cc
begun_in pendings.Star s byte bytes gap symbol = cc
begun_in pendings.Colon s byte bytes gap symbol = cc
begun_in (pendings.Quoted quote) s byte bytes gap symbol = cc
begun_in (pendings.Quote quote) s byte bytes gap symbol = cc

-- the same past the first byte of a bare symbol
pub run_begun : (s : State) (byte : ℕ) (bytes : List ℕ) → s.pending ≡ pendings.Gap → is_symbol_byte byte ≡ true → run s (byte ∷ bytes) ≡ run (begun s byte pendings.Bare) bytes
run_begun s byte bytes gap symbol = begun_in s.pending s byte bytes gap symbol

-- past a separator that ends a bare symbol the symbol is seen, and then what is seen of the rest
ended_in : (pending : Pending) (s : State) (byte : ℕ) (bytes : List ℕ) → pending ≡ pendings.Bare → is_separator byte ≡ true
    → run (record s { pending = pending }) (byte ∷ bytes) ≡ and_then (token_of s Bare) (run (passed s byte pendings.Gap) bytes)
unfolding run
ended_in pendings.Bare s byte bytes bare ends = let other = separator_is_no_symbol byte ends in rw (other, other, ends) refl
ended_in pendings.Gap s byte bytes bare ends = cc
ended_in pendings.LineComment s byte bytes bare ends = cc
ended_in pendings.BlockComment s byte bytes bare ends = cc
ended_in pendings.Slash s byte bytes bare ends = cc
ended_in pendings.Star s byte bytes bare ends = cc
ended_in pendings.Colon s byte bytes bare ends = cc
ended_in (pendings.Quoted quote) s byte bytes bare ends = cc
ended_in (pendings.Quote quote) s byte bytes bare ends = cc

pub run_ended : (s : State) (byte : ℕ) (bytes : List ℕ) → s.pending ≡ pendings.Bare → is_separator byte ≡ true
    → run s (byte ∷ bytes) ≡ and_then (token_of s Bare) (run (passed s byte pendings.Gap) bytes)
run_ended s byte bytes bare ends = ended_in s.pending s byte bytes bare ends

-- and past a byte with which one goes on
pub run_symbol : (s : State) (byte : ℕ) (bytes : List ℕ) → s.pending ≡ pendings.Bare → is_symbol_byte byte ≡ true → run s (byte ∷ bytes) ≡ run (passed s byte s.pending) bytes
run_symbol s byte bytes bare symbol = run_quiet s byte bytes s.pending (rw (bare, symbol) refl)
