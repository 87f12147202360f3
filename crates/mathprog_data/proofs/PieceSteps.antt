-- Where the tokens begin that a byte makes whole and the token that is open after it.
use Rattle.mathprog_data.proofs.Common.{◌≡◌, ℕ, ◌<◌, ◌≤◌, Bool, true, false, cond, ◌==◌, Option, None, Some, refl, sym, subst, arith, IfSome, Mark, Pending, is_separator, is_symbol_byte, is_quote, State, Step, GoesOn, token_from, is_token, before, taken, taken_in, continues, ended, closed, opened, sign_taken, sign_of, silent, settled, begun, in_comment, after_star, IfEarlier, seen_from, is_line_feed}
use Rattle.mathprog_data.specs.declared.lexeme.Sign.{Sign as TheSign}
use Rattle.mathprog_data.specs.declared.lexer.pending.Pending.TheVariants as pendings

-- with this pending
abbrev pending_in : State → Pending → State
pending_in s p = record s { pending = p }

comment_is_no_token : (byte : ℕ) → is_token (in_comment byte) ≡ false
comment_is_no_token byte = elim (byte == 42) as (λ b. is_token (cond b pendings.Star pendings.BlockComment) ≡ false) [ true ↦ refl | false ↦ refl ]

star_is_no_token : (byte : ℕ) → is_token (after_star byte) ≡ false
star_is_no_token byte = elim (byte == 47) as (λ b. is_token (cond b pendings.Gap (in_comment byte)) ≡ false) [ true ↦ refl | false ↦ comment_is_no_token byte ]

-- where no token is pending, whatever is said of it holds
none_open : (Q : ℕ → Type 0) (from : ℕ) (p : Pending) → is_token p ≡ false → IfSome (cond (is_token p) (Some from) None) Q
none_open Q from p is_none = subst (λ b. IfSome (cond b (Some from) None) Q) (sym is_none) tt

-- a fact that always holds does so of each token
always : (start : ℕ) (began : Option ℕ) → IfEarlier start (λ from. Unit {0}) began
always start None = tt
always start (Some from) = λ h. tt

module _ (P : ℕ → Type 0) (start : ℕ) where
  closed_from : (s : State) (quote : ℕ) (bad : Option Mark) → (s.from < start → P s.from) → IfEarlier start P (seen_from (closed s quote bad))
  closed_from s quote None holds = holds
  closed_from s quote (Some at) holds = tt

  ended_from : (s : State) (p : Pending) → IfEarlier start P (token_from (pending_in s p)) → IfEarlier start P (seen_from (ended s p))
  ended_from s pendings.Gap holds = tt
  ended_from s pendings.LineComment holds = tt
  ended_from s pendings.Slash holds = tt
  ended_from s pendings.BlockComment holds = tt
  ended_from s pendings.Star holds = tt
  ended_from s pendings.Colon holds = holds
  ended_from s pendings.Bare holds = holds
  ended_from s (pendings.Quoted quote) holds = tt
  ended_from s (pendings.Quote quote) holds = closed_from s quote s.bad holds

  -- the step makes a token whole that holds, and after it a token is open that was, or begins there
  abbrev Well : State → Step → Type 0
  Well s step = IfEarlier start P (seen_from step.seen) × GoesOn s step.state

  by_cond : (s : State) (b : Bool) (x y : Step) → Well s x → Well s y → Well s (cond b x y)
  by_cond s true x y p q = p
  by_cond s false x y p q = q

  begun_well : (s : State) (byte : ℕ) (p : Pending) → Well s (silent (begun s byte p))
  begun_well s byte pendings.Gap = (tt, tt)
  begun_well s byte pendings.LineComment = (tt, tt)
  begun_well s byte pendings.Slash = (tt, tt)
  begun_well s byte pendings.BlockComment = (tt, tt)
  begun_well s byte pendings.Star = (tt, tt)
  begun_well s byte pendings.Colon = (tt, λ h. absurd (omega arith))
  begun_well s byte pendings.Bare = (tt, λ h. absurd (omega arith))
  begun_well s byte (pendings.Quoted quote) = (tt, λ h. absurd (omega arith))
  begun_well s byte (pendings.Quote quote) = (tt, λ h. absurd (omega arith))

  sign_well : (s : State) (byte : ℕ) (sign : Option TheSign) → start ≤ s.place → Well s (sign_taken s byte sign)
  sign_well s byte None order = (tt, tt)
  sign_well s byte (Some sign) order = (λ h. absurd (omega arith), tt)

  opened_well : (s : State) (byte : ℕ) → start ≤ s.place → Well s (opened s byte)
  opened_well s byte order =
      by_cond s (is_symbol_byte byte) _ _ (begun_well s byte pendings.Bare)
      (by_cond s (is_separator byte) _ _ (tt, tt)
      (by_cond s (byte == 58) _ _ (begun_well s byte pendings.Colon)
      (by_cond s (is_quote byte) _ _ (begun_well s byte (pendings.Quoted byte))
      (by_cond s (byte == 35) _ _ (begun_well s byte pendings.LineComment)
      (by_cond s (byte == 47) _ _ (begun_well s byte pendings.Slash) (sign_well s byte (sign_of byte) order))))))

  taken_well_in : (s : State) (p : Pending) (byte : ℕ) → start ≤ s.place → IfEarlier start P (token_from (pending_in s p))
      → Well (pending_in s p) (taken_in (pending_in s p) byte p)
  taken_well_in s pendings.Gap byte order holds = opened_well (pending_in s pendings.Gap) byte order
  taken_well_in s pendings.LineComment byte order holds = (tt, tt)
  taken_well_in s pendings.Slash byte order holds = (tt, tt)
  taken_well_in s pendings.BlockComment byte order holds = (tt, none_open (λ from. from < s.place → token_from (pending_in s pendings.BlockComment) ≡ Some from) s.from (in_comment byte) (comment_is_no_token byte))
  taken_well_in s pendings.Star byte order holds = (tt, none_open (λ from. from < s.place → token_from (pending_in s pendings.Star) ≡ Some from) s.from (after_star byte) (star_is_no_token byte))
  taken_well_in s pendings.Colon byte order holds = (holds, tt)
  taken_well_in s pendings.Bare byte order holds = (tt, λ h. refl)
  taken_well_in s (pendings.Quoted quote) byte order holds =
      by_cond (pending_in s (pendings.Quoted quote)) (is_line_feed byte) _ _ (tt, tt)
      (by_cond (pending_in s (pendings.Quoted quote)) (byte == quote) _ _ (tt, λ h. refl) (tt, λ h. refl))
  taken_well_in s (pendings.Quote quote) byte order holds = (tt, λ h. refl)

  taken_well : (s : State) (byte : ℕ) → start ≤ s.place → IfEarlier start P (token_from s) → Well s (taken s byte)
  taken_well s byte order holds = taken_well_in s s.pending byte order holds

  -- the token that the end of the text ends holds
  pub end_from : (s : State) → IfEarlier start P (token_from s) → IfEarlier start P (seen_from (ended s s.pending))
  end_from s holds = ended_from s s.pending holds

  -- the token that the byte ends holds
  pub before_from : (s : State) (byte : ℕ) → IfEarlier start P (token_from s) → IfEarlier start P (seen_from (before s byte).seen)
  before_from s byte holds =
      elim (continues s.pending byte) as (λ b. IfEarlier start P (seen_from (cond b (silent s) (record { state = settled s; seen = ended s s.pending })).seen))
      [ true ↦ tt | false ↦ ended_from s s.pending holds ]

  -- the one that is open before the byte is taken holds
  pub middle_from : (s : State) (byte : ℕ) → IfEarlier start P (token_from s) → IfEarlier start P (token_from (before s byte).state)
  middle_from s byte holds =
      elim (continues s.pending byte) as (λ b. IfEarlier start P (token_from (cond b (silent s) (record { state = settled s; seen = ended s s.pending })).state))
      [ true ↦ holds | false ↦ tt ]

  -- the one that it makes whole holds
  pub taken_from : (s : State) (byte : ℕ) → start ≤ s.place → IfEarlier start P (token_from s) → IfEarlier start P (seen_from (taken s byte).seen)
  taken_from s byte order holds = (taken_well s byte order holds).0

goes_on_settled : (s : State) (later : Option ℕ) → IfSome later (λ from. from < s.place → None ≡ Some from) → IfSome later (λ from. from < s.place → token_from s ≡ Some from)
goes_on_settled s None goes_on = tt
goes_on_settled s (Some from) goes_on = λ h. let differ : None ≡ Some from = goes_on h in cc

-- from before a byte to after it
pub step_goes_on : (s : State) (byte : ℕ) → GoesOn s (taken (before s byte).state byte).state
step_goes_on s byte =
    elim (continues s.pending byte) as (λ b. GoesOn s (taken (cond b (silent s) (record { state = settled s; seen = ended s s.pending })).state byte).state) [
      | true ↦ (taken_well (λ from. Unit {0}) 0 s byte (omega arith) (always 0 (token_from s))).1
      | false ↦ goes_on_settled s (token_from (taken (settled s) byte).state) (taken_well (λ from. Unit {0}) 0 (settled s) byte (omega arith) tt).1
    ]
