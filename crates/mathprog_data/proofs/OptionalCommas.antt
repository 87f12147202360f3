-- A comma where the state of the machine allows one.
use Rattle.mathprog_data.proofs.Common.{Bool, true, List, ◌∷◌, Placed, IsSign, Comma}
use Rattle.mathprog_data.specs.declared.lexeme.Sign.TheVariants as signs
use Rattle.mathprog_data.specs.Symbols as symbols

-- a comma or none where one is allowed, and none elsewhere; the second list follows it
pub data OptionalComma : (allowed : Bool) → List Placed → List Placed → Type 0 where
  none : {allowed : Bool} {ts : List Placed} → OptionalComma allowed ts ts
  one : {t : Placed} {ts : List Placed} → IsSign signs.Comma t → OptionalComma true (t ∷ ts) ts

-- where one is allowed, it is the grammar's
pub comma_of : {ts us : List Placed} → OptionalComma true ts us → Comma ts us
comma_of none = symbols.none
comma_of (one is) = symbols.one is
