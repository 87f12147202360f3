-- What clap's contract says of the command that it is given here.
use Rattle.command_words.proofs.Common.{◌≡◌, ◌∙◌, ap, sym, refl, subst, List, [], ◌∷◌, Some, None, true, cond, Kinds, IsAmong, fault_of, is_simple_and_free, app, clap_rows, is_fault}
use Rattle.clap.specs.Words.{App, Row, Text, is_simple, matches_of}
use Rattle.clap.specs.declared.error.kind.ErrorKind.{ErrorKind}
use Rattle.clap.proofs.OnLiterals.{clap_on_literals}

-- the command is one of which clap says which words it takes
pub simple : (a : App) → a ≡ app → is_simple a ≡ true
unfolding clap_on_literals
simple a is = ap is_simple is

pub simple_and_free : (a : App) → a ≡ app → is_simple_and_free a ≡ true
unfolding clap_on_literals
simple_and_free a is = ap is_simple_and_free is

-- where no kind of error comes, its rows are there
pub is_taken : (a : App) (words : List Text) (rows : List Row) → a ≡ app → fault_of a words ≡ [] → rows ≡ matches_of a words → Some rows ≡ clap_rows words
unfolding clap_rows
is_taken a words rows is none found =
    ap Some (found ∙ ap (λ x. matches_of x words) is)
    ∙ sym (ap (λ kinds. cond (is_fault kinds) None (Some (matches_of app words))) (sym (ap (λ x. fault_of x words) is) ∙ none))

-- where one does, there are none
pub is_refused : (a : App) (words : List Text) (kind : ErrorKind) → a ≡ app → IsAmong kind (fault_of a words) → None ≡ clap_rows words
unfolding clap_rows
is_refused a words kind is among = go (fault_of app words) (subst (λ (x : App). IsAmong kind (fault_of x words)) is among)
  where
    go : (kinds : Kinds) → IsAmong kind kinds → None ≡ cond (is_fault kinds) None (Some (matches_of app words))
    go [] h = absurd h
    go (k ∷ ks) h = refl
