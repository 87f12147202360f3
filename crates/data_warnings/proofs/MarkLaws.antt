-- Positions that are marked, one value after another.
use Rattle.data_warnings.proofs.Common.{◌≡◌, ◌<◌, ◌+◌, ◌||◌, pos, ◌∷◌, ◌∙◌, [], ℕ, Bool, true, false, List, Option, Some, length, take, ap, refl, sym, if◌then◌else◌, list_any}
use Rattle.std.proofs.Common.{BTreeMap}
use Rattle.std.specs.BTreeMap.{get, is_at}
use Rattle.std.specs.Map.{lookup}
use Rattle.std.specs.Option.{is_some}
use Rattle.std.specs.Ordering.{nat_cmp}
use Rattle.std.specs.Prelude.{get_or}
use Rattle.std.proofs.lemmas.List.{get_or_default, take_more}
use Rattle.mathprog_data.specs.Meaning.{GivenValue}
use Rattle.std.proofs.lemmas.List.Folds.{list_any-append}

or_false : (a : Bool) → (a || false) ≡ a
or_false true = refl
or_false false = refl

or_true : (a : Bool) → (a || true) ≡ true
or_true true = refl
or_true false = refl

or_assoc : (a b c : Bool) → ((a || b) || c) ≡ (a || (b || c))
or_assoc true b c = refl
or_assoc false b c = refl

-- one element more
pub any_more : {X : Type 0} (p : X → Bool) (xs : List X) (i : ℕ) (d : X) → i < length xs → list_any p (take (i + 1) xs) ≡ (list_any p (take i xs) || p (get_or xs i d))
any_more p xs i d below =
    ap (list_any p) (take_more xs i d below) ∙ list_any-append p (take i xs) (get_or xs i d ∷ []) ∙ ap (λ b. list_any p (take i xs) || b) (or_false (p (get_or xs i d)))

-- a mark that was put
marked_at : (before now : Option Bool) (here : Bool) → now ≡ (if here then Some true else before) → is_some now ≡ (is_some before || here)
marked_at before now true e = ap is_some e ∙ sym (or_true (is_some before))
marked_at before now false e = ap is_some e ∙ sym (or_false (is_some before))

-- a step that puts a mark where the element asks for it
pub marked_more : (first before now : Option Bool) (so_far here : Bool) → is_some before ≡ (is_some first || so_far) → now ≡ (if here then Some true else before) → is_some now ≡ (is_some first || (so_far || here))
marked_more first before now so_far here so e = marked_at before now here e ∙ ap (λ b. b || here) so ∙ or_assoc (is_some first) so_far here

-- one that asks for none
pub marked_less : (first before : Bool) (so_far here : Bool) → before ≡ (first || so_far) → here ≡ false → before ≡ (first || (so_far || here))
marked_less first before so_far here so e = so ∙ ap (λ b. first || b) (sym (or_false so_far) ∙ ap (λ b. so_far || b) (sym e))

-- a step that puts many
pub marked_all : (first before now : Bool) (so_far here : Bool) → before ≡ (first || so_far) → now ≡ (before || here) → now ≡ (first || (so_far || here))
marked_all first before now so_far here so e = e ∙ ap (λ b. b || here) so ∙ or_assoc first so_far here

-- nothing is marked in a map without entries
pub none_marked : (marked : BTreeMap ℕ Bool) (t : ℕ) → marked.entries ≡ [] → is_some (get nat_cmp marked t) ≡ false
none_marked marked t empty = ap (λ entries. is_some (lookup (is_at (nat_cmp t)) entries)) empty

-- ---- values and statements

pub no_value : GivenValue
no_value = record { index = []; value = pos 0; at = record { line = 0; column = 0 } }

pub value_there : (values : List GivenValue) (i : ℕ) → i < length values → get_or values i no_value ≡ get_or values i (get_or values i no_value)
value_there values i below = get_or_default values i no_value (get_or values i no_value) below
