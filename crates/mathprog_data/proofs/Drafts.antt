-- The events of statements give their blocks.
use Rattle.std.proofs.Common.{◌≡◌, ℕ, ℤ, ◌+◌, ◌||◌, List, [], ◌∷◌, ◌++◌, map, sum, fold, flat_map, nat_eq, Option, Some, None, sym, refl, ap, ap₂, ◌∙◌, append_assoc, append-nil, add_assoc, arith}
use Rattle.mathprog_data.proofs.Common.{list_any, Event, Begins, SetClosed, ParamClosed, Draft, empty_draft, drafted, is_second, GivenValue, SetBlock, ParamBlock, value_of, default_value, set_blocks, param_blocks, count_of, rounded_values, rounded_default, rounded_of, blocks_of, SetItem, ParamItem, item_begun, is_named, Form, Listed, Tabbing, Begun, SetBegun, ParamBegun, TabbingBegun, Statement, Set, Param, Name, Number, Given}
use Rattle.mathprog_data.proofs.RunLaws.{noted_all}
use Rattle.mathprog_data.proofs.Walks.{member_events, given_events, default_events, param_events, statement_events, statements_events}

sum-from : (a : ℕ) (ns : List ℕ) → fold ◌+◌ a ns ≡ a + sum ns
sum-from a [] = omega arith
sum-from a (n ∷ ns) =
    let one = sum-from (a + n) ns in
    let two = sum-from (0 + n) ns in
    omega (arith, one, two)

-- a sum begins with its first number
pub sum-first : (n : ℕ) (ns : List ℕ) → sum (n ∷ ns) ≡ n + sum ns
sum-first n ns =
    let one = sum-from (0 + n) ns in
    omega (arith, one)

-- a draft of these parts
abbrev draft_of : List Name → Option ℤ → List GivenValue → List SetBlock → List ParamBlock → ℕ → Draft
draft_of members default values sets params rounded = record { members = members; default = default; values = values; sets = sets; params = params; rounded = rounded }

-- a draft between statements
abbrev pub between_draft : List SetBlock → List ParamBlock → ℕ → Draft
between_draft sets params rounded = draft_of [] None [] sets params rounded

noted-members : (names : List Name) (members : List Name) (default : Option ℤ) (values : List GivenValue) (sets : List SetBlock) (params : List ParamBlock) (rounded : ℕ) (es : List Event)
    → noted_all (draft_of members default values sets params rounded) (member_events names es) ≡ noted_all (draft_of (members ++ names) default values sets params rounded) es
noted-members [] members default values sets params rounded es = ap (λ m. noted_all (draft_of m default values sets params rounded) es) (sym (append-nil members))
noted-members (name ∷ names) members default values sets params rounded es =
    noted-members names (members ++ name ∷ []) default values sets params rounded es
    ∙ ap (λ m. noted_all (draft_of m default values sets params rounded) es) (append_assoc members (name ∷ []) names)

noted-given : (gs : List Given) (members : List Name) (default : Option ℤ) (values : List GivenValue) (sets : List SetBlock) (params : List ParamBlock) (rounded : ℕ) (es : List Event)
    → noted_all (draft_of members default values sets params rounded) (given_events gs es) ≡ noted_all (draft_of members default (values ++ map value_of gs) sets params (rounded + rounded_values gs)) es
noted-given [] members default values sets params rounded es =
    let none : rounded ≡ rounded + 0 = omega arith in
    ap₂ (λ v r. noted_all (draft_of members default v sets params r) es) (sym (append-nil values)) none
noted-given (g ∷ gs) members default values sets params rounded es =
    noted-given gs members default (values ++ value_of g ∷ []) sets params (rounded + count_of g.number) es
    ∙ ap₂ (λ v r. noted_all (draft_of members default v sets params r) es) (append_assoc values (value_of g ∷ []) (map value_of gs)) (add_assoc rounded (count_of g.number) (rounded_values gs) ∙ ap (λ z. rounded + z) (sym (sum-first (count_of g.number) (map (λ x. count_of x.number) gs))))

noted-default : (default : Option Number) (sets : List SetBlock) (params : List ParamBlock) (rounded : ℕ) (es : List Event)
    → noted_all (between_draft sets params rounded) (default_events default es) ≡ noted_all (draft_of [] (default_value default) [] sets params (rounded + rounded_default default)) es
noted-default None sets params rounded es =
    let none : rounded ≡ rounded + 0 = omega arith in
    ap (λ r. noted_all (between_draft sets params r) es) none
noted-default (Some v) sets params rounded es = refl

noted-begun : (form : Form) (param : ℕ) (default : Option Number) (sets : List SetBlock) (params : List ParamBlock) (rounded : ℕ) (es : List Event)
    → noted_all (between_draft sets params rounded) (param_events form param default es) ≡ noted_all (draft_of [] (default_value default) [] sets params (rounded + rounded_default default)) es
noted-begun Listed param default sets params rounded es = noted-default default sets params rounded es
noted-begun Tabbing param None sets params rounded es = noted-default None sets params rounded es
noted-begun Tabbing param (Some v) sets params rounded es = refl

-- a statement adds its blocks
noted-statement : (s : Statement) (sets : List SetBlock) (params : List ParamBlock) (rounded : ℕ) (es : List Event)
    → noted_all (between_draft sets params rounded) (statement_events s es) ≡ noted_all (between_draft (sets ++ set_blocks s) (params ++ param_blocks s) (rounded + rounded_of s)) es
noted-statement (Set n names) sets params rounded es =
    let none : rounded ≡ rounded + 0 = omega arith in
    noted-members names [] None [] sets params rounded (SetClosed n ∷ es)
    ∙ ap₂ (λ p r. noted_all (between_draft (sets ++ record { set = n; members = names } ∷ []) p r) es) (sym (append-nil params)) none
noted-statement (Param form param default values) sets params rounded es =
    noted-begun form param default sets params rounded (given_events values (ParamClosed param ∷ es))
    ∙ noted-given values [] (default_value default) [] sets params (rounded + rounded_default default) (ParamClosed param ∷ es)
    ∙ ap₂ (λ s r. noted_all (between_draft s (params ++ record { param = param; default = default_value default; values = map value_of values } ∷ []) r) es) (sym (append-nil sets)) (add_assoc rounded (rounded_default default) (rounded_values values))

-- statements add their blocks
pub noted-statements : (ss : List Statement) (sets : List SetBlock) (params : List ParamBlock) (rounded : ℕ) (es : List Event)
    → noted_all (between_draft sets params rounded) (statements_events ss es) ≡ noted_all (between_draft (sets ++ flat_map set_blocks ss) (params ++ flat_map param_blocks ss) (rounded + sum (map rounded_of ss))) es
noted-statements [] sets params rounded es =
    let none : rounded ≡ rounded + 0 = omega arith in
    ap₂ (λ s p. noted_all (between_draft s p rounded) es) (sym (append-nil sets)) (sym (append-nil params))
    ∙ ap (λ r. noted_all (between_draft (sets ++ []) (params ++ []) r) es) none
noted-statements (s ∷ ss) sets params rounded es =
    noted-statement s sets params rounded (statements_events ss es)
    ∙ noted-statements ss (sets ++ set_blocks s) (params ++ param_blocks s) (rounded + rounded_of s) es
    ∙ ap₂ (λ a b. noted_all (between_draft a b ((rounded + rounded_of s) + sum (map rounded_of ss))) es) (append_assoc sets (set_blocks s) (flat_map set_blocks ss)) (append_assoc params (param_blocks s) (flat_map param_blocks ss))
    ∙ ap (λ r. noted_all (between_draft (sets ++ (set_blocks s ++ flat_map set_blocks ss)) (params ++ (param_blocks s ++ flat_map param_blocks ss)) r) es) (add_assoc rounded (rounded_of s) (sum (map rounded_of ss)) ∙ ap (λ z. rounded + z) (sym (sum-first (rounded_of s) (map rounded_of ss))))

-- the draft of statements
pub noted-all : (ss : List Statement) → noted_all empty_draft (statements_events ss []) ≡ between_draft (flat_map set_blocks ss) (flat_map param_blocks ss) (sum (map rounded_of ss))
noted-all ss =
    let none : 0 + sum (map rounded_of ss) ≡ sum (map rounded_of ss) = omega arith in
    noted-statements ss [] [] 0 [] ∙ ap (between_draft (flat_map set_blocks ss) (flat_map param_blocks ss)) none

-- the blocks of the events of statements are those of the statements
pub drafted-all : (ss : List Statement) → drafted (noted_all empty_draft (statements_events ss [])) ≡ blocks_of ss
drafted-all ss = ap drafted (noted-all ss)

named-set : (n : ℕ) (ss : List Statement) → list_any (λ b. nat_eq n b.set) (flat_map set_blocks ss) ≡ is_named (SetItem n) ss
named-set n [] = refl
named-set n (Set k names ∷ ss) = ap (λ z. nat_eq n k || z) (named-set n ss)
named-set n (Param form param default values ∷ ss) = named-set n ss

named-param : (n : ℕ) (ss : List Statement) → list_any (λ b. nat_eq n b.param) (flat_map param_blocks ss) ≡ is_named (ParamItem n) ss
named-param n [] = refl
named-param n (Set k names ∷ ss) = named-param n ss
named-param n (Param form param default values ∷ ss) = ap (λ z. nat_eq n param || z) (named-param n ss)

second-of : (ss : List Statement) (begun : Begun) → is_second (between_draft (flat_map set_blocks ss) (flat_map param_blocks ss) (sum (map rounded_of ss))) (Begins begun) ≡ is_named (item_begun begun) ss
second-of ss (SetBegun n) = named-set n ss
second-of ss (ParamBegun n) = named-param n ss
second-of ss (TabbingBegun n default) = named-param n ss

-- a statement is a second one, where its name is among those
pub second-named : (ss : List Statement) (begun : Begun) → is_second (noted_all empty_draft (statements_events ss [])) (Begins begun) ≡ is_named (item_begun begun) ss
second-named ss begun = ap (λ d. is_second d (Begins begun)) (noted-all ss) ∙ second-of ss begun
