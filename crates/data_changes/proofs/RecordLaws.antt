-- Members by their names and by their positions, and what a record says by both.
use Rattle.data_changes.proofs.Common.{◌≡◌, ◌∙◌, ℕ, ◌+◌, ◌-◌, ◌<◌, Bool, true, false, cond, List, [], ◌∷◌, ◌++◌, append_assoc, drop, length, get_or, take, Option, None, Some, ap, ap₂, append-nil, arith, at_drop_all, drop_more, map, position, refl, subst, sym, ◌≤◌, slice_index_or}
use Rattle.std.proofs.lemmas.List.{get_or-map, length-append, length-drop, length-map, take_all, take_more}
use Rattle.std.proofs.lemmas.Slice.Zip.{all_zipped_more, get_or-zip, length-zip}
use Rattle.std.specs.List.{AllZip}
use Rattle.std.specs.Option.{option_and_then}
use Rattle.std.specs.Borrow.{Bor}
use Rattle.std.specs.Prelude.{is_some, nat_eq, nat_le, if◌then◌else◌, ◌&&◌, ◌||◌, ◌==◌, option_map}
use Rattle.model_sets.specs.Members.{SetLists, index_of, is_among, members, years}
use Rattle.model_sets.specs.Names.{region, year}
use Rattle.model_sets.specs.Params.{subscript_sets}
use Rattle.model_sets.specs.Years.{number_of}
use Rattle.param_tables.proofs.PlaceLaws.{index_of-found, is_some-index_of}
use Rattle.param_tables.specs.ChangeTold.{CanAllBeNamed, CanBeNamed, named_by, named_over}
use Rattle.param_tables.specs.declared.change.Members.{Members}
use Rattle.param_tables.specs.Changes.{Every, Named, One, Years}
use Rattle.plan_files.specs.Files.{Fields}
use Rattle.data_changes.specs.Columns.{columns_of, columns_over, field_in, is_every}
use Rattle.data_changes.specs.Records.{all_named, members_named, texts_of, years_between, years_named}

-- a name that has a position is among the names
pub among : (names : List (List ℕ)) (name : List ℕ) (i : ℕ) → index_of names name ≡ Some i → is_among names name ≡ true
among names name i found = sym (is_some-index_of names name) ∙ ap is_some found

pub not_among : (names : List (List ℕ)) (name : List ℕ) → index_of names name ≡ None → is_among names name ≡ false
not_among names name none = sym (is_some-index_of names name) ∙ ap is_some none

-- the number of the year at a name's position is that of the name
pub year_at : (sets : SetLists) (name : List ℕ) (i : ℕ) → index_of (members sets year) name ≡ Some i → i < length (members sets year) → slice_index_or (years sets) i 0 ≡ number_of name
year_at sets name i found below = get_or-map number_of (members sets year) i [] 0 below ∙ ap number_of (index_of-found (members sets year) name i found)

-- the number of the year, where it is a member
abbrev pub year_in : List (List ℕ) → List ℕ → Option ℕ
year_in names name = if is_among names name then Some (number_of name) else None

-- the years from one to another, where both are there and the first isn't later
abbrev pub years_by : Option ℕ → Option ℕ → Option Named
years_by None last = None
years_by (Some first) None = None
years_by (Some first) (Some last) = if nat_le first last then Some (Years first last) else None

between : (names : List (List ℕ)) (first last : List ℕ) → years_between names first last ≡ years_by (year_in names first) (year_in names last)
between names first last = by (is_among names first) (is_among names last)
  where
    by : (a b : Bool) → cond (a && b && nat_le (number_of first) (number_of last)) (Some (Years (number_of first) (number_of last))) None ≡ years_by (cond a (Some (number_of first)) None) (cond b (Some (number_of last)) None)
    by true true = refl
    by true false = refl
    by false b = refl

-- the years that a text names, by the numbers of the names before and after its first `-`
pub years_are : (names : List (List ℕ)) (text : List ℕ) (p : ℕ) (first last : Option ℕ) → position (λ b. b == 45) text ≡ Some p → first ≡ year_in names (take p text) → last ≡ year_in names (take (length text - (p + 1)) (drop (p + 1) text)) → years_named names text ≡ years_by first last
years_are names text p first last at is_first is_last =
    ap (option_and_then (λ place. years_between names (take place text) (drop (place + 1) text))) at
    ∙ between names (take p text) (drop (p + 1) text)
    ∙ ap₂ years_by (sym is_first) (sym (is_last ∙ ap (year_in names) (take_all (length text - (p + 1)) (drop (p + 1) text) (omega (arith, length-drop (p + 1) text)))))

-- without a `-` it names none
pub no_years : (names : List (List ℕ)) (text : List ℕ) → position (λ b. b == 45) text ≡ None → years_named names text ≡ None
no_years names text none = ap (option_and_then (λ place. years_between names (take place text) (drop (place + 1) text))) none

module _ (sets : SetLists) (k : ℕ) (text : List ℕ) (some : is_every text ≡ false) where
  abbrev rest : Option Named
  rest = if nat_eq k year then years_named (members sets k) text else None

  -- what a text names that doesn't name every member
  not_every : members_named sets k text ≡ cond (is_among (members sets k) text) (Some (One text)) rest
  not_every = ap (λ b. cond b (Some Every) (cond (is_among (members sets k) text) (Some (One text)) rest)) some

  -- the name of a member names that one
  pub one_named : (i : ℕ) → index_of (members sets k) text ≡ Some i → Some (One (slice_index_or (members sets k) i [])) ≡ members_named sets k text
  one_named i found =
      ap (λ name. Some (One name)) (index_of-found (members sets k) text i found)
      ∙ sym (not_every ∙ ap (λ b. cond b (Some (One text)) rest) (among (members sets k) text i found))

  pub none_named : index_of (members sets k) text ≡ None → members_named sets k text ≡ rest
  none_named none = not_every ∙ ap (λ b. cond b (Some (One text)) rest) (not_among (members sets k) text none)

-- ---- the members that all texts name

-- one more is named after those of the first sets
pub named_push : (sets : SetLists) (ks : List ℕ) (ms : List Members) (m : Members) → length ms < length ks → named_over sets ks (ms ++ m ∷ []) ≡ named_over sets ks ms ++ named_by sets (get_or ks (length ms) 0) m ∷ []
named_push sets [] ms m below = absurd (omega arith)
named_push sets (k ∷ ks) [] m below = one ks
  where
    one : (others : List ℕ) → named_by sets k m ∷ named_over sets others [] ≡ named_by sets k m ∷ []
    one [] = refl
    one (o ∷ others) = refl
named_push sets (k ∷ ks) (n ∷ ms) m below = ap (λ more. named_by sets k n ∷ more) (named_push sets ks ms m (omega arith))

-- there is a column for each set
pub length-columns : (is_second : Bool) (sets : List ℕ) → length (columns_over is_second sets) ≡ length sets
length-columns is_second [] = refl
length-columns is_second (k ∷ ks) = let more = length-columns (nat_eq k region || is_second) ks in omega (arith, more)

-- so far with one more, where the first of the others names it
all_more : (sets : SetLists) (before : List Named) (k : ℕ) (text : List ℕ) (others : List (ℕ × List ℕ)) (named : Named) → members_named sets k text ≡ Some named
    → option_map (λ more. before ++ more) (all_named sets ((k, text) ∷ others)) ≡ option_map (λ more. (before ++ named ∷ []) ++ more) (all_named sets others)
all_more sets before k text others named is =
    ap (λ o. option_map (λ more. before ++ more) (option_and_then (λ n. option_map (λ more. n ∷ more) (all_named sets others)) o)) is
    ∙ joined (all_named sets others)
  where
    joined : (o : Option (List Named)) → option_map (λ more. before ++ more) (option_map (λ more. named ∷ more) o) ≡ option_map (λ more. (before ++ named ∷ []) ++ more) o
    joined None = refl
    joined (Some more) = ap Some (sym (append_assoc before (named ∷ []) more))

module _ (sets : SetLists) (header r : Fields) (param : ℕ) where
  abbrev texts : List (ℕ × List ℕ)
  texts = texts_of header r param

  abbrev ks : List ℕ
  ks = subscript_sets param

  -- these name what the texts of the first i subscripts name, and all texts name that before what the others name
  pub record IsNamedSoFar (i : ℕ) (ms : List Members) : Type 0 where
    pub many : length ms ≡ i
    pub named : all_named sets texts ≡ option_map (λ more. named_over sets ks ms ++ more) (all_named sets (drop i texts))
    pub can : AllZip (CanBeNamed sets) (take i ks) ms

  abbrev text_at : ℕ → List ℕ
  text_at i = field_in header r (get_or (columns_of param) i [])

  drop_texts : (i : ℕ) → i < length ks → drop i texts ≡ (get_or ks i 0, text_at i) ∷ drop (i + 1) texts
  drop_texts i below =
      let columns = length-columns false ks in
      let fields = map (field_in header r) (columns_of param) in
      let many : length fields ≡ length ks = length-map (columns_of param) (field_in header r) ∙ columns in
      drop_more texts i (0, []) (rw (length-zip ks fields) (omega (arith, below, many)))
      ∙ ap (λ e. e ∷ drop (i + 1) texts) (
      get_or-zip ks fields i (0, []) below (omega (arith, below, many))
      ∙ ap (λ (t : List ℕ). (get_or ks i 0, t)) (get_or-map (field_in header r) (columns_of param) i [] [] (omega (arith, below, columns))))

  pub named_first : IsNamedSoFar 0 []
  named_first = record { many = refl; named = start (all_named sets texts); can = tt }
    where
      start : (o : Option (List Named)) → o ≡ option_map (λ more. named_over sets ks [] ++ more) o
      start None = refl
      start (Some more) = ap Some (none ks)
        where
          none : (ns : List ℕ) → more ≡ named_over sets ns [] ++ more
          none [] = refl
          none (n ∷ ns) = refl

  module _ (i : ℕ) (ms : List Members) (far : IsNamedSoFar i ms) where
    abbrev before : List Named
    before = named_over sets ks ms

    module _ (below : i < length ks) (k : ℕ) (is_set : k ≡ get_or ks i 0) (text : List ℕ) (is_text : text ≡ text_at i) (o : Option Members) (named : option_map (named_by sets k) o ≡ members_named sets k text) where
      here : members_named sets (get_or ks i 0) (text_at i) ≡ option_map (named_by sets k) o
      here = ap₂ (λ (n : ℕ) (t : List ℕ). members_named sets n t) (sym is_set) (sym is_text) ∙ sym named

      pub named_none : o ≡ None → None ≡ all_named sets texts
      named_none none =
          sym (
          far.named
          ∙ ap (λ ts. option_map (λ more. before ++ more) (all_named sets ts)) (drop_texts i below)
          ∙ ap (λ n. option_map (λ more. before ++ more) (option_and_then (λ one. option_map (λ more. one ∷ more) (all_named sets (drop (i + 1) texts))) n)) (here ∙ ap (option_map (named_by sets k)) none))

      pub named_more : (m : Members) → o ≡ Some m → CanBeNamed sets k m → IsNamedSoFar (i + 1) (ms ++ m ∷ [])
      named_more m some can = record {
        many = let more = length-append ms (m ∷ []) in let so_far = far.many in omega (arith, more, so_far);
        named =
            far.named
            ∙ ap (λ ts. option_map (λ more. before ++ more) (all_named sets ts)) (drop_texts i below)
            ∙ all_more sets before (get_or ks i 0) (text_at i) (drop (i + 1) texts) (named_by sets (get_or ks i 0) m) (here ∙ ap (option_map (named_by sets k)) some ∙ ap (λ (n : ℕ). Some (named_by sets n m)) is_set)
            ∙ ap (λ front. option_map (λ more. front ++ more) (all_named sets (drop (i + 1) texts))) (
            sym (
            named_push sets ks ms m (let so_far = far.many in omega (arith, so_far, below))
            ∙ ap (λ (n : ℕ). before ++ named_by sets (get_or ks n 0) m ∷ []) far.many));
        can = subst (λ (ns : List ℕ). AllZip (CanBeNamed sets) ns (ms ++ m ∷ [])) (sym (take_more ks i 0 below)) (all_zipped_more (CanBeNamed sets) (take i ks) ms (get_or ks i 0) m far.can (subst (λ (n : ℕ). CanBeNamed sets n m) is_set can));
      }

    module _ (past : length ks ≤ i) where
      pub named_all : Some before ≡ all_named sets texts
      named_all =
          sym (
          far.named
          ∙ at_drop_all (λ ts. option_map (λ more. before ++ more) (all_named sets ts)) texts i (rw (length-zip ks (map (field_in header r) (columns_of param))) (omega (arith, past)))
          ∙ ap Some (append-nil before))

      pub can_all : CanAllBeNamed sets ks ms
      can_all = subst (λ (ns : List ℕ). AllZip (CanBeNamed sets) ns ms) (take_all i ks past) far.can

-- there are as many as subscripts
pub columns_long : (columns : List (Bor (List ℕ))) (param : ℕ) → map (λ column. column.now) columns ≡ columns_of param → length columns ≡ length (subscript_sets param)
columns_long columns param same = sym (length-map columns (λ column. column.now)) ∙ ap length same ∙ length-columns false (subscript_sets param)

-- the name of the column at a place
pub column_at : (columns : List (Bor (List ℕ))) (param i : ℕ) (d : Bor (List ℕ)) → map (λ column. column.now) columns ≡ columns_of param → i < length (subscript_sets param) → (get_or columns i d).now ≡ get_or (columns_of param) i []
column_at columns param i d same below =
    sym (get_or-map (λ column. column.now) columns i d [] (let all = columns_long columns param same in omega (arith, all, below)))
    ∙ ap (λ names. get_or names i []) same
