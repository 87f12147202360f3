-- What is held between two words, and what it says of the words so far.
use Rattle.command_words.proofs.Common.{◌≡◌, ◌∙◌, List, [], ◌∷◌, ◌++◌, Option, Some, None, is_some, Bool, true, false, cond, refl, ap, sym, subst, option_map, append-nil, codes, unwrap_or, option_map_or, bytes_eq, bytes_eq-Decides, Reading, CommandLine, use_fault, is_fault, files_in, value_in, Part, File, Chosen}
use Rattle.clap.specs.Walk.{Held, Row, Text, all_of, has_row, nothing_held, reading_by, settled, used, used_by_id, with_values, without}
use Rattle.command_words.proofs.ClapRows.{added_here, added_elsewhere, has_row_is, without_none}
use Rattle.command_words.proofs.ClapTurns.{file, rule_for, rules, settling, with_due, with_file, with_use, with_value}
use Rattle.command_words.proofs.ClapOptions.{Fails, IsOption, said, using}

-- ---- one more part

files_after : (parts : List Part) (part : Part) → files_in (parts ++ part ∷ []) ≡ files_in parts ++ files_in (part ∷ [])
files_after [] part = refl
files_after (File other ∷ parts) part = ap (λ more. other ∷ more) (files_after parts part)
files_after (Chosen o value ∷ parts) part = files_after parts part

-- the first of two
abbrev earlier : Option Text → Option Text → Option Text
earlier None value = value
earlier (Some first) value = Some first

value_after : (parts : List Part) (part : Part) (name : Text) → value_in name (parts ++ part ∷ []) ≡ earlier (value_in name parts) (value_in name (part ∷ []))
value_after [] part name = refl
value_after (File other ∷ parts) part name = value_after parts part name
value_after (Chosen o value ∷ parts) part name = go (bytes_eq o name) (value_after parts part name)
  where
    go : (b : Bool) → value_in name (parts ++ part ∷ []) ≡ earlier (value_in name parts) (value_in name (part ∷ []))
        → cond b (Some value) (value_in name (parts ++ part ∷ [])) ≡ earlier (cond b (Some value) (value_in name parts)) (value_in name (part ∷ []))
    go true rest = refl
    go false rest = rest

only_earlier : (value : Option Text) → earlier value None ≡ value
only_earlier None = refl
only_earlier (Some value) = refl

-- ---- clap's rows

-- no values are no row
abbrev pub listed : List Text → Option (List Text)
listed [] = None
listed (x ∷ xs) = Some (x ∷ xs)

-- a row of one value, or none
abbrev pub row_of_one : Option Text → Option (List Text)
row_of_one = option_map (λ value. value ∷ [])

-- the rows say what was given
pub record Says (rows : List Row) (parts : List Part) : Type 0 where
  pub files : all_of (codes "file") rows ≡ listed (files_in parts)
  pub options : (name : Text) → bytes_eq (codes "file") name ≡ false → all_of name rows ≡ row_of_one (value_in name parts)

listed_more : (xs : List Text) (x : Text) → Some (unwrap_or (listed xs) [] ++ x ∷ []) ≡ listed (xs ++ x ∷ [])
listed_more [] x = refl
listed_more (y ∷ ys) x = refl

-- after one more file
pub says_file : (rows : List Row) (parts : List Part) (name : Text) → Says rows parts → Says (used file (name ∷ []) rows) (parts ++ File name ∷ [])
says_file rows parts name s = record {
  files = added_here (codes "file") (reading_by file) CommandLine name rows refl ∙ ap (λ found. Some (unwrap_or found [] ++ name ∷ [])) s.files
      ∙ listed_more (files_in parts) name ∙ ap listed (sym (files_after parts (File name)));
  options = λ o apart. added_elsewhere (codes "file") (reading_by file) CommandLine name o rows apart ∙ s.options o apart
      ∙ ap row_of_one (sym (value_after parts (File name) o ∙ only_earlier (value_in o parts)));
}

module _ (rows : List Row) (parts : List Part) (s : Says rows parts) where
  -- whether an option has a row
  pub row_is : (o : Text × Bool) → IsOption o → has_row o.0 rows ≡ is_some (row_of_one (value_in o.0 parts))
  row_is o known = has_row_is o.0 rows ∙ ap is_some (s.options o.0 known.file_no)

  -- its first value is no fault, and a second one is
  pub first_value : (o : Text × Bool) (value : Text) → IsOption o → value_in o.0 parts ≡ None → using o value rows ≡ []
  first_value (name, true) value known none = rw (row_is (name, true) known ∙ ap (λ v. is_some (row_of_one v)) none) refl
  first_value (name, false) value known none = rw (row_is (name, false) known ∙ ap (λ v. is_some (row_of_one v)) none) refl

  pub second_value : (o : Text × Bool) (value first : Text) → IsOption o → value_in o.0 parts ≡ Some first → Fails (using o value rows)
  second_value (name, true) value first known given = rw (row_is (name, true) known ∙ ap (λ v. is_some (row_of_one v)) given) refl
  second_value (name, false) value first known given = rw (row_is (name, false) known ∙ ap (λ v. is_some (row_of_one v)) given) refl

  -- after the first value of an option
  module _ (name value : Text) (how : Reading) (none : value_in name parts ≡ None) (no_file : bytes_eq name (codes "file") ≡ false) (file_no : bytes_eq (codes "file") name ≡ false) where
    abbrev more : List Row
    more = with_values name how CommandLine (value ∷ []) (without name rows)

    added : more ≡ with_values name how CommandLine (value ∷ []) rows
    added = ap (with_values name how CommandLine (value ∷ [])) (without_none name rows (has_row_is name rows ∙ ap is_some (s.options name file_no ∙ ap row_of_one none)))

    own : all_of name more ≡ row_of_one (value_in name (parts ++ Chosen name value ∷ []))
    own =
        let same : bytes_eq name name ≡ true = (bytes_eq-Decides name name).1 refl in
        ap (all_of name) added ∙ added_here name how CommandLine value rows same
        ∙ ap (λ found. Some (unwrap_or found [] ++ value ∷ [])) (s.options name file_no ∙ ap row_of_one none)
        ∙ ap row_of_one (sym (value_after parts (Chosen name value) name ∙ (λ i. earlier (none i) (cond (same i) (Some value) None))))

    other : (o : Text) → bytes_eq name o ≡ false → bytes_eq (codes "file") o ≡ false → all_of o more ≡ row_of_one (value_in o (parts ++ Chosen name value ∷ []))
    other o apart is =
        ap (all_of o) added ∙ added_elsewhere name how CommandLine value o rows apart ∙ s.options o is
        ∙ ap row_of_one (sym (value_after parts (Chosen name value) o ∙ ap (λ b. earlier (value_in o parts) (cond b (Some value) None)) apart ∙ only_earlier (value_in o parts)))

    pub says_value : Says more (parts ++ Chosen name value ∷ [])
    says_value = record {
      files = ap (all_of (codes "file")) added ∙ added_elsewhere name how CommandLine value (codes "file") rows no_file ∙ s.files ∙ ap listed (sym (files_after parts (Chosen name value) ∙ append-nil (files_in parts)));
      options = λ o is. go o is (bytes_eq name o) refl;
    }
      where
        go : (o : Text) → bytes_eq (codes "file") o ≡ false → (b : Bool) → bytes_eq name o ≡ b → all_of o more ≡ row_of_one (value_in o (parts ++ Chosen name value ∷ []))
        go o is true e = subst (λ o. all_of o more ≡ row_of_one (value_in o (parts ++ Chosen name value ∷ []))) ((bytes_eq-Decides name o).0 e) own
        go o is false e = other o e is

-- ---- what is held

-- settled it says what was given, and settling it is no fault
pub record IsFine (h : Held) (parts : List Part) : Type 0 where
  pub skip : h.skip ≡ 0
  pub settles : settling h ≡ []
  pub says : Says (settled rules h).rows parts

module _ (h : Held) (parts : List Part) (fine : IsFine h parts) where
  pub fine_file : (name : Text) → IsFine (with_file name h) (parts ++ File name ∷ [])
  fine_file name = record { skip = fine.skip; settles = refl; says = says_file (settled rules h).rows parts name fine.says }

  pub fine_use : (o : Text × Bool) (value : Text) → IsOption o → value_in o.0 parts ≡ None → IsFine (with_use o value h) (parts ++ Chosen o.0 (said o.1 value) ∷ [])
  fine_use (name, true) value known none = record {
    skip = fine.skip;
    settles = refl;
    says = says_value (settled rules h).rows parts fine.says name value (reading_by (rule_for (name, true))) none known.no_file known.file_no;
  }
  fine_use (name, false) value known none = record {
    skip = fine.skip;
    settles = refl;
    says = says_value (settled rules h).rows parts fine.says name (said false value) (reading_by (rule_for (name, false))) none known.no_file known.file_no;
  }

-- the value that was due
pub settle_value : (h : Held) (name value : Text) → IsOption (name, true) → settling (with_value name value h) ≡ using (name, true) value (settled rules h).rows
settle_value h name value known = ap (λ found. option_map_or (λ a. use_fault false a (value ∷ []) (settled rules h).rows) found []) known.by_id

pub fine_value : (h : Held) (parts : List Part) (name value : Text) → IsFine h parts → IsOption (name, true) → value_in name parts ≡ None → IsFine (with_value name value h) (parts ++ Chosen name value ∷ [])
fine_value h parts name value fine known none = record {
  skip = fine.skip;
  settles = settle_value h name value known ∙ first_value (settled rules h).rows parts fine.says (name, true) value known none;
  says = subst (λ rows. Says rows (parts ++ Chosen name value ∷ [])) (sym (ap (λ found. used_by_id found (value ∷ []) (settled rules h).rows) known.by_id))
      (says_value (settled rules h).rows parts fine.says name value (reading_by (rule_for (name, true))) none known.no_file known.file_no);
}

-- an option whose value doesn't come is a fault
pub due_fails : (h : Held) (name : Text) → IsOption (name, true) → Fails (settling (with_due name h))
due_fails h name known = ap (λ found. is_fault (option_map_or (λ a. use_fault false a [] (settled rules h).rows) found [])) known.by_id

pub fine_start : IsFine nothing_held []
fine_start = record { skip = refl; settles = refl; says = record { files = refl; options = λ name apart. refl } }
