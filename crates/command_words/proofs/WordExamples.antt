-- What the words of the command line mean, computed on lines of words with blanks between.
use Rattle.command_words.proofs.Common.{◌≡◌, ◌==◌, ℕ, List, [], ◌∷◌, map, pos, refl, slice_split, denominator, numerator, number_of, WordFault, NoCommand, BadCommand, BadForm, BadNumber, BadShow, GapAlone, all_of, limit_of, limits_of, Question, Request, asked, names_in, names_of, Mps, Check, CheckProof, Solve, SolveFrom, Explain, Curve, Span, Make, Table, Page, Warn, Compare, Reduce, Chosen, Spells, Name, Apart, Joined, Flag, parts_of}
use Rattle.std.specs.Prelude.{codes, Result, Ok, Err, Some, None, true, false}
use Rattle.command_words.specs.declared.command.SolveShow.TheVariants.{Report, Plan, Multipliers, Proof, Line}
use Rattle.command_words.specs.declared.command.CompareShow.TheVariants as compare
use Rattle.command_words.specs.declared.command.MakeShow.TheVariants.{File, Summary}
use Rattle.command_words.specs.declared.command.SolveMethod.TheVariants.{Exact, Rounded}
use Rattle.command_words.specs.WordParts as parts
unfoldable use Rattle.scaled_decimals.specs.NumberReading.{decimal_in}

-- the words between blanks: two blanks have an empty word between them
abbrev words_in : List ℕ → List (List ℕ)
words_in = slice_split (λ b. b == 32)

-- each of these lines has this answer
abbrev AllAsk : Result Request WordFault → List (List ℕ) → Type 0
AllAsk answer lines = map (λ line. asked (words_in line)) lines ≡ map (λ line. answer) lines

-- the question alone, without changes
abbrev alone : Question → Request
alone question = record { question = question; changes = None; changes2 = None }

-- each of these lines asks the question beside it
abbrev Ask : List (List ℕ × Question) → Type 0
Ask lines = map (λ line. asked (words_in line.0)) lines ≡ map (λ line. Ok (alone line.1)) lines

-- ---- commands

no_words : asked ([]) ≡ Err NoCommand
no_words = refl

-- a command's word is compared by its bytes, and comes before any fault of form; an option before it is taken for it
bad_commands : AllAsk (Err BadCommand) (codes "" ∷ codes "explains f" ∷ codes "--gap 5" ∷ codes "mpz --help --help" ∷ codes "Table f p x" ∷ codes "pages f p" ∷ codes "reduced f" ∷ [])
bad_commands = refl

-- Options stand anywhere, in two words or one. The rounded method, and what is made of a proof, keep a gap of 10 millionths where none is given, `check` none.
commands : Ask (
    (codes "mps f", Mps (codes "f") 6) ∷
    (codes "mps --places 9 f", Mps (codes "f") 9) ∷
    (codes "mps f --places=6", Mps (codes "f") 6) ∷
    (codes "check f p", Check (codes "f") (codes "p") None 0 6) ∷
    (codes "check f p m", Check (codes "f") (codes "p") (Some (codes "m")) 0 6) ∷
    (codes "check f p m --gap 5", Check (codes "f") (codes "p") (Some (codes "m")) 5 6) ∷
    (codes "check f p --places 9", Check (codes "f") (codes "p") None 0 9) ∷
    (codes "check f --proof p", CheckProof (codes "f") (codes "p") 0 6) ∷
    (codes "check --proof=p --gap=5 f --places=9", CheckProof (codes "f") (codes "p") 5 9) ∷
    (codes "solve f", Solve (codes "f") 0 20000 6 Report Exact) ∷
    (codes "solve --pivots 7 --show=plan f --gap=1000000 --places=9", Solve (codes "f") 1000000 7 9 Plan Exact) ∷
    (codes "solve f --show multipliers", Solve (codes "f") 0 20000 6 Multipliers Exact) ∷
    (codes "solve f --show=line", Solve (codes "f") 0 20000 6 Line Exact) ∷
    (codes "solve f --method=exact --gap=3", Solve (codes "f") 3 20000 6 Report Exact) ∷
    (codes "solve f --show proof --method=rounded", Solve (codes "f") 10 1000000 6 Proof Rounded) ∷
    (codes "solve --method=rounded f --gap=0", Solve (codes "f") 0 1000000 6 Report Rounded) ∷
    (codes "solve f --method rounded --start a", SolveFrom (codes "f") (codes "a") 10 1000000 6 Report) ∷
    (codes "solve --places=9 --start=a --show line f --pivots=7 --gap=0 --method=rounded", SolveFrom (codes "f") (codes "a") 0 7 9 Line) ∷
    (codes "explain f", Explain (codes "f") 20000 6 Exact) ∷
    (codes "explain --pivots=7 f --places 9 --method=rounded", Explain (codes "f") 7 9 Rounded) ∷
    (codes "explain f --method=rounded", Explain (codes "f") 1000000 6 Rounded) ∷
    (codes "span f R T 007", Span (codes "f") (codes "R") (codes "T") (codes "007") 0 None 20000 6 Exact) ∷
    (codes "span --slack 100000 f R T 2020 --gap=3 --method=rounded --pivots=7 --places=9", Span (codes "f") (codes "R") (codes "T") (codes "2020") 100000 (Some 3) 7 9 Rounded) ∷
    (codes "span f R T 2020 --method=rounded", Span (codes "f") (codes "R") (codes "T") (codes "2020") 0 None 1000000 6 Rounded) ∷
    (codes "make 7", Make 7 File) ∷
    (codes "make --show summary 122", Make 122 Summary) ∷
    (codes "table f p x", Table (codes "f") (codes "p") (codes "x") false 10 6) ∷
    (codes "table f --gap=5 p --exact all --places 9", Table (codes "f") (codes "p") (codes "all") true 5 9) ∷
    (codes "table --exact f p x --gap=0", Table (codes "f") (codes "p") (codes "x") true 0 6) ∷
    (codes "page f p", Page (codes "f") (codes "p") 10 6) ∷
    (codes "page --gap=5 p --places 9 f", Page (codes "p") (codes "f") 5 9) ∷
    (codes "warn f", Warn (codes "f")) ∷
    (codes "compare f p g q", Compare (codes "f") (codes "p") (codes "g") (codes "q") 10 6 compare.Text) ∷
    (codes "compare --gap=5 f p --show page --places 9 f q", Compare (codes "f") (codes "p") (codes "f") (codes "q") 5 9 compare.Page) ∷
    (codes "reduce f", Reduce (codes "f") 6) ∷
    (codes "reduce --places 9 f", Reduce (codes "f") 9) ∷ [])
commands = refl

-- the rounded method of `curve` keeps a gap of 10 millionths, and makes up to 1,000,000 pivots
curves : Ask (
    (codes "curve f R CO2 4,7", Curve (codes "f") (codes "R") (codes "CO2") (pos 4000000000 ∷ pos 7000000000 ∷ []) 0 20000 6 Exact) ∷
    (codes "curve --pivots=7 f R CO2 4 --places=9 --method=rounded", Curve (codes "f") (codes "R") (codes "CO2") (pos 4000000000 ∷ []) 10 7 9 Rounded) ∷
    (codes "curve f R CO2 4 --method=rounded", Curve (codes "f") (codes "R") (codes "CO2") (pos 4000000000 ∷ []) 10 1000000 6 Rounded) ∷ [])
unfolding limit_of all_of decimal_in number_of numerator denominator
curves = refl

-- every data file may have changes, and each of the two of `compare` its own, in any order; a model that is made has none
changes : map (λ line. asked (words_in line)) (
    codes "warn f --with c" ∷ codes "mps --with=c f" ∷ codes "solve f --with c --gap 5" ∷ codes "compare f p g q --with2=d" ∷ codes "compare --with2 d f p --with c g q" ∷ [])
    ≡ Ok (record { question = Warn (codes "f"); changes = Some (codes "c"); changes2 = None })
    ∷ Ok (record { question = Mps (codes "f") 6; changes = Some (codes "c"); changes2 = None })
    ∷ Ok (record { question = Solve (codes "f") 5 20000 6 Report Exact; changes = Some (codes "c"); changes2 = None })
    ∷ Ok (record { question = Compare (codes "f") (codes "p") (codes "g") (codes "q") 10 6 compare.Text; changes = None; changes2 = Some (codes "d") })
    ∷ Ok (record { question = Compare (codes "f") (codes "p") (codes "g") (codes "q") 10 6 compare.Text; changes = Some (codes "c"); changes2 = Some (codes "d") }) ∷ []
changes = refl

no_changes : AllAsk (Err BadForm) (
    codes "make 7 --with c" ∷ codes "solve f --with2 c" ∷ codes "page f p --with2=c" ∷ codes "solve f --with" ∷ codes "warn f --with c --with d" ∷ codes "warn f --wit c" ∷ [])
no_changes = refl

-- ---- faults of form

-- a word too few or too many; `--` is none
counts : AllAsk (Err BadForm) (
    codes "solve" ∷ codes "mps --" ∷ codes "mps a b" ∷ codes "check f" ∷ codes "check f p m x" ∷ codes "check f q --proof=p" ∷ codes "explain f g" ∷ codes "curve f R CO2"
    ∷ codes "span f R T" ∷ codes "make" ∷ codes "table f p" ∷ codes "table f p x y" ∷ codes "table f --proof=p x" ∷ codes "page f" ∷ codes "page f p x" ∷ codes "warn f g"
    ∷ codes "compare f p g" ∷ codes "compare f p g q x" ∷ codes "reduce" ∷ codes "solve --method=rounded --start=a" ∷ codes "solve f a --method=rounded --start=a" ∷ [])
counts = refl

-- an option that isn't known, or is none of the command's
options : AllAsk (Err BadForm) (
    codes "mps --help" ∷ codes "solve f --gaps 5" ∷ codes "solve f --piv 5" ∷ codes "solve f -gap 5" ∷ codes "mps f --=5" ∷ codes "mps f --gap 5" ∷ codes "mps f --exact"
    ∷ codes "mps f --start=a" ∷ codes "check f p --method=exact" ∷ codes "check f p --start a" ∷ codes "check f --proof=p --show=plan" ∷ codes "solve f --proof=p" ∷ codes "solve --exact f" ∷ codes "solve f --slack=1"
    ∷ codes "explain f --method=rounded --gap=5" ∷ codes "explain f --method=rounded --start=a" ∷ codes "curve f R CO2 4 --slack=5" ∷ codes "make 7 --pivots 5" ∷ codes "make 7 --places 9"
    ∷ codes "table f p x --show=exact" ∷ codes "table f p x --slack=5" ∷ codes "page f p --proof=p" ∷ codes "page f p --exact" ∷ codes "page f p --pivots=5" ∷ codes "warn f --places=6"
    ∷ codes "warn f --exact" ∷ codes "compare f p g q --proof=p" ∷ codes "compare f p g q --slack=5" ∷ codes "reduce f --gap=5" ∷ codes "reduce f --show=file" ∷ [])
options = refl

-- an option that is repeated, also in another spelling
repeats : AllAsk (Err BadForm) (
    codes "solve f --gap 5 --gap 5" ∷ codes "solve f --gap 5 --gap=6" ∷ codes "mps f --places 9 --places 9" ∷ codes "solve f --method=exact --method=exact" ∷ codes "check f --proof=p --proof=p"
    ∷ codes "solve f --method=rounded --start=a --start=a" ∷ codes "span f R T 2020 --slack=1 --slack=1" ∷ codes "table --exact f p x --exact" ∷ [])
repeats = refl

-- one without its value, which no option's word is, and neither is `--`; and a flag with one, even an empty one
values : AllAsk (Err BadForm) (
    codes "solve f --gap" ∷ codes "solve f --gap --pivots 5" ∷ codes "solve f --pivots -5" ∷ codes "solve f --gap -- 5" ∷ codes "solve f --start --method=rounded a" ∷ codes "table f p x --gap --exact"
    ∷ codes "table f p x --exact=true" ∷ codes "table f p x --exact=" ∷ codes "table f p x --exact true" ∷ [])
values = refl

-- an option of the rounded method beside another one, which may be no method
rounded_alone : AllAsk (Err BadForm) (
    codes "curve f R CO2 x --gap=y" ∷ codes "curve f R CO2 x --gap=5 --method=exact" ∷ codes "curve f R CO2 x --gap=5 --method=fast" ∷ codes "span f R T 2020 --gap=3" ∷ codes "span f R T 2020 --show=plan"
    ∷ codes "solve f --start a" ∷ codes "solve f --method exact --start a" ∷ codes "solve f --method=fast --start=a" ∷ codes "span f R T 2020 --method=rounded --start=a" ∷ [])
rounded_alone = refl

-- the form comes before numbers and what is shown
form_first : AllAsk (Err BadForm) (codes "make 2 --show" ∷ codes "warn f --places=7" ∷ codes "table f p x --exact --exact --places=7" ∷ codes "page f --places=7" ∷ codes "reduce f g --places=7" ∷ [])
form_first = refl

-- ---- `--` and `-`

-- after `--` no word is an option, and a second one is a file; `-` is the name of a file, and so is the empty word
ends : Ask (
    (codes "mps -- -f", Mps (codes "-f") 6) ∷
    (codes "check f p -- --gap", Check (codes "f") (codes "p") (Some (codes "--gap")) 0 6) ∷
    (codes "mps -- --", Mps (codes "--") 6) ∷
    (codes "mps f --", Mps (codes "f") 6) ∷
    (codes "table --exact -- f --exact x", Table (codes "f") (codes "--exact") (codes "x") true 10 6) ∷
    (codes "warn -- --gap=5", Warn (codes "--gap=5")) ∷
    (codes "mps -", Mps (codes "-") 6) ∷
    (codes "mps ", Mps [] 6) ∷ [])
ends = refl

-- ---- values

numbers : Ask (
    (codes "solve f --gap 1000000", Solve (codes "f") 1000000 20000 6 Report Exact) ∷
    (codes "solve f --gap 0000001", Solve (codes "f") 1 20000 6 Report Exact) ∷
    (codes "solve f --pivots 0", Solve (codes "f") 0 0 6 Report Exact) ∷
    (codes "solve f --pivots 1000000", Solve (codes "f") 0 1000000 6 Report Exact) ∷
    (codes "make 003", Make 3 File) ∷ [])
numbers = refl

-- a value may be empty, and begins after the first '='
bad_numbers : AllAsk (Err BadNumber) (
    codes "solve f --gap -" ∷ codes "solve f --gap " ∷ codes "solve f --gap=" ∷ codes "solve f --pivots=-5" ∷ codes "solve f --pivots +5" ∷ codes "solve f --pivots 1e3" ∷ codes "solve f --gap=5=5"
    ∷ codes "solve f --gap 1000001" ∷ codes "solve f --gap 00000001" ∷ codes "solve f --pivots 1000001" ∷ codes "span f R T 2020 --slack=1000001" ∷ codes "make 2" ∷ codes "make 123" ∷ codes "make 0003"
    ∷ codes "mps f --places 7" ∷ codes "mps f --places 09" ∷ codes "check f --proof=p --gap=1000001" ∷ codes "reduce f --places=7" ∷ [])
bad_numbers = refl

-- numbers come before what is shown, the method and a gap alone
numbers_first : AllAsk (Err BadNumber) (
    codes "make 2 --show all" ∷ codes "solve f --show all --pivots x" ∷ codes "solve f --show all --places 7" ∷ codes "check f p --gap 5 --places 7" ∷ codes "check f p --gap x"
    ∷ codes "solve f --method simplex --pivots=x" ∷ codes "explain f --method=fast --places=8" ∷ codes "compare f p g q --show=all --places=7" ∷ codes "solve f --method=rounded --start=a --gap=1000001 --show=all" ∷ [])
numbers_first = refl

-- and so do limits
limits_first : AllAsk (Err BadNumber) (codes "curve f R CO2 7,4" ∷ codes "curve f R CO2 x --method=fast" ∷ codes "curve f R CO2 x --gap=5 --method=rounded" ∷ [])
unfolding limit_of all_of decimal_in number_of numerator denominator
limits_first = refl

bad_shows : AllAsk (Err BadShow) (
    codes "solve f --show all" ∷ codes "solve f --show=lines" ∷ codes "solve f --show=page" ∷ codes "make 7 --show report" ∷ codes "make 7 --show=" ∷ codes "make 3 --show=line" ∷ codes "compare f p g q --show=report"
    ∷ codes "compare f p g q --show=Page" ∷ codes "solve f --method simplex" ∷ codes "explain f --method=fast" ∷ codes "solve f --method=rounded --start=a --show=all" ∷ [])
bad_shows = refl

gaps_alone : AllAsk (Err GapAlone) (codes "check f p --gap 5" ∷ codes "check f p --gap 0" ∷ [])
gaps_alone = refl

-- ---- parts and how they are spelled

-- a value in a word of its own or joined, a flag, a file, and a file after `--` that looks like an option
mixed_parts : parts_of (words_in (codes "--gap 5 --exact f --show= -- --gap"))
    ≡ Some (Chosen (codes "gap") (codes "5") ∷ Chosen (codes "exact") (codes "true") ∷ parts.File (codes "f") ∷ Chosen (codes "show") [] ∷ parts.File (codes "--gap") ∷ [])
mixed_parts = refl

spelled : Spells (words_in (codes "--gap 5 --exact f --show= -- --gap"))
    (Chosen (codes "gap") (codes "5") ∷ Chosen (codes "exact") (codes "true") ∷ parts.File (codes "f") ∷ Chosen (codes "show") [] ∷ parts.File (codes "--gap") ∷ [])
spelled = record {
  spellings = Apart (codes "gap") (codes "5") ∷ Flag (codes "exact") ∷ Name (codes "f") ∷ Joined (codes "show") [] ∷ [];
  files = Some (codes "--gap" ∷ []);
  right = refl;
  spelled = refl;
  said = refl;
}

-- an option without its value has no parts, and neither has a flag's word that is cut short or goes on
no_parts : map (λ line. parts_of (words_in line)) (codes "f --gap" ∷ codes "--exac" ∷ codes "--exactly" ∷ []) ≡ None ∷ None ∷ None ∷ []
no_parts = refl

-- ---- the files of a request: the members' names are none

files : map names_in (
    Check (codes "f") (codes "p") (Some (codes "m")) 0 6 ∷ SolveFrom (codes "f") (codes "a") 10 20000 6 Report ∷ Curve (codes "f") (codes "R") (codes "CO2") [] 0 7 6 Exact
    ∷ Span (codes "f") (codes "R") (codes "T") (codes "2020") 0 None 7 6 Exact ∷ Make 3 File ∷ Compare (codes "f") (codes "p") (codes "g") (codes "q") 0 6 compare.Text ∷ [])
    ≡ (codes "f" ∷ codes "p" ∷ codes "m" ∷ []) ∷ (codes "f" ∷ codes "a" ∷ []) ∷ (codes "f" ∷ []) ∷ (codes "f" ∷ []) ∷ [] ∷ (codes "f" ∷ codes "p" ∷ codes "g" ∷ codes "q" ∷ []) ∷ []
files = refl

-- those of changes are read last
files_of_changes : map names_of (
    record { question = Check (codes "f") (codes "p") (Some (codes "m")) 0 6; changes = Some (codes "c"); changes2 = None }
    ∷ record { question = Compare (codes "f") (codes "p") (codes "g") (codes "q") 10 6 compare.Text; changes = None; changes2 = Some (codes "d") }
    ∷ record { question = Compare (codes "f") (codes "p") (codes "g") (codes "q") 10 6 compare.Text; changes = Some (codes "c"); changes2 = Some (codes "d") } ∷ [])
    ≡ (codes "f" ∷ codes "p" ∷ codes "m" ∷ codes "c" ∷ []) ∷ (codes "f" ∷ codes "p" ∷ codes "g" ∷ codes "q" ∷ codes "d" ∷ []) ∷ (codes "f" ∷ codes "p" ∷ codes "g" ∷ codes "q" ∷ codes "c" ∷ codes "d" ∷ []) ∷ []
files_of_changes = refl

-- ---- limits, in billionths

-- a sign may stand, also a minus before 0
limits : map limits_of (codes "4,7.5,2e1" ∷ codes "-0,+4" ∷ codes "1,1.000000001" ∷ codes "1e15" ∷ [])
    ≡ Some (pos 4000000000 ∷ pos 7500000000 ∷ pos 20000000000 ∷ []) ∷ Some (pos 0 ∷ pos 4000000000 ∷ []) ∷ Some (pos 1000000000 ∷ pos 1000000001 ∷ []) ∷ Some (pos 1000000000000000000000000 ∷ []) ∷ []
unfolding limit_of all_of decimal_in number_of numerator denominator
limits = refl

-- too great, rounded, negative, descending, equal, empty, with a comma at the end, and too many
no_limits : map limits_of (
    codes "1000000000000000.000000001" ∷ codes "1e-10" ∷ codes "-1,4" ∷ codes "7,4" ∷ codes "4,4.0" ∷ [] ∷ codes "4," ∷ codes "0,1,2,3,4,5,6,7,8,9,10,11,12,13,14,15,16,17,18,19,20" ∷ [])
    ≡ None ∷ None ∷ None ∷ None ∷ None ∷ None ∷ None ∷ None ∷ []
unfolding limit_of all_of decimal_in number_of numerator denominator
no_limits = refl
