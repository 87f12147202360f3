-- The files of a request: of one data file with others, and of two scenarios.
use Rattle.std.specs.Prelude.{Bool, true, false, IfOk, Result}
use Rattle.std.specs.Option.{option_to_list}
use Rattle.osemosys_run.proofs.Common.{append_assoc, suc, option_map, source_of, DueForCompared, DueOver, bytes_at, changes_at, titled, ◌≡◌, ◌≢◌, Bor, ℕ, List, [], ◌∷◌, ◌++◌, length, map, map-append, refl, ap, arith, Option, Some, None, subst, sym, ◌∙◌, AllByRecursion, CompareShow, PieceState, StandsFor, Source, Status, DueForText, Question, Request, Check, CheckProof, Compare, Curve, Explain, Make, Mps, Page, Reduce, Solve, SolveFrom, Span, Table, Warn, names_in, names_of, AllHold, fed_of, held_of, IsShort, Answer, question_of, Command, MakeShow, Data, DueForQuestion, DueOverData, HasOneModel, IsOfOneModel, IsOverData, IsRead, first_marked, marks_for, marks_in, source2_in, source_in}
use Rattle.command_words.specs.declared.command.Command.TheVariants as code
use Rattle.result_pages.specs.Pages.{Title}

-- ---- what is named

-- a question that is answered over one model names a data file first
pub record NamesData (question : Question) : Type 0 where
  pub data_file : List ℕ
  pub others : List (List ℕ)
  pub names : names_in question ≡ data_file ∷ others
  pub marks : marks_in question ≡ first_marked (names_in question)

names_data : (question : Question) → HasOneModel question → NamesData question
names_data (Mps file places) one = absurd one
names_data (Check file plan None gap places) one = record { data_file = file; others = plan ∷ []; names = refl; marks = refl }
names_data (Check file plan (Some multipliers) gap places) one = record { data_file = file; others = plan ∷ multipliers ∷ []; names = refl; marks = refl }
names_data (CheckProof file proof gap places) one = record { data_file = file; others = proof ∷ []; names = refl; marks = refl }
names_data (Solve file gap pivots places show method) one = record { data_file = file; others = []; names = refl; marks = refl }
names_data (SolveFrom file start gap pivots places show) one = record { data_file = file; others = start ∷ []; names = refl; marks = refl }
names_data (Explain file pivots places method) one = record { data_file = file; others = []; names = refl; marks = refl }
names_data (Curve file region emission limits gap pivots places method) one = record { data_file = file; others = []; names = refl; marks = refl }
names_data (Span file region technology year slack gap pivots places method) one = record { data_file = file; others = []; names = refl; marks = refl }
names_data (Make size show) one = absurd one
names_data (Table file proof name exact gap places) one = record { data_file = file; others = proof ∷ []; names = refl; marks = refl }
names_data (Page file proof gap places) one = record { data_file = file; others = proof ∷ []; names = refl; marks = refl }
names_data (Warn file) one = record { data_file = file; others = []; names = refl; marks = refl }
names_data (Compare first first_proof second second_proof gap places show) one = absurd one
names_data (Reduce file places) one = record { data_file = file; others = []; names = refl; marks = refl }

-- what is due over the data of one model is due for the question
over_of : (question : Question) → HasOneModel question → (source source2 : Source) (contents : List (List ℕ)) (status : Status) (text : List ℕ) → DueForText (DueOverData question source.changes contents) source status text
    → DueForQuestion question source source2 contents status text
over_of (Mps file places) one source source2 contents status text due = due
over_of (Check file plan multipliers gap places) one source source2 contents status text due = due
over_of (CheckProof file proof gap places) one source source2 contents status text due = due
over_of (Solve file gap pivots places show method) one source source2 contents status text due = due
over_of (SolveFrom file start gap pivots places show) one source source2 contents status text due = due
over_of (Explain file pivots places method) one source source2 contents status text due = due
over_of (Curve file region emission limits gap pivots places method) one source source2 contents status text due = due
over_of (Span file region technology year slack gap pivots places method) one source source2 contents status text due = due
over_of (Make size show) one source source2 contents status text due = absurd one
over_of (Table file proof name exact gap places) one source source2 contents status text due = due
over_of (Page file proof gap places) one source source2 contents status text due = due
over_of (Warn file) one source source2 contents status text due = due
over_of (Compare first first_proof second second_proof gap places show) one source source2 contents status text due = absurd one
over_of (Reduce file places) one source source2 contents status text due = due

-- with files of changes after those of the question
pub with_changes : (request : Request) (file : List ℕ) (others : List (List ℕ)) → names_in request.question ≡ file ∷ others → marks_in request.question ≡ first_marked (names_in request.question)
    → (names_of request ≡ file ∷ others ++ (option_to_list request.changes ++ option_to_list request.changes2)) × (marks_for request ≡ first_marked (names_of request))
with_changes request file others names marks =
    let more : List (List ℕ) = option_to_list request.changes ++ option_to_list request.changes2 in
    let all : names_of request ≡ file ∷ others ++ more = append_assoc (names_in request.question) (option_to_list request.changes) (option_to_list request.changes2) ∙ ap (λ own. own ++ more) names in
    let own : marks_for request ≡ first_marked (file ∷ others) ++ map (λ name. false) more = ap (λ ms. ms ++ map (λ name. false) more) (marks ∙ ap first_marked names) in
    let together : first_marked (file ∷ others) ++ map (λ name. false) more ≡ first_marked (file ∷ others ++ more) = ap (λ ms. true ∷ ms) (sym (map-append (λ name. false) others more)) in
    (all, own ∙ together ∙ sym (ap first_marked all))

-- so does `mps`
pub of_mps : (request : Request) (file : List ℕ) (places : ℕ) → request.question ≡ Mps file places
    → (names_of request ≡ file ∷ (option_to_list request.changes ++ option_to_list request.changes2)) × (marks_for request ≡ first_marked (names_of request))
of_mps request file places is = with_changes request file [] (ap names_in is) (subst (λ question. marks_in question ≡ first_marked (names_in question)) (sym is) refl)

-- each request that is answered over one model names a data file first
pub of_one_model : (request : Request) → HasOneModel request.question → IsOfOneModel request
of_one_model request one =
    let named = names_data request.question one in
    let all = with_changes request named.data_file named.others named.names named.marks in
    record {
      data_file = named.data_file;
      others = named.others ++ (option_to_list request.changes ++ option_to_list request.changes2);
      names = all.0;
      marks = all.1;
      over = λ contents status text due. over_of request.question one (source_in request contents) (source2_in request contents) contents status text due;
    }

-- a command that isn't `mps`, `make` or `compare` is answered over one model
pub has_one_model : (command : Command) → ((file : Bor (List ℕ)) (places : ℕ) → command ≢ code.Mps file places) → ((size : ℕ) (show : MakeShow) → command ≢ code.Make size show)
    → ((first first_proof second second_proof : Bor (List ℕ)) (gap places : ℕ) (show : CompareShow) → command ≢ code.Compare first first_proof second second_proof gap places show) → HasOneModel (question_of command)
has_one_model (code.Mps file places) mps make compare = absurd (mps file places refl)
has_one_model (code.Check file plan multipliers gap places) mps make compare = tt
has_one_model (code.CheckProof file proof gap places) mps make compare = tt
has_one_model (code.Solve file gap pivots places show method) mps make compare = tt
has_one_model (code.SolveFrom file start gap pivots places show) mps make compare = tt
has_one_model (code.Explain file pivots places method) mps make compare = tt
has_one_model (code.Curve file region emission limits gap pivots places method) mps make compare = tt
has_one_model (code.Span file region technology year slack gap pivots places method) mps make compare = tt
has_one_model (code.Make size show) mps make compare = absurd (make size show refl)
has_one_model (code.Table file proof name exact gap places) mps make compare = tt
has_one_model (code.Page file proof gap places) mps make compare = tt
has_one_model (code.Warn file) mps make compare = tt
has_one_model (code.Compare first first_proof second second_proof gap places show) mps make compare = absurd (compare first first_proof second second_proof gap places show refl)
has_one_model (code.Reduce file places) mps make compare = tt

-- and one that isn't `warn` either is answered by the data alone
pub over_data : (command : Command) → ((file : Bor (List ℕ)) → command ≢ code.Warn file) → HasOneModel (question_of command) → IsOverData (question_of command)
over_data (code.Mps file places) warn one = absurd one
over_data (code.Check file plan multipliers gap places) warn one = tt
over_data (code.CheckProof file proof gap places) warn one = tt
over_data (code.Solve file gap pivots places show method) warn one = tt
over_data (code.SolveFrom file start gap pivots places show) warn one = tt
over_data (code.Explain file pivots places method) warn one = tt
over_data (code.Curve file region emission limits gap pivots places method) warn one = tt
over_data (code.Span file region technology year slack gap pivots places method) warn one = tt
over_data (code.Make size show) warn one = absurd one
over_data (code.Table file proof name exact gap places) warn one = tt
over_data (code.Page file proof gap places) warn one = tt
over_data (code.Warn file) warn one = absurd (warn file refl)
over_data (code.Compare first first_proof second second_proof gap places show) warn one = absurd one
over_data (code.Reduce file places) warn one = tt

-- what is due for the question of a command, by another word for it
pub as_asked : {E : Type 0} (command named : Command) (changes : Option (List ℕ)) (contents : List (List ℕ)) (rounded : ℕ) (d : Data) (result : Result Answer E) → command ≡ named
    → IfOk result (λ answer. DueOverData (question_of named) changes contents rounded d answer.status answer.text.items) → IfOk result (λ answer. DueOverData (question_of command) changes contents rounded d answer.status answer.text.items)
as_asked command named changes contents rounded d result is due =
    subst (λ (other : Command). IfOk result (λ answer. DueOverData (question_of other) changes contents rounded d answer.status answer.text.items)) (sym is) due

-- ---- what was read

-- of files that aren't marked all contents are held
none_fed : (names contents : List (List ℕ)) → fed_of (map (λ name. false) names) contents ≡ []
none_fed [] contents = refl
none_fed (name ∷ names) [] = refl
none_fed (name ∷ names) (bytes ∷ contents) = none_fed names contents

all_held : (names contents : List (List ℕ)) → length contents ≡ length names → held_of (map (λ name. false) names) contents ≡ contents
all_held [] [] many = refl
all_held [] (bytes ∷ contents) many = absurd (omega (arith, many))
all_held (name ∷ names) [] many = absurd (omega (arith, many))
all_held (name ∷ names) (bytes ∷ contents) many = ap (λ (rest : List (List ℕ)). bytes ∷ rest) (all_held names contents (omega (arith, many)))

-- the contents of a data file and of others: a reader stands for the first, and the others are held
pub record IsOneRead (contents : List (List ℕ)) (fed : List PieceState) (held : List (List ℕ)) : Type 0 where
  pub text : List ℕ
  pub short : IsShort text
  pub is : contents ≡ text ∷ held
  pub stands : AllHold StandsFor fed (text ∷ [])

pub one_read : (request : Request) (file : List ℕ) (others contents : List (List ℕ)) (fed : List PieceState) (held : List (List ℕ)) → names_of request ≡ file ∷ others → marks_for request ≡ first_marked (names_of request)
    → IsRead request contents fed held → IsOneRead contents fed held
one_read request file others contents fed held names marks read =
    by_marks contents
    (subst (λ (all : List (List ℕ)). length contents ≡ length all) names read.many)
    read.short
    (subst (λ (ms : List Bool). AllHold StandsFor fed (fed_of ms contents)) first read.stand)
    (subst (λ (ms : List Bool). held ≡ held_of ms contents) first read.held_is)
  where
    first : marks_for request ≡ first_marked (file ∷ others)
    first = subst (λ (all : List (List ℕ)). marks_for request ≡ first_marked all) names marks

    by_marks : (all : List (List ℕ)) → length all ≡ length (file ∷ others) → AllByRecursion IsShort all → AllHold StandsFor fed (fed_of (first_marked (file ∷ others)) all)
        → held ≡ held_of (first_marked (file ∷ others)) all → IsOneRead all fed held
    by_marks [] many short stand kept = absurd (omega (arith, many))
    by_marks (text ∷ rest) many short stand kept =
        let is : held ≡ rest = kept ∙ all_held others rest (omega (arith, many)) in
        record {
          text = text;
          short = short.0;
          is = ap (λ (l : List (List ℕ)). text ∷ l) (sym is);
          stands = subst (λ (l : List (List ℕ)). AllHold StandsFor fed (text ∷ l)) (none_fed others rest) stand;
        }

-- the contents of the files of two scenarios, and of their changes after them
pub record AreTwoRead (changes : List (List ℕ)) (contents : List (List ℕ)) (fed : List PieceState) (held : List (List ℕ)) : Type 0 where
  pub text : List ℕ
  pub proof : List ℕ
  pub text2 : List ℕ
  pub proof2 : List ℕ
  pub more : List (List ℕ)
  pub short : IsShort text
  pub short2 : IsShort text2
  pub is : contents ≡ text ∷ proof ∷ text2 ∷ proof2 ∷ more
  pub many : length more ≡ length changes
  pub stand : AllHold StandsFor fed (text ∷ text2 ∷ [])
  pub held_is : held ≡ proof ∷ proof2 ∷ more

pub two_read : (request : Request) (first first_proof second second_proof : List ℕ) (gap places : ℕ) (show : CompareShow) (contents : List (List ℕ)) (fed : List PieceState) (held : List (List ℕ))
    → request.question ≡ Compare first first_proof second second_proof gap places show → IsRead request contents fed held
    → AreTwoRead (option_to_list request.changes ++ option_to_list request.changes2) contents fed held
two_read request first first_proof second second_proof gap places show contents fed held is read =
    by_marks contents
    (subst (λ (names : List (List ℕ)). length contents ≡ length names) names read.many) read.short
    (subst (λ (ms : List Bool). AllHold StandsFor fed (fed_of ms contents)) marks read.stand) (subst (λ (ms : List Bool). held ≡ held_of ms contents) marks read.held_is)
  where
    changes : List (List ℕ)
    changes = option_to_list request.changes ++ option_to_list request.changes2

    names : names_of request ≡ first ∷ first_proof ∷ second ∷ second_proof ∷ changes
    names = append_assoc (names_in request.question) (option_to_list request.changes) (option_to_list request.changes2) ∙ ap (λ question. names_in question ++ changes) is

    marks : marks_for request ≡ true ∷ false ∷ true ∷ false ∷ map (λ name. false) changes
    marks = ap (λ question. marks_in question ++ map (λ name. false) changes) is

    by_marks : (all : List (List ℕ)) → length all ≡ length (first ∷ first_proof ∷ second ∷ second_proof ∷ changes) → AllByRecursion IsShort all
        → AllHold StandsFor fed (fed_of (true ∷ false ∷ true ∷ false ∷ map (λ name. false) changes) all) → held ≡ held_of (true ∷ false ∷ true ∷ false ∷ map (λ name. false) changes) all
        → AreTwoRead changes all fed held
    by_marks [] many short stand kept = absurd (omega (arith, many))
    by_marks (a ∷ []) many short stand kept = absurd (omega (arith, many))
    by_marks (a ∷ b ∷ []) many short stand kept = absurd (omega (arith, many))
    by_marks (a ∷ b ∷ e ∷ []) many short stand kept = absurd (omega (arith, many))
    by_marks (a ∷ b ∷ e ∷ f ∷ more) many short stand kept =
        let as_many : length more ≡ length changes = omega (arith, many) in
        record {
          text = a;
          proof = b;
          text2 = e;
          proof2 = f;
          more = more;
          short = short.0;
          short2 = short.1.1.0;
          is = refl;
          many = as_many;
          stand = subst (λ (l : List (List ℕ)). AllHold StandsFor fed (a ∷ e ∷ l)) (none_fed changes more) stand;
          held_is = kept ∙ ap (λ l. b ∷ f ∷ l) (all_held changes more as_many);
        }

-- ---- with their changes

-- the data file of a request with its changes, by what was read
pub same_source : (request : Request) (contents : List (List ℕ)) (text : List ℕ) (held : List (List ℕ)) (place : ℕ) (changes : Option (Bor (List ℕ))) → contents ≡ text ∷ held
    → length (names_in request.question) ≡ suc place → option_map (λ bytes. bytes.now) changes ≡ changes_at held place request.changes → source_of text changes ≡ source_in request contents
same_source request contents text held place changes is many at =
    subst (λ (all : List (List ℕ)). source_of text changes ≡ source_in request all) (sym is)
    (subst (λ (n : ℕ). source_of text changes ≡ record { text = text; changes = changes_at (text ∷ held) n request.changes }) (sym many) (ap (λ (own : Option (List ℕ)). record { text = text; changes = own }) at))

-- what is due for two scenarios that were read, each with its changes, is due for the request
module _ (request : Request) (first first_proof second second_proof : List ℕ) (gap places : ℕ) (show : CompareShow) (is : request.question ≡ Compare first first_proof second second_proof gap places show)
    (contents : List (List ℕ)) (fed : List PieceState) (held : List (List ℕ)) (two : AreTwoRead (option_to_list request.changes ++ option_to_list request.changes2) contents fed held) (status : Status) (text : List ℕ) where
  abbrev read : List (List ℕ)
  read = two.text ∷ two.proof ∷ two.text2 ∷ two.proof2 ∷ two.more

  -- over these files, titles and proofs
  abbrev DueAs : (title title2 : Title) (proof proof2 : List ℕ) → Type 0
  DueAs title title2 proof proof2 =
      DueForCompared (record { show = show; places = places; title = title; title2 = title2 }) gap (record { text = two.text; changes = title.changes }) proof (record { text = two.text2; changes = title2.changes }) proof2 status text

  -- for this question, and over these contents
  abbrev DueOf : Question → List (List ℕ) → Type 0
  DueOf question all =
      DueForQuestion question (record { text = bytes_at all 0; changes = changes_at all (length (names_in question)) request.changes })
      (record { text = bytes_at all 2; changes = changes_at all (length (names_in question ++ option_to_list request.changes)) request.changes2 }) all status text

  pub two_due : (title title2 : Title) (proof proof2 : List ℕ) → title ≡ titled first (changes_at held 2 request.changes)
      → title2 ≡ titled second (changes_at held (suc (suc (length (option_to_list request.changes)))) request.changes2) → proof ≡ bytes_at held 0 → proof2 ≡ bytes_at held 1 → DueAs title title2 proof proof2 → DueOver request contents status text
  two_due title title2 proof proof2 first_title second_title first_bytes second_bytes due =
      let others : List (List ℕ) = two.proof ∷ two.proof2 ∷ two.more in
      let place2 : ℕ = suc (suc (length (option_to_list request.changes))) in
      let one_title : title ≡ titled first (changes_at others 2 request.changes) = first_title ∙ ap (λ (all : List (List ℕ)). titled first (changes_at all 2 request.changes)) two.held_is in
      let other_title : title2 ≡ titled second (changes_at others place2 request.changes2) = second_title ∙ ap (λ (all : List (List ℕ)). titled second (changes_at all place2 request.changes2)) two.held_is in
      let proofs : DueAs title title2 two.proof two.proof2 =
      subst (λ (bytes : List ℕ). DueAs title title2 two.proof bytes) (second_bytes ∙ ap (λ (all : List (List ℕ)). bytes_at all 1) two.held_is)
      (subst (λ (bytes : List ℕ). DueAs title title2 bytes proof2) (first_bytes ∙ ap (λ (all : List (List ℕ)). bytes_at all 0) two.held_is) due) in
      let whole : DueOf (Compare first first_proof second second_proof gap places show) read =
      subst (λ (t : Title). DueAs (titled first (changes_at others 2 request.changes)) t two.proof two.proof2) other_title (subst (λ (t : Title). DueAs t title2 two.proof two.proof2) one_title proofs) in
      subst (λ (all : List (List ℕ)). DueOf request.question all) (sym two.is) (subst (λ (question : Question). DueOf question read) (sym is) whole)

-- ---- the last ones

-- the last of some readers stands for the last of their texts
pub last_holds : (fed : List PieceState) (reader : PieceState) (texts : List (List ℕ)) (text : List ℕ) → AllHold StandsFor (fed ++ reader ∷ []) (texts ++ text ∷ [])
    → AllHold StandsFor fed texts × StandsFor reader text
last_holds [] reader [] text all = (tt, all.0)
last_holds [] reader (first ∷ []) text all = absurd all.1
last_holds [] reader (first ∷ second ∷ texts) text all = absurd all.1
last_holds (other ∷ []) reader [] text all = absurd all.1
last_holds (other ∷ another ∷ fed) reader [] text all = absurd all.1
last_holds (other ∷ fed) reader (first ∷ texts) text all = let rest = last_holds fed reader texts text all.1 in ((all.0, rest.0), rest.1)
