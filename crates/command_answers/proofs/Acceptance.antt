-- A text is accepted with one model's data, or refused by one line.
use Rattle.command_answers.proofs.Common.{◌≡◌, ℕ, inl, inr, List, Option, Some, None, ap, refl, subst, sym, ◌∙◌, Blocks, FaultAt, Says, Data, first_refusal, first_set_refusal, Status, Accepted, SaysData, Source, built_of, changed_by, set_line, data_line}
use Rattle.mathprog_data.specs.declared.blocks.Mark.{Mark}
use Rattle.std.specs.Prelude.{Result, Ok, Err}
use Rattle.data_changes.specs.Faults.{ChangesFault}
use Rattle.data_changes.specs.Told.{fault_told}
use Rattle.param_tables.specs.BlockData.{set_lists}
use Rattle.param_tables.specs.Built.{Built}
use Rattle.command_answers.specs.NotAccepted.{DueWhereNotAccepted, RefusesBlocks, RefusesChanges, RefusesFile, RefusesTold}
use Rattle.command_answers.specs.RefusalLines.{changes_line}

-- what the laws of the reader say
pub record ReaderLaws : Type 0 where
  pub one_reading : (text : List ℕ) (blocks others : Blocks) → Says text blocks → Says text others → blocks ≡ others
  pub one_fault : (text : List ℕ) (number other : ℕ) (at place : Mark) → FaultAt text number at → FaultAt text other place → (number ≡ other) × (at ≡ place)
  pub not_both : (text : List ℕ) (blocks : Blocks) (number : ℕ) (at : Mark) → Says text blocks → FaultAt text number at → ⊥

-- the data of a text come to one thing
same_blocks : ReaderLaws → (text : List ℕ) (a b : SaysData text) → a.blocks ≡ b.blocks
same_blocks laws text a b = laws.one_reading text a.blocks b.blocks a.says b.says

-- accepted data with the count of their rounded numbers
abbrev built_as : {source : Source} {d : Data} → Accepted source d → Built
built_as {source} {d} a = record { facts = d; rounded = a.rounded }

one_ok : {A E : Type 0} (r : Result A E) (x y : A) → r ≡ Ok x → r ≡ Ok y → x ≡ y
one_ok r x y e f = cc (e, f)

one_err : {A E : Type 0} (r : Result A E) (x y : E) → r ≡ Err x → r ≡ Err y → x ≡ y
one_err r x y e f = cc (e, f)

same_built : ReaderLaws → (source : Source) (d e : Data) (a : Accepted source d) (b : Accepted source e) → built_as a ≡ built_as b
same_built laws source d e a b =
    one_ok (changed_by source.changes (built_of b.says.blocks)) (built_as a) (built_as b)
    (subst (λ (blocks : Blocks). changed_by source.changes (built_of blocks) ≡ Ok (built_as a)) (same_blocks laws source.text a.says b.says) a.told) b.told

pub one_data : ReaderLaws → (source : Source) (d e : Data) → Accepted source d → Accepted source e → d ≡ e
one_data laws source d e a b = ap (λ (built : Built). built.facts) (same_built laws source d e a b)

pub one_count : ReaderLaws → (source : Source) (d e : Data) (a : Accepted source d) (b : Accepted source e) → a.rounded ≡ b.rounded
one_count laws source d e a b = ap (λ (built : Built). built.rounded) (same_built laws source d e a b)

some_or_none : {A : Type 0} {o : Option A} {x : A} → o ≡ Some x → o ≡ None → ⊥
some_or_none e f = cc (e, f)

one_some : {A : Type 0} {o : Option A} {x y : A} → o ≡ Some x → o ≡ Some y → x ≡ y
one_some e f = cc (e, f)

-- blocks that are accepted aren't refused
accepted_or_refused : (blocks : Blocks) (status : Status) (line : List ℕ) → first_set_refusal blocks ≡ None → first_refusal blocks ≡ None → RefusesBlocks blocks status line → ⊥
accepted_or_refused blocks status line sets values (inl refused) = some_or_none refused.first sets
accepted_or_refused blocks status line sets values (inr refused) = some_or_none refused.first values

said_or_refused : ReaderLaws → (text : List ℕ) (says : SaysData text) (status : Status) (line : List ℕ) → RefusesFile text status line → ⊥
said_or_refused laws text says status line (inl refused) = laws.not_both text says.blocks refused.fault.no refused.fault.at says.says refused.first
said_or_refused laws text says status line (inr said) =
    let same : said.0 ≡ says.blocks = laws.one_reading text said.0 says.blocks said.1 says.says in
    accepted_or_refused says.blocks status line says.sets_accepted says.data_accepted (rw same at said.2)

pub not_both : ReaderLaws → (source : Source) (d : Data) (status : Status) (line : List ℕ) → Accepted source d → DueWhereNotAccepted source status line → ⊥
not_both laws source d status line a (inl refused) = said_or_refused laws source.text a.says status line refused
not_both laws source d status line a (inr changes) =
    let same = same_blocks laws source.text changes.says a.says in
    let refused = subst (λ (blocks : Blocks). changed_by source.changes (built_of blocks) ≡ Err (fault_told (set_lists changes.says.blocks) changes.refused.fault)) same changes.refused.first in
    ok_or_err a.told refused
  where
    ok_or_err : {o : Result Built ChangesFault} {x : Built} {f : ChangesFault} → o ≡ Ok x → o ≡ Err f → ⊥
    ok_or_err e f = cc (e, f)

-- blocks are refused by one line
one_line_of_blocks : (blocks : Blocks) (status other : Status) (line another : List ℕ) → RefusesBlocks blocks status line → RefusesBlocks blocks other another → line ≡ another
one_line_of_blocks blocks status other line another (inl a) (inl b) = a.line_is ∙ ap set_line (one_some a.first b.first) ∙ sym b.line_is
one_line_of_blocks blocks status other line another (inl a) (inr b) = absurd (some_or_none a.first b.sets_accepted)
one_line_of_blocks blocks status other line another (inr a) (inl b) = absurd (some_or_none b.first a.sets_accepted)
one_line_of_blocks blocks status other line another (inr a) (inr b) = a.line_is ∙ ap data_line (one_some a.first b.first) ∙ sym b.line_is

one_file_line : ReaderLaws → (text : List ℕ) (status other : Status) (line another : List ℕ) → RefusesFile text status line → RefusesFile text other another → line ≡ another
one_file_line laws text status other line another (inl a) (inl b) =
    let same = laws.one_fault text a.fault.no b.fault.no a.fault.at b.fault.at a.first b.first in
    (rw (same.0, same.1) at a.line_is) ∙ sym b.line_is
one_file_line laws text status other line another (inl a) (inr b) = absurd (laws.not_both text b.0 a.fault.no a.fault.at b.1 a.first)
one_file_line laws text status other line another (inr a) (inl b) = absurd (laws.not_both text a.0 b.fault.no b.fault.at a.1 b.first)
one_file_line laws text status other line another (inr a) (inr b) =
    let same : b.0 ≡ a.0 = laws.one_reading text b.0 a.0 b.1 a.1 in
    one_line_of_blocks a.0 status other line another a.2 (rw same at b.2)

-- changes are refused by one line
one_changes_line : ReaderLaws → (source : Source) (status other : Status) (line another : List ℕ) → RefusesChanges source status line → RefusesChanges source other another → line ≡ another
one_changes_line laws source status other line another a b =
    let fault = fault_told (set_lists a.says.blocks) a.refused.fault in
    let fault2 = fault_told (set_lists b.says.blocks) b.refused.fault in
    let same : fault ≡ fault2 =
    one_err (changed_by source.changes (built_of b.says.blocks)) fault fault2
    (subst (λ (blocks : Blocks). changed_by source.changes (built_of blocks) ≡ Err fault) (same_blocks laws source.text a.says b.says) a.refused.first) b.refused.first in
    a.refused.line_is ∙ ap changes_line same ∙ sym b.refused.line_is

pub one_line : ReaderLaws → (source : Source) (status other : Status) (line another : List ℕ) → DueWhereNotAccepted source status line → DueWhereNotAccepted source other another → line ≡ another
one_line laws source status other line another (inl a) (inl b) = one_file_line laws source.text status other line another a b
one_line laws source status other line another (inl a) (inr b) = absurd (said_or_refused laws source.text b.says status line a)
one_line laws source status other line another (inr a) (inl b) = absurd (said_or_refused laws source.text a.says other another b)
one_line laws source status other line another (inr a) (inr b) = one_changes_line laws source status other line another a b

-- ---- from the data of a text to those with changes

pub accepted_so : (text : List ℕ) (changes : Option (List ℕ)) (says : SaysData text) (model changed : Built) → model ≡ built_of says.blocks → changed_by changes model ≡ Ok changed
    → (accepted : Accepted (record { text = text; changes = changes }) changed.facts) × (changed.rounded ≡ accepted.rounded)
accepted_so text changes says model changed is e =
    (record { says = says; rounded = changed.rounded; told = subst (λ (built : Built). changed_by changes built ≡ Ok changed) is e }, refl)

pub refused_so : (text : List ℕ) (changes : Option (List ℕ)) (says : SaysData text) (model : Built) (status : Status) (line : List ℕ) → model ≡ built_of says.blocks
    → RefusesTold (changed_by changes model) model.facts.sets status line → DueWhereNotAccepted (record { text = text; changes = changes }) status line
refused_so text changes says model status line is refused =
    inr (record { says = says; refused = subst (λ (built : Built). RefusesTold (changed_by changes built) built.facts.sets status line) is refused })
