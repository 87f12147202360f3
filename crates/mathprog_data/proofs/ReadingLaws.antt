-- The answers of `read_blocks` by what is made of the text.
use Rattle.mathprog_data.proofs.Common.{◌≡◌, ℕ, List, Ok, Err, Result, sym, refl, ap, ◌∙◌, IfOk, IfErr, MatchResult, Mark, DataFault, ReadFail, Fault, Memory, blocks_told, Blocks, Reads, Refuses, outcome_of, IsMemory, IsFaultOrMemory, Says, FaultAt, AreWellFormed}
use Rattle.mathprog_data.specs.declared.blocks.Blocks.{Blocks as KeptBlocks}
use Rattle.mathprog_data.proofs.StatementLawsHold.{statement_laws}
use Rattle.mathprog_data.proofs.VerdictLaws.{says_reads, fault_refuses}
use Rattle.mathprog_data.proofs.WellFormedLaws.{Means-well_formed}

abbrev pub Answer : Type 0
Answer = Result KeptBlocks ReadFail

-- the answer is what is made of the text, unless it is out of memory
abbrev pub ReadsExactly : List ℕ → Answer → Type 0
ReadsExactly text r = IfOk r (λ blocks. outcome_of text ≡ Reads (blocks_told blocks))

abbrev pub RefusesExactly : List ℕ → Answer → Type 0
RefusesExactly text r = (fault : DataFault) → r ≡ Err (Fault fault) → outcome_of text ≡ Refuses fault.no fault.at

pub says_well : (text : List ℕ) (blocks : Blocks) → Says text blocks → AreWellFormed blocks
says_well text blocks says = Means-well_formed says.placed blocks says.means

pub refuses_no_blocks : (text : List ℕ) (r : Answer) → RefusesExactly text r → (blocks : Blocks) → Says text blocks → IfErr r IsMemory
refuses_no_blocks text (Ok found) h blocks says = tt
refuses_no_blocks text (Err (Fault fault)) h blocks says =
    let both : Reads blocks ≡ Refuses fault.no fault.at = sym (says_reads statement_laws text blocks says) ∙ h fault refl in cc
refuses_no_blocks text (Err Memory) h blocks says = tt

pub refuses_each_fault : (text : List ℕ) (r : Answer) → ReadsExactly text r → RefusesExactly text r → (number : ℕ) (at : Mark) → FaultAt text number at
    → MatchResult r (λ _. ⊥) (IsFaultOrMemory number at)
refuses_each_fault text (Ok found) k h number at fault =
    let both : Reads (blocks_told found) ≡ Refuses number at = sym k ∙ fault_refuses statement_laws text number at fault in cc
refuses_each_fault text (Err (Fault found)) k h number at fault =
    let both : Refuses found.no found.at ≡ Refuses number at = sym (h found refl) ∙ fault_refuses statement_laws text number at fault in
    let numbers : found.no ≡ number = cc in
    let places : found.at ≡ at = cc in
    ap (λ n. record { no = n; at = found.at }) numbers ∙ ap (λ m. record { no = number; at = m }) places
refuses_each_fault text (Err Memory) k h number at fault = tt
