-- The lines of refusals and of stops, and the exit statuses, computed on examples.
use Rattle.command_answers.proofs.Common.{◌≡◌, [], ◌∷◌, map, Some, None, refl, codes, digits, SetLists, new_capacity, Place, SumCost, StorageMember, UnknownName, GivenBefore, AtIndex, text_line, set_line, data_line, no_such_line, index_of}
use Rattle.row_core.specs.Names.{caa2}
use Rattle.param_tables.specs.declared.fault.CellFault.TheVariants.{NoValue, OutOfRange, WholeUnits}
use Rattle.plan_files.specs.declared.faults.PlanFault.TheVariants.{Missing}
use Rattle.plan_files.specs.declared.faults.PlanFault.TheVariants as faults
use Rattle.command_words.specs.declared.fault.WordFault.TheVariants.{NoCommand, BadCommand, BadForm}
use Rattle.simplex_core.specs.declared.stops.Stop.TheVariants.{Budget, Width, Trial}
use Rattle.simplex_core.specs.declared.stops.TrialStop.TheVariants as trials
use Rattle.command_answers.specs.declared.status.ReadStop.TheVariants as stops
use Rattle.command_answers.specs.declared.status.Status.TheVariants.{Infeasible, Unbounded}
use Rattle.command_answers.specs.Codes.{code_of}
use Rattle.command_answers.specs.Lines.{entries_line, stop_line, too_large_line, too_long_line, uncertified_line, unguessed_line, words_line}
use Rattle.command_answers.specs.PlanFaultLines.{multiplier_fault_line, plan_fault_line}
use Rattle.model_sets.specs.declared.set_numbers.TheConstants.{EMISSION, YEAR}

-- ---- words and files

words : map words_line (NoCommand ∷ BadCommand ∷ BadForm ∷ []) ≡ codes "words refused NoCommand\n" ∷ codes "words refused BadCommand\n" ∷ codes "words refused BadForm\n" ∷ []
words = refl

-- the number of a file is written whole
unread : map stop_line (stops.NoFile 1 ∷ stops.Failed 1 ∷ stops.Failed 255 ∷ []) ≡ codes "no such file 1\n" ∷ codes "read fault file 1\n" ∷ codes "read fault file 255\n" ∷ []
unfolding digits
unread = refl

too_long : map too_long_line (1 ∷ 3 ∷ []) ≡ codes "refused too long file 1\n" ∷ codes "refused too long file 3\n" ∷ []
unfolding digits
too_long = refl

-- ---- the text of a data file, its sets and its data

text_faults : text_line 9 (record { line = 12; column = 3 }) ∷ text_line 11 (record { line = 1; column = 21 }) ∷ []
    ≡ codes "refused line 12 column 3 RowTooShort\n" ∷ codes "refused line 1 column 21 Tabbing\n" ∷ []
unfolding digits
text_faults = refl

set_faults : map set_line (record { no = 2; set = 5 } ∷ record { no = 3; set = 7 } ∷ []) ≡ codes "refused set MODE_OF_OPERATION EmptySet\n" ∷ codes "refused set YEAR BadYear\n" ∷ []
set_faults = refl

-- the members stand in the parameter's own order of subscripts: region, fuel, timeslice, year
refusals : map data_line
    (StorageMember ∷ UnknownName (record { line = 45; column = 30 }) ∷ GivenBefore (record { line = 2; column = 10 })
    ∷ AtIndex NoValue 6 (codes "R" ∷ codes "F" ∷ codes "D" ∷ codes "2020" ∷ [])
    ∷ AtIndex OutOfRange 2 (codes "R" ∷ []) ∷ AtIndex WholeUnits 18 (codes "R" ∷ codes "T" ∷ codes "2020" ∷ []) ∷ [])
    ≡ codes "refused Storage\n" ∷ codes "refused line 45 column 30 UnknownMember\n" ∷ codes "refused line 2 column 10 ValueTwice\n"
    ∷ codes "refused NoValue SpecifiedDemandProfile[R,F,D,2020]\n"
    ∷ codes "refused OutOfRange DiscountRate[R]\n" ∷ codes "refused WholeUnits CapacityOfOneTechnologyUnit[R,T,2020]\n" ∷ []
unfolding digits
refusals = refl

-- ---- stops

-- two regions, and one member of each other set that has to have one
abbrev pub two_regions : SetLists
two_regions =
    (codes "A" ∷ codes "B" ∷ []) ∷ (codes "T" ∷ []) ∷ (codes "F" ∷ []) ∷ [] ∷ (codes "1" ∷ []) ∷ (codes "D" ∷ []) ∷ (codes "2020" ∷ [])
    ∷ [] ∷ [] ∷ [] ∷ [] ∷ []

-- a trial is named by its number, and then stands why it stopped
stopped : map (uncertified_line two_regions)
    (Width (Place.Row (caa2 1 0 0)) ∷ Width SumCost ∷ Budget 20000 ∷ Trial 3 (trials.Budget 20000) ∷ Trial 12 (trials.Width (Place.Row (caa2 1 0 0))) ∷ [])
    ≡ codes "uncertified width row CAa2[B,T,2020]\n" ∷ codes "uncertified width sum cost\n" ∷ codes "uncertified budget 20000\n"
    ∷ codes "uncertified trial 3 budget 20000\n" ∷ codes "uncertified trial 12 width row CAa2[B,T,2020]\n" ∷ []
unfolding digits
stopped = refl

-- ---- rows and sizes

sizes : entries_line ∷ too_large_line 20001 40 ∷ unguessed_line 1000000 ∷ [] ≡ codes "refused too many entries\n" ∷ codes "refused too large 20001 40\n" ∷ codes "uncertified guesses 1000000\n" ∷ []
unfolding digits
sizes = refl

-- ---- files of plans and of multipliers

plans : map (plan_fault_line two_regions) (Missing (new_capacity 0 0 0) ∷ faults.Twice 3 ∷ faults.UnknownVar 12 ∷ faults.BadValue 2 ∷ [])
    ≡ codes "refused plan Missing NewCapacity[A,T,2020]\n" ∷ codes "refused plan record 3 Twice\n"
    ∷ codes "refused plan record 12 UnknownVar\n" ∷ codes "refused plan record 2 BadValue\n" ∷ []
unfolding digits
plans = refl

no_header : multiplier_fault_line [] (faults.BadRecord 1) ≡ codes "refused multipliers record 1 BadRecord\n"
unfolding digits
no_header = refl

-- ---- statuses

ends : map code_of (Infeasible ∷ Unbounded ∷ []) ≡ 1 ∷ 2 ∷ []
ends = refl

-- ---- members that words name

no_such : map no_such_line (EMISSION ∷ YEAR ∷ []) ≡ codes "refused no such EMISSION\n" ∷ codes "refused no such YEAR\n" ∷ []
no_such = refl

-- names are compared byte by byte
found : index_of (codes "CO2" ∷ codes "NOX" ∷ []) (codes "NOX") ∷ index_of (codes "7" ∷ []) (codes "007") ∷ [] ≡ Some 1 ∷ None ∷ []
found = refl
