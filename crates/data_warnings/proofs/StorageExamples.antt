-- Technologies that charge or discharge a storage, and what nearly does.
use Rattle.data_warnings.proofs.Common.{◌≡◌, ℕ, ℤ, ◌∷◌, [], List, pos, refl, codes, digits, last_line, lines_text, storage_line, storage_text, None, SetLists}
use Rattle.mathprog_data.specs.Meaning.{Blocks, GivenValue}
use Rattle.model_sets.specs.declared.param_numbers.TheConstants.{OPERATIONAL_LIFE_STORAGE, TECHNOLOGY_FROM_STORAGE, TECHNOLOGY_TO_STORAGE}
use Rattle.data_warnings.specs.StorageUsers.{storage_users}

-- a region R, and the technologies DAM, COAL and PUMP
sets : SetLists
sets = (codes "R" ∷ []) ∷ (codes "DAM" ∷ codes "COAL" ∷ codes "PUMP" ∷ []) ∷ []

-- a value of the technology of this name in region R, storage S and mode 1
of : List ℕ → ℤ → GivenValue
of technology value = record { index = codes "R" ∷ technology ∷ codes "S" ∷ codes "1" ∷ []; value = value; at = record { line = 1; column = 1 } }

-- one statement
says : ℕ → List GivenValue → Blocks
says param values = record { sets = []; params = record { param = param; default = None; values = values } ∷ []; rounded = 0 }

-- each once, in the order of the set
charges : storage_users sets (says TECHNOLOGY_TO_STORAGE (of (codes "PUMP") (pos 1000000000) ∷ of (codes "DAM") (pos 1) ∷ of (codes "PUMP") (pos 1) ∷ [])) ≡ 0 ∷ 2 ∷ []
unfolding sets of says
charges = refl

discharges : storage_users sets (says TECHNOLOGY_FROM_STORAGE (of (codes "PUMP") (pos 1) ∷ [])) ≡ 2 ∷ []
unfolding sets of says
discharges = refl

-- a value of 0 links nothing
zero : storage_users sets (says TECHNOLOGY_TO_STORAGE (of (codes "PUMP") (pos 0) ∷ [])) ≡ []
unfolding sets of says
zero = refl

-- a name that is no technology is told by none
stranger : storage_users sets (says TECHNOLOGY_TO_STORAGE (of (codes "R") (pos 1) ∷ [])) ≡ []
unfolding sets of says
stranger = refl

-- another parameter says nothing of technologies
life : storage_users sets (says OPERATIONAL_LIFE_STORAGE (of (codes "PUMP") (pos 1) ∷ [])) ≡ []
unfolding sets of says
life = refl

-- they are counted with the findings
text : lines_text sets [] (2 ∷ [])
    ≡ codes "warning PUMP charges or discharges a storage, and the equations have none: what discharges makes energy out of nothing\nwarnings 1\n"
unfolding sets storage_line storage_text last_line digits
text = refl
