-- The text of a whole small model is accepted: it says its blocks, and neither their sets nor their data are refused.
use Rattle.command_answers.proofs.Common.{[], ◌∷◌, ◌++◌, map, false, refl, arith, digits, enumerate_from, Data, defaults_in_order, given_in_order, Accepted, plain}
use Rattle.command_answers.proofs.AcceptedText.{text, members, values, blocks, says}

-- its data
abbrev pub model : Data
model = record {
  sets = members ++ [] ∷ [] ∷ [] ∷ [] ∷ [];
  second = false;
  given = [];
  defaults = map (λ entry. record { param = entry.0; value = entry.1 }) (enumerate_from 1 values);
}

pub accepted : Accepted (plain text) model
unfolding text digits given_in_order defaults_in_order
accepted = record { says = record { blocks = blocks; short = omega arith; says = says; sets_accepted = refl; data_accepted = refl }; rounded = 0; told = refl }
