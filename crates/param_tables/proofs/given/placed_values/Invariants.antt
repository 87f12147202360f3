use Rattle.param_tables.proofs.Common.{◌≡◌, take, get, nat_cmp, in_turn, value_refusal, AreGiven}
use Rattle.param_tables.proofs.TurnLaws.{in_turn_from}
use Rattle.param_tables.proofs.given.placed_values.Given as goal

abbrev pub invariant-loop-number : goal.invariant-loop-number
invariant-loop-number l = record {
  values : AreGiven l.sets l.param (take l.number l.given) (get nat_cmp l.values);
  refusals : in_turn (value_refusal l.sets l.param) l.given ≡ in_turn_from (value_refusal l.sets l.param) l.given l.number;
}
