use Rattle.span_command.proofs.Common.{◌≡◌, ℕ, List, ◌++◌, ◌∙◌, ap, codes, Result, Ok, Err, OnOk, is_ok, if◌then◌else◌, on_ok_weaker, end_line, chosen_table}
use Rattle.std.proofs.lemmas.List.{append_assoc}
use Rattle.span_command.proofs.texts.push_last.Goals as goal

-- what is appended, where there is memory for it
appended : {T E : Type 0} (r : Result T E) (old more new : List ℕ) → new ≡ (if is_ok r then old ++ more else old) → OnOk r (new ≡ old ++ more)
appended (Ok x) old more new e = e
appended (Err y) old more new e = tt

pub returns : goal.returns
returns c =
    on_ok_weaker c.extend_from_slice.result
    (λ is. is ∙ ap (λ xs. xs ++ end_line) c.in_ok-push_plan.ensures ∙ append_assoc c.args.out.now.items (chosen_table c.args.sets.now (codes "Direction") c.args.direction.now) end_line)
    (appended c.extend_from_slice.result c.push_plan.new.out.items end_line c.extend_from_slice.new.self.items c.extend_from_slice.ensures.items)
