-- One member after another.
use Rattle.result_tables.proofs.Common.{◌≡◌, List, [], ◌∷◌, ◌++◌, ℕ, append_assoc, ◌∙◌, if◌then◌else◌, append-nil, on_ok_weaker, Fields, member}
use Rattle.csv.specs.Records.{fields_of}
use Rattle.plan_files.specs.Records.{has_at}
use Rattle.result_tables.proofs.records.push_members.Goals as goal

eight : {X : Type 0} (start a b c d e f g h : List X) → (((((((start ++ a) ++ b) ++ c) ++ d) ++ e) ++ f) ++ g) ++ h ≡ start ++ (a ++ (b ++ (c ++ (d ++ (e ++ (f ++ (g ++ (h ++ []))))))))
eight start a b c d e f g h = simp (append_assoc, append-nil)

pub returns-clause-fields : goal.returns-clause-fields
returns-clause-fields c =
    let part : ℕ → Fields = λ place. if has_at c.args.has.now place then member c.args.sets.now c.args.at place ∷ [] else [] in
    on_ok_weaker c.push_member-8.result
    (λ last.
    let all = rw (c.in_ok-push_member-7.ensures.fields, c.in_ok-push_member-6.ensures.fields, c.in_ok-push_member-5.ensures.fields, c.in_ok-push_member-4.ensures.fields, c.in_ok-push_member-3.ensures.fields, c.in_ok-push_member-2.ensures.fields, c.in_ok-push_member.ensures.fields) at last in
    all ∙ eight (fields_of c.args.fields.now) (part 0) (part 1) (part 2) (part 3) (part 4) (part 5) (part 6) (part 7))
    c.push_member-8.ensures.fields
