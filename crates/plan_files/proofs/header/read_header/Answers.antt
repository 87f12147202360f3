-- The first record is the header, or another one, or there is none.
use Rattle.plan_files.proofs.Common.{◌≡◌, true, false, ◌∷◌, refl, sym, ap, ◌∙◌, subst, fields_of, HasNoHeader, Fields, IsNext, header}
use Rattle.plan_files.proofs.header.read_header.Goals.{else-branch-via-then-branch+else-is_header, else-branch-via-else-branch}
use Rattle.plan_files.proofs.header.read_header.Goals as goal

pub returns-then-is_header : goal.returns-then-is_header
returns-then-is_header c rows left =
    let next : IsNext c.next_record.new.reader rows true (fields_of c.next_record.new.fields) = rw c.if-branch.true at (c.in_ok-next_record.ensures rows left) in
    let same : fields_of c.next_record.new.fields ≡ header = c.is_header.ensures.0 c.if-is_header.true in
    (next.0, next.1 ∙ ap (λ (r : Fields). r ∷ next.0) same, next.2)

false_true : false ≡ true → ⊥
false_true e = cc

pub returns-else-branch : goal.returns-else-branch
returns-else-branch c rows left =
    elim c.else-branch.branch [
      | else-branch-via-then-branch+else-is_header w ↦
          let next : IsNext c.next_record.new.reader rows true (fields_of c.next_record.new.fields) = rw w.if-branch.true at (c.in_ok-next_record.ensures rows left) in
          (subst HasNoHeader (sym next.1) (λ same. false_true (sym w.if-is_header.false ∙ w.is_header.ensures.1 same)), refl)
      | else-branch-via-else-branch w ↦
          let next : IsNext c.next_record.new.reader rows false (fields_of c.next_record.new.fields) = rw w.if-branch.false at (c.in_ok-next_record.ensures rows left) in
          (subst HasNoHeader (sym next) tt, refl)
    ]
