use Rattle.mps_writer.proofs.Common.{◌∙◌, ◌++◌, ◌+◌, ◌<◌, List, ℕ, drop, get_or, length, ap, sym, refl, arith, append_assoc, pos, append-nil, lines_of, entry_line, Entry}
use Rattle.mps_writer.proofs.ColumnText.{lines-earlier, lines-own, lines-later}
use Rattle.mps_writer.proofs.columns.push_column.Goals as goal
use Rattle.mps_writer.proofs.columns.push_column.Goals.{in-Less, in-Equal+in_ok-push_entry-in-Equal}

-- what a list of entries gives past its end
none : Entry
none = record { variable = record { kind = 0; index = record { region = 0; other = 0; slice = 0; tech = 0; fuel = 0; emission = 0; mode = 0; year = 0 } }; row = 0; number = pos 0 }

pub returns-in-Greater-clause-text : goal.returns-in-Greater-clause-text
unfolding none
returns-in-Greater-clause-text c =
    let entries = c.args.entries.now in
    let i = c.loop-i.i in
    let less : i < length entries = omega arith in
    let both = lines-later c.args.column c.args.var entries i (get_or entries i none) none less refl (sym c.in-Greater.ensures) in
    sym (append-nil c.loop-i.out.items) ∙ ap (λ (lines : List ℕ). c.loop-i.out.items ++ lines) (sym both.0) ∙ c.loop-i.invariant.text

pub returns-in-Greater-clause-rest : goal.returns-in-Greater-clause-rest
unfolding none
returns-in-Greater-clause-rest c =
    let entries = c.args.entries.now in
    let i = c.loop-i.i in
    let less : i < length entries = omega arith in
    let both = lines-later c.args.column c.args.var entries i (get_or entries i none) none less refl (sym c.in-Greater.ensures) in
    sym both.1 ∙ c.loop-i.invariant.rest

pub loop-i-preserved : goal.loop-i-preserved
unfolding none
loop-i-preserved c =
    let entries = c.args.entries.now in
    let i = c.loop-i.i in
    let here = get_or entries i none in
    let less : i < length entries = omega arith in
    let left = lines_of c.args.column c.args.var (drop (i + 1) entries) in
    elim c.match-compare.branch [
      | in-Less w ↦
          let both = lines-earlier c.args.column c.args.var entries i here none less refl (sym w.in-Less.ensures) in
          record {
            text = ap (λ v. v.items ++ left) w.out-is ∙ ap (λ (lines : List ℕ). c.loop-i.out.items ++ lines) (sym both.0) ∙ c.loop-i.invariant.text;
            rest = sym both.1 ∙ c.loop-i.invariant.rest;
          }
      | in-Equal+in_ok-push_entry-in-Equal w ↦
          let both = lines-own c.args.column c.args.var entries i here none less refl (sym w.in-Equal.ensures) in
          record {
            text =
                ap (λ v. v.items ++ left) w.out-is
                ∙ ap (λ (front : List ℕ). front ++ left) w.in_ok-push_entry-in-Equal.ensures
                ∙ append_assoc c.loop-i.out.items (entry_line c.args.column here.row here.number) left
                ∙ ap (λ (lines : List ℕ). c.loop-i.out.items ++ lines) (sym both.0)
                ∙ c.loop-i.invariant.text;
            rest = sym both.1 ∙ c.loop-i.invariant.rest;
          }
    ]
