-- One line after another.
use Rattle.result_tables.proofs.Common.{◌≡◌, ℕ, List, ◌++◌, append_assoc, ap, ◌∙◌, value_of, amount_line, count_lines}
use Rattle.std.specs.Prelude.{codes}
use Rattle.result_tables.proofs.reports.push_summary.Goals as goal

joined : (start first second third last : List ℕ) → (((start ++ first) ++ second) ++ third) ++ last ≡ start ++ (((first ++ second) ++ third) ++ last)
joined start first second third last =
    ap (λ t. (t ++ third) ++ last) (append_assoc start first second)
    ∙ ap (λ t. t ++ last) (append_assoc start (first ++ second) third)
    ∙ append_assoc start ((first ++ second) ++ third) last

pub returns : goal.returns
returns c =
    let start : List ℕ = c.args.out.now.items in
    let status : List ℕ = codes "status solved\n" in
    let cost : List ℕ = amount_line (codes "cost") (value_of c.args.cost) in
    let bound : List ℕ = amount_line (codes "bound") (value_of c.args.bound) in
    let counts : List ℕ = count_lines c.args.pivots c.args.rounded c.args.places c.args.attempt in
    let first : c.extend_from_slice.new.self.items ≡ start ++ status = c.in_ok-extend_from_slice.ensures.items in
    let second : c.push_amount.new.out.items ≡ c.extend_from_slice.new.self.items ++ cost = c.in_ok-push_amount.ensures in
    let third : c.push_amount-2.new.out.items ≡ c.push_amount.new.out.items ++ bound = c.in_ok-push_amount-2.ensures in
    let fourth : c.push_counts.new.out.items ≡ c.push_amount-2.new.out.items ++ counts = c.in_ok-push_counts.ensures in
    fourth
    ∙ ap (λ (t : List ℕ). t ++ counts) (third ∙ ap (λ (t : List ℕ). t ++ bound) (second ∙ ap (λ (t : List ℕ). t ++ cost) first))
    ∙ joined start status cost bound counts
