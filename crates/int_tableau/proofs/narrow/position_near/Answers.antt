-- The entry before is in an earlier column, and the one there isn't.
use Rattle.int_tableau.proofs.Common.{◌≡◌, ℕ, suc, ◌-◌, ◌<◌, length, take, drop, ap, ◌∙◌, subst, arith, at, IsSparse}
use Rattle.int_tableau.proofs.LineLaws.{at-after, IsSparse-drop, IsSparse-take}
use Rattle.int_tableau.proofs.narrow.position_near.Goals as goal

pub returns-then-column-entries-clause-before : goal.returns-then-column-entries-clause-before
returns-then-column-entries-clause-before c =
    let xs = c.args.entries.now in
    let k : ℕ = c.args.near - 1 in
    let same : suc k ≡ c.args.near = omega (arith, c.if-near-eq0.false) in
    let inside : c.args.near < length xs = omega (arith, c.if-near-entries.false) in
    subst (λ n. IsSparse 0 c.args.column (take n xs)) same (IsSparse-take 0 c.args.columns xs k c.args.column c.requires (omega arith) c.if-entries-near.true)

pub returns-then-column-entries-clause-rest : goal.returns-then-column-entries-clause-rest
returns-then-column-entries-clause-rest c =
    let xs = c.args.entries.now in
    let inside : c.args.near < length xs = omega (arith, c.if-near-entries.false) in
    IsSparse-drop 0 c.args.columns xs c.args.near c.args.column c.requires inside c.if-column-entries.true

pub returns-then-column-entries-clause-same : goal.returns-then-column-entries-clause-same
returns-then-column-entries-clause-same c d h =
    let xs = c.args.entries.now in
    let k : ℕ = c.args.near - 1 in
    let same : suc k ≡ c.args.near = omega (arith, c.if-near-eq0.false) in
    let inside : c.args.near < length xs = omega (arith, c.if-near-entries.false) in
    at-after 0 c.args.columns xs k c.args.column d c.requires (omega arith) c.if-entries-near.true h ∙ ap (λ n. at (drop n xs) d) same
