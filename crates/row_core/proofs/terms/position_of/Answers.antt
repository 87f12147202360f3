use Rattle.row_core.proofs.Common.{◌≡◌, ℕ, suc, ◌-◌, ◌<◌, length, get_or, sym, ap, ◌∙◌, subst, arith, Less, Greater, get_or_default, Term, var_cmp, AreBefore}
use Rattle.row_core.proofs.Orders.{var_cmp_exact}
use Rattle.row_core.proofs.TermLaws.{AreBefore-same, AreBefore-last}
use Rattle.row_core.proofs.terms.position_of.Goals as goal

pub returns-in-Less : goal.returns-in-Less
returns-in-Less c =
    let terms = c.args.list.now in
    let at : ℕ = c.loop-end.end - 1 in
    let within : at < length terms = omega (arith, c.loop-end.invariant.within, c.loop-end-test.true) in
    let end : suc at ≡ c.loop-end.end = omega (arith, c.loop-end-test.true) in
    let found : var_cmp (get_or terms at c.index-list-end.result).variable c.args.variable.now ≡ Less = sym c.compare.ensures ∙ c.in-Less.is in
    let before : (d : Term) → var_cmp (get_or terms at d).variable c.args.variable.now ≡ Less =
    λ d. ap (λ (t : Term). var_cmp t.variable c.args.variable.now) (get_or_default terms at d c.index-list-end.result within) ∙ found in
    record {
      within = c.loop-end.invariant.within;
      before = subst (AreBefore terms c.args.variable.now) end (AreBefore-last terms c.args.variable.now at c.requires within before);
      following = c.loop-end.invariant.following;
    }

pub returns-in-Equal : goal.returns-in-Equal
returns-in-Equal c =
    let terms = c.args.list.now in
    let at : ℕ = c.loop-end.end - 1 in
    let within : at < length terms = omega (arith, c.loop-end.invariant.within, c.loop-end-test.true) in
    let found : (get_or terms at c.index-list-end.result).variable ≡ c.args.variable.now = var_cmp_exact _ c.args.variable.now (sym c.compare.ensures ∙ c.in-Equal.is) in
    let same : (d : Term) → (get_or terms at d).variable ≡ c.args.variable.now =
    λ d. ap (λ (t : Term). t.variable) (get_or_default terms at d c.index-list-end.result within) ∙ found in
    record { within = within; same = same; before = AreBefore-same terms c.args.variable.now at c.requires within same }

pub returns : goal.returns
returns c =
    let terms = c.args.list.now in
    let none : c.loop-end.end ≡ 0 = omega (arith, c.loop-end-test.false) in
    record {
      within = omega arith;
      before = λ k d less. absurd (omega (arith, less));
      following = subst (λ n. (d : Term) → n < length terms → var_cmp (get_or terms n d).variable c.args.variable.now ≡ Greater) none c.loop-end.invariant.following;
    }
