use Rattle.simplex_core.proofs.Common.{◌≡◌, ℕ, ◌+◌, ◌*◌, ◌∙◌, sym, ap, subst, arith, unsigned_abs, InRange, back_in_range, entry_of, numbers_of, Tableau, line_of, x0_in}
use Rattle.simplex_core.proofs.KeptSizeLaws.{late_size-home, late_size-other, IfSome-weaker, AllWithin-of}
use Rattle.simplex_core.proofs.kept_width.bound.Goals as goal

pub returns-then-row-home : goal.returns-then-row-home
returns-then-row-home c =
    let t : Tableau = c.args.tableau.now.tableau in
    late_size-home t c.args.home.row (x0_in t) c.args.row c.size-at_home.result c.if-row-home.true (AllWithin-of c.size-at_home.result (numbers_of (line_of t c.args.home.row)) c.size-at_home.ensures)

pub returns : goal.returns
returns c =
    let t : Tableau = c.args.tableau.now.tableau in
    let h = c.args.home in
    let rho : c.unsigned_abs.result ≡ unsigned_abs (entry_of (line_of t h.row) (x0_in t)) =
    c.unsigned_abs.ensures.value ∙ ap unsigned_abs (back_in_range h.at_x0 h.at_x0_fits ∙ c.requires.home.at_x0_is) in
    let x : c.unsigned_abs-2.result ≡ unsigned_abs (entry_of (line_of t c.args.row) (x0_in t)) =
    c.unsigned_abs-2.ensures.value ∙ ap unsigned_abs (back_in_range c.last_entry.result (subst InRange (sym c.last_entry.ensures.value) c.last_entry.ensures.range) ∙ c.last_entry.ensures.value) in
    let bound = late_size-other t h.row (x0_in t) c.args.row c.size.result c.size-at_home.result c.if-row-home.false (AllWithin-of c.size.result (numbers_of (line_of t c.args.row)) c.size.ensures) (AllWithin-of c.size-at_home.result (numbers_of (line_of t h.row)) c.size-at_home.ensures) in
    IfSome-weaker c.two_products.result (λ (n : ℕ) (e : n ≡ (c.unsigned_abs.result * c.size.result) + (c.unsigned_abs-2.result * c.size-at_home.result)).
    omega (arith, bound, e, ap (λ k. k * c.size.result) rho, ap (λ k. k * c.size-at_home.result) x)) c.two_products.ensures
