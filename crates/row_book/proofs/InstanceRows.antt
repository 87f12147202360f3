-- The equations of capacity adequacy stand everywhere, and so their rows stop only where a number doesn't fit.
use Rattle.row_book.proofs.Common.{◌≡◌, ℕ, ◌≤◌, true, not, ◌||◌, refl, ap, sym, ◌∙◌, subst, arith, all_fit, Data, RowName, Place, Stopped, equation_formed, IsStop, name_at, stands_at, at_number, row_fits, terms_at}
use Rattle.capacity_rows.specs.Rows as capacity

capacity-stands : (d : Data) (name : RowName) → 2 ≤ name.eq → name.eq ≤ 6 → stands_at d name.eq name.index ≡ true
capacity-stands d name from to =
    at_number (λ n. stands_at d n name.index ≡ true) 2 5 name.eq (refl, (refl, (refl, (refl, (refl, tt))))) from (omega (arith, to))

capacity-terms : (places : ℕ) (d : Data) (name : RowName) → 2 ≤ name.eq → name.eq ≤ 6 → terms_at places d name ≡ capacity.terms_at d name
capacity-terms places d name from to =
    at_number (λ n. terms_at places d (name_at n name.index) ≡ capacity.terms_at d (name_at n name.index)) 2 5 name.eq (refl, (refl, (refl, (refl, (refl, tt))))) from (omega (arith, to))

pub capacity-stops : (places : ℕ) (d : Data) (name : RowName) (stopped : Stopped) → 2 ≤ name.eq → name.eq ≤ 6
    → IsStop (Place.Row name) (all_fit (equation_formed (capacity.terms_at d name))) stopped → IsStop (Place.Row name) (not (stands_at d name.eq name.index) || row_fits places d name) stopped
capacity-stops places d name stopped from to stops =
    subst (λ b. IsStop (Place.Row name) b stopped)
    (sym (ap (λ b. not b || row_fits places d name) (capacity-stands d name from to) ∙ ap (λ e. all_fit (equation_formed e)) (capacity-terms places d name from to))) stops
