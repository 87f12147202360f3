-- What is reached by some pivots of the method.
use Rattle.simplex_core.proofs.Common.{◌≡◌, ℕ, zero, suc, refl, sym, subst, pos, ◌<ℤ◌, LinearProgram, State, Due, Pivot, NoColumn, NoRow, due, after, IsReached, IsReached-after, advanced}
use Rattle.simplex_core.proofs.KeptWayLaws.{advanced-zero, advanced-due, stays}

pub advanced-IsReached : (p : LinearProgram) (n : ℕ) (s : State) → pos 0 <ℤ p.cost_own → IsReached p s → IsReached p (advanced n s)
advanced-IsReached p zero s k w = subst (IsReached p) (sym (advanced-zero s)) w
advanced-IsReached p (suc n) s k w = cases (due s) refl (λ u v. advanced-IsReached p n u k v)
  where
    cases : (d : Due) → due s ≡ d → ((u : State) → IsReached p u → IsReached p (advanced n u)) → IsReached p (advanced (suc n) s)
    cases (Pivot r c) e rest = subst (IsReached p) (sym (advanced-due n s r c e)) (rest (after s r c) (IsReached-after p s r c k e w))
    cases NoColumn e rest = subst (IsReached p) (sym (stays (suc n) s NoColumn e (λ r c q. absurd (cc q)))) w
    cases (NoRow d) e rest = subst (IsReached p) (sym (stays (suc n) s (NoRow d) e (λ r c q. absurd (cc q)))) w
