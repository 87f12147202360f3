use Rattle.int_tableau.proofs.Common.{◌≡◌, ◌≤◌, ℕ, ℤ, Option, Some, None, drop, refl, sym, ap, ◌∙◌, subst, IfSome, IfNone, Line, entry_of, at, IsSparse, first_of, line_seen, IsNextEntry}
use Rattle.int_tableau.proofs.LineLaws.{next-none, next-some}
use Rattle.int_tableau.proofs.line.SparseLine.next_entry_near.Goals as goal

some_of : (o : Option (ℕ × ℤ)) (P : ℕ × ℤ → Type 0) → ((x : ℕ × ℤ) → o ≡ Some x → P x) → IfSome o P
some_of None P h = tt
some_of (Some x) P h = h x refl

none_of : {P : Type 0} (o : Option (ℕ × ℤ)) → (o ≡ None → P) → IfNone o P
none_of None h = h refl
none_of (Some x) h = tt

pub returns-clause-found : goal.returns-clause-found
returns-clause-found c =
    let n = c.self.inside.columns in
    let es = c.self.inside.entries in
    let p = c.position_near-at.result in
    let rest : IsSparse c.args.from n (drop p es) = c.position_near-at.ensures.rest in
    let same : (k : ℕ) → c.args.from ≤ k → at es k ≡ at (drop p es) k = c.position_near-at.ensures.same in
    let first : c.entry_at.result ≡ first_of (drop p es) = c.entry_at.ensures in
    subst (λ (l : Line). IfSome c.entry_at.result (IsNextEntry l c.args.from)) c.self.view_is
    (some_of c.entry_at.result (IsNextEntry (line_seen n es c.self.inside.right c.self.inside.own) c.args.from)
    (λ x e. next-some n c.args.from es (drop p es) c.self.inside.right c.self.inside.own x c.self.invariant.entries_sparse rest same (sym first ∙ e)))

pub returns-clause-none : goal.returns-clause-none
returns-clause-none c =
    let n = c.self.inside.columns in
    let es = c.self.inside.entries in
    let p = c.position_near-at.result in
    let same : (k : ℕ) → c.args.from ≤ k → at es k ≡ at (drop p es) k = c.position_near-at.ensures.same in
    let first : c.entry_at.result ≡ first_of (drop p es) = c.entry_at.ensures in
    none_of c.entry_at.result
    (λ e k h. ap (λ (l : Line). entry_of l k) (sym c.self.view_is) ∙ next-none n c.args.from es (drop p es) c.self.inside.right c.self.inside.own c.self.invariant.entries_sparse same (sym first ∙ e) k h)
