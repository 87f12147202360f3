-- Two rows in each other's place keep the shape of a tableau.
use Rattle.int_tableau.proofs.Common.{◌≡◌, ℕ, ◌<◌, ◌≤◌, pos, ap, ◌∙◌, inl, inr, List, length, get_or, set, arith, sym, subst, swap_is, get_or-set_same, get_or-set_other, length-set, same_or_not, Line, no_line, HaveColumns, AreBelow}
use Rattle.std.specs.List.{swap}
use Rattle.int_tableau.proofs.ListLaws.{HaveColumns-at, HaveColumns-set}
use Rattle.int_tableau.proofs.TableauLaws.{AreBelow-at, AreBelow-set}

pub HaveColumns-swap : (n : ℕ) (ls : List Line) (i j : ℕ) → i < length ls → j < length ls → HaveColumns n ls → HaveColumns n (swap ls i j)
HaveColumns-swap n ls i j h k all =
    subst (HaveColumns n) (swap_is ls i j no_line h k)
    (HaveColumns-set n (set ls i (get_or ls j no_line)) j (get_or ls i no_line) (HaveColumns-set n ls i (get_or ls j no_line) all (HaveColumns-at n ls j no_line all k)) (HaveColumns-at n ls i no_line all h))

pub AreBelow-swap : (n : ℕ) (cs : List ℕ) (i j : ℕ) → i < length cs → j < length cs → AreBelow n cs → AreBelow n (swap cs i j)
AreBelow-swap n cs i j h k all =
    subst (AreBelow n) (swap_is cs i j 0 h k)
    (AreBelow-set n (set cs i (get_or cs j 0)) j (get_or cs i 0) (AreBelow-set n cs i (get_or cs j 0) all (AreBelow-at n cs j 0 all k)) (AreBelow-at n cs i 0 all h))

-- rows without own entries
pub owns-set : (ls : List Line) (n i : ℕ) (l : Line) → n ≤ length ls → i < n → l.own ≡ pos 0 → ((k : ℕ) → k < n → (get_or ls k no_line).own ≡ pos 0) → (k : ℕ) → k < n → (get_or (set ls i l) k no_line).own ≡ pos 0
owns-set ls n i l many h own all k m = elim (same_or_not k i) [
  | inl e ↦ subst (λ j. (get_or (set ls i l) j no_line).own ≡ pos 0) (sym e) (ap (λ (x : Line). x.own) (get_or-set_same ls i l no_line (omega arith)) ∙ own)
  | inr apart ↦ ap (λ (x : Line). x.own) (get_or-set_other ls i k l no_line apart) ∙ all k m
]

pub owns-swap : (ls : List Line) (n i j : ℕ) → n ≤ length ls → i < n → j < n → ((k : ℕ) → k < n → (get_or ls k no_line).own ≡ pos 0) → (k : ℕ) → k < n → (get_or (swap ls i j) k no_line).own ≡ pos 0
owns-swap ls n i j many h k all m less =
    subst (λ (xs : List Line). (get_or xs m no_line).own ≡ pos 0) (swap_is ls i j no_line (omega arith) (omega arith))
    (owns-set (set ls i (get_or ls j no_line)) n j (get_or ls i no_line) (omega (arith, length-set ls i (get_or ls j no_line))) k (all i h) (owns-set ls n i (get_or ls j no_line) many h (all j k) all) m less)
