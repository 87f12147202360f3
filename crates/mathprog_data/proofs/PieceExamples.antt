-- What a reader of pieces stands for, computed on examples, with near misses.
use Rattle.mathprog_data.proofs.Common.{◌≡◌, ℕ, ◌+◌, true, [], ◌∷◌, None, refl, ap, arith, lit<, Mark, Free, Inside, Pending, bad_byte, end_too_soon, State, run, InSet, empty_draft, reader, beginning, Going, Settled, IsKnownOf, StandsFor, Reads, Refuses}
use Rattle.std.specs.Prelude.{codes}
use Rattle.mathprog_data.specs.declared.lexer.pending.Pending.TheVariants as pendings

abbrev mark : ℕ → ℕ → Mark
mark line column = record { line = line; column = column }

-- so many bytes of one line were taken, of which this is pending since so many
abbrev state : Pending → ℕ → ℕ → State
state pending place from = record { pending = pending; place = place; mark = mark 1 (place + 1); from = from; start = mark 1 (from + 1); bad = None }

-- a name is cut: its bytes are kept
half_a_name : StandsFor (record { fed = 2; standing = Going (state pendings.Bare 2 0) Free beginning (codes "se") }) (codes "se")
unfolding run
half_a_name = record { size = refl; known = (refl, refl, λ h. refl, λ rest. refl) }

-- it isn't enough that one of them is
half_of_it_lost : IsKnownOf (Going (state pendings.Bare 2 0) Free beginning (codes "s")) (codes "se") → ⊥
half_of_it_lost known = let kept : codes "se" ≡ codes "s" = known.2 (lit< tt) in cc

-- a sign is cut between its two characters
half_a_sign : StandsFor (record { fed = 10; standing = Going (state pendings.Colon 10 9) Inside (reader (InSet 7 true) empty_draft) (codes ":") }) (codes "set YEAR :")
unfolding run
half_a_sign = record { size = refl; known = (refl, refl, λ h. refl, λ rest. refl) }

-- a line feed at the end of a piece is counted
next_line_lost : IsKnownOf (Going (state pendings.Gap 1 0) Free beginning []) (10 ∷ []) → ⊥
next_line_lost known = let lines : ◌≡◌ {A = ℕ} 1 2 = ap (λ (m : Mark). m.line) known.1 in absurd (omega (arith, lines))

-- a byte with which nothing begins, and what comes after it
settled_at_once : StandsFor (record { fed = 3; standing = Settled (Refuses bad_byte (mark 1 1)) }) (codes "@ab")
unfolding run
settled_at_once = record { size = refl; known = λ rest. refl }

-- after the closing `end ;` nothing counts, before its `;` it does
closed : StandsFor (record { fed = 4; standing = Settled (Reads (record { sets = []; params = []; rounded = 0 })) }) (codes "end;")
unfolding run
closed = record { size = refl; known = λ rest. refl }

not_closed : StandsFor (record { fed = 3; standing = Settled (Reads (record { sets = []; params = []; rounded = 0 })) }) (codes "end") → ⊥
unfolding run
not_closed stands =
    let differ : Refuses end_too_soon (mark 1 4) ≡ Reads (record { sets = []; params = []; rounded = 0 }) = stands.known [] in cc
