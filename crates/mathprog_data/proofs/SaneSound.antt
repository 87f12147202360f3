-- A state whose parts fit one another is sound for the tests of faults.
use Rattle.mathprog_data.proofs.Common.{◌≡◌, ℕ, ◌≤◌, nat_eq, Bool, true, false, [], ◌∷◌, length, Some, None, refl, arith, eqb-true, Open, InRecords, InPlain, PlaceDue, PlaceRead, ParenRead, TrRead, TrClosed, InColumns, InRows, InRow, subscript_count, Slice, free_count}
use Rattle.mathprog_data.proofs.FaultTables.{Sound}
use Rattle.mathprog_data.proofs.TurnLaws.{IsSane, Tabled}

free-within : (slice : Slice) → free_count slice ≤ length slice
free-within [] = omega arith
free-within (Some name ∷ slice) = let h = free-within slice in omega (arith, h)
free-within (None ∷ slice) = let h = free-within slice in omega (arith, h)

-- no more places are free than there are subscripts
free-fits : (param : ℕ) (slice : Slice) → length slice ≡ subscript_count param → free_count slice ≤ subscript_count param
free-fits param slice e = let h = free-within slice in omega (arith, e, h)

not-none : (n : ℕ) (b : Bool) → nat_eq n 0 ≡ b → 1 ≤ n → b ≡ false
not-none n true e h = let none = eqb-true n 0 e in absurd (omega (arith, none, h))
not-none n false e h = refl

has-subscripts : (param : ℕ) (slice : Slice) → Tabled param slice → nat_eq (subscript_count param) 0 ≡ false
has-subscripts param slice t =
    let h = free-fits param slice t.fits in
    not-none (subscript_count param) (nat_eq (subscript_count param) 0) refl (omega (arith, h, t.two))

pub sane-sound : (o : Open) → IsSane o → Sound o
sane-sound (InRecords form param slice c) s = free-fits param slice s
sane-sound (InPlain form param slice names mark left c) s = free-fits param slice s
sane-sound (PlaceDue param places left) s = let h = free-within places in omega (arith, s, h)
sane-sound (PlaceRead param places left) s = let h = free-within places in omega (arith, s, h)
sane-sound (ParenRead param slice) s = (free-fits param slice s.fits, has-subscripts param slice s)
sane-sound (TrRead param slice) s = (free-fits param slice s.fits, has-subscripts param slice s)
sane-sound (TrClosed param slice) s = (free-fits param slice s.fits, has-subscripts param slice s)
sane-sound (InColumns param slice transposed names c) s = (free-fits param slice s.fits, has-subscripts param slice s)
sane-sound (InRows param slice transposed [] c) s = let bad = s.1 in cc
sane-sound (InRows param slice transposed (name ∷ names) c) s = (free-fits param slice s.0.fits, has-subscripts param slice s.0, tt)
sane-sound (InRow param slice transposed [] row mark left c) s = let bad = s.1 in cc
sane-sound (InRow param slice transposed (name ∷ names) row mark [] c) s = let bad = s.2 in cc
sane-sound (InRow param slice transposed (name ∷ names) row mark (column ∷ left) c) s = (free-fits param slice s.0.fits, has-subscripts param slice s.0, tt, tt)
sane-sound o s = tt
