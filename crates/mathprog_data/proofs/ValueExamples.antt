-- What kept values say, computed on examples, with near misses.
use Rattle.mathprog_data.proofs.Common.{◌≡◌, ℕ, zero, suc, ◌<◌, pos, List, [], ◌∷◌, get_or, refl, ap, arith, lit<, Mark, KeptValue, Name, AreKept, AreWithin, Grown, PointTo, all_told, name_at, names_at}
use Rattle.std.specs.Prelude.{codes}

abbrev names : List Name
names = codes "N" ∷ codes "GAS" ∷ codes "2030" ∷ []

abbrev at : Mark
at = record { line = 3; column = 1 }

-- the first two places of the five are those of the index
abbrev kept : KeptValue
kept = record { index = record { count = 2; places = 0 ∷ 2 ∷ 1 ∷ 0 ∷ 0 ∷ []; fits = omega arith }; at = at; value = pos 5 }

told : all_told names (kept ∷ []) ≡ record { index = codes "N" ∷ codes "2030" ∷ []; value = pos 5; at = at } ∷ []
told = refl

-- a place may come twice, and the names in another order
twice : names_at names (2 ∷ 0 ∷ 2 ∷ []) ≡ codes "2030" ∷ codes "N" ∷ codes "2030" ∷ []
twice = refl

pointed : PointTo names (0 ∷ 2 ∷ []) (codes "N" ∷ codes "2030" ∷ [])
pointed = record { within = AreWithin.more (lit< tt) (AreWithin.more (lit< tt) AreWithin.none); named = refl }

other_order : PointTo names (2 ∷ 0 ∷ []) (codes "N" ∷ codes "2030" ∷ []) → ⊥
other_order h = let differ = h.named in cc

-- the place at the end has no name yet
at_the_end : AreWithin 3 (0 ∷ 3 ∷ []) → ⊥
at_the_end (AreWithin.more first (AreWithin.more second rest)) = omega (arith, second)

past_the_end : AreKept 2 (kept ∷ []) → ⊥
past_the_end (AreKept.more (AreWithin.more first (AreWithin.more second others)) values) = omega (arith, second)

-- a name that is added changes none before it; one that is put in front does
first_stays : (place : ℕ) → place < 1 → name_at names place ≡ name_at (codes "N" ∷ []) place
first_stays zero h = refl
first_stays (suc place) h = absurd (omega (arith, h))

grown : Grown (codes "N" ∷ []) names
grown = record { longer = omega arith; same = first_stays }

put_in_front : Grown (codes "N" ∷ []) (codes "S" ∷ codes "N" ∷ []) → ⊥
put_in_front h =
    let differ : codes "S" ≡ codes "N" = h.same 0 (lit< tt) in
    let bytes : 83 ≡ 78 = ap (λ name. get_or name 0 0) differ in absurd (omega (arith, bytes))
