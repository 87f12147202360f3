-- What symbols say and name, byte by byte.
use Rattle.mathprog_data.proofs.Common.{◌≡◌, ℕ, ◌<◌, Bool, true, false, cond, eqb, List, [], ◌∷◌, length, get_or, None, refl, arith, Other, Quoted, undoubled, SymbolSeen, seen_of}
use Rattle.std.specs.Prelude.{◌&&◌}

-- some bytes
abbrev pub IsSome : List ℕ → Type 0
IsSome xs = 0 < length xs

-- a quoted symbol with characters says them
quoted-says : (xs : List ℕ) → IsSome xs → SymbolSeen Other xs None ≡ seen_of (Quoted xs)
quoted-says [] h = absurd (omega (arith, h))
quoted-says (x ∷ xs) h = refl

second-stays : (q c : ℕ) (cs : List ℕ) (b : Bool) → IsSome (cond (b && false) (undoubled q true cs) (c ∷ undoubled q false cs))
second-stays q c cs true = omega arith
second-stays q c cs false = omega arith

first-stays : (q c : ℕ) (cs : List ℕ) (b : Bool) → eqb c q ≡ b → (length cs ≡ 0 → b ≡ false) → IsSome (cond (b && true) (undoubled q true cs) (c ∷ undoubled q false cs))
first-stays q c [] true e h = let bad = h refl in cc
first-stays q c (d ∷ ds) true e h = second-stays q d ds (eqb d q)
first-stays q c cs false e h = omega arith

-- bytes between quotes name something, unless they are none or the quote alone
undoubled-some : (q : ℕ) (xs : List ℕ) → 0 < length xs → (length xs ≡ 1 → eqb (get_or xs 0 0) q ≡ false) → IsSome (undoubled q false xs)
undoubled-some q [] some other = absurd (omega (arith, some))
undoubled-some q (c ∷ cs) some other = first-stays q c cs (eqb c q) refl (λ none. other (omega (arith, none)))

-- a quoted symbol says the bytes that it names
pub seen-quoted : (q : ℕ) (xs : List ℕ) → 0 < length xs → (length xs ≡ 1 → eqb (get_or xs 0 0) q ≡ false) → SymbolSeen Other (undoubled q false xs) None ≡ seen_of (Quoted (undoubled q false xs))
seen-quoted q xs some other = quoted-says (undoubled q false xs) (undoubled-some q xs some other)
