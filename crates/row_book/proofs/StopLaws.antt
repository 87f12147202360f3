-- There is one reason why the rows of some instances can't be made, and none where they can.
use Rattle.row_book.proofs.Common.{◌≡◌, ◌≢◌, ℕ, ◌+◌, ◌<◌, ◌≤◌, ◌⊎◌, true, false, inl, inr, List, [], ◌∷◌, ◌++◌, refl, ap, sym, ◌∙◌, subst, arith, list_all, and_parts, sum_by-cons, Data, RowName, Place, CanBeMade, HasStopped, HasTooMany, IsTooWide, entries_in, entry_count, entry_limit, row_fits, BookFail, Width, TooManyEntries, Memory}

-- the row of this instance can't be made after the others
abbrev Blocks : ℕ → Data → ℕ → List RowName → RowName → Type 0
Blocks places d n earlier name = (row_fits places d name ≡ false) ⊎ (entry_limit < (n + entries_in places d earlier) + entry_count places d name)

-- the first of those that can be made
first_made : (places : ℕ) (d : Data) (n : ℕ) (name : RowName) (names : List RowName) → CanBeMade places d n (name ∷ names) → (row_fits places d name ≡ true) × CanBeMade places d (n + entry_count places d name) names
first_made places d n name names made =
    let parts = and_parts (row_fits places d name) (list_all (row_fits places d) names) made.fit in
    (parts.0, record { fit = parts.1; few = omega (arith, made.few, sum_by-cons (entry_count places d) name names) })

-- it can't be blocked
not_blocked : (places : ℕ) (d : Data) (n : ℕ) (name : RowName) (names : List RowName) → CanBeMade places d n (name ∷ names) → Blocks places d n [] name → ⊥
not_blocked places d n name names made (inl fails) = let first = first_made places d n name names made in let fits : row_fits places d name ≡ true = first.0 in cc
not_blocked places d n name names made (inr many) = let first = first_made places d n name names made in let few : (n + entry_count places d name) + entries_in places d names ≤ entry_limit = first.1.few in omega (arith, many, few)

blocked_later : (places : ℕ) (d : Data) (n : ℕ) (name : RowName) (earlier : List RowName) (a : RowName) → Blocks places d n (name ∷ earlier) a → Blocks places d (n + entry_count places d name) earlier a
blocked_later places d n name earlier a (inl fails) = inl fails
blocked_later places d n name earlier a (inr many) = inr (omega (arith, many, sum_by-cons (entry_count places d) name earlier))

-- two instances that are blocked, each after some that can be made, are one
same_stop : (places : ℕ) (d : Data) (n : ℕ) (earlier other : List RowName) (a b : RowName) (later rest : List RowName) → earlier ++ a ∷ later ≡ other ++ b ∷ rest → CanBeMade places d n earlier → CanBeMade places d n other
    → Blocks places d n earlier a → Blocks places d n other b → (a ≡ b) × (earlier ≡ other)
same_stop places d n [] [] a b later rest e made too blocks blocks_too = let same : a ≡ b = cc in (same, refl)
same_stop places d n [] (y ∷ ys) a b later rest e made too blocks blocks_too =
    let same : a ≡ y = cc in absurd (not_blocked places d n y ys too (subst (λ m. Blocks places d n [] m) same blocks))
same_stop places d n (x ∷ xs) [] a b later rest e made too blocks blocks_too =
    let same : b ≡ x = cc in absurd (not_blocked places d n x xs made (subst (λ m. Blocks places d n [] m) same blocks_too))
same_stop places d n (x ∷ xs) (y ∷ ys) a b later rest e made too blocks blocks_too =
    let same : x ≡ y = cc in
    let tails : xs ++ a ∷ later ≡ ys ++ b ∷ rest = cc in
    let count : n + entry_count places d y ≡ n + entry_count places d x = ap (λ m. n + entry_count places d m) (sym same) in
    let further =
    same_stop places d (n + entry_count places d x) xs ys a b later rest tails (first_made places d n x xs made).1 (subst (λ m. CanBeMade places d m ys) count (first_made places d n y ys too).1)
    (blocked_later places d n x xs a blocks) (subst (λ m. Blocks places d m ys b) count (blocked_later places d n y ys b blocks_too)) in
    let of_earlier : xs ≡ ys = further.1 in (further.0, cc)

wide-many : (places : ℕ) (d : Data) (n : ℕ) (names : List RowName) (a b : RowName) → IsTooWide places d n names a → HasTooMany places d n names b → ⊥
wide-many places d n names a b wide many =
    let same =
    same_stop places d n wide.stops.earlier many.stops.earlier a b wide.stops.later many.stops.later (sym wide.stops.split ∙ many.stops.split) wide.stops.made many.stops.made (inl wide.wide) (inr many.many) in
    let fails : row_fits places d b ≡ false = subst (λ m. row_fits places d m ≡ false) same.0 wide.wide in
    let fits : row_fits places d b ≡ true = many.fits in
    cc

-- there is one reason, beside that memory runs out
pub one-stop : (places : ℕ) (d : Data) (n : ℕ) (names : List RowName) (fail other : BookFail) → fail ≢ Memory → other ≢ Memory → HasStopped places d n names fail → HasStopped places d n names other → fail ≡ other
one-stop places d n names (Width place) (Width elsewhere) some some_too (a, at, wide) (b, at_b, wide_b) =
    let same =
    same_stop places d n wide.stops.earlier wide_b.stops.earlier a b wide.stops.later wide_b.stops.later (sym wide.stops.split ∙ wide_b.stops.split) wide.stops.made wide_b.stops.made (inl wide.wide) (inl wide_b.wide) in
    ap (λ p. Width p) (at ∙ ap (λ m. Place.Row m) same.0 ∙ sym at_b)
one-stop places d n names (Width place) TooManyEntries some some_too (a, at, wide) (b, many) = absurd (wide-many places d n names a b wide many)
one-stop places d n names (Width place) Memory some some_too stops stops_too = absurd (some_too refl)
one-stop places d n names TooManyEntries (Width place) some some_too (a, many) (b, at, wide) = absurd (wide-many places d n names b a wide many)
one-stop places d n names TooManyEntries TooManyEntries some some_too stops stops_too = refl
one-stop places d n names TooManyEntries Memory some some_too stops stops_too = absurd (some_too refl)
one-stop places d n names Memory other some some_too stops stops_too = absurd (some refl)

-- ---- none where they can be made

made-blocks : (places : ℕ) (d : Data) (n : ℕ) (earlier : List RowName) (a : RowName) (later : List RowName) → CanBeMade places d n (earlier ++ a ∷ later) → Blocks places d n earlier a → ⊥
made-blocks places d n [] a later made blocks = not_blocked places d n a later made blocks
made-blocks places d n (x ∷ earlier) a later made blocks =
    made-blocks places d (n + entry_count places d x) earlier a later (first_made places d n x (earlier ++ a ∷ later) made).1 (blocked_later places d n x earlier a blocks)

pub made-no_stop : (places : ℕ) (d : Data) (n : ℕ) (names : List RowName) (fail : BookFail) → CanBeMade places d n names → HasStopped places d n names fail → fail ≡ Memory
made-no_stop places d n names (Width place) made (a, at, wide) =
    absurd (made-blocks places d n wide.stops.earlier a wide.stops.later (subst (λ all. CanBeMade places d n all) wide.stops.split made) (inl wide.wide))
made-no_stop places d n names TooManyEntries made (a, many) =
    absurd (made-blocks places d n many.stops.earlier a many.stops.later (subst (λ all. CanBeMade places d n all) many.stops.split made) (inr many.many))
made-no_stop places d n names Memory made stops = refl
