-- Where the rows of all instances can be made, nothing stops those of one equation.
use Rattle.row_book.proofs.Common.{◌≡◌, ℕ, ◌+◌, ◌-◌, ◌<◌, ◌≤◌, Bool, true, false, ◌&&◌, List, ◌∷◌, ◌++◌, refl, ap, sym, ◌∙◌, subst, arith, flat_map, list_all, range_with_len, list_all-append, sum_by-append, sum_by-cons, Data, RowName, instances, instances_of, CanBeMade, HasStopped, entries_in, entry_count, entry_limit, row_fits, BookFail, Width, TooManyEntries, Memory}
use Rattle.row_book.proofs.Lists.{flat_map-middle}
use Rattle.row_book.proofs.Ranges.{range-middle}

first_holds : (a b : Bool) → (a && b) ≡ true → a ≡ true
first_holds true b e = refl
first_holds false b e = e

second_holds : (a b : Bool) → (a && b) ≡ true → b ≡ true
second_holds true b e = e
second_holds false b e = absurd (cc e)

module _ (places : ℕ) (d : Data) where
  front-fits : (ns ms : List RowName) → list_all (row_fits places d) (ns ++ ms) ≡ true → list_all (row_fits places d) ns ≡ true
  front-fits ns ms e = first_holds (list_all (row_fits places d) ns) (list_all (row_fits places d) ms) (sym (list_all-append (row_fits places d) ns ms) ∙ e)

  rest-fits : (ns ms : List RowName) → list_all (row_fits places d) (ns ++ ms) ≡ true → list_all (row_fits places d) ms ≡ true
  rest-fits ns ms e = second_holds (list_all (row_fits places d) ns) (list_all (row_fits places d) ms) (sym (list_all-append (row_fits places d) ns ms) ∙ e)

  -- a part of the instances
  part-can : (earlier names later : List RowName) → CanBeMade places d 0 (earlier ++ (names ++ later)) → CanBeMade places d 0 names
  part-can earlier names later made = record {
    fit = front-fits names later (rest-fits earlier (names ++ later) made.fit);
    few = omega (arith, made.few, sum_by-append (entry_count places d) earlier (names ++ later), sum_by-append (entry_count places d) names later);
  }

  -- those of an equation
  equation-can : (eq : ℕ) → 1 ≤ eq → eq < 65 → CanBeMade places d 0 (instances d) → CanBeMade places d 0 (instances_of d eq)
  equation-can eq low high made =
      part-can (flat_map (instances_of d) (range_with_len 1 (eq - 1))) (instances_of d eq) (flat_map (instances_of d) (range_with_len (eq + 1) (65 - (eq + 1))))
      (subst (λ names. CanBeMade places d 0 names)
      (ap (flat_map (instances_of d)) (range-middle 1 64 eq low high) ∙ flat_map-middle (instances_of d) (range_with_len 1 (eq - 1)) eq (range_with_len (eq + 1) (65 - (eq + 1)))) made)

  -- no row is too wide, and none is one too many
  not-wide : (names earlier later : List RowName) (name : RowName) → names ≡ earlier ++ name ∷ later → list_all (row_fits places d) names ≡ true → row_fits places d name ≡ false → ⊥
  not-wide names earlier later name split fit wide =
      let fits : row_fits places d name ≡ true = first_holds (row_fits places d name) (list_all (row_fits places d) later) (rest-fits earlier (name ∷ later) (subst (λ all. list_all (row_fits places d) all ≡ true) split fit)) in
      let differ : false ≡ true = sym wide ∙ fits in cc

  not-many : (names earlier later : List RowName) (name : RowName) → names ≡ earlier ++ name ∷ later → 0 + entries_in places d names ≤ entry_limit → entry_limit < (0 + entries_in places d earlier) + entry_count places d name → ⊥
  not-many names earlier later name split few many =
      let all : 0 + entries_in places d (earlier ++ name ∷ later) ≤ entry_limit = subst (λ ns. 0 + entries_in places d ns ≤ entry_limit) split few in
      let parted = sum_by-append (entry_count places d) earlier (name ∷ later) in
      let first = sum_by-cons (entry_count places d) name later in
      omega (arith, all, many, parted, first)

  pub stops-for-memory : (names : List RowName) (fail : BookFail) → CanBeMade places d 0 names → HasStopped places d 0 names fail → fail ≡ Memory
  stops-for-memory names (Width place) made (name, at, wide) = absurd (not-wide names wide.stops.earlier wide.stops.later name wide.stops.split made.fit wide.wide)
  stops-for-memory names TooManyEntries made (name, many) = absurd (not-many names many.stops.earlier many.stops.later name many.stops.split made.few many.many)
  stops-for-memory names Memory made stops = refl

  -- what stops the rows of an equation is that memory runs out
  pub equation-stops : (eq : ℕ) (fail : BookFail) → 1 ≤ eq → eq < 65 → CanBeMade places d 0 (instances d) → HasStopped places d 0 (instances_of d eq) fail → fail ≡ Memory
  equation-stops eq fail low high made stops = stops-for-memory (instances_of d eq) fail (equation-can eq low high made) stops
