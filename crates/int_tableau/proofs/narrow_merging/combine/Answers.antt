-- One column after another.
use Rattle.int_tableau.proofs.Common.{◌≡◌, ℕ, ◌<◌, ◌≤◌, ◌+◌, ◌*◌, ◌^◌, ℤ, pos, true, List, length, get_or, drop, refl, sym, ap₂, ◌∙◌, subst, arith, to_z, of_z, w64, unsigned_abs, all_fit, numbers_of, less, less_formed, at, head_column, AreNarrow, IsPushed, AreWithin, AreSure}
use Rattle.int_tableau.proofs.DivisionLaws.{no_entry}
use Rattle.int_tableau.proofs.EntryLaws.{head_column-below}
use Rattle.int_tableau.proofs.HeadLaws.{IsMerging-both, IsMerging-left, IsMerging-right, IsMerging-sparse, IsMerging-value, IsMerging-fits, head_there}
use Rattle.int_tableau.proofs.NarrowLaws.{AreNarrow-at, back_narrow}
use Rattle.int_tableau.proofs.ProductLaws.{room_left, room_right, sure_at}
use Rattle.int_tableau.proofs.SizeLaws.{within-at}
use Rattle.int_tableau.proofs.narrow_merging.combine.Goals.{then-first-columns, else-first-columns+then-second-columns}
use Rattle.int_tableau.proofs.narrow_merging.combine.Goals as goal

-- a number that is read is the one that stands there, and has 64 bits
read : (xs : List (ℕ × ℤ)) (i n d : ℕ) → AreNarrow xs → d ≡ head_column n (drop i xs) → d < n → (to_z w64 (of_z w64 (get_or xs i no_entry).1) ≡ (get_or xs i no_entry).1) × (unsigned_abs (get_or xs i no_entry).1 < 2 ^ 63)
read xs i n d narrow e h =
    let small : unsigned_abs (get_or xs i no_entry).1 < 2 ^ 63 = AreNarrow-at xs i no_entry narrow (head_there xs i n d e h) in
    (back_narrow (get_or xs i no_entry).1 small, small)

read_within : (m : ℕ) (xs : List (ℕ × ℤ)) (i n d : ℕ) → AreNarrow xs → AreWithin m (numbers_of xs) → d ≡ head_column n (drop i xs) → d < n → unsigned_abs (to_z w64 (of_z w64 (get_or xs i no_entry).1)) ≤ m
read_within m xs i n d narrow within e h = subst (λ z. unsigned_abs z ≤ m) (sym (read xs i n d narrow e h).0) (within-at m xs i within (head_there xs i n d e h))

-- what is read is so small that the products are sure to have 64 bits
sure_of : (a b u v : ℤ) (xs ys : List (ℕ × ℤ)) (s : AreSure a b xs ys) → unsigned_abs a < 2 ^ 63 → unsigned_abs b < 2 ^ 63 → unsigned_abs u ≤ s.size → unsigned_abs v ≤ s.other_size → (unsigned_abs (to_z w64 (of_z w64 a)) * unsigned_abs u) + (unsigned_abs (to_z w64 (of_z w64 b)) * unsigned_abs v) < 2 ^ 63
sure_of a b u v xs ys s ha hb hu hv =
    subst (λ w. (unsigned_abs w * unsigned_abs u) + (unsigned_abs (to_z w64 (of_z w64 b)) * unsigned_abs v) < 2 ^ 63) (sym (back_narrow a ha))
    (subst (λ w. (unsigned_abs a * unsigned_abs u) + (unsigned_abs w * unsigned_abs v) < 2 ^ 63) (sym (back_narrow b hb)) (sure_at a b u v s.size s.other_size hu hv s.below))

-- what is pushed, with the numbers as they stand in the lists
pushed_as : (d : ℕ) (a b x y u v : ℤ) (out more : List (ℕ × ℤ)) → x ≡ u → y ≡ v → IsPushed d (less a b x y) out more → IsPushed d (less a b u v) out more
pushed_as d a b x y u v out more p q h = subst (λ (w : ℤ). IsPushed d w out more) (ap₂ (less a b) p q) h

fits_as : (a b x y u v : ℤ) → x ≡ u → y ≡ v → all_fit (less_formed a b x y) ≡ true → all_fit (less_formed a b u v) ≡ true
fits_as a b x y u v p q h = ap₂ (λ s t. all_fit (less_formed a b s t)) (sym p) (sym q) ∙ h

pub push_difference-requires-clause-room : goal.push_difference-requires-clause-room
push_difference-requires-clause-room c =
    let n = c.args.columns in
    let v = c.loop-first.invariant in
    let ys : List (ℕ × ℤ) = drop c.loop-first.right c.args.other.now in
    let next : head_column n ys ≤ n = head_column-below v.merging.column n ys v.merging.merge.right in
    let some : length c.loop-first.out.items < n = room_left n c.loop-first.first (to_z w64 (of_z w64 c.args.a)) (to_z w64 (of_z w64 c.args.b)) c.args.line.now c.args.other.now (drop c.loop-first.left c.args.line.now) ys c.loop-first.out.items v.merging v.first (omega (arith, v.second, c.if-first-second.true)) in
    omega (arith, v.room)

pub push_difference-requires-clause-sure : goal.push_difference-requires-clause-sure
push_difference-requires-clause-sure c =
    let n = c.args.columns in
    let v = c.loop-first.invariant in
    let s = c.requires.sure in
    let ys : List (ℕ × ℤ) = drop c.loop-first.right c.args.other.now in
    let next : head_column n ys ≤ n = head_column-below v.merging.column n ys v.merging.merge.right in
    sure_of c.args.a c.args.b (to_z w64 (of_z w64 (get_or c.args.line.now c.loop-first.left no_entry).1)) (pos 0) c.args.line.now c.args.other.now s c.requires.a c.requires.b
    (read_within s.size c.args.line.now c.loop-first.left n c.loop-first.first c.requires.line_narrow s.within v.first (omega (arith, v.second, c.if-first-second.true)))
    (omega arith)

pub loop-first-preserved-then-first-second : goal.loop-first-preserved-then-first-second
loop-first-preserved-then-first-second c =
    let n = c.args.columns in
    let xs : List (ℕ × ℤ) = c.args.line.now in
    let ys : List (ℕ × ℤ) = c.args.other.now in
    let i = c.loop-first.left in
    let j = c.loop-first.right in
    let d = c.loop-first.first in
    let a : ℤ = to_z w64 (of_z w64 c.args.a) in
    let b : ℤ = to_z w64 (of_z w64 c.args.b) in
    let v = c.loop-first.invariant in
    let next : head_column n (drop j ys) ≤ n = head_column-below v.merging.column n (drop j ys) v.merging.merge.right in
    let later : d < head_column n (drop j ys) = omega (arith, v.second, c.if-first-second.true) in
    let below : d < n = omega arith in
    let x = read xs i n d c.requires.line_narrow v.first below in
    record {
      merging = IsMerging-left n a b xs ys i j c.loop-first.out.items c.push_difference.new.out.items d v.merging v.first later below
          (fits_as a b (to_z w64 (of_z w64 (get_or xs i no_entry).1)) (pos 0) (get_or xs i no_entry).1 (pos 0) x.0 refl c.push_difference.ensures.fits)
          (pushed_as d a b (to_z w64 (of_z w64 (get_or xs i no_entry).1)) (pos 0) (get_or xs i no_entry).1 (pos 0) c.loop-first.out.items c.push_difference.new.out.items x.0 refl c.push_difference.ensures.pushed);
      narrow = c.push_difference.ensures.narrow v.narrow;
      first = c.column_at-first-then-first-second.ensures;
      second = v.second;
      room = subst (λ k. n ≤ k) (sym c.push_difference.ensures.capacity) v.room;
    }

pub push_difference-requires-then-second-first-clause-room : goal.push_difference-requires-then-second-first-clause-room
push_difference-requires-then-second-first-clause-room c =
    let n = c.args.columns in
    let v = c.loop-first.invariant in
    let xs : List (ℕ × ℤ) = drop c.loop-first.left c.args.line.now in
    let next : head_column n xs ≤ n = head_column-below v.merging.column n xs v.merging.merge.left in
    let some : length c.loop-first.out.items < n = room_right n c.loop-first.second (to_z w64 (of_z w64 c.args.a)) (to_z w64 (of_z w64 c.args.b)) c.args.line.now c.args.other.now xs (drop c.loop-first.right c.args.other.now) c.loop-first.out.items v.merging v.second (omega (arith, v.first, c.if-second-first.true)) in
    omega (arith, v.room)

pub push_difference-requires-then-second-first-clause-sure : goal.push_difference-requires-then-second-first-clause-sure
push_difference-requires-then-second-first-clause-sure c =
    let n = c.args.columns in
    let v = c.loop-first.invariant in
    let s = c.requires.sure in
    let xs : List (ℕ × ℤ) = drop c.loop-first.left c.args.line.now in
    let next : head_column n xs ≤ n = head_column-below v.merging.column n xs v.merging.merge.left in
    sure_of c.args.a c.args.b (pos 0) (to_z w64 (of_z w64 (get_or c.args.other.now c.loop-first.right no_entry).1)) c.args.line.now c.args.other.now s c.requires.a c.requires.b
    (omega arith)
    (read_within s.other_size c.args.other.now c.loop-first.right n c.loop-first.second c.requires.other_narrow s.other_within v.second (omega (arith, v.first, c.if-second-first.true)))

pub loop-first-preserved-then-second-first : goal.loop-first-preserved-then-second-first
loop-first-preserved-then-second-first c =
    let n = c.args.columns in
    let xs : List (ℕ × ℤ) = c.args.line.now in
    let ys : List (ℕ × ℤ) = c.args.other.now in
    let i = c.loop-first.left in
    let j = c.loop-first.right in
    let d = c.loop-first.second in
    let a : ℤ = to_z w64 (of_z w64 c.args.a) in
    let b : ℤ = to_z w64 (of_z w64 c.args.b) in
    let v = c.loop-first.invariant in
    let next : head_column n (drop i xs) ≤ n = head_column-below v.merging.column n (drop i xs) v.merging.merge.left in
    let later : d < head_column n (drop i xs) = omega (arith, v.first, c.if-second-first.true) in
    let below : d < n = omega arith in
    let y = read ys j n d c.requires.other_narrow v.second below in
    record {
      merging = IsMerging-right n a b xs ys i j c.loop-first.out.items c.push_difference-then-second-first.new.out.items d v.merging later v.second below
          (fits_as a b (pos 0) (to_z w64 (of_z w64 (get_or ys j no_entry).1)) (pos 0) (get_or ys j no_entry).1 refl y.0 c.push_difference-then-second-first.ensures.fits)
          (pushed_as d a b (pos 0) (to_z w64 (of_z w64 (get_or ys j no_entry).1)) (pos 0) (get_or ys j no_entry).1 c.loop-first.out.items c.push_difference-then-second-first.new.out.items refl y.0 c.push_difference-then-second-first.ensures.pushed);
      narrow = c.push_difference-then-second-first.ensures.narrow v.narrow;
      first = v.first;
      second = c.column_at-second-then-second-first.ensures;
      room = subst (λ k. n ≤ k) (sym c.push_difference-then-second-first.ensures.capacity) v.room;
    }

pub push_difference-requires-else-second-first-clause-room : goal.push_difference-requires-else-second-first-clause-room
push_difference-requires-else-second-first-clause-room c =
    let n = c.args.columns in
    let v = c.loop-first.invariant in
    let below : c.loop-first.first < n =
    elim c.if-first-columns.branch [
      | then-first-columns w ↦ w.if-first-columns.true
      | else-first-columns+then-second-columns w ↦ omega (arith, w.if-second-columns.true, c.if-first-second.false, c.if-second-first.false)
    ] in
    let some : length c.loop-first.out.items < n = room_left n c.loop-first.first (to_z w64 (of_z w64 c.args.a)) (to_z w64 (of_z w64 c.args.b)) c.args.line.now c.args.other.now (drop c.loop-first.left c.args.line.now) (drop c.loop-first.right c.args.other.now) c.loop-first.out.items v.merging v.first below in
    omega (arith, v.room)

pub push_difference-requires-else-second-first-clause-sure : goal.push_difference-requires-else-second-first-clause-sure
push_difference-requires-else-second-first-clause-sure c =
    let n = c.args.columns in
    let v = c.loop-first.invariant in
    let s = c.requires.sure in
    let same : c.loop-first.first ≡ c.loop-first.second = omega (arith, c.if-first-second.false, c.if-second-first.false) in
    let below : c.loop-first.first < n =
    elim c.if-first-columns.branch [
      | then-first-columns w ↦ w.if-first-columns.true
      | else-first-columns+then-second-columns w ↦ omega (arith, w.if-second-columns.true, same)
    ] in
    sure_of c.args.a c.args.b (to_z w64 (of_z w64 (get_or c.args.line.now c.loop-first.left no_entry).1)) (to_z w64 (of_z w64 (get_or c.args.other.now c.loop-first.right no_entry).1)) c.args.line.now c.args.other.now s c.requires.a c.requires.b
    (read_within s.size c.args.line.now c.loop-first.left n c.loop-first.first c.requires.line_narrow s.within v.first below)
    (read_within s.other_size c.args.other.now c.loop-first.right n c.loop-first.second c.requires.other_narrow s.other_within v.second (omega (arith, same, below)))

pub loop-first-preserved : goal.loop-first-preserved
loop-first-preserved c =
    let n = c.args.columns in
    let xs : List (ℕ × ℤ) = c.args.line.now in
    let ys : List (ℕ × ℤ) = c.args.other.now in
    let i = c.loop-first.left in
    let j = c.loop-first.right in
    let d = c.loop-first.first in
    let a : ℤ = to_z w64 (of_z w64 c.args.a) in
    let b : ℤ = to_z w64 (of_z w64 c.args.b) in
    let v = c.loop-first.invariant in
    let same : d ≡ c.loop-first.second = omega (arith, c.if-first-second.false, c.if-second-first.false) in
    let below : d < n =
    elim c.if-first-columns.branch [
      | then-first-columns w ↦ w.if-first-columns.true
      | else-first-columns+then-second-columns w ↦ omega (arith, w.if-second-columns.true, same)
    ] in
    let second : d ≡ head_column n (drop j ys) = same ∙ v.second in
    let x = read xs i n d c.requires.line_narrow v.first below in
    let y = read ys j n d c.requires.other_narrow second below in
    record {
      merging = IsMerging-both n a b xs ys i j c.loop-first.out.items c.push_difference-else-second-first.new.out.items d v.merging v.first second below
          (fits_as a b (to_z w64 (of_z w64 (get_or xs i no_entry).1)) (to_z w64 (of_z w64 (get_or ys j no_entry).1)) (get_or xs i no_entry).1 (get_or ys j no_entry).1 x.0 y.0 c.push_difference-else-second-first.ensures.fits)
          (pushed_as d a b (to_z w64 (of_z w64 (get_or xs i no_entry).1)) (to_z w64 (of_z w64 (get_or ys j no_entry).1)) (get_or xs i no_entry).1 (get_or ys j no_entry).1 c.loop-first.out.items c.push_difference-else-second-first.new.out.items x.0 y.0 c.push_difference-else-second-first.ensures.pushed);
      narrow = c.push_difference-else-second-first.ensures.narrow v.narrow;
      first = c.column_at-first-else-second-first.ensures;
      second = c.column_at-second-else-second-first.ensures;
      room = subst (λ k. n ≤ k) (sym c.push_difference-else-second-first.ensures.capacity) v.room;
    }

pub returns-clause-sparse : goal.returns-clause-sparse
returns-clause-sparse c =
    IsMerging-sparse c.args.columns (to_z w64 (of_z w64 c.args.a)) (to_z w64 (of_z w64 c.args.b)) c.args.line.now c.args.other.now (drop c.loop-first.left c.args.line.now) (drop c.loop-first.right c.args.other.now) c.loop-first.out.items c.loop-first.invariant.merging

pub returns-clause-value : goal.returns-clause-value
returns-clause-value c d =
    let v = c.loop-first.invariant in
    IsMerging-value c.args.columns (to_z w64 (of_z w64 c.args.a)) (to_z w64 (of_z w64 c.args.b)) c.args.line.now c.args.other.now (drop c.loop-first.left c.args.line.now) (drop c.loop-first.right c.args.other.now) c.loop-first.out.items v.merging (omega (arith, v.first, c.if-first-columns.false)) (omega (arith, v.second, c.if-second-columns.false)) d
    ∙ ap₂ (λ s t. less s t (at c.args.line.now d) (at c.args.other.now d)) (back_narrow c.args.a c.requires.a) (back_narrow c.args.b c.requires.b)

pub returns-clause-fits : goal.returns-clause-fits
returns-clause-fits c d =
    let v = c.loop-first.invariant in
    ap₂ (λ s t. all_fit (less_formed s t (at c.args.line.now d) (at c.args.other.now d))) (sym (back_narrow c.args.a c.requires.a)) (sym (back_narrow c.args.b c.requires.b))
    ∙ IsMerging-fits c.args.columns (to_z w64 (of_z w64 c.args.a)) (to_z w64 (of_z w64 c.args.b)) c.args.line.now c.args.other.now (drop c.loop-first.left c.args.line.now) (drop c.loop-first.right c.args.other.now) c.loop-first.out.items v.merging (omega (arith, v.first, c.if-first-columns.false)) (omega (arith, v.second, c.if-second-columns.false)) d
