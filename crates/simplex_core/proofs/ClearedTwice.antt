-- A line cleared in two columns: by x0's row and then by the method's pivot row, or by the rows of the kept tableau.
use Rattle.simplex_core.proofs.Common.{◌≡◌, ℕ, zero, suc, ℤ, pos, ◌+ℤ◌, ◌-ℤ◌, ◌*ℤ◌, neg_ℤ, List, [], ◌∷◌, length, get_or, map, arith, refl, sym, ap, ap₂, ◌∙◌, subst, ◌<ℤ◌, ints, *ℤ_pos, <ℤ_cancel, ring, zero-*ℤ, Line, entry_of, cleared, negated_line, IsCleared, cleared-IsCleared, length-cleared, IsPrimitive}
use Rattle.simplex_core.proofs.PrimitiveLaws.{same_lines, cleared-IsPrimitive, negated_line-IsPrimitive}

-- ---- identities; r, k and l are the numbers of x0's row, of the row that the method pivots in, and of the line: in columns c, d and j

abbrev minor : ℤ → ℤ → ℤ → ℤ → ℤ → ℤ → ℤ → ℤ → ℤ → ℤ
minor rc rd rj kc kd kj lc ld lj =
    (((rd *ℤ kc) -ℤ (kd *ℤ rc)) *ℤ lj) -ℤ (((rd *ℤ lc) -ℤ (ld *ℤ rc)) *ℤ kj) +ℤ (((kd *ℤ lc) -ℤ (ld *ℤ kc)) *ℤ rj)

late_identity : (rc rd rj kc kd kj lc ld lj : ℤ) → (((rd *ℤ kc) -ℤ (kd *ℤ rc)) *ℤ ((rd *ℤ lj) -ℤ (ld *ℤ rj))) -ℤ (((rd *ℤ lc) -ℤ (ld *ℤ rc)) *ℤ ((rd *ℤ kj) -ℤ (kd *ℤ rj))) ≡ rd *ℤ minor rc rd rj kc kd kj lc ld lj
late_identity rc rd rj kc kd kj lc ld lj = simp ring (omega (arith, ints))

kept_identity : (rc rd rj kc kd kj lc ld lj : ℤ)
    → (((neg_ℤ rc *ℤ kd) -ℤ (neg_ℤ kc *ℤ rd)) *ℤ ((rc *ℤ lj) -ℤ (lc *ℤ rj))) -ℤ (((rc *ℤ ld) -ℤ (lc *ℤ rd)) *ℤ ((neg_ℤ rc *ℤ kj) -ℤ (neg_ℤ kc *ℤ rj))) ≡ rc *ℤ minor rc rd rj kc kd kj lc ld lj
kept_identity rc rd rj kc kd kj lc ld lj = simp ring (omega (arith, ints))

row_identity : (rc rd rj kc kd kj : ℤ) → (((neg_ℤ rc *ℤ kd) -ℤ (neg_ℤ kc *ℤ rd)) *ℤ rj) -ℤ (rd *ℤ ((neg_ℤ rc *ℤ kj) -ℤ (neg_ℤ kc *ℤ rj))) ≡ rc *ℤ ((rd *ℤ kj) -ℤ (kd *ℤ rj))
row_identity rc rd rj kc kd kj = simp ring (omega (arith, ints))

home_identity : (rc rd rj kc kd kj : ℤ) → (((rd *ℤ kc) -ℤ (kd *ℤ rc)) *ℤ rj) -ℤ (rc *ℤ ((rd *ℤ kj) -ℤ (kd *ℤ rj))) ≡ rd *ℤ ((neg_ℤ rc *ℤ kj) -ℤ (neg_ℤ kc *ℤ rj))
home_identity rc rd rj kc kd kj = simp ring (omega (arith, ints))

last_identity : (rc rd rj lc ld lj : ℤ) → (rc *ℤ ((rd *ℤ lj) -ℤ (ld *ℤ rj))) -ℤ (((rd *ℤ lc) -ℤ (ld *ℤ rc)) *ℤ rj) ≡ rd *ℤ ((rc *ℤ lj) -ℤ (lc *ℤ rj))
last_identity rc rd rj lc ld lj = simp ring (omega (arith, ints))

negated_identity : (a b x y : ℤ) → neg_ℤ ((a *ℤ x) -ℤ (b *ℤ y)) ≡ (neg_ℤ a *ℤ x) -ℤ (neg_ℤ b *ℤ y)
negated_identity a b x y = simp ring (omega (arith, ints))

-- ---- one number of a combination of combinations

times_moved : (x y z : ℤ) → x *ℤ (y *ℤ z) ≡ (x *ℤ y) *ℤ z
times_moved x y z = simp ring

-- both lines are combinations
twice : (u t s tc sc uj tj sj tcw scw tjw sjw : ℤ) → tc *ℤ t ≡ tcw → sc *ℤ s ≡ scw → tj *ℤ t ≡ tjw → sj *ℤ s ≡ sjw → uj *ℤ u ≡ (tc *ℤ sj) -ℤ (sc *ℤ tj)
    → uj *ℤ (u *ℤ (t *ℤ s)) ≡ (tcw *ℤ sjw) -ℤ (scw *ℤ tjw)
twice u t s tc sc uj tj sj tcw scw tjw sjw ct cs jt js h =
    times_moved uj u (t *ℤ s) ∙ ap (λ z. z *ℤ (t *ℤ s)) h ∙ spread t s tc sj sc tj ∙ ap₂ (λ x y. x -ℤ y) (ap₂ ◌*ℤ◌ ct js) (ap₂ ◌*ℤ◌ cs jt)
  where
    spread : (t s tc sj sc tj : ℤ) → ((tc *ℤ sj) -ℤ (sc *ℤ tj)) *ℤ (t *ℤ s) ≡ ((tc *ℤ t) *ℤ (sj *ℤ s)) -ℤ ((sc *ℤ s) *ℤ (tj *ℤ t))
    spread t s tc sj sc tj = simp ring

-- the pivot row alone is one
by_combined : (u t tc lc uj tj lj tcw tjw : ℤ) → tc *ℤ t ≡ tcw → tj *ℤ t ≡ tjw → uj *ℤ u ≡ (tc *ℤ lj) -ℤ (lc *ℤ tj)
    → uj *ℤ (u *ℤ t) ≡ (tcw *ℤ lj) -ℤ (lc *ℤ tjw)
by_combined u t tc lc uj tj lj tcw tjw ct jt h =
    times_moved uj u t ∙ ap (λ z. z *ℤ t) h ∙ spread t tc lj lc tj ∙ ap₂ (λ x y. (x *ℤ lj) -ℤ (lc *ℤ y)) ct jt
  where
    spread : (t tc lj lc tj : ℤ) → ((tc *ℤ lj) -ℤ (lc *ℤ tj)) *ℤ t ≡ ((tc *ℤ t) *ℤ lj) -ℤ (lc *ℤ (tj *ℤ t))
    spread t tc lj lc tj = simp ring

-- the line alone is one
of_combined : (u s pc sc uj pj sj scw sjw : ℤ) → sc *ℤ s ≡ scw → sj *ℤ s ≡ sjw → uj *ℤ u ≡ (pc *ℤ sj) -ℤ (sc *ℤ pj)
    → uj *ℤ (u *ℤ s) ≡ (pc *ℤ sjw) -ℤ (scw *ℤ pj)
of_combined u s pc sc uj pj sj scw sjw cs js h =
    times_moved uj u s ∙ ap (λ z. z *ℤ s) h ∙ spread s pc sj sc pj ∙ ap₂ (λ x y. (pc *ℤ x) -ℤ (y *ℤ pj)) js cs
  where
    spread : (s pc sj sc pj : ℤ) → ((pc *ℤ sj) -ℤ (sc *ℤ pj)) *ℤ s ≡ (pc *ℤ (sj *ℤ s)) -ℤ ((sc *ℤ s) *ℤ pj)
    spread s pc sj sc pj = simp ring

-- two multiples of one number
crossed : (x a p y b q w : ℤ) → x *ℤ a ≡ p *ℤ w → y *ℤ b ≡ q *ℤ w → x *ℤ (a *ℤ q) ≡ y *ℤ (b *ℤ p)
crossed x a p y b q w e f = times_moved x a q ∙ ap (λ z. z *ℤ q) e ∙ turned p w q ∙ ap (λ z. z *ℤ p) (sym f) ∙ sym (times_moved y b p)
  where
    turned : (p w q : ℤ) → (p *ℤ w) *ℤ q ≡ (q *ℤ w) *ℤ p
    turned p w q = simp ring

crossed_one : (x a p y b w : ℤ) → x *ℤ a ≡ p *ℤ w → y *ℤ b ≡ w → x *ℤ a ≡ y *ℤ (b *ℤ p)
crossed_one x a p y b w e f = e ∙ ap (λ z. p *ℤ z) (sym f) ∙ turned p y b
  where
    turned : (p y b : ℤ) → p *ℤ (y *ℤ b) ≡ y *ℤ (b *ℤ p)
    turned p y b = simp ring

-- ---- the line multiplied by -1

pub entry_of-negated : (line : Line) (c : ℕ) → entry_of (negated_line line) c ≡ neg_ℤ (entry_of line c)
entry_of-negated line c = at line.entries c
  where
    at : (zs : List ℤ) (c : ℕ) → get_or (map neg_ℤ zs) c (pos 0) ≡ neg_ℤ (get_or zs c (pos 0))
    at [] c = refl
    at (z ∷ zs) zero = refl
    at (z ∷ zs) (suc c) = at zs c

pub length-negated : (line : Line) → length (negated_line line).entries ≡ length line.entries
length-negated line = all line.entries
  where
    all : (zs : List ℤ) → length (map neg_ℤ zs) ≡ length zs
    all [] = refl
    all (z ∷ zs) = ap suc (all zs)

negated_step : (z y k a b n m : ℤ) → y ≡ neg_ℤ z → z *ℤ k ≡ (a *ℤ n) -ℤ (b *ℤ m) → y *ℤ k ≡ (neg_ℤ a *ℤ n) -ℤ (neg_ℤ b *ℤ m)
negated_step z y k a b n m e h = ap (λ x. x *ℤ k) e ∙ out z k ∙ ap neg_ℤ h ∙ negated_identity a b n m
  where
    out : (z k : ℤ) → neg_ℤ z *ℤ k ≡ neg_ℤ (z *ℤ k)
    out z k = simp ring

-- ---- four laws

-- the lengths of the lines, and the positive entries: x0's row h in columns c and d, and the method's pivot row in c
pub record AreReady (c d : ℕ) (h k : Line) : Type 0 where
  pub lengths : length k.entries ≡ length h.entries
  pub entering : pos 0 <ℤ entry_of h c
  pub x0 : pos 0 <ℤ entry_of h d
  pub pivot : pos 0 <ℤ entry_of (cleared d h k) c

-- x0's row after the pivot: the method's pivot row, cleared and multiplied by -1
abbrev pub turned : ℕ → Line → Line → Line
turned c h k = negated_line (cleared c h k)

record IsTurned (c : ℕ) (h k n : Line) : Type 0 where
  over : ℤ
  over_pos : pos 0 <ℤ over
  entries : (j : ℕ) → entry_of n j *ℤ over ≡ (neg_ℤ (entry_of h c) *ℤ entry_of k j) -ℤ (neg_ℤ (entry_of k c) *ℤ entry_of h j)
  right : n.right *ℤ over ≡ (neg_ℤ (entry_of h c) *ℤ k.right) -ℤ (neg_ℤ (entry_of k c) *ℤ h.right)
  own : n.own *ℤ over ≡ (neg_ℤ (entry_of h c) *ℤ k.own) -ℤ (neg_ℤ (entry_of k c) *ℤ h.own)

turned-IsTurned : (c : ℕ) (h k : Line) → length k.entries ≡ length h.entries → pos 0 <ℤ entry_of h c → IsTurned c h k (turned c h k)
turned-IsTurned c h k len p =
    let line : Line = cleared c h k in
    let clear : IsCleared c line k h = cleared-IsCleared c h k len p in
    record {
      over = clear.over;
      over_pos = clear.over_pos;
      entries = λ j. negated_step (entry_of line j) (entry_of (negated_line line) j) clear.over (entry_of h c) (entry_of k c) (entry_of k j) (entry_of h j) (entry_of-negated line j) (clear.combined.entries j);
      right = negated_step line.right (neg_ℤ line.right) clear.over (entry_of h c) (entry_of k c) k.right h.right refl clear.combined.right;
      own = negated_step line.own (neg_ℤ line.own) clear.over (entry_of h c) (entry_of k c) k.own h.own refl clear.combined.own;
    }

positive_of : (x a w : ℤ) → pos 0 <ℤ a → x *ℤ a ≡ w → pos 0 <ℤ w → pos 0 <ℤ x
positive_of x a w p e q = <ℤ_cancel (pos 0) x a p (subst (λ z. z <ℤ (x *ℤ a)) (sym (zero-*ℤ a)) (subst (λ z. pos 0 <ℤ z) (sym e) q))

-- its entry at x0 is positive
pub turned-positive : (c d : ℕ) (h k : Line) → AreReady c d h k → pos 0 <ℤ entry_of (turned c h k) d
turned-positive c d h k ready =
    let clear : IsCleared d (cleared d h k) k h = cleared-IsCleared d h k ready.lengths ready.x0 in
    let n : IsTurned c h k (turned c h k) = turned-IsTurned c h k ready.lengths ready.entering in
    let whole : pos 0 <ℤ (entry_of (cleared d h k) c *ℤ clear.over) = *ℤ_pos (entry_of (cleared d h k) c) clear.over ready.pivot clear.over_pos in
    let same : entry_of (cleared d h k) c *ℤ clear.over ≡ entry_of (turned c h k) d *ℤ n.over =
    clear.combined.entries c ∙ both (entry_of h c) (entry_of h d) (entry_of k c) (entry_of k d) ∙ sym (n.entries d) in
    positive_of (entry_of (turned c h k) d) n.over (entry_of (cleared d h k) c *ℤ clear.over) n.over_pos (sym same) whole
  where
    both : (rc rd kc kd : ℤ) → (rd *ℤ kc) -ℤ (kd *ℤ rc) ≡ (neg_ℤ rc *ℤ kd) -ℤ (neg_ℤ kc *ℤ rd)
    both rc rd kc kd = simp ring (omega (arith, ints))

-- any other line
pub cleared-other : (c d : ℕ) (h k l : Line) → AreReady c d h k → length l.entries ≡ length h.entries → IsPrimitive l
    → cleared c (cleared d h k) (cleared d h l) ≡ cleared d (turned c h k) (cleared c h l)
cleared-other c d h k l ready len primitive =
    let T : Line = cleared d h k in
    let S : Line = cleared d h l in
    let N : Line = turned c h k in
    let M : Line = cleared c h l in
    let lenT : length T.entries ≡ length h.entries = length-cleared d h k ready.lengths ∙ ready.lengths in
    let lenS : length S.entries ≡ length h.entries = length-cleared d h l len ∙ len in
    let lenN : length N.entries ≡ length h.entries = length-negated (cleared c h k) ∙ length-cleared c h k ready.lengths ∙ ready.lengths in
    let lenM : length M.entries ≡ length h.entries = length-cleared c h l len ∙ len in
    let t : IsCleared d T k h = cleared-IsCleared d h k ready.lengths ready.x0 in
    let s : IsCleared d S l h = cleared-IsCleared d h l len ready.x0 in
    let u : IsCleared c (cleared c T S) S T = cleared-IsCleared c T S (lenS ∙ sym lenT) ready.pivot in
    let n : IsTurned c h k N = turned-IsTurned c h k ready.lengths ready.entering in
    let m : IsCleared c M l h = cleared-IsCleared c h l len ready.entering in
    let v : IsCleared d (cleared d N M) M N = cleared-IsCleared d N M (lenM ∙ sym lenN) (turned-positive c d h k ready) in
    let late : ℤ = u.over *ℤ (t.over *ℤ s.over) in
    let kept : ℤ = v.over *ℤ (n.over *ℤ m.over) in
    let late_pos : pos 0 <ℤ late = *ℤ_pos u.over (t.over *ℤ s.over) u.over_pos (*ℤ_pos t.over s.over t.over_pos s.over_pos) in
    let kept_pos : pos 0 <ℤ kept = *ℤ_pos v.over (n.over *ℤ m.over) v.over_pos (*ℤ_pos n.over m.over n.over_pos m.over_pos) in
    let number : (rj kj lj tj sj uj nj mj vj : ℤ)
    → tj *ℤ t.over ≡ (entry_of h d *ℤ kj) -ℤ (entry_of k d *ℤ rj)
    → sj *ℤ s.over ≡ (entry_of h d *ℤ lj) -ℤ (entry_of l d *ℤ rj)
    → uj *ℤ u.over ≡ (entry_of T c *ℤ sj) -ℤ (entry_of S c *ℤ tj)
    → nj *ℤ n.over ≡ (neg_ℤ (entry_of h c) *ℤ kj) -ℤ (neg_ℤ (entry_of k c) *ℤ rj)
    → mj *ℤ m.over ≡ (entry_of h c *ℤ lj) -ℤ (entry_of l c *ℤ rj)
    → vj *ℤ v.over ≡ (entry_of N d *ℤ mj) -ℤ (entry_of M d *ℤ nj)
    → uj *ℤ (late *ℤ entry_of h c) ≡ vj *ℤ (kept *ℤ entry_of h d) =
    λ rj kj lj tj sj uj nj mj vj et es eu en em ev.
    crossed uj late (entry_of h d) vj kept (entry_of h c) (minor (entry_of h c) (entry_of h d) rj (entry_of k c) (entry_of k d) kj (entry_of l c) (entry_of l d) lj)
    (twice u.over t.over s.over (entry_of T c) (entry_of S c) uj tj sj _ _ _ _ (t.combined.entries c) (s.combined.entries c) et es eu
    ∙ late_identity (entry_of h c) (entry_of h d) rj (entry_of k c) (entry_of k d) kj (entry_of l c) (entry_of l d) lj)
    (twice v.over n.over m.over (entry_of N d) (entry_of M d) vj nj mj _ _ _ _ (n.entries d) (m.combined.entries d) en em ev
    ∙ kept_identity (entry_of h c) (entry_of h d) rj (entry_of k c) (entry_of k d) kj (entry_of l c) (entry_of l d) lj) in
    same_lines (cleared c T S) (cleared d N M)
    (length-cleared c T S (lenS ∙ sym lenT) ∙ lenS ∙ sym lenM ∙ sym (length-cleared d N M (lenM ∙ sym lenN)))
    (cleared-IsPrimitive c T S (cleared-IsPrimitive d h l primitive))
    (cleared-IsPrimitive d N M (cleared-IsPrimitive c h l primitive))
    (record {
      first = late *ℤ entry_of h c;
      second = kept *ℤ entry_of h d;
      first_pos = *ℤ_pos late (entry_of h c) late_pos ready.entering;
      second_pos = *ℤ_pos kept (entry_of h d) kept_pos ready.x0;
      entries = λ j. number (entry_of h j) (entry_of k j) (entry_of l j) (entry_of T j) (entry_of S j) (entry_of (cleared c T S) j) (entry_of N j) (entry_of M j) (entry_of (cleared d N M) j)
          (t.combined.entries j) (s.combined.entries j) (u.combined.entries j) (n.entries j) (m.combined.entries j) (v.combined.entries j);
      right = number h.right k.right l.right T.right S.right (cleared c T S).right N.right M.right (cleared d N M).right
          t.combined.right s.combined.right u.combined.right n.right m.combined.right v.combined.right;
      own = number h.own k.own l.own T.own S.own (cleared c T S).own N.own M.own (cleared d N M).own
          t.combined.own s.combined.own u.combined.own n.own m.combined.own v.combined.own;
    })

-- the row that the method pivots in: in the kept tableau x0's row takes its place
pub cleared-row : (c d : ℕ) (h k : Line) → AreReady c d h k → IsPrimitive h → IsPrimitive k → cleared d h k ≡ cleared d (turned c h k) h
cleared-row c d h k ready ph pk =
    let T : Line = cleared d h k in
    let N : Line = turned c h k in
    let lenN : length N.entries ≡ length h.entries = length-negated (cleared c h k) ∙ length-cleared c h k ready.lengths ∙ ready.lengths in
    let t : IsCleared d T k h = cleared-IsCleared d h k ready.lengths ready.x0 in
    let n : IsTurned c h k N = turned-IsTurned c h k ready.lengths ready.entering in
    let v : IsCleared d (cleared d N h) h N = cleared-IsCleared d N h (sym lenN) (turned-positive c d h k ready) in
    let number : (rj kj tj nj vj : ℤ)
    → tj *ℤ t.over ≡ (entry_of h d *ℤ kj) -ℤ (entry_of k d *ℤ rj)
    → nj *ℤ n.over ≡ (neg_ℤ (entry_of h c) *ℤ kj) -ℤ (neg_ℤ (entry_of k c) *ℤ rj)
    → vj *ℤ v.over ≡ (entry_of N d *ℤ rj) -ℤ (entry_of h d *ℤ nj)
    → tj *ℤ (t.over *ℤ entry_of h c) ≡ vj *ℤ (v.over *ℤ n.over) =
    λ rj kj tj nj vj et en ev.
    sym (crossed_one vj (v.over *ℤ n.over) (entry_of h c) tj t.over ((entry_of h d *ℤ kj) -ℤ (entry_of k d *ℤ rj))
    (by_combined v.over n.over (entry_of N d) (entry_of h d) vj nj rj _ _ (n.entries d) en ev ∙ row_identity (entry_of h c) (entry_of h d) rj (entry_of k c) (entry_of k d) kj)
    et) in
    same_lines T (cleared d N h)
    (length-cleared d h k ready.lengths ∙ ready.lengths ∙ sym (length-cleared d N h (sym lenN)))
    (cleared-IsPrimitive d h k pk)
    (cleared-IsPrimitive d N h ph)
    (record {
      first = t.over *ℤ entry_of h c;
      second = v.over *ℤ n.over;
      first_pos = *ℤ_pos t.over (entry_of h c) t.over_pos ready.entering;
      second_pos = *ℤ_pos v.over n.over v.over_pos n.over_pos;
      entries = λ j. number (entry_of h j) (entry_of k j) (entry_of T j) (entry_of N j) (entry_of (cleared d N h) j) (t.combined.entries j) (n.entries j) (v.combined.entries j);
      right = number h.right k.right T.right N.right (cleared d N h).right t.combined.right n.right v.combined.right;
      own = number h.own k.own T.own N.own (cleared d N h).own t.combined.own n.own v.combined.own;
    })

-- x0's row
pub cleared-home : (c d : ℕ) (h k : Line) → AreReady c d h k → IsPrimitive h → IsPrimitive k → cleared c (cleared d h k) h ≡ turned c h k
cleared-home c d h k ready ph pk =
    let T : Line = cleared d h k in
    let N : Line = turned c h k in
    let lenT : length T.entries ≡ length h.entries = length-cleared d h k ready.lengths ∙ ready.lengths in
    let lenN : length N.entries ≡ length h.entries = length-negated (cleared c h k) ∙ length-cleared c h k ready.lengths ∙ ready.lengths in
    let t : IsCleared d T k h = cleared-IsCleared d h k ready.lengths ready.x0 in
    let n : IsTurned c h k N = turned-IsTurned c h k ready.lengths ready.entering in
    let u : IsCleared c (cleared c T h) h T = cleared-IsCleared c T h (sym lenT) ready.pivot in
    let number : (rj kj tj nj uj : ℤ)
    → tj *ℤ t.over ≡ (entry_of h d *ℤ kj) -ℤ (entry_of k d *ℤ rj)
    → nj *ℤ n.over ≡ (neg_ℤ (entry_of h c) *ℤ kj) -ℤ (neg_ℤ (entry_of k c) *ℤ rj)
    → uj *ℤ u.over ≡ (entry_of T c *ℤ rj) -ℤ (entry_of h c *ℤ tj)
    → uj *ℤ (u.over *ℤ t.over) ≡ nj *ℤ (n.over *ℤ entry_of h d) =
    λ rj kj tj nj uj et en eu.
    crossed_one uj (u.over *ℤ t.over) (entry_of h d) nj n.over ((neg_ℤ (entry_of h c) *ℤ kj) -ℤ (neg_ℤ (entry_of k c) *ℤ rj))
    (by_combined u.over t.over (entry_of T c) (entry_of h c) uj tj rj _ _ (t.combined.entries c) et eu ∙ home_identity (entry_of h c) (entry_of h d) rj (entry_of k c) (entry_of k d) kj)
    en in
    same_lines (cleared c T h) N
    (length-cleared c T h (sym lenT) ∙ sym lenN)
    (cleared-IsPrimitive c T h ph)
    (negated_line-IsPrimitive (cleared c h k) (cleared-IsPrimitive c h k pk))
    (record {
      first = u.over *ℤ t.over;
      second = n.over *ℤ entry_of h d;
      first_pos = *ℤ_pos u.over t.over u.over_pos t.over_pos;
      second_pos = *ℤ_pos n.over (entry_of h d) n.over_pos ready.x0;
      entries = λ j. number (entry_of h j) (entry_of k j) (entry_of T j) (entry_of N j) (entry_of (cleared c T h) j) (t.combined.entries j) (n.entries j) (u.combined.entries j);
      right = number h.right k.right T.right N.right (cleared c T h).right t.combined.right n.right u.combined.right;
      own = number h.own k.own T.own N.own (cleared c T h).own t.combined.own n.own u.combined.own;
    })

-- the last pivot, in x0's row
pub cleared-last : (c d : ℕ) (h l : Line) → pos 0 <ℤ entry_of h c → pos 0 <ℤ entry_of h d → length l.entries ≡ length h.entries → IsPrimitive l
    → cleared c h (cleared d h l) ≡ cleared c h l
cleared-last c d h l pc pd len primitive =
    let S : Line = cleared d h l in
    let M : Line = cleared c h l in
    let lenS : length S.entries ≡ length h.entries = length-cleared d h l len ∙ len in
    let s : IsCleared d S l h = cleared-IsCleared d h l len pd in
    let m : IsCleared c M l h = cleared-IsCleared c h l len pc in
    let u : IsCleared c (cleared c h S) S h = cleared-IsCleared c h S lenS pc in
    let number : (rj lj sj mj uj : ℤ)
    → sj *ℤ s.over ≡ (entry_of h d *ℤ lj) -ℤ (entry_of l d *ℤ rj)
    → mj *ℤ m.over ≡ (entry_of h c *ℤ lj) -ℤ (entry_of l c *ℤ rj)
    → uj *ℤ u.over ≡ (entry_of h c *ℤ sj) -ℤ (entry_of S c *ℤ rj)
    → uj *ℤ (u.over *ℤ s.over) ≡ mj *ℤ (m.over *ℤ entry_of h d) =
    λ rj lj sj mj uj es em eu.
    crossed_one uj (u.over *ℤ s.over) (entry_of h d) mj m.over ((entry_of h c *ℤ lj) -ℤ (entry_of l c *ℤ rj))
    (of_combined u.over s.over (entry_of h c) (entry_of S c) uj rj sj _ _ (s.combined.entries c) es eu ∙ last_identity (entry_of h c) (entry_of h d) rj (entry_of l c) (entry_of l d) lj)
    em in
    same_lines (cleared c h S) M
    (length-cleared c h S lenS ∙ lenS ∙ sym len ∙ sym (length-cleared c h l len))
    (cleared-IsPrimitive c h S (cleared-IsPrimitive d h l primitive))
    (cleared-IsPrimitive c h l primitive)
    (record {
      first = u.over *ℤ s.over;
      second = m.over *ℤ entry_of h d;
      first_pos = *ℤ_pos u.over s.over u.over_pos s.over_pos;
      second_pos = *ℤ_pos m.over (entry_of h d) m.over_pos pd;
      entries = λ j. number (entry_of h j) (entry_of l j) (entry_of S j) (entry_of M j) (entry_of (cleared c h S) j) (s.combined.entries j) (m.combined.entries j) (u.combined.entries j);
      right = number h.right l.right S.right M.right (cleared c h S).right s.combined.right m.combined.right u.combined.right;
      own = number h.own l.own S.own M.own (cleared c h S).own s.combined.own m.combined.own u.combined.own;
    })
