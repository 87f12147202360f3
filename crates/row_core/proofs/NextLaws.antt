-- The variable that comes next in two rows, by the cases of where it stands.
use Rattle.row_core.proofs.Common.{◌≡◌, ℕ, ◌+◌, ◌<◌, ◌≤◌, ℤ, pos, true, List, [], ◌∷◌, length, get_or, drop, sym, ap, ap₂, ◌∙◌, to_z, of_z, w128, ints, drop_more, at_drop_all, Less, Equal, Greater, InRange, all_fit, back_in_range, Var, numbers_of, var_cmp, Beside, left_only, right_only, beside, arith}
use Rattle.row_core.proofs.WritingSteps.{entries_fit-at}
use Rattle.row_core.specs.declared.merging.Next.{Next}
use Rattle.row_core.specs.Nexts.{IsNext}
use Rattle.row_core.proofs.BesideLaws.{beside-Less, beside-Equal, beside-Greater}

-- a number that is read back from its bits
abbrev pub read : ℤ → ℤ
read z = to_z w128 (of_z w128 z)

zero_fits : InRange (pos 0)
zero_fits = omega (arith, ints)

abbrev next_right : ℕ → ℕ → Var × ℤ → Next
next_right i j o = record { variable = o.0; number = pos 0; other = read o.1; left = i; right = j + 1 }

abbrev next_left : ℕ → ℕ → Var × ℤ → Next
next_left i j e = record { variable = e.0; number = read e.1; other = pos 0; left = i + 1; right = j }

abbrev next_both : ℕ → ℕ → Var × ℤ → Var × ℤ → Next
next_both i j e o = record { variable = e.0; number = read e.1; other = read o.1; left = i + 1; right = j + 1 }

InRange-read : (z : ℤ) → InRange z → InRange (read z)
InRange-read z h = rw (back_in_range z h) h

first_right : (o : Var × ℤ) → InRange o.1 → (es : List Beside) → right_only o ∷ es ≡ record { variable = o.0; number = pos 0; other = read o.1 } ∷ es
first_right o h es = ap {B = List Beside} (λ z. record { variable = o.0; number = pos 0; other = z } ∷ es) (sym (back_in_range o.1 h))

first_left : (e : Var × ℤ) → InRange e.1 → (es : List Beside) → left_only e ∷ es ≡ record { variable = e.0; number = read e.1; other = pos 0 } ∷ es
first_left e h es = ap {B = List Beside} (λ z. record { variable = e.0; number = z; other = pos 0 } ∷ es) (sym (back_in_range e.1 h))

first_both : (e o : Var × ℤ) → InRange e.1 → InRange o.1 → (es : List Beside) → record { variable = e.0; number = e.1; other = o.1 } ∷ es ≡ record { variable = e.0; number = read e.1; other = read o.1 } ∷ es
first_both e o h k es = ap₂ {C = List Beside} (λ y z. record { variable = e.0; number = y; other = z } ∷ es) (sym (back_in_range e.1 h)) (sym (back_in_range o.1 k))

pub next-right_alone : (es os : List (Var × ℤ)) (i j : ℕ) (d : Var × ℤ) → length es ≤ i → j < length os → all_fit (numbers_of os) ≡ true → IsNext es i os j (next_right i j (get_or os j d))
next-right_alone es os i j d h k fit =
    let o : Var × ℤ = get_or os j d in
    let fits : InRange o.1 = entries_fit-at os j d fit k in
    record {
      first =
          at_drop_all (λ ys. beside ys (drop j os)) es i h
          ∙ ap (beside []) (drop_more os j d k)
          ∙ first_right o fits (beside [] (drop (j + 1) os))
          ∙ ap {B = List Beside} (λ ys. record { variable = o.0; number = pos 0; other = read o.1 } ∷ ys) (sym (at_drop_all (λ ys. beside ys (drop (j + 1) os)) es i h));
      number_fits = zero_fits;
      other_fits = InRange-read o.1 fits;
    }

pub next-left_alone : (es os : List (Var × ℤ)) (i j : ℕ) (d : Var × ℤ) → i < length es → length os ≤ j → all_fit (numbers_of es) ≡ true → IsNext es i os j (next_left i j (get_or es i d))
next-left_alone es os i j d h k fit =
    let e : Var × ℤ = get_or es i d in
    let fits : InRange e.1 = entries_fit-at es i d fit h in
    record {
      first =
          at_drop_all (λ ys. beside (drop i es) ys) os j k
          ∙ ap (λ ys. beside ys []) (drop_more es i d h)
          ∙ first_left e fits (beside (drop (i + 1) es) [])
          ∙ ap {B = List Beside} (λ ys. record { variable = e.0; number = read e.1; other = pos 0 } ∷ ys) (sym (at_drop_all (λ ys. beside (drop (i + 1) es) ys) os j k));
      number_fits = InRange-read e.1 fits;
      other_fits = zero_fits;
    }

heads : (es os : List (Var × ℤ)) (i j : ℕ) (d f : Var × ℤ) → i < length es → j < length os → beside (drop i es) (drop j os) ≡ beside (get_or es i d ∷ drop (i + 1) es) (get_or os j f ∷ drop (j + 1) os)
heads es os i j d f h k = ap₂ beside (drop_more es i d h) (drop_more os j f k)

pub next-Less : (es os : List (Var × ℤ)) (i j : ℕ) (d f : Var × ℤ) → i < length es → j < length os → all_fit (numbers_of es) ≡ true → var_cmp (get_or es i d).0 (get_or os j f).0 ≡ Less → IsNext es i os j (next_left i j (get_or es i d))
next-Less es os i j d f h k fit less =
    let e : Var × ℤ = get_or es i d in
    let o : Var × ℤ = get_or os j f in
    let fits : InRange e.1 = entries_fit-at es i d fit h in
    record {
      first =
          heads es os i j d f h k
          ∙ beside-Less e o (drop (i + 1) es) (drop (j + 1) os) less
          ∙ first_left e fits (beside (drop (i + 1) es) (o ∷ drop (j + 1) os))
          ∙ ap {B = List Beside} (λ ys. record { variable = e.0; number = read e.1; other = pos 0 } ∷ beside (drop (i + 1) es) ys) (sym (drop_more os j f k));
      number_fits = InRange-read e.1 fits;
      other_fits = zero_fits;
    }

pub next-Greater : (es os : List (Var × ℤ)) (i j : ℕ) (d f : Var × ℤ) → i < length es → j < length os → all_fit (numbers_of os) ≡ true → var_cmp (get_or es i d).0 (get_or os j f).0 ≡ Greater → IsNext es i os j (next_right i j (get_or os j f))
next-Greater es os i j d f h k fit greater =
    let e : Var × ℤ = get_or es i d in
    let o : Var × ℤ = get_or os j f in
    let fits : InRange o.1 = entries_fit-at os j f fit k in
    record {
      first =
          heads es os i j d f h k
          ∙ beside-Greater e o (drop (i + 1) es) (drop (j + 1) os) greater
          ∙ first_right o fits (beside (e ∷ drop (i + 1) es) (drop (j + 1) os))
          ∙ ap {B = List Beside} (λ ys. record { variable = o.0; number = pos 0; other = read o.1 } ∷ beside ys (drop (j + 1) os)) (sym (drop_more es i d h));
      number_fits = zero_fits;
      other_fits = InRange-read o.1 fits;
    }

pub next-Equal : (es os : List (Var × ℤ)) (i j : ℕ) (d f : Var × ℤ) → i < length es → j < length os → all_fit (numbers_of es) ≡ true → all_fit (numbers_of os) ≡ true → var_cmp (get_or es i d).0 (get_or os j f).0 ≡ Equal → IsNext es i os j (next_both i j (get_or es i d) (get_or os j f))
next-Equal es os i j d f h k fit fit' alike =
    let e : Var × ℤ = get_or es i d in
    let o : Var × ℤ = get_or os j f in
    let fits : InRange e.1 = entries_fit-at es i d fit h in
    let fits' : InRange o.1 = entries_fit-at os j f fit' k in
    record {
      first =
          heads es os i j d f h k
          ∙ beside-Equal e o (drop (i + 1) es) (drop (j + 1) os) alike
          ∙ first_both e o fits fits' (beside (drop (i + 1) es) (drop (j + 1) os));
      number_fits = InRange-read e.1 fits;
      other_fits = InRange-read o.1 fits';
    }
