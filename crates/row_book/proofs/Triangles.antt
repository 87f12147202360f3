-- The rows of all instances are triangular.
use Rattle.row_book.proofs.Common.{◌≡◌, ℕ, zero, suc, ◌<◌, ◌≤◌, true, false, cond, inl, inr, List, [], ◌∷◌, nat_le, Some, None, refl, ap, ap₂, sym, ◌∙◌, subst, arith, le-leb, leb-true, AllByRecursion, slice_get, Ordering, Less, Equal, Greater, nat_cmp, ordering_reverse, ordering_then, cases_lt, nat_cmp_total, nat_cmp-less, Rational, plus, Data, Index, Row, RowName, Var, right_of, terms_of, variables_of, index_cmp, row_name_cmp, var_cmp, gathered, written_entries, written_right, var_cmp_total, exists, instances, is_index, name_at, subscripts_of, variable_of, IsNamedRow, trade, Sorted-instances, less_then, Contains-from_Has, Has, Has-from_Contains, entry_variables, AreRowsOf, AreTriangular, Defines, IsAt, terms_at}
use Rattle.row_book.proofs.AllTerms.{has-terms}
use Rattle.row_book.proofs.Definers.{chosen-some, defined-trade, definer-before, definer-equation, exchange-instance, is-exchange, is-found, same-definer, swapped}
use Rattle.row_book.proofs.EntryVariables.{OfVariables, entries-from_terms}
use Rattle.row_book.proofs.Instances.{Has-instance, IsInstance, all-at, all-instances, sorted-at, sorted-once}
use Rattle.row_book.proofs.Lists.{AllByRecursion-append, AllByRecursion-weaker, all-has}
use Rattle.row_book.proofs.TermVariables.{IsTermOf}

-- ---- rows by position and by name

-- the row at this position is that of the name there
pub record IsRowAt (places : ℕ) (d : Data) (names : List RowName) (i : ℕ) (row : Row) : Type 0 where
  pub name : RowName
  pub at : slice_get names i ≡ Some name
  pub is : IsNamedRow places d name (terms_at places d name) row

pub row-at : (places : ℕ) (d : Data) (names : List RowName) (rows : List Row) (i : ℕ) (row : Row) → AreRowsOf places d names rows → IsAt rows i row → IsRowAt places d names i row
row-at places d [] [] i row are at = absurd (cc at)
row-at places d [] (r ∷ rows) i row are at = absurd are
row-at places d (n ∷ names) [] i row are at = absurd are
row-at places d (n ∷ names) (r ∷ rows) zero row are at =
    let same : r ≡ row = cc in
    record { name = n; at = refl; is = subst (λ q. IsNamedRow places d n (terms_at places d n) q) same are.0 }
row-at places d (n ∷ names) (r ∷ rows) (suc i) row are at =
    let rest = row-at places d names rows i row are.1 at in
    record { name = rest.name; at = rest.at; is = rest.is }

-- the row of a name, which stands among them
pub row-of : (places : ℕ) (d : Data) (names : List RowName) (rows : List Row) (name : RowName) → AreRowsOf places d names rows → Has names name
    → (row : Row) × (Has rows row × IsNamedRow places d name (terms_at places d name) row)
row-of places d [] rows name are has = absurd has
row-of places d (n ∷ names) [] name are has = absurd are
row-of places d (n ∷ names) (r ∷ rows) name are (inl e) = (r, (inl refl, subst (λ m. IsNamedRow places d m (terms_at places d m) r) e are.0))
row-of places d (n ∷ names) (r ∷ rows) name are (inr has) =
    let rest = row-of places d names rows name are.1 has in (rest.0, (inr rest.1.0, rest.1.1))

-- ---- the variables of entries

of_entries : (places : ℕ) (d : Data) (name : RowName) (row : Row) → IsInstance d name → IsNamedRow places d name (terms_at places d name) row → OfVariables (IsTermOf d name) row.entries.items
of_entries places d name row instance is = entries-from_terms (IsTermOf d name) name (terms_at places d name) row is.written (has-terms places d name instance)

-- the variable exists
abbrev pub IsThere : Data → Var → Type 0
IsThere d v = exists d v ≡ true

entries_there : (places : ℕ) (d : Data) (names : List RowName) (rows : List Row) → AllByRecursion (IsInstance d) names → AreRowsOf places d names rows → AllByRecursion (IsThere d) (entry_variables rows)
entries_there places d [] [] instances are = tt
entries_there places d [] (r ∷ rows) instances are = absurd are
entries_there places d (n ∷ names) [] instances are = absurd are
entries_there places d (n ∷ names) (r ∷ rows) instances are =
    AllByRecursion-append (IsThere d) (variables_of r.entries.items) (entry_variables rows)
    (AllByRecursion-weaker (IsTermOf d n) (IsThere d) (λ v t. t.there) (variables_of r.entries.items) (of_entries places d n r instances.0 are.0))
    (entries_there places d names rows instances.1 are.1)

pub all-there : (places : ℕ) (d : Data) (rows : List Row) → AreRowsOf places d (instances d) rows → AllByRecursion (IsThere d) (entry_variables rows)
all-there places d rows are = entries_there places d (instances d) rows (all-instances d) are

-- ---- order

never : (o : Ordering) → o ≡ Greater → o ≡ Less → ⊥
never o greater less = cc

greater_then : (a b : ℕ) (rest : Ordering) → b < a → ordering_then (nat_cmp a b) rest ≡ Greater
greater_then a b rest less = ap (λ o. ordering_then o rest) (nat_cmp_total.antisymm a b ∙ ap ordering_reverse (nat_cmp-less b a less))

-- a name before another has no later equation
eq_le : (a b : RowName) → row_name_cmp a b ≡ Less → a.eq ≤ b.eq
eq_le a b less =
    elim (cases_lt b.eq a.eq) [
      | inl after ↦ absurd (never (row_name_cmp a b) (greater_then a.eq b.eq (index_cmp a.index b.index) after) less)
      | inr from ↦ from
    ]

-- ---- exchanges

-- of an exchange that defines a variable, the other one isn't defined, unless it is the same
other_trade : (i : Index) (v w : Var) → variable_of (name_at 16 i) ≡ Some v → w ≡ trade i.region i.other i.slice i.fuel i.year → w.index.other ≤ w.index.region → v ≡ w
other_trade i v w defines is down =
    let this = chosen-some (nat_le i.region i.other) (trade i.other i.region i.slice i.fuel i.year) v defines in
    let up : i.region ≤ i.other = leb-true i.region i.other this.0 in
    let back : i.other ≤ i.region = subst (λ (u : Var). u.index.other ≤ u.index.region) is down in
    let same : i.other ≡ i.region = omega (arith, up, back) in
    sym this.1 ∙ ap₂ (λ a b. trade a b i.slice i.fuel i.year) same (sym same) ∙ sym is

at_less : {A : Type 0} (x y z : A) (o : Ordering) → o ≡ Less → elim o as (λ p. A) [ Less ↦ x | Equal ↦ y | Greater ↦ z ] ≡ x
at_less x y z Less e = refl
at_less x y z Equal e = absurd (cc e)
at_less x y z Greater e = absurd (cc e)

at_greater : {A : Type 0} (x y z : A) (o : Ordering) → o ≡ Greater → elim o as (λ p. A) [ Less ↦ x | Equal ↦ y | Greater ↦ z ] ≡ z
at_greater x y z Less e = absurd (cc e)
at_greater x y z Equal e = absurd (cc e)
at_greater x y z Greater e = refl

-- two terms with one coefficient are gathered alike in either order
gathered_either : (a b : Var) (c : Rational) → var_cmp b a ≡ Less → gathered ((a, c) ∷ (b, c) ∷ []) ≡ gathered ((b, c) ∷ (a, c) ∷ [])
gathered_either a b c less =
    let both : List (Var × Rational) = (b, c) ∷ (a, c) ∷ [] in
    at_less both ((a, plus c c) ∷ []) ((a, c) ∷ (b, c) ∷ []) (var_cmp b a) less
    ∙ sym (at_greater ((a, c) ∷ (b, c) ∷ []) ((b, plus c c) ∷ []) both (var_cmp a b) (var_cmp_total.antisymm a b ∙ ap ordering_reverse less))

not_le : (a b : ℕ) → nat_le a b ≡ false → b < a
not_le a b fails =
    elim (cases_lt b a) [
      | inl less ↦ less
      | inr from ↦ absurd (let passes : nat_le a b ≡ true = le-leb a b from in cc)
    ]

exchanged_terms : (places : ℕ) (d : Data) (i : Index) → i.other < i.region → terms_of (terms_at places d (name_at 16 i)) ≡ terms_of (terms_at places d (name_at 16 (swapped i)))
exchanged_terms places d i less =
    gathered_either (trade i.region i.other i.slice i.fuel i.year) (trade i.other i.region i.slice i.fuel i.year) _
    (less_then i.other i.region _ less)

-- ---- the whole

pub triangular : (places : ℕ) (d : Data) (rows : List Row) → AreRowsOf places d (instances d) rows → AreTriangular rows
triangular places d rows are =
    let names = instances d in
    let instance : (i : ℕ) (name : RowName) → slice_get names i ≡ Some name → IsInstance d name =
    λ i name at. all-at (IsInstance d) names i name (all-instances d) at in
    let once : (i j : ℕ) (row other : Row) (v : Var) → IsAt rows i row → IsAt rows j other → Defines row v → Defines other v → i ≡ j =
    λ i j row other v at bt defines defines_too.
    let a = row-at places d names rows i row are at in
    let b = row-at places d names rows j other are bt in
    let same =
    same-definer d a.name b.name v (instance i a.name a.at) (instance j b.name b.at) (ap variable_of (sym a.is.written.named) ∙ defines) (ap variable_of (sym b.is.written.named) ∙ defines_too) in
    sorted-once names i j a.name (Sorted-instances d) a.at (b.at ∙ ap (λ n. Some n) (sym same)) in
    record {
      solvable = λ i row v at defines.
          let a = row-at places d names rows i row are at in
          let named : variable_of a.name ≡ Some v = ap variable_of (sym a.is.written.named) ∙ defines in
          (a.is.written.sense ∙ definer-equation places d a.name v (instance i a.name a.at) named, a.is.defines v named);
      backward = λ i j row later v w less at bt defines defines_later entry.
          let a = row-at places d names rows i row are at in
          let b = row-at places d names rows j later are bt in
          let named : variable_of a.name ≡ Some v = ap variable_of (sym a.is.written.named) ∙ defines in
          let named_later : variable_of b.name ≡ Some w = ap variable_of (sym b.is.written.named) ∙ defines_later in
          let of_b = instance j b.name b.at in
          let term = all-has (IsTermOf d a.name) (variables_of row.entries.items) w (of_entries places d a.name row (instance i a.name a.at) a.is) (Has-from_Contains (variables_of row.entries.items) w entry) in
          let once_more : v ≡ w → ⊥ =
          λ same. let position : i ≡ j = once i j row later v at bt defines (defines_later ∙ ap (λ u. Some u) (sym same)) in omega (arith, position, less) in
          elim (term.order v named) [
            | inl same ↦ once_more same
            | inr rest ↦
                elim rest [
                  | inl early ↦
                      let before : b.name.eq < a.name.eq = definer-before d b.name w a.name.eq of_b named_later early in
                      let from : a.name.eq ≤ b.name.eq = eq_le a.name b.name (sorted-at names i j a.name b.name (Sorted-instances d) less a.at b.at) in
                      omega (arith, before, from)
                  | inr other ↦
                      once_more
                      (other_trade a.name.index v w (ap (λ n. variable_of (name_at n a.name.index)) (sym other.0) ∙ named) other.1
                      (defined-trade d b.name w of_b named_later (ap (λ (u : Var). u.kind) other.1)))
                ]
          ];
      once = once;
      whole = λ v entry.
          let there = all-has (IsThere d) (entry_variables rows) v (all-there places d rows are) (Has-from_Contains (entry_variables rows) v entry) in
          elim (is-found d v there) [
            | inl chosen ↦ inl chosen
            | inr defined ↦
                let found = row-of places d names rows defined.name are (Has-instance d defined.name defined.instance) in
                inr (record { row = found.0; among = Contains-from_Has rows found.0 found.1.0; defines = ap variable_of found.1.1.written.named ∙ defined.defines })
          ];
      repeated = λ i row at equal none.
          let a = row-at places d names rows i row are at in
          let k = a.name.index in
          let of_a = instance i a.name a.at in
          let exchange = is-exchange places d a.name of_a (ap variable_of (sym a.is.written.named) ∙ none) (sym a.is.written.sense ∙ equal) in
          let within : is_index d (subscripts_of 16) k ≡ true = subst (λ n. is_index d (subscripts_of n) k ≡ true) exchange.0 of_a.within in
          let less : k.other < k.region = not_le k.region k.other exchange.1 in
          let other = name_at 16 (swapped k) in
          let found = row-of places d names rows other are (Has-instance d other (exchange-instance d k within)) in
          let number : terms_at places d a.name ≡ terms_at places d (name_at 16 k) = ap (λ n. terms_at places d (name_at n k)) exchange.0 in
          record {
            other = found.0;
            variable = trade k.region k.other k.slice k.fuel k.year;
            among = Contains-from_Has rows found.0 found.1.0;
            defines =
                ap variable_of found.1.1.written.named
                ∙ ap (λ b. cond b (Some (trade k.region k.other k.slice k.fuel k.year)) None) (le-leb k.other k.region (omega (arith, less)));
            entries =
                found.1.1.written.entries
                ∙ ap (λ terms. written_entries terms (right_of (terms_at places d other))) (sym (exchanged_terms places d k less))
                ∙ ap (λ e. written_entries (terms_of e) (right_of e)) (sym number)
                ∙ sym a.is.written.entries;
            right_side =
                found.1.1.written.right_side
                ∙ ap (λ terms. written_right terms (right_of (terms_at places d other))) (sym (exchanged_terms places d k less))
                ∙ ap (λ e. written_right (terms_of e) (right_of e)) (sym number)
                ∙ sym a.is.written.right_side;
          };
    }
