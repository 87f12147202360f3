-- Entries that are rearranged, with those of each variable in their order.
use Rattle.mps_writer.proofs.Common.{◌≡◌, ℕ, List, [], ◌∷◌, ◌++◌, Bool, true, false, not, ◌&&◌, cond, length, take, refl, ap, ap₂, sym, ◌∙◌, subst, Ordering, Less, Equal, Greater, filter, is_lt, nat_cmp, ordering_reverse, filter-append, IsPermutation-append, IsPermutation-refl, IsPermutation-trans, length_permutation, take-append_seam, Entry, AreSorted, IsRearranged, is_of}
use Rattle.std.specs.List.Sorted.{IsPermutation, IsStableByKey, ties}
use Rattle.std.specs.Prelude.{pos}
use Rattle.std.proofs.lemmas.Cmp.{nat_cmp_total}
use Rattle.row_core.specs.SortKeys.{sort_key}
use Rattle.mps_writer.proofs.SameVariables.{same-is}

-- left as they are
pub rearranged-same : (entries : List Entry) → IsRearranged entries entries
rearranged-same entries = record { same = IsPermutation-refl entries; stable = λ v. refl }

-- part by part
pub rearranged-parts : (whole first others first_new others_new : List Entry) → whole ≡ first ++ others → IsRearranged first first_new → IsRearranged others others_new
    → IsRearranged whole (first_new ++ others_new)
rearranged-parts whole first others first_new others_new is a b =
    subst (λ (es : List Entry). IsRearranged es (first_new ++ others_new)) (sym is)
    record {
      same = IsPermutation-append first first_new others others_new a.same b.same;
      stable = λ v.
          filter-append (is_of v) first_new others_new
          ∙ ap₂ (λ (xs ys : List Entry). xs ++ ys) (a.stable v) (b.stable v)
          ∙ sym (filter-append (is_of v) first others);
    }

-- a list of them that is put back into its place
pub put-back : (entries others rest : List Entry) (n : ℕ) → length entries ≡ n → IsRearranged entries others → take n (others ++ rest) ≡ others
put-back entries others rest n long rearranged =
    ap (λ (i : ℕ). take i (others ++ rest)) (sym (length_permutation entries others rearranged.same ∙ long)) ∙ take-append_seam others rest

-- sorted after that
pub sorted-rearranged : (entries others sorted : List Entry) → IsRearranged entries others → AreSorted others sorted → AreSorted entries sorted
sorted-rearranged entries others sorted rearranged are = record {
  same = IsPermutation-trans entries others sorted rearranged.same are.same;
  rising = are.rising;
  stable = λ v. are.stable v ∙ rearranged.stable v;
}

-- ---- sorted by a number of the variable

-- the number of an entry
abbrev pub key_of_entry : Entry → ℕ
key_of_entry e = sort_key e.variable

-- where the second test holds wherever the first does, it leaves out none that the first keeps
kept-twice : (p q : Entry → Bool) → ((e : Entry) → p e ≡ true → q e ≡ true) → (es : List Entry) → filter p (filter q es) ≡ filter p es
kept-twice p q both [] = refl
kept-twice p q both (e ∷ es) = by_test (p e) (q e) refl refl (kept-twice p q both es)
  where
    by_test : (a b : Bool) → p e ≡ a → q e ≡ b → filter p (filter q es) ≡ filter p es
        → filter p (cond b (e ∷ filter q es) (filter q es)) ≡ cond a (e ∷ filter p es) (filter p es)
    by_test a true is there rest = ap₂ (λ c more. cond c (e ∷ more) more) is rest
    by_test true false is there rest = absurd (let holds : q e ≡ true = both e is in cc)
    by_test false false is there rest = rest

-- equal numbers tie
tie-by : (o : Ordering) → o ≡ ordering_reverse o → (not (is_lt o) && not (is_lt o)) ≡ true
tie-by Less e = absurd (cc e)
tie-by Equal e = refl
tie-by Greater e = absurd (cc e)

tie-numbers : (i j : ℕ) → i ≡ j → (not (is_lt (nat_cmp i j)) && not (is_lt (nat_cmp j i))) ≡ true
tie-numbers i j same =
    subst (λ (k : ℕ). (not (is_lt (nat_cmp i k)) && not (is_lt (nat_cmp k i))) ≡ true) same
    (tie-by (nat_cmp i i) (nat_cmp_total.antisymm i i))

-- a stable sort by the number keeps those of each variable in their order, whatever the number says
pub rearranged-by_key : (entries sorted : List Entry) → IsPermutation entries sorted → IsStableByKey key_of_entry nat_cmp entries sorted → IsRearranged entries sorted
rearranged-by_key entries sorted same stable = record {
  same = same;
  stable = λ v.
      let at_v : Entry = record { variable = v; row = 0; number = pos 0 } in
      let lt = λ (x y : Entry). is_lt (nat_cmp (key_of_entry x) (key_of_entry y)) in
      let holds : (e : Entry) → is_of v e ≡ true → ties lt at_v e ≡ true =
      λ e is. tie-numbers (sort_key v) (sort_key e.variable) (ap sort_key (sym (same-is e.variable v is))) in
      sym (kept-twice (is_of v) (ties lt at_v) holds sorted) ∙ ap (filter (is_of v)) (stable at_v) ∙ kept-twice (is_of v) (ties lt at_v) holds entries;
}
