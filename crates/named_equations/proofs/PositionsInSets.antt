-- The subscripts that an equation has lie in their sets.
use Rattle.std.proofs.Common.{◌≡◌, ℕ, ◌<◌, Bool, true, ◌&&◌, List, nat_eq, nat_lt, ap, sym, ◌∙◌, subst, arith}
use Rattle.named_equations.proofs.Common.{if◌then◌else◌, Data, Index, is_index, is_one_of, is_value_at, subscripts_of, count_of}
use Rattle.model_sets.specs.Names as names
use Rattle.row_core.specs.Subscripts as place
use Rattle.row_core.proofs.AscendingLaws.{both_passed}

pub record AreInSets (d : Data) (subscripts : List ℕ) (i : Index) : Type 0 where
  pub region : is_one_of subscripts place.r ≡ true → i.region < count_of d names.region
  pub other : is_one_of subscripts place.rr ≡ true → i.other < count_of d names.region
  pub slice : is_one_of subscripts place.l ≡ true → i.slice < count_of d names.timeslice
  pub technology : is_one_of subscripts place.t ≡ true → i.tech < count_of d names.technology
  pub fuel : is_one_of subscripts place.f ≡ true → i.fuel < count_of d names.fuel
  pub emission : is_one_of subscripts place.e ≡ true → i.emission < count_of d names.emission
  pub mode : is_one_of subscripts place.m ≡ true → i.mode < count_of d names.mode
  pub year : is_one_of subscripts place.y ≡ true → i.year < count_of d names.year

in_set : (n i : ℕ) (has : Bool) → (if has then nat_lt i n else nat_eq i 0) ≡ true → has ≡ true → i < n
in_set n i has h has_it =
    let at : nat_lt i n ≡ true = sym (ap (λ b. if b then nat_lt i n else nat_eq i 0) has_it) ∙ h in grind (arith, at)

pub are_in_sets : (d : Data) (subscripts : List ℕ) (i : Index) → is_index d subscripts i ≡ true → AreInSets d subscripts i
are_in_sets d subscripts i h =
    let has : ℕ → Bool = λ place. is_one_of subscripts place in
    let r : Bool = is_value_at d subscripts place.r i.region in
    let rr : Bool = is_value_at d subscripts place.rr i.other in
    let l : Bool = is_value_at d subscripts place.l i.slice in
    let t : Bool = is_value_at d subscripts place.t i.tech in
    let f : Bool = is_value_at d subscripts place.f i.fuel in
    let e : Bool = is_value_at d subscripts place.e i.emission in
    let m : Bool = is_value_at d subscripts place.m i.mode in
    let y : Bool = is_value_at d subscripts place.y i.year in
    let p7 = both_passed ((((((r && rr) && l) && t) && f) && e) && m) y h in
    let p6 = both_passed (((((r && rr) && l) && t) && f) && e) m p7.0 in
    let p5 = both_passed ((((r && rr) && l) && t) && f) e p6.0 in
    let p4 = both_passed (((r && rr) && l) && t) f p5.0 in
    let p3 = both_passed ((r && rr) && l) t p4.0 in
    let p2 = both_passed (r && rr) l p3.0 in
    let p1 = both_passed r rr p2.0 in
    record {
      region = in_set (count_of d names.region) i.region (has place.r) p1.0;
      other = in_set (count_of d names.region) i.other (has place.rr) p1.1;
      slice = in_set (count_of d names.timeslice) i.slice (has place.l) p2.1;
      technology = in_set (count_of d names.technology) i.tech (has place.t) p3.1;
      fuel = in_set (count_of d names.fuel) i.fuel (has place.f) p4.1;
      emission = in_set (count_of d names.emission) i.emission (has place.e) p5.1;
      mode = in_set (count_of d names.mode) i.mode (has place.m) p6.1;
      year = in_set (count_of d names.year) i.year (has place.y) p7.1;
    }

-- the same for the equation of a number
pub of_number : (d : Data) (n m : ℕ) (i : Index) → n ≡ m → is_index d (subscripts_of n) i ≡ true → AreInSets d (subscripts_of m) i
of_number d n m i e h = are_in_sets d (subscripts_of m) i (subst (λ k. is_index d (subscripts_of k) i ≡ true) e h)
