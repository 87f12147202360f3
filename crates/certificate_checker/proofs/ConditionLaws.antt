-- Conditions that are looked at in turn, one by one and part by part.
use Rattle.certificate_checker.proofs.Common.{◌≡◌, ℕ, ◌+◌, ◌<◌, ◌≤◌, Bool, true, false, List, [], ◌∷◌, ◌++◌, length, map, drop, get_or, Option, Some, None, refl, sym, ap, ◌∙◌, subst, if◌then◌else◌, drop_more, at_drop_all, Step, first_wide, first_wide-append, first_wide-nil, Place, Halt, Condition, steps, first_failing, AllPass, FailsFor, IsWideAt, IsHalt, Reason}
use Rattle.std.specs.Option.{option_or}
use Rattle.certificate_checker.specs.declared.verdicts.Halt.TheVariants.{No, Width}

-- ---- lists of steps

wide_first : {A : Type 0} (a b : Option A) → a ≡ None → option_or a b ≡ b
wide_first None b h = refl
wide_first (Some x) b h = absurd (cc h)

wide_found : {A : Type 0} (a b : Option A) (x : A) → a ≡ Some x → option_or a b ≡ Some x
wide_found a b x h = ap (λ o. option_or o b) h

-- steps of which none is too wide leave what comes after
pub passed_over : (ss ts : List (Step Place)) → first_wide ss ≡ None → first_wide (ss ++ ts) ≡ first_wide ts
passed_over ss ts h = first_wide-append ss ts ∙ wide_first (first_wide ss) (first_wide ts) h

pub stopped_at : (ss ts : List (Step Place)) (place : Place) → first_wide ss ≡ Some place → first_wide (ss ++ ts) ≡ Some place
stopped_at ss ts place h = first_wide-append ss ts ∙ wide_found (first_wide ss) (first_wide ts) place h

none_of_both : {A : Type 0} (a b : Option A) → option_or a b ≡ None → a ≡ None
none_of_both None b h = refl
none_of_both (Some x) b h = h

pub none_before : (ss ts : List (Step Place)) → first_wide (ss ++ ts) ≡ None → first_wide ss ≡ None
none_before ss ts h = none_of_both (first_wide ss) (first_wide ts) (sym (first_wide-append ss ts) ∙ h)

none_after_it : {A : Type 0} (a b : Option A) → option_or a b ≡ None → b ≡ None
none_after_it None b h = h
none_after_it (Some x) b h = absurd (cc h)

pub none_after : (ss ts : List (Step Place)) → first_wide (ss ++ ts) ≡ None → first_wide ts ≡ None
none_after ss ts h = none_after_it (first_wide ss) (first_wide ts) (sym (first_wide-append ss ts) ∙ h)

without_more : {A : Type 0} (a : Option A) → option_or a None ≡ a
without_more None = refl
without_more (Some x) = refl

pub nothing_more : (ss : List (Step Place)) → first_wide (ss ++ []) ≡ first_wide ss
nothing_more ss = first_wide-append ss [] ∙ ap (option_or (first_wide ss)) first_wide-nil ∙ without_more (first_wide ss)

-- ---- conditions of which some have passed

-- what the conditions come to is what the rest of them comes to
pub record Continues (all rest : List Condition) : Type 0 where
  pub wide : first_wide (steps all) ≡ first_wide (steps rest)
  pub failing : first_failing all ≡ first_failing rest

pub Continues-itself : (cs : List Condition) → Continues cs cs
Continues-itself cs = record { wide = refl; failing = refl }

-- a condition holds, and what is computed to see it fits
pub record Passes (c : Condition) : Type 0 where
  pub fits : first_wide c.seen ≡ None
  pub is : c.holds ≡ true

pub passed-more : (c : Condition) (cs : List Condition) → Passes c → Continues (c ∷ cs) cs
passed-more c cs p = record {
  wide = ap (λ b. first_wide (c.seen ++ (if b then steps cs else c.amount))) p.is ∙ passed_over c.seen (steps cs) p.fits;
  failing = ap (λ b. if b then first_failing cs else Some c.reason) p.is;
}

pub Continues-trans : (all some rest : List Condition) → Continues all some → Continues some rest → Continues all rest
Continues-trans all some rest p q = record { wide = p.wide ∙ q.wide; failing = p.failing ∙ q.failing }

pub Continues-next : (all : List Condition) (c : Condition) (rest : List Condition) → Continues all (c ∷ rest) → Passes c → Continues all rest
Continues-next all c rest so_far passes = Continues-trans all (c ∷ rest) rest so_far (passed-more c rest passes)

pub Continues-done : (all : List Condition) → Continues all [] → AllPass all
Continues-done all h = record { fit = h.wide ∙ first_wide-nil; hold = h.failing }

-- ---- the first condition alone

pub Passes-from : (c : Condition) → AllPass (c ∷ []) → Passes c
Passes-from c h = cases c.holds refl h.fit h.hold
  where
    cases : (b : Bool) → c.holds ≡ b → first_wide (c.seen ++ (if b then [] else c.amount)) ≡ None → (if b then None else Some c.reason) ≡ None → Passes c
    cases true is fit hold = record { fits = none_before c.seen [] fit; is = is }
    cases false is fit hold = absurd (cc hold)

pub Passes-alone : (c : Condition) → Passes c → AllPass (c ∷ [])
Passes-alone c h = Continues-done (c ∷ []) (passed-more c [] h)

-- what stops at the first condition stops before the rest
fails_first : (c : Condition) (rest : List Condition) (reason : Reason) → FailsFor (c ∷ []) reason → FailsFor (c ∷ rest) reason
fails_first c rest reason h = cases c.holds refl h.fit h.fails
  where
    cases : (b : Bool) → c.holds ≡ b → first_wide (c.seen ++ (if b then [] else c.amount)) ≡ None → (if b then None else Some c.reason) ≡ Some reason → FailsFor (c ∷ rest) reason
    cases true is fit fails = absurd (cc fails)
    cases false is fit fails = record {
      fit = ap (λ b. first_wide (c.seen ++ (if b then steps rest else c.amount))) is ∙ fit;
      fails = ap (λ b. if b then first_failing rest else Some c.reason) is ∙ fails;
    }

wide_at_first : (c : Condition) (rest : List Condition) (place : Place) → IsWideAt (c ∷ []) place → IsWideAt (c ∷ rest) place
wide_at_first c rest place h = cases c.holds refl h
  where
    cases : (b : Bool) → c.holds ≡ b → first_wide (c.seen ++ (if b then [] else c.amount)) ≡ Some place → IsWideAt (c ∷ rest) place
    cases true is wide =
        ap (λ b. first_wide (c.seen ++ (if b then steps rest else c.amount))) is
        ∙ stopped_at c.seen (steps rest) place (sym (nothing_more c.seen) ∙ wide)
    cases false is wide = ap (λ b. first_wide (c.seen ++ (if b then steps rest else c.amount))) is ∙ wide

pub halts_first : (c : Condition) (rest : List Condition) (h : Halt) → IsHalt (c ∷ []) h → IsHalt (c ∷ rest) h
halts_first c rest (No rejection) h = fails_first c rest _ h
halts_first c rest (Width place) h = wide_at_first c rest place h

-- what stops the rest stops all
pub halts_all : (all rest : List Condition) (h : Halt) → Continues all rest → IsHalt rest h → IsHalt all h
halts_all all rest (No rejection) so_far h = record { fit = so_far.wide ∙ h.fit; fails = so_far.failing ∙ h.fails }
halts_all all rest (Width place) so_far h = so_far.wide ∙ h

pub passes_all : (all rest : List Condition) → Continues all rest → AllPass rest → AllPass all
passes_all all rest so_far h = record { fit = so_far.wide ∙ h.fit; hold = so_far.failing ∙ h.hold }

-- ---- one list of conditions after another

-- after conditions that all pass the others are left
pub passed_first : (cs ds : List Condition) → AllPass cs → Continues (cs ++ ds) ds
passed_first [] ds h = Continues-itself ds
passed_first (c ∷ cs) ds h = cases (λ all. passed_first cs ds all) c.holds refl h.fit h.hold
  where
    cases : (AllPass cs → Continues (cs ++ ds) ds) → (b : Bool) → c.holds ≡ b → first_wide (c.seen ++ (if b then steps cs else c.amount)) ≡ None → (if b then first_failing cs else Some c.reason) ≡ None → Continues (c ∷ (cs ++ ds)) ds
    cases later true is fit hold =
        Continues-trans (c ∷ (cs ++ ds)) (cs ++ ds) ds
        (passed-more c (cs ++ ds) (record { fits = none_before c.seen (steps cs) fit; is = is }))
        (later (record { fit = none_after c.seen (steps cs) fit; hold = hold }))
    cases later false is fit hold = absurd (cc hold)

-- what stops conditions stops them with others after them
pub fails_before : (cs ds : List Condition) (reason : Reason) → first_failing cs ≡ Some reason → (steps (cs ++ ds) ≡ steps cs) × (first_failing (cs ++ ds) ≡ Some reason)
fails_before [] ds reason h = absurd (cc h)
fails_before (c ∷ cs) ds reason h = cases c.holds (fails_before cs ds reason) h
  where
    cases : (b : Bool) → (first_failing cs ≡ Some reason → (steps (cs ++ ds) ≡ steps cs) × (first_failing (cs ++ ds) ≡ Some reason))
        → (if b then first_failing cs else Some c.reason) ≡ Some reason
        → (c.seen ++ (if b then steps (cs ++ ds) else c.amount) ≡ c.seen ++ (if b then steps cs else c.amount)) × ((if b then first_failing (cs ++ ds) else Some c.reason) ≡ Some reason)
    cases true later h = (ap (λ ss. c.seen ++ ss) (later h).0, (later h).1)
    cases false later h = (refl, h)

pub wide_before : (cs ds : List Condition) (place : Place) → first_wide (steps cs) ≡ Some place → first_wide (steps (cs ++ ds)) ≡ Some place
wide_before [] ds place h = absurd (nothing_wide h)
  where
    nothing_wide : first_wide {P = Place} [] ≡ Some place → ⊥
    nothing_wide h = let e : None ≡ Some place = sym first_wide-nil ∙ h in cc
wide_before (c ∷ cs) ds place h = cases c.holds (wide_before cs ds place) h
  where
    found : (o : Option Place) → first_wide c.seen ≡ o → (first_wide (steps cs) ≡ Some place → first_wide (steps (cs ++ ds)) ≡ Some place)
        → first_wide (c.seen ++ steps cs) ≡ Some place → first_wide (c.seen ++ steps (cs ++ ds)) ≡ Some place
    found None is later h = passed_over c.seen (steps (cs ++ ds)) is ∙ later (sym (passed_over c.seen (steps cs) is) ∙ h)
    found (Some at) is later h = stopped_at c.seen (steps (cs ++ ds)) place (is ∙ sym (stopped_at c.seen (steps cs) at is) ∙ h)

    cases : (b : Bool) → (first_wide (steps cs) ≡ Some place → first_wide (steps (cs ++ ds)) ≡ Some place)
        → first_wide (c.seen ++ (if b then steps cs else c.amount)) ≡ Some place
        → first_wide (c.seen ++ (if b then steps (cs ++ ds) else c.amount)) ≡ Some place
    cases true later h = found (first_wide c.seen) refl later h
    cases false later h = h

pub halts_before : (cs ds : List Condition) (h : Halt) → IsHalt cs h → IsHalt (cs ++ ds) h
halts_before cs ds (No rejection) h =
    let both = fails_before cs ds _ h.fails in
    record { fit = ap first_wide both.0 ∙ h.fit; fails = both.1 }
halts_before cs ds (Width place) h = wide_before cs ds place h

-- ---- conditions on the elements of a list, one after another

left_over : {A : Type 0} (condition : A → Condition) (xs : List A) (i : ℕ) (d x : A) → i < length xs → x ≡ get_or xs i d → map condition (drop i xs) ≡ condition x ∷ map condition (drop (i + 1) xs)
left_over condition xs i d x h is = ap (map condition) (drop_more xs i d h) ∙ ap (λ y. condition y ∷ map condition (drop (i + 1) xs)) (sym is)

pub loop_next : {A : Type 0} (condition : A → Condition) (all : List Condition) (xs : List A) (i : ℕ) (d x : A) → i < length xs → x ≡ get_or xs i d
    → Continues all (map condition (drop i xs)) → Passes (condition x) → Continues all (map condition (drop (i + 1) xs))
loop_next condition all xs i d x h is so_far passes =
    Continues-next all (condition x) (map condition (drop (i + 1) xs)) (subst (Continues all) (left_over condition xs i d x h is) so_far) passes

pub loop_halts : {A : Type 0} (condition : A → Condition) (all : List Condition) (xs : List A) (i : ℕ) (d x : A) (halt : Halt) → i < length xs → x ≡ get_or xs i d
    → Continues all (map condition (drop i xs)) → IsHalt (condition x ∷ []) halt → IsHalt all halt
loop_halts condition all xs i d x halt h is so_far halts =
    halts_all all (condition x ∷ map condition (drop (i + 1) xs)) halt (subst (Continues all) (left_over condition xs i d x h is) so_far)
    (halts_first (condition x) (map condition (drop (i + 1) xs)) halt halts)

pub loop_done : {A : Type 0} (condition : A → Condition) (all : List Condition) (xs : List A) (i : ℕ) → length xs ≤ i → Continues all (map condition (drop i xs)) → AllPass all
loop_done condition all xs i h so_far =
    Continues-done all (subst (Continues all) (at_drop_all (map condition) xs i h) so_far)

-- ---- three lists of conditions one after another

module _ (first second third : List Condition) where
  abbrev all_three : List Condition
  all_three = first ++ (second ++ third)

  pub halts_in_first : (h : Halt) → IsHalt first h → IsHalt all_three h
  halts_in_first h halts = halts_before first (second ++ third) h halts

  pub halts_in_second : (h : Halt) → AllPass first → IsHalt second h → IsHalt all_three h
  halts_in_second h passed halts =
      halts_all all_three (second ++ third) h (passed_first first (second ++ third) passed) (halts_before second third h halts)

  both_passed_first : AllPass first → AllPass second → Continues all_three third
  both_passed_first passed passed' =
      Continues-trans all_three (second ++ third) third (passed_first first (second ++ third) passed) (passed_first second third passed')

  pub halts_in_third : (h : Halt) → AllPass first → AllPass second → IsHalt third h → IsHalt all_three h
  halts_in_third h passed passed' halts = halts_all all_three third h (both_passed_first passed passed') halts

  pub pass_all_three : AllPass first → AllPass second → AllPass third → AllPass all_three
  pass_all_three passed passed' last = passes_all all_three third (both_passed_first passed passed') last
