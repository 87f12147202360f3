-- The words ask for written factors of 6 or 9 decimal places, and for made files of sizes from 3 to 122.
use Rattle.command_words.proofs.Common.{◌≡◌, IfOk, ℕ, ℤ, inl, inr, List, [], ◌∷◌, Option, Some, None, Result, Ok, Err, Bool, true, false, cond, ◌&&◌, is_some, not, refl, ap, subst, nat_le, length, ◌≤◌, option_map, codes, slice_get, unwrap_or, IfSome, ⊤, is_ascii_digit, list_all, option_and_then, bytes_eq, digits_value, leb-true, WordFault, BadCommand, BadNumber, BadShow, GapAlone, Given, asks_for_rounded, form_in, given_by, is_command_in, AreLimits, limits_of, Question, Request, Check, Solve, SolveFrom, Explain, Curve, Span, Make, Compare, asked, command_by, command_with, made, numbers_of, or_fault, text_of, with_changes, word_at, parts_of}
use Rattle.discount_factors.specs.Factors.{IsPlaces}
use Rattle.command_words.specs.declared.forms.FormName.{FormName}
use Rattle.command_words.specs.declared.forms.FormName.TheVariants as forms
use Rattle.command_words.specs.declared.values.Numbers.{Numbers}
use Rattle.command_words.specs.declared.command.MakeShow.{MakeShow}
use Rattle.command_words.specs.declared.command.SolveShow.{SolveShow}
use Rattle.command_words.specs.declared.command.SolveMethod.{SolveMethod}
use Rattle.command_words.specs.Forms as table
use Rattle.command_words.specs.Ranges.{IsInRange}
use Rattle.command_words.proofs.LimitLaws.{are_limits}
use Rattle.command_words.specs.WordValues.{compare_show_of, make_show_of, method_of, number_or, places_of, size_of, solve_show_of}
use Rattle.command_words.specs.Words.{asked_gap, usual_gap, usual_pivots}

-- the size of a made file
abbrev IsSize : ℕ → Type 0
IsSize size = (3 ≤ size) × (size ≤ 122)

-- the question is in range, where there is one
abbrev AreInRange : Result Question WordFault → Type 0
AreInRange (Ok question) = IsInRange question
AreInRange (Err fault) = ⊤

-- the decimal places that numbers of options have
numbers_places : (name : FormName) (given : Given) (numbers : Numbers) → numbers_of name given ≡ Some numbers → IsPlaces numbers.places
numbers_places name given numbers e = go (number_or (usual_gap name given) (given.value (codes "gap"))) (number_or (usual_pivots given) (given.value (codes "pivots"))) (places_of (given.value (codes "places"))) (number_or 0 (given.value (codes "slack"))) (one (given.value (codes "places"))) e
  where
    one : (value : Option (List ℕ)) → IfSome (places_of value) IsPlaces
    one None = inl refl
    one (Some text) = by (bytes_eq (codes "6") text) (bytes_eq (codes "9") text)
      where
        by : (six nine : Bool) → IfSome (option_map (λ (entry : List ℕ × ℕ). entry.1) (cond six (Some (codes "6", 6)) (cond nine (Some (codes "9", 9)) None))) IsPlaces
        by true nine = inl refl
        by false true = inr refl
        by false false = tt

    go : (gap pivots places slack : Option ℕ) → IfSome places IsPlaces
        → option_and_then (λ g. option_and_then (λ v. option_and_then (λ p. option_map (λ s. record { gap = g; pivots = v; places = p; slack = s }) slack) places) pivots) gap ≡ Some numbers → IsPlaces numbers.places
    go (Some g) (Some v) (Some p) (Some s) is e = let same : p ≡ numbers.places = ap (λ o. unwrap_or (option_map (λ (n : Numbers). n.places) o) p) e in subst IsPlaces same is
    go None pivots places slack is e = absurd cc
    go (Some g) None places slack is e = absurd cc
    go (Some g) (Some v) None slack is e = absurd cc
    go (Some g) (Some v) (Some p) None is e = absurd cc

-- what a size is
size_is : (text : List ℕ) (size : ℕ) → size_of text ≡ Some size → IsSize size
size_is text size e = go (nat_le 1 (length text) && nat_le (length text) 3 && list_all is_ascii_digit text) (nat_le 3 n) (nat_le n 122) refl refl e
  where
    n : ℕ
    n = digits_value 10 text

    go : (digits least most : Bool) → nat_le 3 n ≡ least → nat_le n 122 ≡ most → cond (digits && least && most) (Some n) None ≡ Some size → IsSize size
    go true true true low high e = let same : n ≡ size = cc in subst IsSize same (leb-true 3 n low, leb-true n 122 high)
    go true true false low high e = absurd cc
    go true false most low high e = absurd cc
    go false least most low high e = absurd cc

-- what is made of each value that there may be is in range
or_fault_in : {A : Type 0} (fault : WordFault) (found : Option A) (make : A → Result Question WordFault) → ((value : A) → found ≡ Some value → AreInRange (make value)) → AreInRange (or_fault fault found make)
or_fault_in fault None make all = tt
or_fault_in fault (Some value) make all = all value refl

made_in : (name : FormName) (given : Given) (numbers : Numbers) → IsPlaces numbers.places → AreInRange (made name given numbers)
made_in forms.Mps given numbers places = places
made_in forms.Check given numbers places = go (is_some (given.value (codes "gap")) && not (is_some (slice_get given.words 2)))
  where
    go : (alone : Bool) → AreInRange (cond alone (Err GapAlone) (Ok (Check (word_at given 0) (word_at given 1) (slice_get given.words 2) numbers.gap numbers.places)))
    go true = tt
    go false = places
made_in forms.CheckProof given numbers places = places
made_in forms.Solve given numbers places = go (solve_show_of (given.value (codes "show"))) (method_of (given.value (codes "method")))
  where
    go : (shown : Option SolveShow) (way : Option SolveMethod) → AreInRange (or_fault BadShow shown (λ s. or_fault BadShow way (λ w. Ok (Solve (word_at given 0) numbers.gap numbers.pivots numbers.places s w))))
    go None way = tt
    go (Some s) None = tt
    go (Some s) (Some w) = places
made_in forms.SolveFrom given numbers places =
    or_fault_in BadShow (solve_show_of (given.value (codes "show"))) (λ show. Ok (SolveFrom (word_at given 0) (text_of given (codes "start")) numbers.gap numbers.pivots numbers.places show)) (λ show _. places)
made_in forms.Explain given numbers places =
    or_fault_in BadShow (method_of (given.value (codes "method"))) (λ method. Ok (Explain (word_at given 0) numbers.pivots numbers.places method)) (λ method _. places)
made_in forms.Curve given numbers places = go (limits_of (word_at given 3)) (method_of (given.value (codes "method"))) (are_limits (word_at given 3))
  where
    go : (read : Option (List ℤ)) (way : Option SolveMethod) → IfSome read AreLimits
        → AreInRange (or_fault BadNumber read (λ l. or_fault BadShow way (λ w. Ok (Curve (word_at given 0) (word_at given 1) (word_at given 2) l numbers.gap numbers.pivots numbers.places w))))
    go None way kept = tt
    go (Some l) None kept = tt
    go (Some l) (Some w) kept = (places, kept)
made_in forms.Span given numbers places =
    or_fault_in BadShow (method_of (given.value (codes "method")))
    (λ method. Ok (Span (word_at given 0) (word_at given 1) (word_at given 2) (word_at given 3) numbers.slack (asked_gap given numbers) numbers.pivots numbers.places method)) (λ method _. places)
made_in forms.Make given numbers places = go (size_of (word_at given 0)) (make_show_of (given.value (codes "show"))) (size_is (word_at given 0))
  where
    go : (found : Option ℕ) (shown : Option MakeShow) → ((size : ℕ) → found ≡ Some size → IsSize size) → AreInRange (or_fault BadNumber found (λ n. or_fault BadShow shown (λ s. Ok (Make n s))))
    go None shown kept = tt
    go (Some n) None kept = tt
    go (Some n) (Some s) kept = kept n refl
made_in forms.Table given numbers places = places
made_in forms.Page given numbers places = places
made_in forms.Warn given numbers places = tt
made_in forms.Compare given numbers places =
    or_fault_in BadShow (compare_show_of (given.value (codes "show")))
    (λ show. Ok (Compare (word_at given 0) (word_at given 1) (word_at given 2) (word_at given 3) numbers.gap numbers.places show)) (λ show _. places)
made_in forms.Reduce given numbers places = places

asked_for : (words : List (List ℕ)) → IfOk (asked words) (λ request. IsInRange request.question)
asked_for [] = tt
asked_for (first ∷ words) = go (is_command_in table.forms first) (given_by (parts_of words))
  where
    by_form : (name : Option FormName) (given : Given) → AreInRange (command_by name given)
    by_form None given = tt
    by_form (Some name) given = or_fault_in BadNumber (numbers_of name given) (made name given) (λ numbers is. made_in name given numbers (numbers_places name given numbers is))

    kept : (given : Given) (answer : Result Question WordFault) → AreInRange answer → IfOk (with_changes given answer) (λ request. IsInRange request.question)
    kept given (Ok question) is = is
    kept given (Err fault) is = tt

    go : (b : Bool) (found : Option Given) → IfOk (cond b (command_with first found) (Err BadCommand)) (λ request. IsInRange request.question)
    go true None = tt
    go true (Some given) = kept given (command_by (form_in table.forms first given) given) (by_form (form_in table.forms first given) given)
    go false found = tt

pub in_range : (words : List (List ℕ)) (request : Request) → asked words ≡ Ok request → IsInRange request.question
in_range words request is = subst (λ answer. IfOk answer (λ request. IsInRange request.question)) is (asked_for words)
