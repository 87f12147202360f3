-- The number with which the machine stops at a token is the one that the token carries, and no other.
use Rattle.mathprog_data.proofs.Common.{◌≡◌, ℕ, ◌⊎◌, inl, inr, nat_eq, Bool, true, false, ◌||◌, List, sym, refl, ap, ap₂, ◌∙◌, subst, eqb-true, unexpected, unknown_name, wrong_slice, row_too_short, bad_number, tabbing, Placed, Seen, Open, Turn, Stop, turn, BeginsLoose, IsRefused, Carries, IsUnknownName, IsWrongSlice, IsRowTooShort, IsBadNumber, IsTabbing}
use Rattle.mathprog_data.proofs.CouldStand.{could-on}
use Rattle.mathprog_data.proofs.Endings.{sane-walk}
use Rattle.mathprog_data.proofs.FaultTables.{agreed}
use Rattle.mathprog_data.proofs.FaultTests.{goes_on, on, tests, unknown_test, wrong_test, short_test, bad_test, tabbing_test, expected, Agrees}
use Rattle.mathprog_data.proofs.SaneSound.{sane-sound}
use Rattle.mathprog_data.proofs.StatementFaultLaws.{Beyond, Lacking, or-either, test-unknown, unknown-test, test-wrong, wrong-test, test-short, short-test, test-bad, bad-test, test-tabbing, tabbing-test}
use Rattle.mathprog_data.proofs.TokensSeen.{seen}
use Rattle.mathprog_data.proofs.TurnLaws.{Holds, stop, goes, emits, holds, is_fault}
use Rattle.mathprog_data.specs.StatementFaults as faults

-- ---- the tests at a stop
-- each test holds exactly where the number is that of its fault
pub record Tested (o : Open) (t : Placed) (k : ℕ) : Type 0 where
  pub unknown : unknown_test o (seen t) t.at ≡ nat_eq k unknown_name
  pub wrong : wrong_test o (seen t) t.at ≡ nat_eq k wrong_slice
  pub short : short_test o (seen t) t.at ≡ nat_eq k row_too_short
  pub bad : bad_test o (seen t) t.at ≡ nat_eq k bad_number
  pub second : tabbing_test o (seen t) t.at ≡ nat_eq k tabbing
  pub fault : is_fault k ≡ true

tested-by : (o : Open) (t : Placed) (k : ℕ) → tests o (seen t) t.at ≡ expected k → is_fault k ≡ true → Tested o t k
tested-by o t k e f = record { unknown = cc; wrong = cc; short = cc; bad = cc; second = cc; fault = f }

fault-of : {o : Open} {x : Seen} {turned : Turn} {k : ℕ} → Holds o x turned → turned ≡ Stop k → is_fault k ≡ true
fault-of (stop {k = j} f) e = let same = stop-is e in subst (λ z. is_fault z ≡ true) same f
  where
    stop-is : {a b : ℕ} → Stop a ≡ Stop b → a ≡ b
    stop-is h = cc
fault-of (goes m) e = cc
fault-of (emits m) e = cc

pub tested : {front : List Placed} {o : Open} → Beyond front o → (t : Placed) (k : ℕ) → turn o (seen t) t.at ≡ Stop k → Tested o t k
tested {o = o} b t k e =
    let P : Turn → Type 0 = λ x. Agrees x (tests o (seen t) t.at) in
    let a = subst P e (agreed o (sane-sound o (sane-walk b.walk tt)) (seen t) t.at) in
    tested-by o t k a (fault-of (holds o (seen t) t.at) e)

-- ---- a stop is carried
stopped-refused : {front : List Placed} {o : Open} → Beyond front o → (t : Placed) (k : ℕ) → turn o (seen t) t.at ≡ Stop k → IsRefused front t
stopped-refused {o = o} b t k e c =
    let could = could-on t b.walk c in
    let cannot : on o (seen t) t.at ≡ false = ap goes_on e in
    cc

-- what is the number: one of these, or that of no fault of its own
carried-other : {front : List Placed} {o : Open} → Beyond front o → (t : Placed) → Lacking front o t.at → (k : ℕ) → Tested o t k → IsRefused front t → nat_eq k unexpected ≡ true → Carries front t k
carried-other {front = front} {o = o} b t lacking k x refused e =
    let is : k ≡ unexpected = eqb-true k unexpected e in
    subst (λ z. Carries front t z) (sym is) (faults.Carries.no_other refused
    (λ f. none (unknown-test b t f) x.unknown (ap (λ z. nat_eq z unknown_name) is))
    (λ f. none (wrong-test b t lacking f) x.wrong (ap (λ z. nat_eq z wrong_slice) is))
    (λ f. none (short-test b t f) x.short (ap (λ z. nat_eq z row_too_short) is))
    (λ f. none (bad-test b t f) x.bad (ap (λ z. nat_eq z bad_number) is))
    (λ f. none (tabbing-test b t f) x.second (ap (λ z. nat_eq z tabbing) is)))
  where
    none : {p q : Bool} → p ≡ true → p ≡ q → q ≡ false → ⊥
    none a c d = cc

pub carried : {front : List Placed} {o : Open} → Beyond front o → (t : Placed) → Lacking front o t.at → (k : ℕ) → turn o (seen t) t.at ≡ Stop k → Carries front t k
carried {front = front} {o = o} b t lacking k e = by_first (or-either (nat_eq k unexpected) (nat_eq k unknown_name || (nat_eq k wrong_slice || (nat_eq k row_too_short || (nat_eq k bad_number || nat_eq k tabbing)))) x.fault)
  where
    x : Tested o t k
    x = tested b t k e

    refused : IsRefused front t
    refused = stopped-refused b t k e

    by_fifth : (nat_eq k bad_number ≡ true) ⊎ (nat_eq k tabbing ≡ true) → Carries front t k
    by_fifth (inl h) = subst (λ z. Carries front t z) (sym (eqb-true k bad_number h)) (faults.Carries.a_bad_number refused (test-bad b t (seen t) refl (x.bad ∙ h)))
    by_fifth (inr h) = subst (λ z. Carries front t z) (sym (eqb-true k tabbing h)) (faults.Carries.a_second_name refused (test-tabbing b t (seen t) refl (x.second ∙ h)))

    by_fourth : (nat_eq k row_too_short ≡ true) ⊎ ((nat_eq k bad_number || nat_eq k tabbing) ≡ true) → Carries front t k
    by_fourth (inl h) = subst (λ z. Carries front t z) (sym (eqb-true k row_too_short h)) (faults.Carries.a_short_row refused (test-short b t (seen t) refl (x.short ∙ h)))
    by_fourth (inr h) = by_fifth (or-either (nat_eq k bad_number) (nat_eq k tabbing) h)

    by_third : (nat_eq k wrong_slice ≡ true) ⊎ ((nat_eq k row_too_short || (nat_eq k bad_number || nat_eq k tabbing)) ≡ true) → Carries front t k
    by_third (inl h) = subst (λ z. Carries front t z) (sym (eqb-true k wrong_slice h)) (faults.Carries.a_wrong_slice refused (test-wrong b t lacking (seen t) refl (x.wrong ∙ h)))
    by_third (inr h) = by_fourth (or-either (nat_eq k row_too_short) (nat_eq k bad_number || nat_eq k tabbing) h)

    by_second : (nat_eq k unknown_name ≡ true) ⊎ ((nat_eq k wrong_slice || (nat_eq k row_too_short || (nat_eq k bad_number || nat_eq k tabbing))) ≡ true) → Carries front t k
    by_second (inl h) = subst (λ z. Carries front t z) (sym (eqb-true k unknown_name h)) (faults.Carries.an_unknown_name refused (test-unknown b t (seen t) refl (x.unknown ∙ h)))
    by_second (inr h) = by_third (or-either (nat_eq k wrong_slice) (nat_eq k row_too_short || (nat_eq k bad_number || nat_eq k tabbing)) h)

    by_first : (nat_eq k unexpected ≡ true) ⊎ ((nat_eq k unknown_name || (nat_eq k wrong_slice || (nat_eq k row_too_short || (nat_eq k bad_number || nat_eq k tabbing)))) ≡ true) → Carries front t k
    by_first (inl h) = carried-other b t lacking k x refused h
    by_first (inr h) = by_second (or-either (nat_eq k unknown_name) (nat_eq k wrong_slice || (nat_eq k row_too_short || (nat_eq k bad_number || nat_eq k tabbing))) h)

-- ---- and no other
false-of : (q : Bool) → (q ≡ true → ⊥) → q ≡ false
false-of true h = absurd (h refl)
false-of false h = refl

only-unexpected : (k : ℕ) (a b c d e : Bool) → nat_eq k unknown_name ≡ a → nat_eq k wrong_slice ≡ b → nat_eq k row_too_short ≡ c → nat_eq k bad_number ≡ d → nat_eq k tabbing ≡ e → a ≡ false → b ≡ false → c ≡ false → d ≡ false → e ≡ false → is_fault k ≡ true → k ≡ unexpected
only-unexpected k a b c d e ua wb sc bd te na nb nc nd ne f =
    let rest : (nat_eq k unknown_name || (nat_eq k wrong_slice || (nat_eq k row_too_short || (nat_eq k bad_number || nat_eq k tabbing)))) ≡ false =
    ap₂ (λ x y. x || y) (ua ∙ na) (ap₂ (λ x y. x || y) (wb ∙ nb) (ap₂ (λ x y. x || y) (sc ∙ nc) (ap₂ (λ x y. x || y) (bd ∙ nd) (te ∙ ne)))) in
    eqb-true k unexpected (by (or-either (nat_eq k unexpected) (nat_eq k unknown_name || (nat_eq k wrong_slice || (nat_eq k row_too_short || (nat_eq k bad_number || nat_eq k tabbing)))) f) rest)
  where
    by : {p q : Bool} → (p ≡ true) ⊎ (q ≡ true) → q ≡ false → p ≡ true
    by (inl h) g = h
    by (inr h) g = cc

-- no name is given twice where the token is refused
pub carries-stop : {front : List Placed} {o : Open} → Beyond front o → (t : Placed) → Lacking front o t.at → (k m : ℕ) → turn o (seen t) t.at ≡ Stop k → Carries front t m → m ≡ k
carries-stop b t lacking k m e (faults.Carries.a_second_statement c twice) = absurd (stopped-refused b t k e c)
carries-stop b t lacking k m e (faults.Carries.an_unknown_name r f) = let x = tested b t k e in sym (eqb-true k unknown_name (sym x.unknown ∙ unknown-test b t f))
carries-stop b t lacking k m e (faults.Carries.a_wrong_slice r f) = let x = tested b t k e in sym (eqb-true k wrong_slice (sym x.wrong ∙ wrong-test b t lacking f))
carries-stop b t lacking k m e (faults.Carries.a_short_row r f) = let x = tested b t k e in sym (eqb-true k row_too_short (sym x.short ∙ short-test b t f))
carries-stop b t lacking k m e (faults.Carries.a_bad_number r f) = let x = tested b t k e in sym (eqb-true k bad_number (sym x.bad ∙ bad-test b t f))
carries-stop b t lacking k m e (faults.Carries.a_second_name r f) = let x = tested b t k e in sym (eqb-true k tabbing (sym x.second ∙ tabbing-test b t f))
carries-stop {o = o} b t lacking k m e (faults.Carries.no_other r u w s n g) =
    let x = tested b t k e in
    sym (only-unexpected k (unknown_test o (seen t) t.at) (wrong_test o (seen t) t.at) (short_test o (seen t) t.at) (bad_test o (seen t) t.at) (tabbing_test o (seen t) t.at)
    (sym x.unknown) (sym x.wrong) (sym x.short) (sym x.bad) (sym x.second)
    (false-of (unknown_test o (seen t) t.at) (λ h. u (test-unknown b t (seen t) refl h)))
    (false-of (wrong_test o (seen t) t.at) (λ h. w (test-wrong b t lacking (seen t) refl h)))
    (false-of (short_test o (seen t) t.at) (λ h. s (test-short b t (seen t) refl h)))
    (false-of (bad_test o (seen t) t.at) (λ h. n (test-bad b t (seen t) refl h)))
    (false-of (tabbing_test o (seen t) t.at) (λ h. g (test-tabbing b t (seen t) refl h)))
    x.fault)
