-- What the machine over a list says is what the list is: its blocks, that more is to come, or its fault; one of them, and one alone.
use Rattle.mathprog_data.proofs.Common.{◌≡◌, ℕ, ◌↔◌, Bool, true, false, ◌&&◌, not, List, [], ◌∷◌, ◌++◌, Result, Ok, Err, sym, refl, ap, ap₂, ◌∙◌, subst, Mark, given_twice, Placed, Open, Fresh, Event, Turn, Stop, Go, Emit, Draft, empty_draft, drafted, Reader, turn, is_second, beginning, may_end, Blocks, Means, BeginsLoose, IsGood, Carries, FaultIn, EndsTooSoon}
use Rattle.mathprog_data.proofs.CouldStand.{by_emit, one_more}
use Rattle.mathprog_data.proofs.FaultsCarried.{carried, carries-stop}
use Rattle.mathprog_data.proofs.GoodLists.{way-loose, good-goes, goes-good, EndsWith, means-ends, ends-means}
use Rattle.mathprog_data.proofs.LastStatement.{lacks-is, is-lacks}
use Rattle.mathprog_data.proofs.NamesOnce.{new-names}
use Rattle.mathprog_data.proofs.RunLaws.{noted_all, are_new, are_new-append, went, Halts, stops, twice, halted, run-halts}
use Rattle.mathprog_data.proofs.StatementFaultLaws.{Beyond, Lacking}
use Rattle.mathprog_data.proofs.TokensSeen.{seen}
use Rattle.mathprog_data.proofs.WalkLaws.{Reached, reached, Walks, joined}
use Rattle.mathprog_data.proofs.Walks.{done, go, emit}
use Rattle.mathprog_data.specs.MachineRuns.{Stopped, run}
use Rattle.mathprog_data.specs.StatementFaults as faults

-- the state after tokens knows whether they lack subscripts
lacking-of : {front : List Placed} {o : Open} (at : Mark) → Beyond front o → Lacking front o at
lacking-of at b = record { known = λ l. is-lacks b.walk l; shown = λ h l. lacks-is b.walk l }

-- ---- two runs say the same
abbrev through : Reader → Result Reader Stopped
through r = Ok r

ok-is : {a b : Reader} → through a ≡ through b → a ≡ b
ok-is h = cc

-- ---- more is to come
pub record Unfinished (ts : List Placed) : Type 0 where
  pub beyond : Reader
  pub is : run beginning ts ≡ Ok beyond
  pub open_still : may_end beyond.open_part ≡ false

not-end : (ts : List Placed) (r : Reader) (b : Bool) → run beginning ts ≡ Ok r → may_end r.open_part ≡ b → ((blocks : Blocks) → Means ts blocks → ⊥) → b ≡ false
not-end ts r true e h none = absurd (none (drafted r.draft) (ends-means ts (drafted r.draft) r e h refl))
not-end ts r false e h none = refl

pub soon-unfinished : (ts : List Placed) → EndsTooSoon ts → Unfinished ts
soon-unfinished ts s =
    let g = good-goes ts s.good in
    record { beyond = g.beyond; is = g.is; open_still = not-end ts g.beyond (may_end g.beyond.open_part) g.is refl s.means_nothing }

-- a finished reader isn't an open one
means-none : (ts : List Placed) (r : Reader) → run beginning ts ≡ Ok r → may_end r.open_part ≡ false → (blocks : Blocks) → Means ts blocks → ⊥
means-none ts r e h blocks m =
    let w = means-ends ts blocks m in
    let same : r ≡ w.beyond = ok-is (sym e ∙ w.is) in
    let ends : may_end r.open_part ≡ true = ap (λ x. may_end x.open_part) same ∙ w.ends in
    cc

pub unfinished-soon : (ts : List Placed) (r : Reader) → run beginning ts ≡ Ok r → may_end r.open_part ≡ false → EndsTooSoon ts
unfinished-soon ts r e h = record { good = goes-good ts r e; means_nothing = means-none ts r e h }

-- ---- faults
-- the machine stops with this number at this mark
abbrev pub stopped : ℕ → Mark → Stopped
stopped k at = record { number = k; at = at }

-- a list through which the machine goes is good with its last token; where it stops there, it isn't
stops-bad : {front : List Placed} {o : Open} {events : List Event} (t : Placed) (k : ℕ) → Walks Fresh front o events → are_new empty_draft events ≡ true → Halts o (noted_all empty_draft events) t k → IsGood (front ++ t ∷ []) → ⊥
stops-bad {front = front} t k w new h good =
    let g = good-goes (front ++ t ∷ []) good in
    let stop = run-halts empty_draft t [] k w new h in
    let bad : Ok g.beyond ≡ Err (stopped k t.at) = sym g.is ∙ stop in
    cc

halts-carried : {front : List Placed} {o : Open} {events : List Event} {d : Draft} (t : Placed) (k : ℕ) → Walks Fresh front o events → Halts o d t k → (IsGood (front ++ t ∷ []) → ⊥) → Carries front t k
halts-carried {events = events} t k w (stops e) bad =
    let b : Beyond _ _ = record { events = events; walk = w } in
    carried b t (lacking-of t.at b) k e
halts-carried t k w (twice e second) bad =
    let v = one_more t w (by_emit e) in
    faults.Carries.a_second_statement (way-loose v.walk) (λ names. bad (record { begins = way-loose v.walk; names = names }))

pub stopped-fault : (ts : List Placed) (k : ℕ) (at : Mark) → run beginning ts ≡ Err (stopped k at) → FaultIn ts k at
stopped-fault ts k at e =
    let h = halted ts Fresh empty_draft (stopped k at) e in
    record {
      front = h.front;
      token = h.token;
      more = h.more;
      parts = h.parts;
      good = record { begins = way-loose h.walk; names = new-names h.walk h.new };
      stops = stops-bad h.token k h.walk h.new h.halts;
      carries = halts-carried h.token k h.walk h.halts (stops-bad h.token k h.walk h.new h.halts);
      at_is = h.at_is;
    }

-- what the machine does at the token with which a list stops being good
goes-still : {front : List Placed} {o next : Open} {events : List Event} (t : Placed) → Walks Fresh front o events → are_new empty_draft events ≡ true → turn o (seen t) t.at ≡ Go next → IsGood (front ++ t ∷ [])
goes-still {next = next} {events = events} t w new e =
    let v = joined (Reached next) w (go e (done reached)) in
    let all : are_new empty_draft (events ++ []) ≡ true = are_new-append empty_draft events [] ∙ ap (λ z. z && true) new in
    record { begins = way-loose v; names = new-names v all }

emits-still : {front : List Placed} {o next : Open} {events : List Event} {event : Event} (t : Placed) → Walks Fresh front o events → are_new empty_draft events ≡ true → turn o (seen t) t.at ≡ Emit event next → is_second (noted_all empty_draft events) event ≡ false → IsGood (front ++ t ∷ [])
emits-still {next = next} {events = events} {event = event} t w new e first =
    let v = joined (Reached next) w (emit e (done reached)) in
    let all : are_new empty_draft (events ++ event ∷ []) ≡ true = are_new-append empty_draft events (event ∷ []) ∙ ap₂ (λ x y. x && (not y && true)) new first in
    record { begins = way-loose v; names = new-names v all }

-- the token that could stand carries the number of a second statement alone
stands-twice : {front : List Placed} {t : Placed} {m : ℕ} → BeginsLoose (front ++ t ∷ []) → Carries front t m → m ≡ given_twice
stands-twice c (faults.Carries.a_second_statement d names) = refl
stands-twice c (faults.Carries.an_unknown_name r f) = absurd (r c)
stands-twice c (faults.Carries.a_wrong_slice r f) = absurd (r c)
stands-twice c (faults.Carries.a_short_row r f) = absurd (r c)
stands-twice c (faults.Carries.a_bad_number r f) = absurd (r c)
stands-twice c (faults.Carries.a_second_name r f) = absurd (r c)
stands-twice c (faults.Carries.no_other r u w s n g) = absurd (r c)

halts-emit : {front : List Placed} {o next : Open} {events : List Event} {event : Event} (t : Placed) (m : ℕ) (b : Bool) → Walks Fresh front o events → are_new empty_draft events ≡ true → turn o (seen t) t.at ≡ Emit event next → is_second (noted_all empty_draft events) event ≡ b → (IsGood (front ++ t ∷ []) → ⊥) → Carries front t m → Halts o (noted_all empty_draft events) t m
halts-emit {o = o} {events = events} t m true w new e second bad c =
    let v = one_more t w (by_emit e) in
    subst (λ z. Halts o (noted_all empty_draft events) t z) (sym (stands-twice (way-loose v.walk) c)) (twice e second)
halts-emit t m false w new e second bad c = absurd (bad (emits-still t w new e second))

halts-turn : {front : List Placed} {o : Open} {events : List Event} (t : Placed) (m : ℕ) (turned : Turn) → turn o (seen t) t.at ≡ turned → Walks Fresh front o events → are_new empty_draft events ≡ true → (IsGood (front ++ t ∷ []) → ⊥) → Carries front t m → Halts o (noted_all empty_draft events) t m
halts-turn {o = o} {events = events} t m (Stop k) e w new bad c =
    let b : Beyond _ _ = record { events = events; walk = w } in
    subst (λ z. Halts o (noted_all empty_draft events) t z) (sym (carries-stop b t (lacking-of t.at b) k m e c)) (stops e)
halts-turn t m (Go next) e w new bad c = absurd (bad (goes-still t w new e))
halts-turn {events = events} t m (Emit event next) e w new bad c = halts-emit t m (is_second (noted_all empty_draft events) event) w new e refl bad c

pub fault-stopped : (ts : List Placed) (k : ℕ) (at : Mark) → FaultIn ts k at → run beginning ts ≡ Err (stopped k at)
fault-stopped ts k at f =
    let g = good-goes f.front f.good in
    let w = went f.front Fresh empty_draft g.beyond g.is in
    let h = halts-turn f.token k (turn g.beyond.open_part (seen f.token) f.token.at) refl w.walk w.new f.stops f.carries in
    ap (run beginning) f.parts ∙ run-halts empty_draft f.token f.more k w.walk w.new h ∙ ap (λ m. Err (stopped k m)) (sym f.at_is)

-- ---- the verdict on a list
-- the outcome of the run, and what the list is, are one
pub record Verdict (ts : List Placed) : Type 0 where
  pub means : (blocks : Blocks) → Means ts blocks ↔ EndsWith ts blocks
  pub too_soon : EndsTooSoon ts ↔ Unfinished ts
  pub fault : (k : ℕ) (at : Mark) → FaultIn ts k at ↔ (run beginning ts ≡ Err (stopped k at))

pub verdict_of : (ts : List Placed) → Verdict ts
verdict_of ts = record {
  means = λ blocks. (means-ends ts blocks, λ w. ends-means ts blocks w.beyond w.is w.ends w.blocks_are);
  too_soon = (soon-unfinished ts, λ u. unfinished-soon ts u.beyond u.is u.open_still);
  fault = λ k at. (fault-stopped ts k at, stopped-fault ts k at);
}

-- ---- one meaning at most
pub one_meaning : (ts : List Placed) (a b : Blocks) → Means ts a → Means ts b → a ≡ b
one_meaning ts a b m n =
    let v = means-ends ts a m in
    let w = means-ends ts b n in
    let same : v.beyond ≡ w.beyond = ok-is (sym v.is ∙ w.is) in
    v.blocks_are ∙ ap (λ r. drafted r.draft) same ∙ sym w.blocks_are

abbrev halted_as : Stopped → Result Reader Stopped
halted_as s = Err s

stopped-is : {a b : Stopped} → halted_as a ≡ halted_as b → a ≡ b
stopped-is h = cc

pub one_fault : (ts : List Placed) (n m : ℕ) (at on_mark : Mark) → FaultIn ts n at → FaultIn ts m on_mark → (n ≡ m) × (at ≡ on_mark)
one_fault ts n m at on_mark f g =
    let same : stopped n at ≡ stopped m on_mark = stopped-is (sym (fault-stopped ts n at f) ∙ fault-stopped ts m on_mark g) in
    (ap (λ s. s.number) same, ap (λ s. s.at) same)

-- every list means blocks, ends too soon, or has a fault
pub data Judged (ts : List Placed) : Type 0 where
  blocks_of_list : (blocks : Blocks) → Means ts blocks → Judged ts
  more_due : EndsTooSoon ts → Judged ts
  faulty : (k : ℕ) (at : Mark) → FaultIn ts k at → Judged ts

judged-end : (ts : List Placed) (r : Reader) (b : Bool) → run beginning ts ≡ Ok r → may_end r.open_part ≡ b → Judged ts
judged-end ts r true e h = blocks_of_list (drafted r.draft) (ends-means ts (drafted r.draft) r e h refl)
judged-end ts r false e h = more_due (unfinished-soon ts r e h)

judged-run : (ts : List Placed) (result : Result Reader Stopped) → run beginning ts ≡ result → Judged ts
judged-run ts (Ok r) e = judged-end ts r (may_end r.open_part) e refl
judged-run ts (Err s) e = faulty s.number s.at (stopped-fault ts s.number s.at e)

pub judged : (ts : List Placed) → Judged ts
judged ts = judged-run ts (run beginning ts) refl
