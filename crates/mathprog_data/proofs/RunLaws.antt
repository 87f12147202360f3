-- The machine over a list: it goes through on a way whose names are new, and else stops at a token of it.
use Rattle.mathprog_data.proofs.Common.{◌≡◌, ℕ, Bool, true, false, cond, not, ◌&&◌, List, [], ◌∷◌, ◌++◌, Result, Ok, Err, refl, ap, ap₂, ◌∙◌, subst, Mark, given_twice, Placed, Open, Event, Turn, Stop, Go, Emit, Draft, noted, Reader}
use Rattle.mathprog_data.proofs.TokensSeen.{seen}
use Rattle.mathprog_data.proofs.WalkLaws.{reached, Walks}
use Rattle.mathprog_data.proofs.Walks.{done, go, emit}
use Rattle.mathprog_data.specs.MachineRuns.{Stopped, after, run}
use Rattle.mathprog_data.specs.MachineSteps.{turn, taken, step, is_second, reader}

-- with these events
abbrev pub noted_all : Draft → List Event → Draft
noted_all d [] = d
noted_all d (e ∷ es) = noted_all (noted d e) es

-- none of the events begins a second statement
abbrev pub are_new : Draft → List Event → Bool
are_new d [] = true
are_new d (e ∷ es) = not (is_second d e) && are_new (noted d e) es

and_assoc : (x y z : Bool) → (x && (y && z)) ≡ ((x && y) && z)
and_assoc true y z = refl
and_assoc false y z = refl

pub are_new-append : (d : Draft) (es fs : List Event) → are_new d (es ++ fs) ≡ (are_new d es && are_new (noted_all d es) fs)
are_new-append d [] fs = refl
are_new-append d (e ∷ es) fs = ap (λ z. not (is_second d e) && z) (are_new-append (noted d e) es fs) ∙ and_assoc (not (is_second d e)) (are_new (noted d e) es) (are_new (noted_all (noted d e) es) fs)

pub first_true : (x y : Bool) → (x && y) ≡ true → x ≡ true
first_true true y e = refl
first_true false y e = e

pub second_true : (x y : Bool) → (x && y) ≡ true → y ≡ true
second_true true y e = e
second_true false y e = cc

not-true : (b : Bool) → not b ≡ true → b ≡ false
not-true true e = cc
not-true false e = refl

-- ---- a way whose names are new is gone
pub run-walk : {end o : Open} {ts : List Placed} {events : List Event} (d : Draft) → Walks o ts end events → are_new d events ≡ true → run (reader o d) ts ≡ Ok (reader end (noted_all d events))
run-walk d (done reached) new = refl
run-walk d (go {t = t} {ts = ts} e w) new = ap (λ x. after (λ r. run r ts) t.at (taken d x)) e ∙ run-walk d w new
run-walk d (emit {next = next} {t = t} {ts = ts} {event = event} {events = events} e w) new =
    let first : is_second d event ≡ false = not-true (is_second d event) (first_true (not (is_second d event)) (are_new (noted d event) events) new) in
    ap (λ x. after (λ r. run r ts) t.at (taken d x)) e
    ∙ ap (λ b. after (λ r. run r ts) t.at (cond b (Err given_twice) (Ok (reader next (noted d event))))) first
    ∙ run-walk (noted d event) w (second_true (not (is_second d event)) (are_new (noted d event) events) new)

-- ---- what a run says
-- the machine has gone this way, with new names
pub record Went (o : Open) (d : Draft) (ts : List Placed) (r : Reader) : Type 0 where
  pub events : List Event
  pub walk : Walks o ts r.open_part events
  pub new : are_new d events ≡ true
  pub draft : r.draft ≡ noted_all d events

went-emit : (o next : Open) (d : Draft) (t : Placed) (ts : List Placed) (r : Reader) (event : Event) (b : Bool) → turn o (seen t) t.at ≡ Emit event next → is_second d event ≡ b → ((next : Open) (e : Draft) → run (reader next e) ts ≡ Ok r → Went next e ts r) → after (λ x. run x ts) t.at (cond b (Err given_twice) (Ok (reader next (noted d event)))) ≡ Ok r → Went o d (t ∷ ts) r
went-emit o next d t ts r event true e second more h = cc
went-emit o next d t ts r event false e second more h =
    let w = more next (noted d event) h in
    record { events = event ∷ w.events; walk = emit e w.walk; new = ap₂ (λ x y. not x && y) second w.new; draft = w.draft }

went-turn : (o : Open) (d : Draft) (t : Placed) (ts : List Placed) (r : Reader) (turned : Turn) → turn o (seen t) t.at ≡ turned → ((next : Open) (e : Draft) → run (reader next e) ts ≡ Ok r → Went next e ts r) → after (λ next. run next ts) t.at (taken d turned) ≡ Ok r → Went o d (t ∷ ts) r
went-turn o d t ts r (Stop k) e more h = cc
went-turn o d t ts r (Go next) e more h =
    let w = more next d h in
    record { events = w.events; walk = go e w.walk; new = w.new; draft = w.draft }
went-turn o d t ts r (Emit event next) e more h = went-emit o next d t ts r event (is_second d event) e refl more h

pub went : (ts : List Placed) (o : Open) (d : Draft) (r : Reader) → run (reader o d) ts ≡ Ok r → Went o d ts r
went [] o d r h =
    let same : reader o d ≡ r = cc in
    let P : Reader → Type 0 = λ x. Went o d [] x in
    subst P same (record { events = []; walk = done reached; new = refl; draft = refl })
went (t ∷ ts) o d r h = went-turn o d t ts r (turn o (seen t) t.at) refl (λ next e g. went ts next e r g) h

-- why the machine stops at a token, with this number
pub data Halts (o : Open) (d : Draft) (t : Placed) : ℕ → Type 0 where
  stops : {k : ℕ} → turn o (seen t) t.at ≡ Stop k → Halts o d t k
  twice : {event : Event} {next : Open} → turn o (seen t) t.at ≡ Emit event next → is_second d event ≡ true → Halts o d t given_twice

-- the machine has stopped after this way
pub record Halted (o : Open) (d : Draft) (ts : List Placed) (s : Stopped) : Type 0 where
  pub front : List Placed
  pub token : Placed
  pub more : List Placed
  pub mid : Open
  pub events : List Event
  pub parts : ts ≡ front ++ token ∷ more
  pub walk : Walks o front mid events
  pub new : are_new d events ≡ true
  pub halts : Halts mid (noted_all d events) token s.number
  pub at_is : s.at ≡ token.at

-- stopped with this number at this mark
abbrev stopped_by : ℕ → Mark → Result Reader Stopped
stopped_by k at = Err (record { number = k; at = at })

halted-here : (o : Open) (d : Draft) (t : Placed) (ts : List Placed) (s : Stopped) (k : ℕ) → Halts o d t k → stopped_by k t.at ≡ Err s → Halted o d (t ∷ ts) s
halted-here o d t ts s k h e =
    let first : Stopped = record { number = k; at = t.at } in
    let same : first ≡ s = cc in
    let P : Stopped → Type 0 = λ x. Halted o d (t ∷ ts) x in
    subst P same (record { front = []; token = t; more = ts; mid = o; events = []; parts = refl; walk = done reached; new = refl; halts = h; at_is = refl })

halted-emit : (o next : Open) (d : Draft) (t : Placed) (ts : List Placed) (s : Stopped) (event : Event) (b : Bool) → turn o (seen t) t.at ≡ Emit event next → is_second d event ≡ b → ((next : Open) (e : Draft) → run (reader next e) ts ≡ Err s → Halted next e ts s) → after (λ x. run x ts) t.at (cond b (Err given_twice) (Ok (reader next (noted d event)))) ≡ Err s → Halted o d (t ∷ ts) s
halted-emit o next d t ts s event true e second more h = halted-here o d t ts s given_twice (twice e second) h
halted-emit o next d t ts s event false e second more h =
    let w = more next (noted d event) h in
    record { front = t ∷ w.front; token = w.token; more = w.more; mid = w.mid; events = event ∷ w.events; parts = ap (λ z. t ∷ z) w.parts; walk = emit e w.walk; new = ap₂ (λ x y. not x && y) second w.new; halts = w.halts; at_is = w.at_is }

halted-turn : (o : Open) (d : Draft) (t : Placed) (ts : List Placed) (s : Stopped) (turned : Turn) → turn o (seen t) t.at ≡ turned → ((next : Open) (e : Draft) → run (reader next e) ts ≡ Err s → Halted next e ts s) → after (λ next. run next ts) t.at (taken d turned) ≡ Err s → Halted o d (t ∷ ts) s
halted-turn o d t ts s (Stop k) e more h = halted-here o d t ts s k (stops e) h
halted-turn o d t ts s (Go next) e more h =
    let w = more next d h in
    record { front = t ∷ w.front; token = w.token; more = w.more; mid = w.mid; events = w.events; parts = ap (λ z. t ∷ z) w.parts; walk = go e w.walk; new = w.new; halts = w.halts; at_is = w.at_is }
halted-turn o d t ts s (Emit event next) e more h = halted-emit o next d t ts s event (is_second d event) e refl more h

pub halted : (ts : List Placed) (o : Open) (d : Draft) (s : Stopped) → run (reader o d) ts ≡ Err s → Halted o d ts s
halted [] o d s h = cc
halted (t ∷ ts) o d s h = halted-turn o d t ts s (turn o (seen t) t.at) refl (λ next e g. halted ts next e s g) h

-- ---- the other way round: where a way ends before a token at which the machine stops, it stops there
halts-step : (o : Open) (d : Draft) (t : Placed) (k : ℕ) → Halts o d t k → step (reader o d) t.lexeme t.at ≡ Err k
halts-step o d t k (stops e) = ap (taken d) e
halts-step o d t k (twice {event = event} {next = next} e second) = ap (taken d) e ∙ ap (λ b. cond b (Err given_twice) (Ok (reader next (noted d event)))) second

pub run-halts : {mid o : Open} {front : List Placed} {events : List Event} (d : Draft) (t : Placed) (more : List Placed) (k : ℕ) → Walks o front mid events → are_new d events ≡ true → Halts mid (noted_all d events) t k → run (reader o d) (front ++ t ∷ more) ≡ Err (record { number = k; at = t.at })
run-halts {mid = mid} d t more k (done reached) new h = ap (after (λ r. run r more) t.at) (halts-step mid d t k h)
run-halts d t more k (go {t = u} {ts = us} e w) new h = ap (λ x. after (λ r. run r (us ++ t ∷ more)) u.at (taken d x)) e ∙ run-halts d t more k w new h
run-halts d t more k (emit {next = next} {t = u} {ts = us} {event = event} {events = events} e w) new h =
    let first : is_second d event ≡ false = not-true (is_second d event) (first_true (not (is_second d event)) (are_new (noted d event) events) new) in
    ap (λ x. after (λ r. run r (us ++ t ∷ more)) u.at (taken d x)) e
    ∙ ap (λ b. after (λ r. run r (us ++ t ∷ more)) u.at (cond b (Err given_twice) (Ok (reader next (noted d event))))) first
    ∙ run-halts (noted d event) t more k w (second_true (not (is_second d event)) (are_new (noted d event) events) new) h
