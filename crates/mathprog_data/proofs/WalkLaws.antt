-- Ways of the machine, cut and joined, and that there is one at most.
use Rattle.mathprog_data.proofs.Common.{◌≡◌, List, [], ◌∷◌, ◌++◌, refl, ap, ◌∙◌, subst, Placed, Open, Event, Go, Emit, turn}
use Rattle.mathprog_data.proofs.TokensSeen.{seen}
use Rattle.mathprog_data.proofs.Walks.{Takes, done, go, emit}

-- all tokens are taken, and this is open
pub data Reached (end : Open) : Open → List Placed → Type 0 where
  reached : Reached end end []

-- from this state over all tokens to that one, with these events
abbrev pub Walks : Open → List Placed → Open → List Event → Type 0
Walks o ts end events = Takes (Reached end) o ts events

pub joined : (F : Open → List Placed → Type 0) {mid o : Open} {ts us : List Placed} {events others : List Event} → Walks o ts mid events → Takes F mid us others → Takes F o (ts ++ us) (events ++ others)
joined F (done reached) v = v
joined F (go e w) v = go e (joined F w v)
joined F (emit e w) v = emit e (joined F w v)

-- a way over a list that is cut in two
pub record Cut (F : Open → List Placed → Type 0) (o : Open) (ts us : List Placed) (events : List Event) : Type 0 where
  pub mid : Open
  pub before : List Event
  pub beyond : List Event
  pub walk : Walks o ts mid before
  pub rest : Takes F mid us beyond
  pub parts : events ≡ before ++ beyond

-- where F holds at the end of a list alone
abbrev pub AtEnds : (Open → List Placed → Type 0) → Type 0
AtEnds F = (o : Open) (t : Placed) (ts : List Placed) → F o (t ∷ ts) → ⊥

cut-go : {F : Open → List Placed → Type 0} {o next : Open} {t : Placed} {ts us : List Placed} {events : List Event} → turn o (seen t) t.at ≡ Go next → Cut F next ts us events → Cut F o (t ∷ ts) us events
cut-go e c = record { mid = c.mid; before = c.before; beyond = c.beyond; walk = go e c.walk; rest = c.rest; parts = c.parts }

cut-emit : {F : Open → List Placed → Type 0} {o next : Open} {t : Placed} {ts us : List Placed} {event : Event} {events : List Event} → turn o (seen t) t.at ≡ Emit event next → Cut F next ts us events → Cut F o (t ∷ ts) us (event ∷ events)
cut-emit {event = event} e c = record { mid = c.mid; before = event ∷ c.before; beyond = c.beyond; walk = emit e c.walk; rest = c.rest; parts = ap (λ z. event ∷ z) c.parts }

pub cut : (F : Open → List Placed → Type 0) → AtEnds F → (ts : List Placed) {o : Open} {us : List Placed} {events : List Event} → Takes F o (ts ++ us) events → Cut F o ts us events
cut F at_ends [] {o = o} {events = events} w = record { mid = o; before = []; beyond = events; walk = done reached; rest = w; parts = refl }
cut F at_ends (t ∷ ts) {o = o} {us = us} (done f) = absurd (at_ends o t (ts ++ us) f)
cut F at_ends (t ∷ ts) (go e w) = cut-go e (cut F at_ends ts w)
cut F at_ends (t ∷ ts) (emit e w) = cut-emit e (cut F at_ends ts w)

-- a way over a list at whose events one is picked
pub record Picked (F : Open → List Placed → Type 0) (o : Open) (ts : List Placed) (before : List Event) (event : Event) (beyond : List Event) : Type 0 where
  pub mid : Open
  pub next : Open
  pub front : List Placed
  pub token : Placed
  pub more : List Placed
  pub parts : ts ≡ front ++ token ∷ more
  pub walk : Walks o front mid before
  pub turned : turn mid (seen token) token.at ≡ Emit event next
  pub rest : Takes F next more beyond

picked-go : {F : Open → List Placed → Type 0} {o next : Open} {t : Placed} {ts : List Placed} {before beyond : List Event} {event : Event} → turn o (seen t) t.at ≡ Go next → Picked F next ts before event beyond → Picked F o (t ∷ ts) before event beyond
picked-go {t = t} e p = record { mid = p.mid; next = p.next; front = t ∷ p.front; token = p.token; more = p.more; parts = ap (λ z. t ∷ z) p.parts; walk = go e p.walk; turned = p.turned; rest = p.rest }

picked-emit : {F : Open → List Placed → Type 0} {o next : Open} {t : Placed} {ts : List Placed} {first : Event} {before beyond : List Event} {event : Event} → turn o (seen t) t.at ≡ Emit first next → Picked F next ts before event beyond → Picked F o (t ∷ ts) (first ∷ before) event beyond
picked-emit {t = t} e p = record { mid = p.mid; next = p.next; front = t ∷ p.front; token = p.token; more = p.more; parts = ap (λ z. t ∷ z) p.parts; walk = emit e p.walk; turned = p.turned; rest = p.rest }

picked-here : {F : Open → List Placed → Type 0} {o next : Open} {t : Placed} {ts : List Placed} {event : Event} {beyond : List Event} → turn o (seen t) t.at ≡ Emit event next → Takes F next ts beyond → Picked F o (t ∷ ts) [] event beyond
picked-here {o = o} {next = next} {t = t} {ts = ts} e w = record { mid = o; next = next; front = []; token = t; more = ts; parts = refl; walk = done reached; turned = e; rest = w }

picked-at : (F : Open → List Placed → Type 0) (before : List Event) {o next : Open} {t : Placed} {ts : List Placed} {first event : Event} {beyond events : List Event} → turn o (seen t) t.at ≡ Emit first next → Takes F next ts events → first ∷ events ≡ before ++ event ∷ beyond
    → ((others : List Event) → events ≡ others ++ event ∷ beyond → Picked F next ts others event beyond) → Picked F o (t ∷ ts) before event beyond
picked-at F [] {o = o} {next = next} {t = t} {ts = ts} {first = first} {event = event} {beyond = beyond} {events = events} f w e more =
    let same : first ≡ event = cc in
    let tail : events ≡ beyond = cc in
    let P : List Event → Type 0 = λ es. Takes F next ts es in
    picked-here (f ∙ ap (λ x. Emit x next) same) (subst P tail w)
picked-at F (one ∷ before) {o = o} {next = next} {t = t} {ts = ts} {first = first} {event = event} {beyond = beyond} {events = events} f w e more =
    let same : first ≡ one = cc in
    let tail : events ≡ before ++ event ∷ beyond = cc in
    picked-emit (f ∙ ap (λ x. Emit x next) same) (more before tail)

no-events : (before : List Event) (event : Event) (beyond : List Event) → [] ≡ before ++ event ∷ beyond → ⊥
no-events [] event beyond e = cc
no-events (x ∷ xs) event beyond e = cc

-- every event of a way has its token
pub picked : (F : Open → List Placed → Type 0) {o : Open} {ts : List Placed} {events : List Event} (before : List Event) {event : Event} {beyond : List Event} → Takes F o ts events → events ≡ before ++ event ∷ beyond → Picked F o ts before event beyond
picked F before {event = event} {beyond = beyond} (done f) e = absurd (no-events before event beyond e)
picked F before (go f w) e = picked-go f (picked F before w e)
picked F before (emit f w) e = picked-at F before f w e (λ others g. picked F others w g)

-- ---- one way at most
-- a way that goes on to the end has the events of each way that is cut, first
pub record Longer (events longer : List Event) : Type 0 where
  pub more : List Event
  pub parts : longer ≡ events ++ more

longer-go : (F : Open → List Placed → Type 0) {o next end : Open} {t : Placed} {ts : List Placed} {events others : List Event} → turn o (seen t) t.at ≡ Go next → Walks o (t ∷ ts) end others → ((es : List Event) → Walks next ts end es → Longer events es) → Longer events others
longer-go F {next = next} {end = end} {ts = ts} {others = others} e (go {next = after} f v) more =
    let same : after ≡ next = cc in
    let P : Open → Type 0 = λ o. Walks o ts end others in
    more others (subst P same v)
longer-go F e (done x) more = elim x [ ]
longer-go F e (emit f v) more = cc

longer-emit : (F : Open → List Placed → Type 0) {o next end : Open} {t : Placed} {ts : List Placed} {event : Event} {events others : List Event} → turn o (seen t) t.at ≡ Emit event next → Walks o (t ∷ ts) end others → ((es : List Event) → Walks next ts end es → Longer events es) → Longer (event ∷ events) others
longer-emit F e (done x) more = elim x [ ]
longer-emit F e (go f v) more = cc
longer-emit F {next = next} {end = end} {ts = ts} {event = event} e (emit {next = after} {event = first} {events = es} f v) more =
    let same : after ≡ next = cc in
    let first_is : first ≡ event = cc in
    let P : Open → Type 0 = λ o. Walks o ts end es in
    let rest = more es (subst P same v) in
    record { more = rest.more; parts = ap (λ x. x ∷ es) first_is ∙ ap (λ z. event ∷ z) rest.parts }

pub longer : (F : Open → List Placed → Type 0) {end o : Open} {ts : List Placed} {events others : List Event} → Takes F o ts events → Walks o ts end others → Longer events others
longer F {others = others} (done f) v = record { more = others; parts = refl }
longer F (go e w) v = longer-go F e v (λ es u. longer F w u)
longer F (emit e w) v = longer-emit F e v (λ es u. longer F w u)

-- where two ways over the same tokens end, and their events, are the same
pub record SameEnd (end other : Open) (events others : List Event) : Type 0 where
  pub ends : end ≡ other
  pub events_are : events ≡ others

same-go : {o next end other : Open} {t : Placed} {ts : List Placed} {events others : List Event} → turn o (seen t) t.at ≡ Go next → Walks o (t ∷ ts) other others → ((es : List Event) → Walks next ts other es → SameEnd end other events es) → SameEnd end other events others
same-go {next = next} {other = other} {ts = ts} {others = others} e (go {next = after} f v) more =
    let same : after ≡ next = cc in
    let P : Open → Type 0 = λ o. Walks o ts other others in
    more others (subst P same v)
same-go e (done x) more = elim x [ ]
same-go e (emit f v) more = cc

same-emit : {o next end other : Open} {t : Placed} {ts : List Placed} {event : Event} {events others : List Event} → turn o (seen t) t.at ≡ Emit event next → Walks o (t ∷ ts) other others → ((es : List Event) → Walks next ts other es → SameEnd end other events es) → SameEnd end other (event ∷ events) others
same-emit e (done x) more = elim x [ ]
same-emit e (go f v) more = cc
same-emit {next = next} {other = other} {ts = ts} {event = event} e (emit {next = after} {event = first} {events = es} f v) more =
    let same : after ≡ next = cc in
    let first_is : event ≡ first = cc in
    let P : Open → Type 0 = λ o. Walks o ts other es in
    let rest = more es (subst P same v) in
    record { ends = rest.ends; events_are = ap (λ z. event ∷ z) rest.events_are ∙ ap (λ x. x ∷ es) first_is }

pub same_end : {end other o : Open} {ts : List Placed} {events others : List Event} → Walks o ts end events → Walks o ts other others → SameEnd end other events others
same_end (done reached) (done reached) = record { ends = refl; events_are = refl }
same_end (go e w) v = same-go e v (λ es u. same_end w u)
same_end (emit e w) v = same-emit e v (λ es u. same_end w u)
