-- What could stand after tokens is what the machine would take there.
use Rattle.mathprog_data.proofs.Common.{◌≡◌, true, false, List, [], ◌∷◌, ◌++◌, codes, Some, None, refl, ap, subst, numerator, denominator, number_of, Bare, Placed, SymbolSeen, Open, Fresh, Event, Turn, Stop, Go, Emit, seen_of, turn, reading, BeginsLoose}
use Rattle.std.specs.Prelude.{pos}
use Rattle.mathprog_data.proofs.FaultTests.{goes_on, on, zero_seen, x_seen, point_seen, set_seen, param_seen}
use Rattle.mathprog_data.proofs.GoodLists.{Way, loose-way, way-loose}
use Rattle.mathprog_data.proofs.TokensSeen.{seen}
use Rattle.mathprog_data.proofs.WalkLaws.{Reached, reached, Walks, AtEnds, cut, joined, same_end}
use Rattle.mathprog_data.proofs.Walks.{done, go, emit}
use Rattle.mathprog_data.specs.declared.words.Word.TheVariants as words

-- ---- what is seen of the symbols that are tried
reads-zero : reading (codes "0") ≡ Some (pos 0, false)
unfolding reading number_of numerator denominator
reads-zero = refl

reads-x : reading (codes "x") ≡ None
unfolding reading
reads-x = refl

reads-point : reading (codes ".") ≡ None
unfolding reading
reads-point = refl

reads-set : reading (codes "REGION") ≡ None
unfolding reading
reads-set = refl

reads-param : reading (codes "YearSplit") ≡ None
unfolding reading
reads-param = refl

pub zero-seen : seen_of (Bare (codes "0")) ≡ zero_seen
zero-seen = ap (λ n. SymbolSeen words.Other (codes "0") n) reads-zero

pub x-seen : seen_of (Bare (codes "x")) ≡ x_seen
x-seen = ap (λ n. SymbolSeen words.Other (codes "x") n) reads-x

pub point-seen : seen_of (Bare (codes ".")) ≡ point_seen
point-seen = ap (λ n. SymbolSeen words.Point (codes ".") n) reads-point

pub set-seen : seen_of (Bare (codes "REGION")) ≡ set_seen
set-seen = ap (λ n. SymbolSeen words.Other (codes "REGION") n) reads-set

pub param-seen : seen_of (Bare (codes "YearSplit")) ≡ param_seen
param-seen = ap (λ n. SymbolSeen words.Other (codes "YearSplit") n) reads-param

-- ---- one more token
-- the machine goes on by a token
pub data GoesOn (o : Open) (t : Placed) : Open → Type 0 where
  by_go : {next : Open} → turn o (seen t) t.at ≡ Go next → GoesOn o t next
  by_emit : {next : Open} {event : Event} → turn o (seen t) t.at ≡ Emit event next → GoesOn o t next

pub record GoesTo (o : Open) (t : Placed) : Type 0 where
  pub next : Open
  pub by : GoesOn o t next

goes-turn : (o : Open) (t : Placed) (turned : Turn) → turn o (seen t) t.at ≡ turned → goes_on turned ≡ true → GoesTo o t
goes-turn o t (Stop k) e h = cc
goes-turn o t (Go next) e h = record { next = next; by = by_go e }
goes-turn o t (Emit event next) e h = record { next = next; by = by_emit e }

pub goes-to : (o : Open) (t : Placed) → on o (seen t) t.at ≡ true → GoesTo o t
goes-to o t h = goes-turn o t (turn o (seen t) t.at) refl h

pub goes-on : {o next : Open} {t : Placed} → GoesOn o t next → on o (seen t) t.at ≡ true
goes-on (by_go e) = ap goes_on e
goes-on (by_emit e) = ap goes_on e

-- a way with one more token
pub one_more : {o next : Open} {front : List Placed} {events : List Event} (t : Placed) → Walks Fresh front o events → GoesOn o t next → Way (front ++ t ∷ [])
one_more {next = next} {events = events} t w (by_go e) = record { open_part = next; events = events ++ []; walk = joined (Reached next) w (go e (done reached)) }
one_more {next = next} {events = events} t w (by_emit {event = event} e) = record { open_part = next; events = events ++ event ∷ []; walk = joined (Reached next) w (emit e (done reached)) }

Reached-ends : (end : Open) → AtEnds (Reached end)
Reached-ends end o t ts f = elim f [ ]

first-step : {o end : Open} {t : Placed} {ts : List Placed} {events : List Event} → Walks o (t ∷ ts) end events → (next : Open) × (GoesOn o t next) × (es : List Event) × Walks next ts end es
first-step (done f) = elim f [ ]
first-step (go {next = next} {events = es} e w) = (next, by_go e, es, w)
first-step (emit {next = next} {events = es} e w) = (next, by_emit e, es, w)

-- what follows a way, in a longer list
pub rest-way : {o : Open} (front more : List Placed) {events : List Event} → Walks Fresh front o events → BeginsLoose (front ++ more) → (end : Open) × (es : List Event) × Walks o more end es
rest-way {o = o} front more w b =
    let v = loose-way (front ++ more) b in
    let c = cut (Reached v.open_part) (Reached-ends v.open_part) front v.walk in
    let same = same_end c.walk w in
    let P : Open → Type 0 = λ p. Walks p more v.open_part c.beyond in
    (v.open_part, c.beyond, subst P same.ends c.rest)

-- ---- what could stand
pub could-on : {o : Open} {front : List Placed} {events : List Event} (t : Placed) → Walks Fresh front o events → BeginsLoose (front ++ t ∷ []) → on o (seen t) t.at ≡ true
could-on {front = front} t w b =
    let r = rest-way front (t ∷ []) w b in
    let f = first-step r.2 in
    goes-on f.1

pub on-could : {o : Open} {front : List Placed} {events : List Event} (t : Placed) → Walks Fresh front o events → on o (seen t) t.at ≡ true → BeginsLoose (front ++ t ∷ [])
on-could {o = o} t w h =
    let g = goes-to o t h in
    let v = one_more t w g.by in
    way-loose v.walk

-- two tokens could stand
pub two-on : {o : Open} {front : List Placed} {events : List Event} (t u : Placed) → Walks Fresh front o events → BeginsLoose (front ++ t ∷ u ∷ []) → (next : Open) × (GoesOn o t next) × (on next (seen u) u.at ≡ true)
two-on {front = front} t u w b =
    let r = rest-way front (t ∷ u ∷ []) w b in
    let f = first-step r.2 in
    let g = first-step f.3 in
    (f.0, f.1, goes-on g.1)

-- from a state over one token
one_walk : {o next : Open} {t : Placed} → GoesOn o t next → (es : List Event) × Walks o (t ∷ []) next es
one_walk (by_go e) = ([], go e (done reached))
one_walk (by_emit {event = event} e) = (event ∷ [], emit e (done reached))

pub on-two : {o next : Open} {front : List Placed} {events : List Event} (t u : Placed) → Walks Fresh front o events → GoesOn o t next → on next (seen u) u.at ≡ true → BeginsLoose (front ++ t ∷ u ∷ [])
on-two {next = next} t u w g h =
    let f = goes-to next u h in
    let first = one_walk g in
    let second = one_walk f.by in
    way-loose (joined (Reached f.next) w (joined (Reached f.next) first.1 second.1))
