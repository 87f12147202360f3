-- No name begins a second statement in a list, exactly where none of the machine's events does.
use Rattle.mathprog_data.proofs.Common.{◌≡◌, ℕ, Bool, true, false, not, ◌&&◌, List, [], ◌∷◌, ◌++◌, Option, Some, None, sym, refl, ap, ap₂, ◌∙◌, subst, Placed, Open, Fresh, Between, Event, Begins, MemberNamed, DefaultGiven, ValueGiven, SetClosed, ParamClosed, Draft, empty_draft, noted, is_second, NoNameTwice, Form, Listed, Tabbing, Begun, SetBegun, ParamBegun, TabbingBegun, Statement, Set, Param, Name, Number, Given}
use Rattle.mathprog_data.proofs.Drafts.{second-named}
use Rattle.mathprog_data.proofs.NamesGo.{BeginsAfter, name-begins}
use Rattle.mathprog_data.proofs.RunLaws.{noted_all, are_new, are_new-append, first_true, second_true}
use Rattle.mathprog_data.proofs.SectionsTaken.{begun_open, take_beginning, take_statements, take_opening, FreshToo}
use Rattle.mathprog_data.proofs.WalkLaws.{Reached, Walks, Picked, picked, longer}
use Rattle.mathprog_data.proofs.Walks.{done, Rests, rests, member_events, given_events, default_events, param_events, statement_events, statements_events}

-- ---- no name twice: no second event
-- wherever an event is picked, it isn't that of a second statement
abbrev NoSecond : Draft → List Event → Type 0
NoSecond d events = (before : List Event) (event : Event) (beyond : List Event) → events ≡ before ++ event ∷ beyond → is_second (noted_all d before) event ≡ false

all-new : (d : Draft) (events : List Event) → NoSecond d events → are_new d events ≡ true
all-new d [] none = refl
all-new d (e ∷ es) none = ap₂ (λ x y. not x && y) (none [] e es refl) (all-new (noted d e) es (λ before event beyond h. none (e ∷ before) event beyond (ap (λ z. e ∷ z) h)))

picked-new : (ts : List Placed) {o : Open} {before beyond : List Event} (event : Event) → NoNameTwice ts → Picked (Reached o) Fresh ts before event beyond → is_second (noted_all empty_draft before) event ≡ false
picked-new ts {before = before} (Begins begun) once p =
    let P : List Placed → Type 0 = λ xs. BeginsAfter xs p.more begun before in
    let b : BeginsAfter ts p.more begun before = subst P (sym p.parts) (name-begins p.token p.more begun p.walk p.turned) in
    ap (λ es. is_second (noted_all empty_draft es) (Begins begun)) b.events_are
    ∙ second-named b.statements begun
    ∙ once b.us b.vs p.more b.statements begun b.opening b.whole b.begins
picked-new ts (MemberNamed name) once p = refl
picked-new ts (DefaultGiven v) once p = refl
picked-new ts (ValueGiven g) once p = refl
picked-new ts (SetClosed n) once p = refl
picked-new ts (ParamClosed param) once p = refl

pub names-new : {ts : List Placed} {o : Open} {events : List Event} → NoNameTwice ts → Walks Fresh ts o events → are_new empty_draft events ≡ true
names-new {ts = ts} {o = o} {events = events} once w =
    all-new empty_draft events (λ before event beyond h. picked-new ts event once (picked (Reached o) before w h))

-- ---- no second event: no name twice
member_events-append : (names : List Name) (es fs : List Event) → member_events names (es ++ fs) ≡ member_events names es ++ fs
member_events-append [] es fs = refl
member_events-append (name ∷ names) es fs = ap (λ z. MemberNamed name ∷ z) (member_events-append names es fs)

given-append : (gs : List Given) (es fs : List Event) → given_events gs (es ++ fs) ≡ given_events gs es ++ fs
given-append [] es fs = refl
given-append (g ∷ gs) es fs = ap (λ z. ValueGiven g ∷ z) (given-append gs es fs)

default-append : (default : Option Number) (es fs : List Event) → default_events default (es ++ fs) ≡ default_events default es ++ fs
default-append None es fs = refl
default-append (Some v) es fs = refl

param-append : (form : Form) (param : ℕ) (default : Option Number) (es fs : List Event) → param_events form param default (es ++ fs) ≡ param_events form param default es ++ fs
param-append Listed param default es fs = ap (λ z. Begins (ParamBegun param) ∷ z) (default-append default es fs)
param-append Tabbing param default es fs = refl

statement-append : (s : Statement) (es fs : List Event) → statement_events s (es ++ fs) ≡ statement_events s es ++ fs
statement-append (Set n names) es fs = ap (λ z. Begins (SetBegun n) ∷ z) (member_events-append names (SetClosed n ∷ es) fs)
statement-append (Param form param default values) es fs =
    ap (param_events form param default) (given-append values (ParamClosed param ∷ es) fs)
    ∙ param-append form param default (given_events values (ParamClosed param ∷ es)) fs

statements-append : (ss : List Statement) (es fs : List Event) → statements_events ss (es ++ fs) ≡ statements_events ss es ++ fs
statements-append [] es fs = refl
statements-append (s ∷ ss) es fs = ap (statement_events s) (statements-append ss es fs) ∙ statement-append s (statements_events ss es) fs

-- after the beginning of a statement, before these tokens
abbrev AfterName : Begun → List Placed → Open → List Placed → Type 0
AfterName begun ws o ts = (o ≡ begun_open begun) × (ts ≡ ws)

begun-rests : (begun : Begun) → rests (begun_open begun) ≡ true
begun-rests (SetBegun n) = refl
begun-rests (ParamBegun param) = refl
begun-rests (TabbingBegun param default) = refl

not-between : (begun : Begun) → Between ≡ begun_open begun → ⊥
not-between (SetBegun n) e = cc
not-between (ParamBegun param) e = cc
not-between (TabbingBegun param default) e = cc

AfterName-Rests : (begun : Begun) (ws : List Placed) → Rests (AfterName begun ws)
AfterName-Rests begun ws o ts f = ap rests f.0 ∙ begun-rests begun

AfterName-fresh : (begun : Begun) (ws : List Placed) → FreshToo (AfterName begun ws)
AfterName-fresh begun ws ts f = absurd (not-between begun f.0)

not-false : (b : Bool) → not b ≡ true → b ≡ false
not-false true e = cc
not-false false e = refl

one-new : (d : Draft) (events more : List Event) (begun : Begun) → are_new d ((events ++ Begins begun ∷ []) ++ more) ≡ true → is_second (noted_all d events) (Begins begun) ≡ false
one-new d events more begun new =
    let all = sym (are_new-append d (events ++ Begins begun ∷ []) more) ∙ new in
    let through = first_true (are_new d (events ++ Begins begun ∷ [])) (are_new (noted_all d (events ++ Begins begun ∷ [])) more) all in
    let parts = sym (are_new-append d events (Begins begun ∷ [])) ∙ through in
    let last = second_true (are_new d events) (are_new (noted_all d events) (Begins begun ∷ [])) parts in
    not-false (is_second (noted_all d events) (Begins begun)) (first_true (not (is_second (noted_all d events) (Begins begun))) true last)

pub new-names : {ts : List Placed} {o : Open} {events : List Event} → Walks Fresh ts o events → are_new empty_draft events ≡ true → NoNameTwice ts
new-names {events = events} w new us vs ws ss begun opening whole begins =
    let F = AfterName begun ws in
    let taken = take_opening F (AfterName-fresh begun ws) opening (take_statements F (AfterName-Rests begun ws) whole (take_beginning F (AfterName-Rests begun ws) begins (done (refl, refl)))) in
    let l = longer F taken w in
    let all : events ≡ (statements_events ss [] ++ Begins begun ∷ []) ++ l.more = l.parts ∙ ap (λ z. z ++ l.more) (statements-append ss [] (Begins begun ∷ [])) in
    sym (second-named ss begun) ∙ one-new empty_draft (statements_events ss []) l.more begun (ap (are_new empty_draft) (sym all) ∙ new)
