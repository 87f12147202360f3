-- A list is good exactly where the machine goes through it, and means blocks exactly where it then may end.
use Rattle.mathprog_data.proofs.Common.{◌≡◌, true, List, [], Ok, sym, ap, ◌∙◌, Placed, Open, Fresh, Event, empty_draft, drafted, Reader, beginning, reader, may_end, Blocks, Means, BeginsLoose, IsGood}
use Rattle.mathprog_data.proofs.Drafts.{drafted-all}
use Rattle.mathprog_data.proofs.Endings.{ending, sane-walk}
use Rattle.mathprog_data.proofs.NamesOnce.{names-new, new-names}
use Rattle.mathprog_data.proofs.RunLaws.{noted_all, run-walk, went}
use Rattle.mathprog_data.proofs.SectionMeans.{taken-loose}
use Rattle.mathprog_data.proofs.SectionsTaken.{Finished, finished, take_loose}
use Rattle.mathprog_data.proofs.WalkLaws.{reached, Walks, AtEnds, cut, joined}
use Rattle.mathprog_data.proofs.Walks.{Takes, done, go, emit, statements_events}
use Rattle.mathprog_data.specs.MachineRuns.{run}

Finished-ends : AtEnds Finished
Finished-ends o t ts f = elim f [ ]

-- the way over a list from the beginning
pub record Way (ts : List Placed) : Type 0 where
  pub open_part : Open
  pub events : List Event
  pub walk : Walks Fresh ts open_part events

-- ---- lists that begin loose ones
pub loose-way : (ts : List Placed) → BeginsLoose ts → Way ts
loose-way ts b =
    let c = cut Finished Finished-ends ts (take_loose b.loose) in
    record { open_part = c.mid; events = c.before; walk = c.walk }

pub way-loose : {ts : List Placed} {o : Open} {events : List Event} → Walks Fresh ts o events → BeginsLoose ts
way-loose {o = o} w =
    let e = ending o (sane-walk w tt) in
    let l = taken-loose (joined Finished w e.way) in
    record { more = e.tokens; statements = l.statements; loose = l.loose }

-- ---- good lists
-- the machine goes through a list
pub record GoesThrough (ts : List Placed) : Type 0 where
  pub beyond : Reader
  pub is : run beginning ts ≡ Ok beyond

pub good-goes : (ts : List Placed) → IsGood ts → GoesThrough ts
good-goes ts g =
    let w = loose-way ts g.begins in
    record { beyond = reader w.open_part (noted_all empty_draft w.events); is = run-walk empty_draft w.walk (names-new g.names w.walk) }

pub goes-good : (ts : List Placed) (r : Reader) → run beginning ts ≡ Ok r → IsGood ts
goes-good ts r e =
    let w = went ts Fresh empty_draft r e in
    record { begins = way-loose w.walk; names = new-names w.walk w.new }

-- ---- what a list means
-- a way from this state to an end
record Whole (o : Open) (ts : List Placed) (events : List Event) : Type 0 where
  end : Open
  walk : Walks o ts end events
  ends : may_end end ≡ true

whole-done : {o : Open} {ts : List Placed} → Finished o ts → Whole o ts []
whole-done {o = o} (finished e) = record { end = o; walk = done reached; ends = e }

finished-whole : {o : Open} {ts : List Placed} {events : List Event} → Takes Finished o ts events → Whole o ts events
finished-whole (done f) = whole-done f
finished-whole (go e w) = let v = finished-whole w in record { end = v.end; walk = go e v.walk; ends = v.ends }
finished-whole (emit e w) = let v = finished-whole w in record { end = v.end; walk = emit e v.walk; ends = v.ends }

whole-finished : {end o : Open} {ts : List Placed} {events : List Event} → Walks o ts end events → may_end end ≡ true → Takes Finished o ts events
whole-finished (done reached) e = done (finished e)
whole-finished (go f w) e = go f (whole-finished w e)
whole-finished (emit f w) e = emit f (whole-finished w e)

-- the machine goes through a list, may end after it, and has these blocks
pub record EndsWith (ts : List Placed) (blocks : Blocks) : Type 0 where
  pub beyond : Reader
  pub is : run beginning ts ≡ Ok beyond
  pub ends : may_end beyond.open_part ≡ true
  pub blocks_are : blocks ≡ drafted beyond.draft

pub means-ends : (ts : List Placed) (blocks : Blocks) → Means ts blocks → EndsWith ts blocks
means-ends ts blocks m =
    let w = finished-whole (take_loose m.loose) in
    record {
      beyond = reader w.end (noted_all empty_draft (statements_events m.statements []));
      is = run-walk empty_draft w.walk (names-new m.names w.walk);
      ends = w.ends;
      blocks_are = m.blocks_are ∙ sym (drafted-all m.statements);
    }

pub ends-means : (ts : List Placed) (blocks : Blocks) (r : Reader) → run beginning ts ≡ Ok r → may_end r.open_part ≡ true → blocks ≡ drafted r.draft → Means ts blocks
ends-means ts blocks r e ends are =
    let w = went ts Fresh empty_draft r e in
    let l = taken-loose (whole-finished w.walk ends) in
    record {
      statements = l.statements;
      loose = l.loose;
      names = new-names w.walk w.new;
      blocks_are = are ∙ ap drafted w.draft ∙ ap (λ es. drafted (noted_all empty_draft es)) l.events_are ∙ drafted-all l.statements;
    }
