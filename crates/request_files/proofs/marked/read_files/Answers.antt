use Rattle.std.proofs.Common.{◌≡◌, ◌++◌, ◌∷◌, [], ◌∙◌, length, true, false, take, sym}
use Rattle.std.proofs.lemmas.List.{map-append}
use Rattle.std.proofs.lemmas.Result.{IfOk-weaker, MatchResult-weaker}
use Rattle.request_files.specs.Marked.{marks_of}
use Rattle.request_files.proofs.InTurnLaws.{as-many-taken, ends-stop, read-item, same-next, stops-item}
use Rattle.request_files.proofs.MarkedLaws.{fed-more, held-more, marks-next, marks-taken}
use Rattle.request_files.proofs.marked.read_files.Goals.{then-file+in_ok-reader+in-Ok+in_ok-push-in-Ok, else-file+in-Ok-read_into+in_ok-push-in-Ok-read_into}
use Rattle.request_files.proofs.marked.read_files.Goals as goal

pub returns-in-Err-clause-read : goal.returns-in-Err-clause-read
returns-in-Err-clause-read g c =
    IfOk-weaker c.stop.result _ _
    (λ verdict told. MatchResult-weaker verdict told (λ found none. absurd none)
    (λ stopped is.
    rw (is.0, is.1)
    (stops-item (λ file. file.name.now) c.args.asked.now _ c.loop-place.place _ c.in-Err.end _ _ _ c.loop-place-test.true c.loop-place.invariant.read.1 c.read_into.ensures.began
    (ends-stop c.in-Err.end _ _ _ is.2 c.in-Err.ensures.stops))))
    c.stop.ensures

pub returns-in-Err-read_into-clause-read : goal.returns-in-Err-read_into-clause-read
returns-in-Err-read_into-clause-read g c =
    IfOk-weaker c.stop-in-Err-read_into.result _ _
    (λ verdict told. MatchResult-weaker verdict told (λ found none. absurd none)
    (λ stopped is.
    rw (is.0, is.1)
    (stops-item (λ file. file.name.now) c.args.asked.now _ c.loop-place.place _ c.in-Err-read_into.end _ _ _ c.loop-place-test.true c.loop-place.invariant.read.1 c.read_into-else-file.ensures.began
    (ends-stop c.in-Err-read_into.end _ _ _ is.2 c.in-Err-read_into.ensures.stops))))
    c.stop-in-Err-read_into.ensures

pub loop-place-preserved : goal.loop-place-preserved
loop-place-preserved g c =
    let asked = c.args.asked.now in
    let place = c.loop-place.place in
    let below = c.loop-place-test.true in
    let read = c.loop-place.invariant.read in
    let many : length read.0 ≡ length (take place (marks_of asked)) = as-many-taken (λ file. file.name.now) asked place read.0 _ _ below read.1 ∙ sym (marks-taken asked place below) in
    elim c.if-file.branch [
      | then-file+in_ok-reader+in-Ok+in_ok-push-in-Ok w ↦
          let whole = w.in-Ok.ensures.whole in
          let kept = fed-more g.T.Taker.holds c.loop-place.fed.items _ (take place (marks_of asked)) read.0 w.read_into.new.taker whole.0 many (read.2, read.3) whole.2 in
          rw (w.shelf-is, w.fed-is, w.held-is) (record {
            read = (
              read.0 ++ whole.0 ∷ [],
              read-item (λ file. file.name.now) asked place _ read.0 whole.0 _ _ _ below read.1 w.read_into.ensures.began whole.1,
              rw (w.in_ok-push-in-Ok.ensures.items, marks-next asked place _ true below w.if-file.true) kept.0,
              rw (marks-next asked place _ true below w.if-file.true) kept.1,
            );
            same = same-next _ _ _ c.loop-place.invariant.same w.read_into.ensures.began;
          })
      | else-file+in-Ok-read_into+in_ok-push-in-Ok-read_into w ↦
          let whole = w.in-Ok-read_into.ensures.whole in
          let kept = held-more g.T.Taker.holds c.loop-place.fed.items _ (take place (marks_of asked)) read.0 whole.0 many (read.2, read.3) in
          rw (w.shelf-is, w.fed-is, w.held-is) (record {
            read = (
              read.0 ++ whole.0 ∷ [],
              read-item (λ file. file.name.now) asked place _ read.0 whole.0 _ _ _ below read.1 w.read_into-else-file.ensures.began whole.1,
              rw (marks-next asked place _ false below w.if-file.false) kept.0,
              rw (w.in_ok-push-in-Ok-read_into.ensures.items, map-append (λ bytes. bytes.items) c.loop-place.held.items (w.read_into-else-file.new.taker ∷ []), whole.2, marks-next asked place _ false below w.if-file.false) kept.1,
            );
            same = same-next _ _ _ c.loop-place.invariant.same w.read_into-else-file.ensures.began;
          })
    ]
