-- Record by record.
use Rattle.plan_files.proofs.Common.{◌≡◌, List, Option, length, ◌+◌, sym, subst, ap, ◌∙◌, true, false, ◌<◌, refl, arith, length-replicate, fields_of, Frac, Fields, name_of, records_of, AreTaken, IsEntry, IsNext}
use Rattle.std.proofs.lemmas.Result.{err_from_is_err_and}
use Rattle.std.proofs.iter.Next.{says_at}
use Rattle.std.specs.Prelude.{IfSome}
use Rattle.plan_files.proofs.SoFarLaws.{IsSoFar, all_read, begun, broken_at, given_back, no_header, one_more}
use Rattle.plan_files.proofs.reading.read_values.Goals as goal

pub returns-in_err-read_header-clause-fault : goal.returns-in_err-read_header-clause-fault
returns-in_err-read_header-clause-fault g c names many finds =
    let all = records_of c.args.text.now in
    let fault = no_header names all c.read_header.new.reader c.in_err-read_header.field-0.0 (c.in_err-read_header.ensures all c.reader_of-reader.ensures) in
    let p = err_from_is_err_and c.from_residual-in_err-read_header.result c.from_residual-in_err-read_header.ensures.1 in
    rw (p.1, p.2) fault

pub loop-number-init : goal.loop-number-init
loop-number-init g c =
    let all = records_of c.args.text.now in (
      ap length c.in_ok-values.ensures ∙ length-replicate c.args.count _,
      λ names many finds. begun names all c.read_header.new.reader c.in_ok-values.values.items c.args.count many c.in_ok-values.ensures (c.in_ok-read_header.ensures all c.reader_of-reader.ensures),
    )

pub take-requires : goal.take-requires
take-requires g c =
    let many : length c.deref_mut.result.now ≡ c.args.count = ap length c.deref_mut.ensures.value ∙ c.loop-number.invariant.0 in
    let inside : IfSome c.place_of-place.result (λ i. i < c.args.count) = c.requires.within c.next_record.new.fields c.place_of-place.result (says_at g.P.Fn c.place_of-place.ensures refl) in
    subst (λ n. IfSome c.place_of-place.result (λ i. i < n)) (sym many) inside

pub returns-then-not-branch-clause-read : goal.returns-then-not-branch-clause-read
returns-then-not-branch-clause-read g c names many finds =
    let r : Fields = fields_of c.next_record.new.fields in
    let so_far = c.loop-number.invariant.1 names many finds in
    let next : IsNext c.next_record.new.reader so_far.later false r = rw c.if-not-branch.true at (c.in_ok-next_record.ensures so_far.later so_far.left) in
    all_read names (records_of c.args.text.now) c.loop-number.reader c.next_record.new.reader c.loop-number.number c.loop-number.values.items r so_far next

pub returns-in_err-take-clause-fault : goal.returns-in_err-take-clause-fault
returns-in_err-take-clause-fault g c names many finds =
    let r : Fields = fields_of c.next_record.new.fields in
    let so_far = c.loop-number.invariant.1 names many finds in
    let entry : IsEntry names (name_of r) c.place_of-place.result = finds c.next_record.new.fields c.place_of-place.result (says_at g.P.Fn c.place_of-place.ensures refl) in
    let next : IsNext c.next_record.new.reader so_far.later true r = rw c.if-not-branch.false at (c.in_ok-next_record.ensures so_far.later so_far.left) in
    let taken : AreTaken names so_far.earlier c.deref_mut.result.now = subst (AreTaken names so_far.earlier) (sym c.deref_mut.ensures.value) so_far.taken in
    let broken = c.in_err-take.ensures.fault names so_far.earlier entry taken so_far.count in
    let fault = broken_at names (records_of c.args.text.now) c.loop-number.reader c.next_record.new.reader c.loop-number.number c.loop-number.values.items r so_far next c.in_err-take.field-0.0 broken in
    let p = err_from_is_err_and c.from_residual-in_err-take.result c.from_residual-in_err-take.ensures.1 in
    rw (p.1, p.2) fault

pub loop-number-preserved : goal.loop-number-preserved
loop-number-preserved g c =
    let r : Fields = fields_of c.next_record.new.fields in
    let items : List (Option Frac) = c.loop-number.values.items in
    let given : List (Option Frac) = c.take.new.values in
    let before : length c.deref_mut.result.now ≡ length items = ap length c.deref_mut.ensures.value in
    let same : length given ≡ length items = omega (arith, c.take.auto.values, before) in
    let back = given_back c.loop-number.values.len given items same (sym before ∙ c.deref_mut.ensures.len) in (
      ap length back ∙ same ∙ c.loop-number.invariant.0,
      λ names many finds.
          let so_far = c.loop-number.invariant.1 names many finds in
          let entry : IsEntry names (name_of r) c.place_of-place.result = finds c.next_record.new.fields c.place_of-place.result (says_at g.P.Fn c.place_of-place.ensures refl) in
          let next : IsNext c.next_record.new.reader so_far.later true r = rw c.if-not-branch.false at (c.in_ok-next_record.ensures so_far.later so_far.left) in
          let lent : AreTaken names so_far.earlier c.deref_mut.result.now = subst (AreTaken names so_far.earlier) (sym c.deref_mut.ensures.value) so_far.taken in
          let taken = c.in_ok-take.ensures.taken names so_far.earlier entry lent in
          let all = records_of c.args.text.now in
          subst (IsSoFar names all c.next_record.new.reader (c.loop-number.number + 1)) (sym back)
          (one_more names all c.loop-number.reader c.next_record.new.reader c.loop-number.number items given r so_far next taken),
    )
