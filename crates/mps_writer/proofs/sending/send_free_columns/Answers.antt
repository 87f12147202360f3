use Rattle.mps_writer.proofs.Common.{◌<◌, ◌+◌, ◌++◌, ℕ, List, drop, get_or, length, refl, ap, arith, enumerate_from, flat_map, at_drop_all, drop_more, Var, output, bound_line, numbered}
use Rattle.mps_writer.proofs.TakenLaws.{item-end, item-fails, item-taken}
use Rattle.mps_writer.proofs.sending.send_free_columns.Goals as goal

-- what a list of variables gives past its end
none : Var
none = record { kind = 0; index = record { region = 0; other = 0; slice = 0; tech = 0; fuel = 0; emission = 0; mode = 0; year = 0 } }

pub returns-in-Err : goal.returns-in-Err
unfolding none
returns-in-Err g c =
    let vars : List Var = c.args.vars.now in
    let k : ℕ = c.loop-place.place in
    let less : k < length vars = omega arith in
    let v : Var = get_or vars k none in
    item-fails bound_line (k + 1, v) (enumerate_from (k + 1 + 1) (drop (k + 1) vars)) (enumerate_from (k + 1) (drop k vars)) (c.args.buffer.now.items ++ flat_map bound_line (numbered vars)) c.loop-place.buffer.items
    (bound_line (k + 1, v)) c.in-Err.fail
    (output (g.K.Sink.written c.args.out.now) (g.K.Sink.accepted c.args.out.now)) (output (g.K.Sink.written c.loop-place.out) (g.K.Sink.accepted c.loop-place.out)) (output (g.K.Sink.written c.send_bound.new.out) (g.K.Sink.accepted c.send_bound.new.out)) (g.K.Sink.faults c.args.out.now) (g.K.Sink.faults c.loop-place.out) (g.K.Sink.faults c.send_bound.new.out)
    (ap (enumerate_from (k + 1)) (drop_more vars k none less)) refl c.loop-place.invariant.taken c.loop-place.invariant.faults c.in-Err.ensures

pub loop-place-preserved : goal.loop-place-preserved
unfolding none
loop-place-preserved g c =
    let vars : List Var = c.args.vars.now in
    let k : ℕ = c.loop-place.place in
    let less : k < length vars = omega arith in
    let v : Var = get_or vars k none in
    record {
      taken = item-taken bound_line (k + 1, v) (enumerate_from (k + 1 + 1) (drop (k + 1) vars)) (enumerate_from (k + 1) (drop k vars)) (c.args.buffer.now.items ++ flat_map bound_line (numbered vars)) c.loop-place.buffer.items
          (bound_line (k + 1, v)) c.send_bound.new.buffer.items
          (output (g.K.Sink.written c.args.out.now) (g.K.Sink.accepted c.args.out.now)) (output (g.K.Sink.written c.loop-place.out) (g.K.Sink.accepted c.loop-place.out)) (output (g.K.Sink.written c.send_bound.new.out) (g.K.Sink.accepted c.send_bound.new.out))
          (ap (enumerate_from (k + 1)) (drop_more vars k none less)) refl c.loop-place.invariant.taken c.in-Ok.ensures.0;
      faults = omega (arith, c.loop-place.invariant.faults, c.in-Ok.ensures.1);
    }

pub returns : goal.returns
returns g c =
    let k : ℕ = c.loop-place.place in (
      item-end bound_line (enumerate_from (k + 1) (drop k c.args.vars.now)) (c.args.buffer.now.items ++ flat_map bound_line (numbered c.args.vars.now)) c.loop-place.buffer.items (output (g.K.Sink.written c.args.out.now) (g.K.Sink.accepted c.args.out.now))
          (output (g.K.Sink.written c.loop-place.out) (g.K.Sink.accepted c.loop-place.out)) (at_drop_all (enumerate_from (k + 1)) c.args.vars.now k (omega arith)) c.loop-place.invariant.taken,
      c.loop-place.invariant.faults,
    )
