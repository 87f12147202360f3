use Rattle.mps_writer.proofs.Common.{◌<◌, List, drop, get_or, length, sym, subst, refl, arith, Var, Rises, Entry}
use Rattle.mps_writer.proofs.ColumnText.{following-rises}
use Rattle.mps_writer.proofs.ColumnTurns.{column-turn}
use Rattle.mps_writer.proofs.columns.push_columns.Goals as goal

-- what a list of variables gives past its end
none : Var
none = record { kind = 0; index = record { region = 0; other = 0; slice = 0; tech = 0; fuel = 0; emission = 0; mode = 0; year = 0 } }

pub loop-place-preserved : goal.loop-place-preserved
unfolding none
loop-place-preserved c =
    let vars = c.args.vars.now in
    let k = c.loop-place.place in
    let v = get_or vars k none in
    let left = drop c.loop-place.next c.args.entries.now in
    let less : k < length vars = omega arith in
    record {
      text = column-turn c.args.sets.now vars k v none left (drop c.in_ok-next.next c.args.entries.now)
          c.loop-place.out.items c.push_column_head.new.out.items c.push_column.new.out.items _
          less refl c.requires.ascending c.loop-place.invariant.rises c.loop-place.invariant.text
          c.in_ok-push_column_head.ensures c.in_ok-next.ensures.text c.in_ok-next.ensures.rest;
      rises = subst (λ (es : List Entry). Rises es) (sym c.in_ok-next.ensures.rest) (following-rises v left c.loop-place.invariant.rises);
      within = c.in_ok-next.ensures.within;
    }
