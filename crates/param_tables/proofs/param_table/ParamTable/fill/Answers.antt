-- From the last place to the first, so that what is kept is what a look-up finds first.
use Rattle.std.proofs.Common.{◌≡◌, ◌∙◌, ◌+◌, ◌-◌, ◌<◌, ℤ, pos, Some, length, drop, nat_eq, sym, ap, ap₂, arith}
use Rattle.std.specs.Prelude.{min}
use Rattle.param_tables.proofs.Common.{Bool, true, false, Option, refl, get_or, if◌then◌else◌, option_or, get, nat_cmp, get_or_default, entries_of, given_in}
use Rattle.param_tables.proofs.ChangeLaws.{given_from, given_past}
use Rattle.param_tables.proofs.param_table.ParamTable.fill.Goals as goal

or_if : (b : Bool) (v : ℤ) (first second : Option ℤ) → option_or (if b then Some v else first) second ≡ (if b then Some v else option_or first second)
or_if true v first second = refl
or_if false v first second = refl

pub loop-i-init : goal.loop-i-init
loop-i-init c =
    let places = c.args.self.now.places.items in
    let values = c.args.self.now.values.items in
    let all : c.min-i.result ≡ min (length places) (length values) = c.min-i.ensures ∙ ap₂ min (c.len.ensures ∙ c.args.self.now.places.ok.0) (c.len-2.ensures ∙ c.args.self.now.values.ok.0) in
    record {
      within = omega (arith, all);
      beside = omega (arith, all);
      values = λ q. sym (ap (λ o. option_or o (get nat_cmp c.args.given.now q)) (given_past places values c.min-i.result q all));
    }

pub loop-i-preserved : goal.loop-i-preserved
loop-i-preserved c =
    let i = c.loop-i.i - 1 in
    let below : i < length c.args.self.now.places.items = omega (arith, c.loop-i.invariant.within, c.loop-i-test.true) in
    let inside : i < length c.args.self.now.values.items = omega (arith, c.loop-i.invariant.beside, c.loop-i-test.true) in
    let on : i + 1 ≡ c.loop-i.i = omega (arith, c.loop-i-test.true) in
    let place = c.index.ensures ∙ get_or_default c.args.self.now.places.items i c.index.result.now 0 below in
    let value = c.index-in-loop-i.ensures ∙ get_or_default c.args.self.now.values.items i c.index-in-loop-i.result.now (pos 0) inside in
    record {
      within = omega (arith, c.loop-i.invariant.within);
      beside = omega (arith, c.loop-i.invariant.beside);
      values = λ q.
          let before = get nat_cmp c.args.given.now q in
          c.in_ok-keep.ensures.kept q
          ∙ ap (λ o. if nat_eq q c.index.result.now then Some c.index-in-loop-i.result.now else o) (c.loop-i.invariant.values q ∙ ap (λ k. option_or (given_in (drop k (entries_of c.args.self.now)) q) before) (sym on))
          ∙ ap₂ (λ place value. if nat_eq q place then Some value else option_or (given_in (drop (i + 1) (entries_of c.args.self.now)) q) before) place value
          ∙ sym (ap (λ o. option_or o before) (given_from c.args.self.now.places.items c.args.self.now.values.items i q below inside) ∙ or_if (nat_eq q (get_or c.args.self.now.places.items i 0)) (get_or c.args.self.now.values.items i (pos 0)) (given_in (drop (i + 1) (entries_of c.args.self.now)) q) before);
    }
