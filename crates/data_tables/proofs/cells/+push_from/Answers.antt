-- Position by position.
use Rattle.std.proofs.Common.{◌≡◌, ℕ, ◌+◌, ◌-◌, ◌<◌, List, [], ◌∷◌, ◌++◌, drop, get_or, length, take, refl, sym, ap, subst, ◌∙◌, arith}
use Rattle.std.proofs.lemmas.List.{length-append}
use Rattle.std.specs.List.{flat_map, range_with_len}
use Rattle.model_sets.specs.Members.{SetLists, members}
use Rattle.model_sets.specs.Params.{subscript_sets}
use Rattle.param_tables.specs.Ratios.{count_in}
use Rattle.data_tables.specs.Walks.{AreBegun, indices_from}
use Rattle.data_tables.proofs.WalkLaws.{begun_more, cells_joined, cells_text, indices_more, indices_of_more, next_indices, take_begun}
use Rattle.data_tables.proofs.WrittenLaws.{ranged_next}
use Rattle.data_tables.proofs.cells.+push_from.Goals as goal

-- how many members the next set has
counted : (sets : SetLists) (param : ℕ) (begun : List ℕ) (named : SetLists) (ks : List ℕ) (count : ℕ) → named ≡ sets → ks ≡ subscript_sets param → count ≡ length (members named (get_or ks (length begun) 0))
    → count ≡ count_in sets (get_or (subscript_sets param) (length begun) 0)
counted sets param begun named ks count same over is =
    is ∙ ap (λ s. length (members s (get_or ks (length begun) 0))) same ∙ ap (λ js. length (members sets (get_or js (length begun) 0))) over

pub loop-position-init : goal.loop-position-init
loop-position-init t c =
    let facts = c.args.cells.model.now.facts in
    let param : ℕ = c.args.cells.param in
    let begun : List ℕ = c.args.begun.now.items in
    let ks : List ℕ = subscript_sets param in
    let long : c.len-depth.result ≡ length begun = c.len-depth.ensures ∙ c.args.begun.now.ok.0 in
    let over : length c.subscript_sets-sets.result.now ≡ length ks = ap length c.subscript_sets-sets.ensures.sets in
    let short : length begun < length ks = omega (arith, c.if-depth-sets.false, long, over) in
    let many : c.count-position-end.result ≡ count_in facts.sets (get_or ks (length begun) 0) =
    counted facts.sets param begun c.sets.result.now c.subscript_sets-sets.result.now c.count-position-end.result c.sets.ensures.sets c.subscript_sets-sets.ensures.sets
    (c.count-position-end.ensures.count ∙ ap (λ n. length (members c.sets.result.now (get_or c.subscript_sets-sets.result.now n 0))) long) in
    let all : c.count-position-end.result - 0 ≡ count_in facts.sets (get_or ks (length begun) 0) = omega (arith, many) in
    let next : ℕ → List (List ℕ) = next_indices facts.sets param begun (drop (length begun + 1) ks) in
    record {
      kept = refl;
      lines =
          ap (λ is. c.args.lines.now ++ cells_text c.args.cells.form facts param is)
          (ap (λ n. flat_map next (range_with_len 0 n)) all ∙ sym (indices_more facts.sets param begun short));
    }

pub push_from-requires : goal.push_from-requires
push_from-requires t c =
    let facts = c.args.cells.model.now.facts in
    let param : ℕ = c.args.cells.param in
    let begun : List ℕ = c.args.begun.now.items in
    let ks : List ℕ = subscript_sets param in
    let long : c.len-depth.result ≡ length begun = c.len-depth.ensures ∙ c.args.begun.now.ok.0 in
    let over : length c.subscript_sets-sets.result.now ≡ length ks = ap length c.subscript_sets-sets.ensures.sets in
    let short : length begun < length ks = omega (arith, c.if-depth-sets.false, long, over) in
    let i : ℕ = c.loop-position.position in
    let many : c.count-position-end.result ≡ count_in facts.sets (get_or ks (length begun) 0) =
    counted facts.sets param begun c.sets.result.now c.subscript_sets-sets.result.now c.count-position-end.result c.sets.ensures.sets c.subscript_sets-sets.ensures.sets
    (c.count-position-end.ensures.count ∙ ap (λ n. length (members c.sets.result.now (get_or c.subscript_sets-sets.result.now n 0))) long) in
    let here : i < count_in facts.sets (get_or ks (length begun) 0) = subst (λ n. i < n) many c.loop-position-test.true in
    let items : c.push.new.self.items ≡ begun ++ i ∷ [] = c.in_ok-push.ensures.items ∙ ap (λ at. at ++ i ∷ []) c.loop-position.invariant.kept in
    let longer : length c.push.new.self.items ≡ length begun + 1 = ap length items ∙ length-append begun (i ∷ []) in
    (omega (arith, c.decreases, short, longer), (c.requires.used, subst (AreBegun facts.sets param) (sym items) (begun_more facts.sets param begun short i c.requires.begun here)))

pub loop-position-preserved : goal.loop-position-preserved
loop-position-preserved t c =
    let facts = c.args.cells.model.now.facts in
    let param : ℕ = c.args.cells.param in
    let form = c.args.cells.form in
    let begun : List ℕ = c.args.begun.now.items in
    let ks : List ℕ = subscript_sets param in
    let long : c.len-depth.result ≡ length begun = c.len-depth.ensures ∙ c.args.begun.now.ok.0 in
    let over : length c.subscript_sets-sets.result.now ≡ length ks = ap length c.subscript_sets-sets.ensures.sets in
    let short : length begun < length ks = omega (arith, c.if-depth-sets.false, long, over) in
    let i : ℕ = c.loop-position.position in
    let items : c.push.new.self.items ≡ begun ++ i ∷ [] = c.in_ok-push.ensures.items ∙ ap (λ at. at ++ i ∷ []) c.loop-position.invariant.kept in
    let next : ℕ → List (List ℕ) = next_indices facts.sets param begun (drop (length begun + 1) ks) in
    let written : c.push_from.new.lines ≡ c.loop-position.lines ++ cells_text form facts param (next i) =
    c.in_ok-push_from.ensures.lines
    ∙ ap (λ at. c.loop-position.lines ++ cells_text form facts param (indices_from facts.sets param at)) items
    ∙ ap (λ is. c.loop-position.lines ++ cells_text form facts param is) (indices_of_more facts.sets param begun short i) in
    record {
      kept =
          c.truncate.ensures.items ∙ ap (λ at. take c.len-depth.result at) (c.in_ok-push_from.ensures.kept ∙ items)
          ∙ ap (λ n. take n (begun ++ i ∷ [])) long ∙ take_begun begun (i ∷ []);
      lines =
          ranged_next (cells_text form facts param) (cells_joined form facts param) next i c.count-position-end.result c.loop-position.lines c.push_from.new.lines _
          (omega (arith, c.loop-position-test.true)) c.loop-position.invariant.lines written;
    }
