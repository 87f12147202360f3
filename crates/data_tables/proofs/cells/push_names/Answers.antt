-- Name by name.
use Rattle.std.proofs.Common.{◌≡◌, ℕ, ◌+◌, ◌<◌, List, ◌++◌, ◌∷◌, [], drop, get_or, length, sym, ap, ◌∙◌, append_assoc, arith}
use Rattle.std.proofs.lemmas.Slice.Zip.{AllZip-long}
use Rattle.csv.specs.Records.{fields_of}
use Rattle.model_sets.specs.Members.{members}
use Rattle.param_tables.specs.Positions.{names_over}
use Rattle.data_tables.proofs.WalkLaws.{names_next}
use Rattle.data_tables.proofs.cells.push_names.Goals as goal

pub loop-place-preserved : goal.loop-place-preserved
loop-place-preserved c =
    let sets = c.args.sets.now in
    let over : List ℕ = c.args.over.now in
    let at : List ℕ = c.args.at.now in
    let i : ℕ = c.loop-place.place in
    let long : length at ≡ length over = AllZip-long (λ k j. j < length (members sets k)) over at c.requires.within in
    let here : i < length over = omega (arith, c.loop-place-test.true) in
    let rest : List (List ℕ) = names_over sets (drop (i + 1) over) (drop (i + 1) at) in
    let so_far : List (List ℕ) = fields_of c.loop-place.fields in
    let one : List (List ℕ) = names_over sets (get_or over i 0 ∷ []) (get_or at i 0 ∷ []) in
    let written : fields_of c.push_field.new.fields ≡ so_far ++ one = c.in_ok-push_field.ensures.fields ∙ ap (λ name. so_far ++ name ∷ []) c.name_of.ensures in
    record {
      fields =
          ap (λ fields. fields ++ rest) written ∙ append_assoc so_far one rest
          ∙ ap (λ names. so_far ++ names) (sym (names_next sets over at i here (omega (arith, here, long)))) ∙ c.loop-place.invariant.fields;
      whole = c.in_ok-push_field.ensures.whole;
    }
