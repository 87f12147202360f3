use Rattle.command_answers.proofs.Common.{◌≡◌, ◌∙◌, ◌++◌, ◌<◌, ℕ, List, [], length, take, get_or, ap, sym, arith, join_with_byte, members, subscript_sets, names_at}
use Rattle.std.proofs.Math.Seq.{take-length}
use Rattle.command_answers.proofs.MemberNames.{one-more-name, length-names, name-there}
use Rattle.command_answers.proofs.refusal_lines.push_members.Goals as goal

pub loop-i-preserved : goal.loop-i-preserved
loop-i-preserved c =
    let sets = c.args.sets.now in
    let param = c.args.cell.now.param in
    let positions = c.args.cell.now.index.items in
    let i = c.loop-i.i in
    let count = length-names sets (subscript_sets param) positions c.requires.1 in
    let inside : i < length positions = omega (arith, ap length c.deref-position-items.ensures.value) in
    let within : i < length (names_at sets param positions) = omega (arith, count) in
    one-more-name (names_at sets param positions) i c.args.out.now.items c.loop-i.out.items c.push_member.new.out.items c.name_of.result.now within
    c.loop-i.invariant
    (c.name_of.ensures
    ∙ ap (λ (p : ℕ). get_or (members sets (get_or c.subscript_sets-kinds.result.now i 0)) p []) (ap (λ (ps : List ℕ). get_or ps i 0) c.deref-position-items.ensures.value)
    ∙ ap (λ (ks : List ℕ). get_or (members sets (get_or ks i 0)) (get_or positions i 0) []) c.subscript_sets-kinds.ensures.sets
    ∙ sym (name-there sets (subscript_sets param) positions i 0 c.requires.1 inside))
    c.in_ok-push_member.ensures

pub returns : goal.returns
returns c =
    let sets = c.args.sets.now in
    let param = c.args.cell.now.param in
    let positions = c.args.cell.now.index.items in
    let names = names_at sets param positions in
    let count = length-names sets (subscript_sets param) positions c.requires.1 in
    let whole : c.loop-i.i ≡ length names = omega (arith, count, ap length c.deref-position-items.ensures.value) in
    c.loop-i.invariant ∙ ap (λ (n : ℕ). c.args.out.now.items ++ join_with_byte 44 (take n names)) whole
    ∙ ap (λ (ns : List (List ℕ)). c.args.out.now.items ++ join_with_byte 44 ns) (take-length names)
