-- Value by value.
use Rattle.data_warnings.proofs.Common.{◌≡◌, ◌<◌, ◌+◌, ◌||◌, ℕ, Bool, Option, Some, true, false, length, take, nat_eq, if◌then◌else◌, ap, sym, subst, ◌∙◌, list_any}
use Rattle.std.specs.BTreeMap.{get}
use Rattle.std.specs.Option.{is_some}
use Rattle.std.specs.Ordering.{nat_cmp}
use Rattle.std.specs.Prelude.{get_or}
use Rattle.mathprog_data.specs.Meaning.{GivenValue}
use Rattle.data_warnings.specs.StorageUsers.{is_at, links}
use Rattle.data_warnings.proofs.MarkLaws.{any_more, marked_less, marked_more, no_value, value_there}
use Rattle.data_warnings.proofs.storage_users.mark_of.Goals as goal
use Rattle.data_warnings.proofs.storage_users.mark_of.Goals.{in-Some+in_ok-mark, in_default}

pub loop-number-preserved : goal.loop-number-preserved
loop-number-preserved c =
    let told = c.args.values.now in
    let i = c.loop-number.number in
    let sets = c.args.sets.now in
    let below : i < length told = subst (λ n. i < n) c.len-number-end.ensures c.loop-number-test.true in
    let v : GivenValue = get_or told i no_value in
    let is : v ≡ get_or told i v = value_there told i below in
    let more : (t : ℕ) → list_any (links sets t) (take (i + 1) told) ≡ (list_any (links sets t) (take i told) || links sets t v) = λ t. any_more (links sets t) told i no_value below in
    let first : ℕ → Option Bool = get nat_cmp c.args.marked.now in
    let before : ℕ → Option Bool = get nat_cmp c.loop-number.marked in
    let now : ℕ → Option Bool = get nat_cmp c.match-named_by.marked in
    record {
      end = c.len-number-end.ensures;
      marked = λ t.
          let so = c.loop-number.invariant.marked t in
          elim c.match-named_by.branch [
            | in-Some+in_ok-mark w ↦
                let same : nat_eq t w.in-Some.t ≡ links sets t v = ap (λ r. is_at r t) (sym w.in-Some.is) ∙ c.named_by.ensures v is t in
                let put : now t ≡ (if nat_eq t w.in-Some.t then Some true else before t) = ap (λ m. get nat_cmp m t) w.marked-is ∙ w.in_ok-mark.ensures t in
                marked_more (first t) (before t) (now t) (list_any (links sets t) (take i told)) (links sets t v) so
                (put ∙ ap (λ b. if b then Some true else before t) same) ∙ ap (λ b. is_some (first t) || b) (sym (more t))
            | in_default w ↦
                let none : false ≡ links sets t v = ap (λ r. is_at r t) (sym w.in_default.is) ∙ c.named_by.ensures v is t in
                ap (λ m. is_some (get nat_cmp m t)) w.marked-is ∙ marked_less (is_some (first t)) (is_some (before t)) (list_any (links sets t) (take i told)) (links sets t v) so (sym none)
                ∙ ap (λ b. is_some (first t) || b) (sym (more t))
          ];
    }
