-- Technology by technology.
use Rattle.data_warnings.proofs.Common.{◌≡◌, ◌||◌, ℕ, Bool, List, ap, sym, ◌∙◌, list_any}
use Rattle.std.specs.Prelude.{map}
use Rattle.mathprog_data.specs.BlocksView.{blocks_told, param_told}
use Rattle.mathprog_data.specs.declared.blocks.ParamBlock.{ParamBlock}
use Rattle.data_warnings.specs.StorageUsers.{links_in, uses_storages}
use Rattle.data_warnings.proofs.MarkLaws.{none_marked}
use Rattle.param_tables.proofs.AscendingLaws.{range_kept, range_left}
use Rattle.data_warnings.proofs.storage_users.storage_users.Goals as goal
use Rattle.data_warnings.proofs.storage_users.storage_users.Goals.{then-contains_key+in_ok-push, else-contains_key}

pub loop-t-preserved : goal.loop-t-preserved
loop-t-preserved c =
    let t = c.loop-t.t-counter in
    let test : ℕ → Bool = uses_storages c.args.sets.now (blocks_told c.args.blocks.now) in
    let named : List ParamBlock → Bool = λ blocks. list_any (links_in c.args.sets.now t) (map param_told blocks) in
    let so : c.contains_key.result ≡ test t =
    c.contains_key.ensures ∙ c.in_ok-mark_users.ensures t ∙ ap (λ b. b || named c.as_slice.result.now) (none_marked c.new-marked.result t c.new-marked.ensures.empty) ∙ ap named c.as_slice.ensures.value in
    record {
      end = c.loop-t.invariant.end;
      users = elim c.if-contains_key.branch [
        | then-contains_key+in_ok-push w ↦ ap (λ v. v.items) w.users-is ∙ w.in_ok-push.ensures.items ∙ range_kept test t c.loop-t.users.items (sym so ∙ w.if-contains_key.true) c.loop-t.invariant.users
        | else-contains_key w ↦ ap (λ v. v.items) w.users-is ∙ range_left test t c.loop-t.users.items (sym so ∙ w.if-contains_key.false) c.loop-t.invariant.users
      ];
    }
