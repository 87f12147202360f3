-- The book of the data with a limit: one that was made, or that of another limit with the limit's row renewed.
use Rattle.curve_command.proofs.Common.{◌≡◌, ℕ, ℤ, pos, map, sym, ap, ◌∙◌, subst, ◌≤ℤ◌, AreSameData, Data, SetLists, RowName, Var, var_cmp, exists, instances, Book, HasStopped, BookFail, fits-same, is_named_row, same-many, same-terms, same-wide, IsListedBook, IsMadeBook, IsRenewed, limit_at, with_limit}
use Rattle.param_tables.specs.Canonical.{canonical}
use Rattle.param_tables.proofs.CanonicalLaws.{canonical_same}
use Rattle.row_core.specs.Numbers.{ascends}
use Rattle.named_equations.proofs.SameInstances.{back, same-exists, same-says}
use Rattle.plan_files.specs.Listed.{name_of_row}
use Rattle.row_book.specs.declared.fail.BookFail.TheVariants as fails
use Rattle.row_book.proofs.SameRows as over_rows
use Rattle.row_book.proofs.Within.{names-of_rows}
use Rattle.curve_command.proofs.LimitValues.{IsPlace}
use Rattle.curve_command.proofs.LimitedLaws.{exists-alike, limit-instance, limits-alike}
use Rattle.curve_command.proofs.RenewedLaws.{other-rows}

-- ---- one that was made, or none

-- data that are those with the limit in canonical form say the same
pub as-limited : (changed limited : Data) → changed ≡ canonical limited → AreSameData changed limited
as-limited changed limited is = back (subst (AreSameData limited) (sym is) (canonical_same limited))

pub same-made : (places : ℕ) (d e : Data) → AreSameData d e → (book : Book) → IsMadeBook places d book → IsMadeBook places e book
same-made places d e same book is = record {
  made = (over_rows.same-made places d e same 0).0 is.made;
  is_book = record {
    are_rows = (over_rows.same-rows places d e same book.rows).0 is.is_book.are_rows;
    ascending = is.is_book.ascending;
    exist = λ v there. sym (same-exists d e same v) ∙ is.is_book.exist v there;
    whole = λ v there. is.is_book.whole v (same-exists d e same v ∙ there);
  };
  listed = subst (λ (sets : SetLists). IsListedBook sets book.rows book.vars) same.sets is.listed;
}

pub same-stops : (places : ℕ) (d e : Data) → AreSameData d e → (fail : BookFail) → HasStopped places d 0 (instances d) fail → HasStopped places e 0 (instances e) fail
same-stops places d e same (fails.Width place) stopped = (stopped.0, stopped.1, (same-wide places d e same 0 stopped.0).0 stopped.2)
same-stops places d e same fails.TooManyEntries stopped = (stopped.0, (same-many places d e same 0 stopped.0).0 stopped.1)
same-stops places d e same fails.Memory stopped = tt

-- ---- one that was renewed

pub renewed-made : (places : ℕ) (d changed : Data) (r e : ℕ) (y z : ℤ) → IsPlace d r e → pos 0 ≤ℤ y → pos 0 ≤ℤ z → AreSameData changed (with_limit d r e z) → (old new : Book)
    → IsMadeBook places (with_limit d r e y) old → IsRenewed places changed (limit_at r e) old new → IsMadeBook places (with_limit d r e z) new
renewed-made places d changed r e y z at y_least z_least same old new kept renewed =
    let one : Data = with_limit d r e y in
    let other : Data = with_limit d r e z in
    let limit : RowName = limit_at r e in
    let terms = same-terms places other changed (back same) limit (limit-instance d r e z at z_least) in
    let row_is = is_named_row places changed other limit renewed.row (sym terms) (λ q x. sym (same-says other changed (back same) places q x limit (limit-instance d r e z at z_least))) renewed.row_is in
    let alike = limits-alike places d r e y z at y_least z_least in
    let rows =
    other-rows places one other limit alike renewed.row row_is old.rows new.rows renewed.replaced
    (fits-same places other changed limit terms ∙ renewed.fits) kept.is_book.are_rows kept.made in
    let names : map name_of_row old.rows ≡ map name_of_row new.rows =
    names-of_rows places one (instances one) old.rows kept.is_book.are_rows ∙ alike.same_instances ∙ sym (names-of_rows places other (instances other) new.rows rows.0) in
    let there : (v : Var) → exists one v ≡ exists other v = λ v. sym (exists-alike d r e y v) ∙ exists-alike d r e z v in
    record {
      made = rows.1;
      is_book = record {
        are_rows = rows.0;
        ascending = ap (ascends var_cmp) renewed.variables ∙ kept.is_book.ascending;
        exist = λ v has. sym (there v) ∙ kept.is_book.exist v (rw renewed.variables at has);
        whole = λ v is. rw renewed.variables (kept.is_book.whole v (there v ∙ is));
      };
      listed = record {
        rows_listed = rw names at kept.listed.rows_listed;
        vars_listed = rw renewed.variables kept.listed.vars_listed;
      };
    }
