-- The search ends at the row, or none of the list is named.
use Rattle.plan_files.proofs.Common.{sym, subst, fields_of, RowName, row_name_cmp, row_name_cmp_exact, row_name_cmp_total, name_of, IsListedRow, IsEntry, row_names, row_fields}
use Rattle.plan_files.proofs.KeyLaws.{entry_of, no_entry_of}
use Rattle.plan_files.proofs.names.place_of_row.Goals as goal

abbrev nothing : RowName
nothing = record { eq = 0; index = record { region = 0; other = 0; slice = 0; tech = 0; fuel = 0; emission = 0; mode = 0; year = 0 } }

pub returns-in_err-row_named : goal.returns-in_err-row_named
returns-in_err-row_named c =
    let sets = c.args.sets.now in
    let name = name_of (fields_of c.args.fields.now) in
    subst (IsEntry (row_names sets c.args.names.now) name) (sym c.from_residual.ensures)
    (no_entry_of (row_fields sets) c.args.names.now name nothing (IsListedRow sets) c.requires.listed c.in_err-row_named.ensures.alone)

pub returns : goal.returns
returns c =
    let sets = c.args.sets.now in
    let found = c.in_ok-row_named.ensures in
    entry_of row_name_cmp row_name_cmp_total row_name_cmp_exact (row_fields sets) c.args.names.now (name_of (fields_of c.args.fields.now)) c.in_ok-row_named.field-0 (IsListedRow sets) c.requires.listed found.named found.alone c.place_of.result c.place_of.ensures.here
    c.place_of.ensures.alone
