use Rattle.osemosys_run.proofs.Common.{ProofLaws, form_of}
use Rattle.osemosys_run.proofs.PromisedTables.{SpokenRowLaw, TableLaws, table-promised}
use Rattle.osemosys_run.proofs.promised.promised_laws.Goals as goal

pub returns : goal.returns
returns c =
    let laws : ProofLaws = record { one_proof = c.proof_telling_laws.ensures.one_proof; proof_or_fault = c.proof_telling_laws.ensures.proof_or_fault } in
    let of_rows : SpokenRowLaw = record { spoken = c.spoken_row_laws.ensures.spoken; entries = c.spoken_row_laws.ensures.entries } in
    let law : TableLaws = record { prices = c.table_laws.ensures; over_data = c.data_price_laws.ensures; percents = c.percent_laws.ensures } in
    record {
      table_prices = λ places gap bytes name exact d table text named due.
          table-promised laws law c.shown_row_laws.ensures of_rows c.denominator_laws.ensures.rationals places d bytes gap name (form_of exact) table text named due;
    }
