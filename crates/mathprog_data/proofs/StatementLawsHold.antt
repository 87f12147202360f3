-- The laws of the reader of statements hold: what it makes of a list of tokens is what the list is.
use Rattle.mathprog_data.proofs.Common.{sym, refl, drafted}
use Rattle.mathprog_data.proofs.GoodLists.{good-goes, goes-good, means-ends, ends-means}
use Rattle.mathprog_data.proofs.VerdictLaws.{StatementLaws}
use Rattle.mathprog_data.proofs.Verdicts.{stopped-fault, fault-stopped}

pub statement_laws : StatementLaws
statement_laws = record {
  good = goes-good;
  goes = λ ts g. let w = good-goes ts g in (w.beyond, w.is);
  means = λ ts r e h. ends-means ts (drafted r.draft) r e h refl;
  meant = λ ts blocks m. let w = means-ends ts blocks m in (w.beyond, w.is, w.ends, sym w.blocks_are);
  fault = λ ts s e. stopped-fault ts s.number s.at e;
  stops = fault-stopped;
}
