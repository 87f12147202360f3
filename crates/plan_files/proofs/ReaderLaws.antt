-- What a read of a record does to the records that a reader has left.
use Rattle.plan_files.proofs.Common.{◌≡◌, ℕ, Bool, true, false, List, [], ◌∷◌, Bor, Option, Some, inl, refl, sym, ap, ap₂, ◌∙◌, ends_at_end, ReadRecord, Reached, default_config, reader_state, took_first, Reader, Fields, HasLeft, IsNext}
use Rattle.csv.proofs.ReadFacts.{rows-end, rows-more}
use Rattle.plan_files.proofs.RecordSteps.{first_of, left_records, none_left}

abbrev known : Bor (List ℕ) → Option (List ℕ)
known source = Some source.now

pub next_is : (a b : Reader (Bor (List ℕ))) (rows : List Fields) (found : Bool) (f : Fields) → HasLeft a rows → ReadRecord known a b found f → took_first b ≡ true → IsNext b rows found f
unfolding Reached
next_is a b rows true f left r first =
    let (z, source, (p, next, fields, (state, rest))) = rows-more known a b f default_config (reader_state a) left.bytes left.bytes [] left.config left.source (refl, refl) r in
    let parts = first_of (reader_state a) left.bytes p left.outside next in
    let later : left_records p.1 p.2 ≡ left_records (reader_state b) z = ap₂ left_records state rest in (
      left_records (reader_state b) z,
      left.all ∙ parts.all ∙ ap₂ (λ (x : Fields) (xs : List Fields). x ∷ xs) (sym fields) later,
      record {
        untrimmed = r.3 ∙ left.untrimmed;
        ready = inl first;
        config = r.2 ∙ left.config;
        outside = ap ends_at_end (sym state) ∙ parts.outside;
        bytes = z;
        source = source;
        all = refl;
      },
    )
next_is a b rows false f left r first = left.all ∙ none_left (reader_state a) left.bytes (rows-end known a b f default_config left.bytes left.config left.source r)
