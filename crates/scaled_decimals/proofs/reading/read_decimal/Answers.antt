-- A text has one value only, so that what is found is what every reading of it says.
use Rattle.scaled_decimals.proofs.Common.{Err, NotNumber, sym, ap, ◌∙◌, subst, decimal_of, AreDigits}
use Rattle.scaled_decimals.proofs.DecimalLemmas.{IfOk-bound, Reads-from}
use Rattle.scaled_decimals.proofs.NumberReading.{decimal_reads}
use Rattle.scaled_decimals.proofs.TextLemmas.{one_way}
use Rattle.scaled_decimals.proofs.reading.read_decimal.Goals as goal

pub decimal-requires-clause-whole : goal.decimal-requires-clause-whole
decimal-requires-clause-whole c =
    let parts = c.in-Some.ensures.2 in
    subst AreDigits (sym parts.whole) parts.formed.before

pub decimal-requires-clause-places : goal.decimal-requires-clause-places
decimal-requires-clause-places c =
    let parts = c.in-Some.ensures.2 in
    subst AreDigits (sym parts.places) parts.formed.following

pub returns-in-Some-clause-answer : goal.returns-in-Some-clause-answer
returns-in-Some-clause-answer c =
    let found = c.in-Some.ensures in
    Reads-from found.0 c.args.text.now c.decimal.result found.1 (c.decimal.ensures found.0 found.2)

pub returns-in-Some-clause-number : goal.returns-in-Some-clause-number
returns-in-Some-clause-number c =
    λ p is.
    let found = c.in-Some.ensures in
    c.decimal.ensures found.0 found.2 ∙ ap decimal_of (one_way c.args.text.now found.0 p found.1 is)

pub returns-in-Some-clause-bound : goal.returns-in-Some-clause-bound
returns-in-Some-clause-bound c =
    let found = c.in-Some.ensures in
    IfOk-bound found.0 c.decimal.result (c.decimal.ensures found.0 found.2)

pub returns-in-None-clause-read : goal.returns-in-None-clause-read
returns-in-None-clause-read c = decimal_reads c.args.text.now (Err NotNumber) c.in-None.ensures

pub returns-in-Some-clause-read : goal.returns-in-Some-clause-read
returns-in-Some-clause-read c =
    let found = c.in-Some.ensures in
    decimal_reads c.args.text.now c.decimal.result (Reads-from found.0 c.args.text.now c.decimal.result found.1 (c.decimal.ensures found.0 found.2))
