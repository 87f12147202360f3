use Rattle.command_words.proofs.Common.{◌∙◌, ap}
use Rattle.scaled_decimals.specs.NumberReading.{decimal_in}
use Rattle.command_words.proofs.LimitLaws.{limit_reads}
use Rattle.command_words.proofs.limits.limit_of.Goals as goal

pub returns : goal.returns
returns c = c.exact_limit.ensures ∙ limit_reads c.args.text.now c.read_decimal.result (c.read_decimal.ensures.read ∙ ap decimal_in c.as_bytes.ensures.value)
