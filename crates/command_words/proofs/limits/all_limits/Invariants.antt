-- With the texts that are left, the limits so far are those of all texts.
use Rattle.command_words.proofs.Common.{◌≡◌, drop, map, all_of, limit_of}
use Rattle.command_words.proofs.LimitTurns.{read_after}
use Rattle.command_words.proofs.limits.all_limits.Given as goal

abbrev pub invariant-loop-text : goal.invariant-loop-text
invariant-loop-text l = all_of limit_of (map (λ text. text.now) l.texts) ≡ read_after limit_of l.limits.items (map (λ text. text.now) (drop l.text-index l.texts))
