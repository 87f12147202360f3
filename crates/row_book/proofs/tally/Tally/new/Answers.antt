use Rattle.std.proofs.Common.{refl}
use Rattle.row_book.proofs.TallyLaws.{nothing-tallied}
use Rattle.row_book.proofs.tally.Tally.new.Goals as goal

pub returns : goal.returns
returns c places d = nothing-tallied places d _ _ refl refl c.new.ensures.items c.new-2.ensures.items c.new-3.ensures.items (c.in_ok-kinds.ensures.items_if_clones_equal (λ y is. is)) refl
