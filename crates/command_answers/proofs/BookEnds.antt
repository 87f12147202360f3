-- What stopped the book of rows is told by its answer.
use Rattle.command_answers.proofs.Common.{◌≡◌, ◌⊎◌, ℕ, List, inl, inr, Data, SetLists, instances, HasStopped, Status}
use Rattle.row_book.specs.declared.fail.BookFail.{BookFail}
use Rattle.row_book.specs.declared.fail.BookFail.TheVariants as fails
use Rattle.command_answers.specs.BookFails.{TellsFail}
use Rattle.command_answers.specs.MadeRows.{IsTooLarge, IsUncertified}

-- the row that the book names is the one that is told
pub refused_told : (places : ℕ) (d : Data) (sets : SetLists) (fail : BookFail) (status : Status) (text : List ℕ) → HasStopped places d 0 (instances d) fail → sets ≡ d.sets
    → TellsFail sets fail status text → IsUncertified places d status text ⊎ IsTooLarge places d status text
refused_told places d sets (fails.Width place) status text stopped same told =
    inl (record {
      name = stopped.0;
      wide = stopped.2;
      status_is = rw stopped.1 at told.0;
      line_is = rw (stopped.1, same) at told.1;
    })
refused_told places d sets fails.TooManyEntries status text stopped same told = inr (record { name = stopped.0; many = stopped.1; status_is = told.0; line_is = told.1 })
refused_told places d sets fails.Memory status text stopped same told = absurd told
