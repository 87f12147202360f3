-- What a book of the rows of the data with a limit tells is what is due of the trial.
use Rattle.curve_command.proofs.Common.{◌≡◌, ℕ, List, ap, inl, inr, IsLimit, Data, Row, Var, all_variables, instances, Book, HasStopped, BookFail, Width, IsMadeBook, vars-are, IsStopped, point_seen, limit_of, limited, BookTells, FailTells, TrialTells, Wanted, Limit}
use Rattle.row_book.specs.declared.fail.BookFail.TheVariants as fails
use Rattle.command_answers.specs.MadeRows.{IsMadeFor}
use Rattle.curve_command.specs.declared.trials.Trial.{Trial}
use Rattle.curve_command.specs.declared.trials.Trial.TheVariants as trials
use Rattle.curve_command.proofs.LimitValues.{IsPlace}
use Rattle.curve_command.proofs.NamedPoints.{end-named}

module _ (places : ℕ) (d : Data) (limit : Limit) (wanted : Wanted) (at : IsPlace d limit.member.region limit.member.emission) (most : IsLimit limit.most) where
  module _ (book : Book) (made : IsMadeBook places (limited d limit) book) where
    abbrev vars : List Var
    vars = all_variables (limited d limit)

    vars_are : book.vars ≡ vars
    vars_are = vars-are places (limited d limit) book.rows book.vars made.is_book

    made-for : (P : List Row → Type 0) → P book.rows → IsMadeFor places (limited d limit) P
    made-for P due = record { made = made.made; rows = book.rows; are_rows = made.is_book.are_rows; due = due }

    told-of : (trial : Trial) → BookTells d.sets (record { rows = book.rows; vars = vars }) (limit_of limit.member) wanted trial → TrialTells places d limit wanted trial
    told-of (trials.Ended point) told = (
      record {
        cause = elim told.cause [ inl is ↦ inr (inl (made-for _ is)) | inr is ↦ inr (inr (record { asked = is.0; made = made.made; rounded = is.1 })) ];
        true_end = end-named places d limit.member.region limit.member.emission limit.most at book.rows vars (rw vars_are at made.is_book) (point_seen point) told.worth;
      },
      (most, told.within),
    )
    told-of (trials.Refused answer) told = inr (made-for _ told)

    pub book-told : (trial : Trial) → BookTells d.sets book (limit_of limit.member) wanted trial → TrialTells places d limit wanted trial
    book-told trial told = told-of trial (rw vars_are at told)

  -- rows that can't be made
  pub fail-told : (fail : BookFail) → HasStopped places (limited d limit) 0 (instances (limited d limit)) fail → (trial : Trial) → FailTells d.sets fail trial → TrialTells places d limit wanted trial
  fail-told (fails.Width place) stopped trial told =
      rw told.0 (
        record { cause = inl (record { name = stopped.0; wide = stopped.2; end_is = ap (λ p. IsStopped (Width p)) stopped.1 }); true_end = tt },
        (most, told.1),
      )
  fail-told fails.TooManyEntries stopped (trials.Refused answer) told = inl (record { name = stopped.0; many = stopped.1; status_is = told.0; line_is = told.1 })
  fail-told fails.TooManyEntries stopped (trials.Ended point) told = absurd told
  fail-told fails.Memory stopped trial told = absurd told
