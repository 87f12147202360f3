-- What is said on a page, computed on examples and near misses.
use Rattle.std.proofs.Common.{◌≡◌, [], refl}
use Rattle.std.specs.Fmt.{digits}
use Rattle.std.specs.Prelude.{codes}
use Rattle.proof_files.specs.declared.proof.Proof.TheVariants.{Optimum, Refutation, Descent}
use Rattle.command_answers.specs.declared.status.Status.TheVariants.{Done, Infeasible, Unbounded}
use Rattle.page_command.specs.Pages.{page_said, status_of}

said : page_said (codes "accepted infeasible\n") 12 9 ≡ codes "accepted infeasible\nrounded 12\nplaces 9\n"
unfolding digits
said = refl

-- a refutation's page has status 1, that of a plan with a direction 2, and that of an optimum 0
of_refutation : status_of (Refutation []) ≡ Infeasible
of_refutation = refl

of_descent : status_of (Descent [] []) ≡ Unbounded
of_descent = refl

of_optimum : status_of (Optimum [] []) ≡ Done
of_optimum = refl

not_as_a_plan : status_of (Refutation []) ≡ Done → ⊥
not_as_a_plan same = cc same
