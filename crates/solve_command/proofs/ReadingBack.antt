-- What was written of an end is read as what was found.
use Rattle.solve_command.proofs.Common.{◌≡◌, ℕ, true, List, [], map, refl, sym, ap, ◌∙◌, subst, Contains, Rational, Frac, Data, AreSets, SetLists, Row, RowName, Var, ascends, keys_of, valued, all_variables, instances, nonzero, descent_file, optimum_file, refutation_file, AreNamedIn, IsBookOf, IsListedBook, vars-are, Shown, AreFractions, ReadsBack, TellsMultipliers, TellsOptimum, TellsPlan, TellsRefutation, TellsShown, WhereProof}
use Rattle.std.specs.List.{AllByRecursion}
use Rattle.row_core.specs.Order.{var_cmp}
use Rattle.plan_files.specs.Answers.{IsPlan}
use Rattle.result_tables.specs.declared.attempts.FoundBy.{FoundBy}
use Rattle.solve_command.specs.SolveTexts.{multiplier_file, plan_file, solved_shown}
use Rattle.solve_command.proofs.WrittenMultipliers.{multipliers-read}
use Rattle.named_equations.proofs.InstanceOrder.{instances-ascend, variables-ascend}
use Rattle.row_book.proofs.Within.{names-of_rows}
use Rattle.plan_files.specs.Files.{records_of}
use Rattle.plan_files.specs.Listed.{IsListedVariable, name_of_row}
use Rattle.plan_files.proofs.ToldLaws.{keys_valued}
use Rattle.proof_files.specs.declared.proof.Proof.TheVariants.{Optimum, Refutation, Descent}
use Rattle.proof_files.specs.Proofs.{IsProof, KeysAreNames, NamesAreListed}
use Rattle.solve_command.specs.declared.solve.Shown.TheVariants as shows
use Rattle.solve_command.proofs.KeptValues.{same-values}

-- what the laws of written plans and proofs say
pub record WrittenLaws : Type 0 where
  pub plan : (sets : SetLists) (vars : List Var) (plan : List (Var × Frac)) → AreSets sets → ascends var_cmp vars ≡ true → AllByRecursion (IsListedVariable sets) vars
      → keys_of plan ≡ vars → IsPlan sets vars (records_of (plan_file sets (map valued plan))) (map valued plan)
  pub optimum : (sets : SetLists) (vars : List Var) (names : List RowName) (plan : List (Var × Frac)) (multipliers : List (RowName × Frac))
      → NamesAreListed sets vars names → (vars ≡ [] → ⊥) → keys_of plan ≡ vars → KeysAreNames names (keys_of multipliers)
      → IsProof sets vars names (records_of (optimum_file sets (map valued plan) (map valued multipliers))) (Optimum (map valued plan) (nonzero (map valued multipliers)))
  pub refutation : (sets : SetLists) (vars : List Var) (names : List RowName) (multipliers : List (RowName × Frac))
      → NamesAreListed sets vars names → KeysAreNames names (keys_of multipliers)
      → IsProof sets vars names (records_of (refutation_file sets (map valued multipliers))) (Refutation (nonzero (map valued multipliers)))
  pub descent : (sets : SetLists) (vars : List Var) (names : List RowName) (plan direction : List (Var × Frac))
      → NamesAreListed sets vars names → (vars ≡ [] → ⊥) → keys_of plan ≡ vars → keys_of direction ≡ vars
      → IsProof sets vars names (records_of (descent_file sets (map valued plan) (map valued direction))) (Descent (map valued plan) (map valued direction))

module _ (laws : WrittenLaws) (places : ℕ) (d : Data) (rows : List Row) (vars : List Var) (sets : SetLists) (same : sets ≡ d.sets) (book : IsBookOf places d rows vars) (listed : IsListedBook sets rows vars) (are : AreSets sets) where
  are_vars : vars ≡ all_variables d
  are_vars = vars-are places d rows vars book

  are_names : map name_of_row rows ≡ instances d
  are_names = names-of_rows places d (instances d) rows book.are_rows

  names-listed : NamesAreListed d.sets (all_variables d) (instances d)
  names-listed = record {
    are_sets = rw same at are;
    ascending_vars = variables-ascend d;
    listed_vars = rw (same, are_vars) at listed.vars_listed;
    ascending_rows = instances-ascend d;
    listed_rows = rw (same, are_names) at listed.rows_listed;
  }

  keys-whole : (plan : List (Var × Frac)) → keys_of (map valued plan) ≡ vars → keys_of plan ≡ all_variables d
  keys-whole plan whole = sym (keys_valued plan) ∙ whole ∙ are_vars

  key-names : (multipliers : List (RowName × Frac)) → AreNamedIn rows (map valued multipliers) → KeysAreNames (instances d) (keys_of multipliers)
  key-names multipliers named =
      subst (KeysAreNames (instances d)) (keys_valued multipliers)
      (record { ascending = named.ascending; among = λ name h. subst (λ (names : List RowName). Contains names name) are_names (named.among name h) })

  of_optimum : (plan : List (Var × Frac)) (multipliers : List (RowName × Frac)) → keys_of (map valued plan) ≡ vars → AreNamedIn rows (map valued multipliers)
      → TellsOptimum d (map valued plan) (map valued multipliers) (optimum_file d.sets (map valued plan) (map valued multipliers))
  of_optimum plan multipliers whole named = record {
    kept = nonzero (map valued multipliers);
    read = λ some. laws.optimum d.sets (all_variables d) (instances d) plan multipliers names-listed some (keys-whole plan whole) (key-names multipliers named);
    same = same-values multipliers named.ascending;
  }

  of_refutation : (multipliers : List (RowName × Frac)) → AreNamedIn rows (map valued multipliers) → TellsRefutation d (map valued multipliers) (refutation_file d.sets (map valued multipliers))
  of_refutation multipliers named = record {
    kept = nonzero (map valued multipliers);
    read = λ some. laws.refutation d.sets (all_variables d) (instances d) multipliers names-listed (key-names multipliers named);
    same = same-values multipliers named.ascending;
  }

  of_plan : (plan : List (Var × Frac)) → keys_of (map valued plan) ≡ vars → TellsPlan d (map valued plan) (plan_file d.sets (map valued plan))
  of_plan plan whole = laws.plan d.sets (all_variables d) plan names-listed.are_sets names-listed.ascending_vars names-listed.listed_vars (keys-whole plan whole)

  of_multipliers : (multipliers : List (RowName × Frac)) → AreNamedIn rows (map valued multipliers) → TellsMultipliers d (map valued multipliers) (multiplier_file d.sets (map valued multipliers))
  of_multipliers multipliers named = record {
    kept = nonzero (map valued multipliers);
    read = multipliers-read d.sets (all_variables d) (instances d) names-listed multipliers (key-names multipliers named) (laws.refutation d.sets (all_variables d) (instances d) multipliers names-listed (key-names multipliers named));
    same = same-values multipliers named.ascending;
  }

  pub reads-back : ReadsBack d rows vars
  reads-back = record {
    plan = λ plan values whole. rw (← values.are) (of_plan values.fractions (ap keys_of values.are ∙ whole));
    multipliers = λ multipliers amounts named. rw (← amounts.are) (of_multipliers amounts.fractions (rw (← amounts.are) at named));
    optimum = λ plan multipliers values amounts whole named.
        rw (← values.are, ← amounts.are) (of_optimum values.fractions amounts.fractions (ap keys_of values.are ∙ whole) (rw (← amounts.are) at named));
    refutation = λ multipliers amounts named. rw (← amounts.are) (of_refutation amounts.fractions (rw (← amounts.are) at named));
    descent = λ plan direction values changes whole along.
        rw (← values.are, ← changes.are)
        (λ some.
        laws.descent d.sets (all_variables d) (instances d) values.fractions changes.fractions names-listed some (keys-whole values.fractions (ap keys_of values.are ∙ whole)) (keys-whole changes.fractions (ap keys_of changes.are ∙ along)));
  }

-- ---- where a proof is shown, the text is it

pub where-proof : (show : Shown) (text proof : List ℕ) (Told : List ℕ → Type 0) → (show ≡ shows.Proof → text ≡ proof) → Told proof → WhereProof show (Told text)
where-proof shows.Proof text proof Told is told = subst Told (sym (is refl)) told
where-proof show text proof Told is told = tt

-- and so is what is shown of an optimum, where that is its plan, its multipliers or its proof
pub where-shown : (show : Shown) (d : Data) (rows : List Row) (vars : List Var) (plan : List (Var × Rational)) (multipliers : List (RowName × Rational)) (cost bound : Rational) (made rounded places : ℕ)
    (attempt : FoundBy) (text : List ℕ) → ReadsBack d rows vars → AreFractions plan → AreFractions multipliers → keys_of plan ≡ vars → AreNamedIn rows multipliers
    → text ≡ solved_shown show d.sets vars plan rows multipliers cost bound made rounded places attempt → TellsShown show d plan multipliers text
where-shown shows.Plan d rows vars plan multipliers cost bound made rounded places attempt text reads values amounts whole named is = subst (TellsPlan d plan) (sym is) (reads.plan plan values whole)
where-shown shows.Multipliers d rows vars plan multipliers cost bound made rounded places attempt text reads values amounts whole named is =
    subst (TellsMultipliers d multipliers) (sym is) (reads.multipliers multipliers amounts named)
where-shown shows.Proof d rows vars plan multipliers cost bound made rounded places attempt text reads values amounts whole named is =
    subst (TellsOptimum d plan multipliers) (sym is) (reads.optimum plan multipliers values amounts whole named)
where-shown shows.Report d rows vars plan multipliers cost bound made rounded places attempt text reads values amounts whole named is = tt
where-shown shows.Line d rows vars plan multipliers cost bound made rounded places attempt text reads values amounts whole named is = tt
where-shown shows.Summary d rows vars plan multipliers cost bound made rounded places attempt text reads values amounts whole named is = tt
