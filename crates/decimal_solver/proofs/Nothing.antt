-- Where one part gives nothing, so does the whole.
use Rattle.row_problem.proofs.Common.{◌≡◌, Option, None, NoAnswer, Nothing, Budget, Width, Memory}
use Rattle.decimal_solver.specs.Views.{IsNothing}

pub nothing-later : {A B : Type 0} (part : Option A) (whole : Option B) (stop : NoAnswer) → (part ≡ None → whole ≡ None) → IsNothing part stop → IsNothing whole stop
nothing-later part whole Nothing f h = f h
nothing-later part whole Budget f h = f h
nothing-later part whole (Width place) f h = f h
nothing-later part whole Memory f h = tt
