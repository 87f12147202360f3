-- What it means that values meet a program, computed on a small one, and on near misses.
use Rattle.std.proofs.Common.{◌≡◌, ◌∷◌, [], refl, arith}
use Rattle.std.specs.Prelude.{ℤ, pos, negsuc, codes, None, Some, if◌then◌else◌}
use Rattle.std.specs.Str.{bytes_eq}
use Rattle.std.proofs.lemmas.Int.{ints}
use Rattle.mps_meaning.specs.Lines.{Name}
use Rattle.mps_meaning.specs.Programs.{Letter, Program, MeetsProgram, objective_of}

-- least C2 with C2 = 20 C1, 3 C1 at most 120 and C1 + C3 at least 7, where C2 may be below 0
abbrev program : Program
program = record {
  costs = (codes "C2", pos 1) ∷ [];
  rows =
      record { name = codes "R1"; sense = Letter.E; entries = (codes "C1", negsuc 19) ∷ (codes "C2", pos 1) ∷ []; right_side = pos 0 }
      ∷ record { name = codes "R2"; sense = Letter.L; entries = (codes "C1", pos 3) ∷ []; right_side = pos 120 }
      ∷ record { name = codes "R3"; sense = Letter.G; entries = (codes "C1", pos 1) ∷ (codes "C3", pos 1) ∷ []; right_side = pos 7 }
      ∷ [];
  columns =
      record { name = codes "C1"; least = Some (pos 0) }
      ∷ record { name = codes "C2"; least = None }
      ∷ record { name = codes "C3"; least = Some (pos 0) }
      ∷ [];
}

-- the values of the three columns, by their names
abbrev values : ℤ → ℤ → ℤ → Name → ℤ
values c1 c2 c3 name = if bytes_eq name (codes "C1") then c1 else if bytes_eq name (codes "C2") then c2 else c3

-- 13/2, 130 and 1/2
meets : MeetsProgram program 2 (values (pos 13) (pos 260) (pos 1))
meets = record { positive = omega arith; rows = (refl, (omega (arith, ints), (omega (arith, ints), tt))); columns = (omega (arith, ints), (tt, (omega (arith, ints), tt))) }

cost : objective_of program (values (pos 13) (pos 260) (pos 1)) ≡ pos 260
cost = refl

-- a cost that isn't 20 times C1
another_cost : MeetsProgram program 2 (values (pos 13) (pos 259) (pos 1)) → ⊥
another_cost m = omega (arith, ints, m.rows.0)

-- 3 C1 is above 120
too_much : MeetsProgram program 2 (values (pos 81) (pos 1620) (pos 1)) → ⊥
too_much m = omega (arith, ints, m.rows.1.0)

-- C1 + C3 is below 7: the right sides are taken times 2
too_little : MeetsProgram program 2 (values (pos 7) (pos 140) (pos 0)) → ⊥
too_little m = omega (arith, ints, m.rows.1.1.0)

-- C3 is below 0
below_its_least : MeetsProgram program 2 (values (pos 15) (pos 300) (negsuc 0)) → ⊥
below_its_least m = omega (arith, ints, m.columns.1.1.0)
