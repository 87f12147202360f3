-- The numbers that words can ask for.
use Rattle.std.specs.Prelude.{◌≤◌, ⊤}
use Rattle.discount_factors.specs.Factors.{IsPlaces}
use Rattle.command_words.specs.LimitLists.{AreLimits}
use Rattle.command_words.specs.Words.{Question, Check, CheckProof, Compare, Curve, Explain, Make, Mps, Page, Reduce, Solve, SolveFrom, Span, Table, Warn}

-- the question is for written factors of 6 or 9 decimal places, for limits that ascend, or for a made file of one of the sizes
abbrev pub IsInRange : Question → Type 0
IsInRange (Mps file places) = IsPlaces places
IsInRange (Check file plan multipliers gap places) = IsPlaces places
IsInRange (CheckProof file proof gap places) = IsPlaces places
IsInRange (Solve file gap pivots places show method) = IsPlaces places
IsInRange (SolveFrom file start gap pivots places show) = IsPlaces places
IsInRange (Explain file pivots places method) = IsPlaces places
IsInRange (Curve file region emission limits gap pivots places method) = IsPlaces places × AreLimits limits
IsInRange (Span file region technology year slack gap pivots places method) = IsPlaces places
IsInRange (Make size show) = (3 ≤ size) × (size ≤ 122)
IsInRange (Table file proof name exact gap places) = IsPlaces places
IsInRange (Page file proof gap places) = IsPlaces places
IsInRange (Warn file) = ⊤
IsInRange (Compare first first_proof second second_proof gap places show) = IsPlaces places
IsInRange (Reduce file places) = IsPlaces places
