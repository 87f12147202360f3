-- A part of the year is above 0.
use Rattle.equation_parts.proofs.Common.{ℤ, pos, Option, Some, None, ◌<ℤ◌, unwrap_or, IsSomeAnd, YEAR_SPLIT, IsValueIn, range_of}

pub above_zero : (given : Option ℤ) → IsSomeAnd given (IsValueIn (range_of YEAR_SPLIT)) → pos 0 <ℤ unwrap_or given (pos 0)
above_zero None h = absurd h
above_zero (Some z) h = h.within
