-- Rows that are kept or dropped are kept or passed over.
use Rattle.variable_elimination.proofs.Common.{List, [], ◌∷◌, inl, inr, Frac, Row, AreAmongReductions, AreReductions}

pub among-all : (definitions named rows : List Row) (scales : List Frac) → AreReductions definitions named rows scales → AreAmongReductions definitions named rows scales
among-all definitions [] rows scales h = h
among-all definitions (row ∷ others) rows scales (inl h) = inl (among-all definitions others rows scales h.1)
among-all definitions (row ∷ others) rows scales (inr (new, scale, more, more_scales, e, f, r, h)) = inr (new, scale, more, more_scales, e, f, r, among-all definitions others more more_scales h)
