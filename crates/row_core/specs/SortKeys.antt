-- A number of a variable, by which lists are sorted before they are sorted by variable.
use Rattle.std.specs.Prelude.{ℕ, ◌+◌, ◌*◌}
use Rattle.row_core.specs.declared.Var.{Var}

-- the kind and the subscripts, each in bits of its own; the fuel and the emission share theirs, since no kind has both,
-- and only for trades over more than 64 timeslices may the number not rise (nothing but speed rests on it)
abbrev pub sort_key : Var → ℕ
sort_key v =
    (v.kind * 18014398509481984 + v.index.region * 70368744177664 + v.index.other * 1099511627776 + v.index.slice * 17179869184)
    + (v.index.tech * 4194304 + v.index.fuel * 16384 + v.index.emission * 16384 + v.index.mode * 128 + v.index.year)
