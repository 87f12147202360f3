-- The eight subscripts of the OSeMOSYS long code, by its own letters, in the order of the fields of `Index`.
use Rattle.std.specs.Prelude.{ℕ}

-- the region
abbrev pub r : ℕ
r = 0

-- the other region of a trade
abbrev pub rr : ℕ
rr = 1

-- the timeslice
abbrev pub l : ℕ
l = 2

-- the technology
abbrev pub t : ℕ
t = 3

-- the fuel
abbrev pub f : ℕ
f = 4

-- the emission
abbrev pub e : ℕ
e = 5

-- the mode of operation
abbrev pub m : ℕ
m = 6

-- the year
abbrev pub y : ℕ
y = 7
