-- The definitions, computed.
use Rattle.io_edges.proofs.Common.{◌≡◌, ℕ, ◌-◌, ◌^◌, true, false, List, [], ◌∷◌, Some, None, refl, arith, lit≤, file_named, put_file, MovedFile, with_begin, with_read, Output, Took, TookPrefix, output}
use Rattle.io_edges.specs.Count.{counted, counted_by, Rose}
use Rattle.io_edges.specs.Edges.{Lacks}
use Rattle.io_edges.specs.Memory.{ShelfState, SinkState, fails_next, begun, begin_failed, read_on, read_failed, written_on, write_failed}
use Rattle.io_edges.specs.Sure.{SureShelfState, SureSinkState, sure_opened, sure_read, sure_refused, sure_written}

-- a counter goes up by one until it stays
one_more : counted 0 ≡ 1
one_more = refl

last_but_one : counted (2 ^ 64 - 2) ≡ 2 ^ 64 - 1
last_but_one = refl

stays : counted (2 ^ 64 - 1) ≡ 2 ^ 64 - 1
stays = refl

several_more : counted_by 3 4 ≡ 7
several_more = refl

past_the_end : counted_by (2 ^ 64 - 3) 4 ≡ 2 ^ 64 - 1
past_the_end = refl

-- it rose by one, by several, or stands at its end; it did not rise where it is as before, or lower
rose : Rose 3 4
rose = lit≤ tt

rose_by_two : Rose 3 5
rose_by_two = lit≤ tt

at_the_end : Rose (2 ^ 64 - 1) (2 ^ 64 - 1)
at_the_end = lit≤ tt

as_before : Rose 3 3 → ⊥
as_before h = omega arith

fell : Rose 3 2 → ⊥
fell h = omega arith

short_of_the_end : Rose (2 ^ 64 - 2) (2 ^ 64 - 2) → ⊥
short_of_the_end h = omega arith

-- the files a, b and a second a
abbrev three : List (List ℕ × List ℕ)
three = (97 ∷ [], 1 ∷ 2 ∷ []) ∷ (98 ∷ [], []) ∷ (97 ∷ [], 3 ∷ []) ∷ []

first_of_the_name : file_named three (97 ∷ []) ≡ Some (1 ∷ 2 ∷ [])
first_of_the_name = refl

empty_file : file_named three (98 ∷ []) ≡ Some []
empty_file = refl

no_such_name : file_named three (99 ∷ []) ≡ None
no_such_name = refl

longer_name : file_named three (97 ∷ 98 ∷ []) ≡ None
longer_name = refl

empty_name : file_named three [] ≡ None
empty_name = refl

in_its_place : put_file three (98 ∷ []) (9 ∷ []) ≡ (97 ∷ [], 1 ∷ 2 ∷ []) ∷ (98 ∷ [], 9 ∷ []) ∷ (97 ∷ [], 3 ∷ []) ∷ []
in_its_place = refl

after_the_others : put_file ((97 ∷ [], []) ∷ []) (98 ∷ []) (9 ∷ []) ≡ (97 ∷ [], []) ∷ (98 ∷ [], 9 ∷ []) ∷ []
after_the_others = refl

-- a shelf that doesn't tell its files doesn't lack any
lacks : Lacks (Some three) (99 ∷ [])
lacks = refl

untold : Lacks None (99 ∷ []) → ⊥
untold h = h

-- calls 2 and 4 fail
second : fails_next (4 ∷ 2 ∷ []) 1 ≡ true
second = refl

third : fails_next (4 ∷ 2 ∷ []) 2 ≡ false
third = refl

fourth : fails_next (4 ∷ 2 ∷ []) 3 ≡ true
fourth = refl

never : fails_next [] 0 ≡ false
never = refl

no_call_zero : fails_next (0 ∷ []) 0 ≡ false
no_call_zero = refl

-- a file a was begun; a read moved two bytes of it into a room of three, the next saw its end
abbrev two_bytes : List MovedFile
two_bytes = with_read (with_begin [] (97 ∷ []) true) 2 (5 ∷ 6 ∷ 0 ∷ [])

moves_two : two_bytes ≡ record { name = 97 ∷ []; was_begun = true; bytes = 5 ∷ 6 ∷ []; ended = false } ∷ []
moves_two = refl

sees_the_end : with_read two_bytes 0 (0 ∷ 0 ∷ []) ≡ record { name = 97 ∷ []; was_begun = true; bytes = 5 ∷ 6 ∷ []; ended = true } ∷ []
sees_the_end = refl

-- a read into no room sees nothing, and forgets nothing that was seen
no_room_sees_nothing : with_read two_bytes 0 [] ≡ two_bytes
no_room_sees_nothing = refl

no_room_forgets_nothing : with_read (with_read two_bytes 0 (0 ∷ [])) 0 [] ≡ with_read two_bytes 0 (0 ∷ [])
no_room_forgets_nothing = refl

-- where bytes come after an end, it wasn't the end
more_after_the_end : with_read (with_read two_bytes 0 (0 ∷ [])) 1 (7 ∷ []) ≡ record { name = 97 ∷ []; was_begun = true; bytes = 5 ∷ 6 ∷ 7 ∷ []; ended = false } ∷ []
more_after_the_end = refl

-- a file b that wasn't begun comes before a, of which nothing more is moved
not_begun_next : with_read (with_begin two_bytes (98 ∷ []) false) 0 (0 ∷ []) ≡ record { name = 98 ∷ []; was_begun = false; bytes = []; ended = true } ∷ two_bytes
not_begun_next = refl

-- what is read before any call of `begin` is of no file
before_any : with_read [] 0 (0 ∷ []) ≡ []
before_any = refl

-- a shelf whose fourth call was made, with three bytes left of five
abbrev shelf : ShelfState
shelf = record { files = []; rest = 5 ∷ 6 ∷ 7 ∷ []; most = 2; failing = 9 ∷ []; calls = 4; faults = 1; begins = 3; taken = 2; moved = two_bytes }

takes_two : read_on shelf 2 (5 ∷ 6 ∷ []) ≡ record shelf { rest = 7 ∷ []; calls = 5; taken = 4; moved = with_read two_bytes 2 (5 ∷ 6 ∷ []) }
takes_two = refl

fails_to_read : read_failed shelf ≡ record shelf { calls = 5; faults = 2 }
fails_to_read = refl

begins_anew : begun shelf (98 ∷ []) (8 ∷ []) ≡ record shelf { rest = 8 ∷ []; calls = 5; begins = 4; taken = 0; moved = with_begin two_bytes (98 ∷ []) true }
begins_anew = refl

fails_to_begin : begin_failed shelf (98 ∷ []) ≡ record shelf { rest = []; calls = 5; faults = 2; begins = 4; taken = 0; moved = with_begin two_bytes (98 ∷ []) false }
fails_to_begin = refl

-- a sink with room for three bytes, of which one is written
abbrev sink : SinkState
sink = record { room = 3; written = 1 ∷ []; most = 2; failing = []; calls = 1; faults = 0 }

takes_more : written_on sink (2 ∷ 3 ∷ []) ≡ record { room = 3; written = 1 ∷ 2 ∷ 3 ∷ []; most = 2; failing = []; calls = 2; faults = 0 }
takes_more = refl

fails_to_write : write_failed sink ≡ record { room = 3; written = 1 ∷ []; most = 2; failing = []; calls = 2; faults = 1 }
fails_to_write = refl

-- a sink that tells nothing takes three bytes, and no others; or two of the three
abbrev untold_before : Output
untold_before = output None (1 ∷ [])

takes_three : Took untold_before (output None (1 ∷ 2 ∷ 3 ∷ 4 ∷ [])) (2 ∷ 3 ∷ 4 ∷ [])
takes_three = record { accepted = refl; written = λ bytes told. cc }

takes_others : Took untold_before (output None (1 ∷ 2 ∷ 3 ∷ 4 ∷ [])) (2 ∷ 3 ∷ 5 ∷ []) → ⊥
takes_others took = let is = took.accepted in cc

takes_two_of_three : TookPrefix untold_before (output None (1 ∷ 2 ∷ 3 ∷ [])) (2 ∷ 3 ∷ 4 ∷ [])
takes_two_of_three = (2, lit≤ tt, record { accepted = refl; written = λ bytes told. cc })

-- what one tells as written comes after what it told before
tells_other_bytes : Took (output (Some (9 ∷ [])) []) (output (Some (2 ∷ [])) (2 ∷ [])) (2 ∷ []) → ⊥
tells_other_bytes took = let is = took.written (9 ∷ []) refl in cc

-- the same without a list of calls that fail
abbrev sure_shelf : SureShelfState
sure_shelf = record { files = []; rest = 5 ∷ 6 ∷ 7 ∷ []; begins = 3; taken = 2; moved = two_bytes }

surely_takes_two : sure_read sure_shelf 2 (5 ∷ 6 ∷ []) ≡ record sure_shelf { rest = 7 ∷ []; taken = 4; moved = with_read two_bytes 2 (5 ∷ 6 ∷ []) }
surely_takes_two = refl

surely_begins : sure_opened sure_shelf (98 ∷ []) (8 ∷ []) true ≡ record sure_shelf { rest = 8 ∷ []; begins = 4; taken = 0; moved = with_begin two_bytes (98 ∷ []) true }
surely_begins = refl

abbrev sure_sink : SureSinkState
sure_sink = record { room = 3; written = 1 ∷ []; faults = 0 }

surely_takes_more : sure_written sure_sink (2 ∷ 3 ∷ []) ≡ record { room = 3; written = 1 ∷ 2 ∷ 3 ∷ []; faults = 0 }
surely_takes_more = refl

has_no_room : sure_refused (sure_written sure_sink (2 ∷ 3 ∷ [])) ≡ record { room = 3; written = 1 ∷ 2 ∷ 3 ∷ []; faults = 1 }
has_no_room = refl
