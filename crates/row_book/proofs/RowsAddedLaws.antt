-- Rows that are made for one list of instances after another, and the first that can't be.
use Rattle.row_book.proofs.Common.{◌≡◌, ℕ, ◌+◌, ◌-◌, ◌<◌, ◌≤◌, Bool, true, false, not, ◌&&◌, ◌||◌, length, get_or, take, drop, suc, List, [], ◌∷◌, ◌++◌, refl, ap, sym, ◌∙◌, subst, arith, flat_map, list_all, range_with_len, if◌then◌else◌, both_true, list_all-append, sum_by-append, Data, Row, RowName, Place, Stopped, IsStop, stands_at, IsNamedRow, AreRowsOf, CanBeMade, HasStopped, StopsAt, row_fits, entries_in, entry_count, entry_limit, terms_at, AddsRows, instance_at, BookFail, Width, TooManyEntries, Memory, MadeRows}
use Rattle.std.proofs.lemmas.List.{append-nil, append_assoc, take_more}
use Rattle.row_book.proofs.Lists.{flat_map-middle, flat_map-last}
use Rattle.row_book.proofs.Places.{list-middle, take-past}
use Rattle.row_book.proofs.Ranges.{range-last, range-middle}

pub both_lists : (places : ℕ) (d : Data) (ns ms : List RowName) (rs ss : List Row) → AreRowsOf places d ns rs → AreRowsOf places d ms ss → AreRowsOf places d (ns ++ ms) (rs ++ ss)
both_lists places d [] ms [] ss a b = b
both_lists places d [] ms (r ∷ rs) ss a b = absurd a
both_lists places d (n ∷ ns) ms [] ss a b = absurd a
both_lists places d (n ∷ ns) ms (r ∷ rs) ss a b = (a.0, both_lists places d ns ms rs ss a.1 b)

pub both_fit : (places : ℕ) (d : Data) (ns ms : List RowName) → list_all (row_fits places d) ns ≡ true → list_all (row_fits places d) ms ≡ true → list_all (row_fits places d) (ns ++ ms) ≡ true
both_fit places d ns ms a b = list_all-append (row_fits places d) ns ms ∙ both_true a b

-- ---- one list after another

pub adds-nothing : (places : ℕ) (d : Data) (rows : MadeRows) → AddsRows places d [] rows rows
adds-nothing places d rows = record { added = []; later = sym (append-nil rows.rows.items); rows = tt; fit = refl; counted = omega arith }

pub adds-more : (places : ℕ) (d : Data) (ns ms : List RowName) (a b c : MadeRows) → AddsRows places d ns a b → AddsRows places d ms b c → AddsRows places d (ns ++ ms) a c
adds-more places d ns ms a b c first second = record {
  added = first.added ++ second.added;
  later = second.later ∙ ap (λ (earlier : List Row). earlier ++ second.added) first.later ∙ append_assoc a.rows.items first.added second.added;
  rows = both_lists places d ns ms first.added second.added first.rows second.rows;
  fit = both_fit places d ns ms first.fit second.fit;
  counted = omega (arith, first.counted, second.counted, sum_by-append (entry_count places d) ns ms);
}

-- what was added can be made
pub adds-made : (places : ℕ) (d : Data) (ns : List RowName) (a b : MadeRows) → AddsRows places d ns a b → CanBeMade places d a.entries ns
adds-made places d ns a b adds = record { fit = adds.fit; few = omega (arith, adds.counted, b.few) }

-- after rows that can be made
later-stop : (places : ℕ) (d : Data) (n m : ℕ) (ns ms : List RowName) (name : RowName) → CanBeMade places d n ns → m ≡ n + entries_in places d ns → StopsAt places d m ms name → StopsAt places d n (ns ++ ms) name
later-stop places d n m ns ms name made counted stops = record {
  earlier = ns ++ stops.earlier;
  later = stops.later;
  split = ap (λ rest. ns ++ rest) stops.split ∙ sym (append_assoc ns stops.earlier (name ∷ stops.later));
  made = record {
    fit = both_fit places d ns stops.earlier made.fit stops.made.fit;
    few = omega (arith, stops.made.few, counted, sum_by-append (entry_count places d) ns stops.earlier);
  };
}

pub stops-later : (places : ℕ) (d : Data) (n m : ℕ) (ns ms : List RowName) (fail : BookFail) → CanBeMade places d n ns → m ≡ n + entries_in places d ns → HasStopped places d m ms fail → HasStopped places d n (ns ++ ms) fail
unfolding later-stop
stops-later places d n m ns ms (Width place) made counted (name, at, wide) =
    (name, at, record { stops = later-stop places d n m ns ms name made counted wide.stops; wide = wide.wide })
stops-later places d n m ns ms TooManyEntries made counted (name, many) = (
  name,
  record {
    stops = later-stop places d n m ns ms name made counted many.stops;
    fits = many.fits;
    many = omega (arith, many.many, counted, sum_by-append (entry_count places d) ns many.stops.earlier);
  },
)
stops-later places d n m ns ms Memory made counted stops = tt

-- before any others
earlier-stop : (places : ℕ) (d : Data) (n : ℕ) (ns ms : List RowName) (name : RowName) → StopsAt places d n ns name → StopsAt places d n (ns ++ ms) name
earlier-stop places d n ns ms name stops = record {
  earlier = stops.earlier;
  later = stops.later ++ ms;
  split = ap (λ earlier. earlier ++ ms) stops.split ∙ append_assoc stops.earlier (name ∷ stops.later) ms;
  made = stops.made;
}

pub stops-earlier : (places : ℕ) (d : Data) (n : ℕ) (ns ms : List RowName) (fail : BookFail) → HasStopped places d n ns fail → HasStopped places d n (ns ++ ms) fail
unfolding earlier-stop
stops-earlier places d n ns ms (Width place) (name, at, wide) = (name, at, record { stops = earlier-stop places d n ns ms name wide.stops; wide = wide.wide })
stops-earlier places d n ns ms TooManyEntries (name, many) = (name, record { stops = earlier-stop places d n ns ms name many.stops; fits = many.fits; many = many.many })
stops-earlier places d n ns ms Memory stops = tt

-- rows that were added to none
pub alone : (places : ℕ) (d : Data) (names : List RowName) (old new : MadeRows) → old.rows.items ≡ [] → AddsRows places d names old new → AreRowsOf places d names new.rows.items
alone places d names old new none adds = subst (AreRowsOf places d names) (sym (adds.later ∙ ap (λ (earlier : List Row). earlier ++ adds.added) none)) adds.rows

-- ---- turn by turn

-- a turn adds its rows
pub turn-adds : {A : Type 0} (places : ℕ) (d : Data) (f : A → List RowName) (earlier : List A) (x : A) (a b c : MadeRows) → AddsRows places d (flat_map f earlier) a b → AddsRows places d (f x) b c
    → AddsRows places d (flat_map f (earlier ++ x ∷ [])) a c
turn-adds places d f earlier x a b c so_far turn =
    subst (λ names. AddsRows places d names a c) (sym (flat_map-last f earlier x)) (adds-more places d (flat_map f earlier) (f x) a b c so_far turn)

-- what stops a turn stops all
pub turn-stops : {A : Type 0} (places : ℕ) (d : Data) (f : A → List RowName) (earlier : List A) (x : A) (later : List A) (a b : MadeRows) (fail : BookFail)
    → AddsRows places d (flat_map f earlier) a b → HasStopped places d b.entries (f x) fail → HasStopped places d a.entries (flat_map f (earlier ++ x ∷ later)) fail
turn-stops places d f earlier x later a b fail so_far stops =
    subst (λ names. HasStopped places d a.entries names fail) (sym (flat_map-middle f earlier x later))
    (stops-later places d a.entries b.entries (flat_map f earlier) (f x ++ flat_map f later) fail (adds-made places d (flat_map f earlier) a b so_far) so_far.counted
    (stops-earlier places d b.entries (f x) (flat_map f later) fail stops))

-- ---- loops over a list

pub loop-adds : {A : Type 0} (places : ℕ) (d : Data) (f : A → List RowName) (xs : List A) (i : ℕ) (z : A) (a b c : MadeRows) → i < length xs → AddsRows places d (flat_map f (take i xs)) a b
    → AddsRows places d (f (get_or xs i z)) b c → AddsRows places d (flat_map f (take (i + 1) xs)) a c
loop-adds places d f xs i z a b c inside so_far turn =
    subst (λ earlier. AddsRows places d (flat_map f earlier) a c) (sym (take_more xs i z inside)) (turn-adds places d f (take i xs) (get_or xs i z) a b c so_far turn)

pub loop-stops : {A : Type 0} (places : ℕ) (d : Data) (f : A → List RowName) (xs : List A) (i : ℕ) (z : A) (a b : MadeRows) (fail : BookFail) → i < length xs
    → AddsRows places d (flat_map f (take i xs)) a b → HasStopped places d b.entries (f (get_or xs i z)) fail → HasStopped places d a.entries (flat_map f xs) fail
loop-stops places d f xs i z a b fail inside so_far stops =
    subst (λ all. HasStopped places d a.entries (flat_map f all) fail) (sym (list-middle xs i z inside))
    (turn-stops places d f (take i xs) (get_or xs i z) (drop (suc i) xs) a b fail so_far stops)

pub loop-ends : {A : Type 0} (places : ℕ) (d : Data) (f : A → List RowName) (xs : List A) (i : ℕ) (a b : MadeRows) → length xs ≤ i → AddsRows places d (flat_map f (take i xs)) a b → AddsRows places d (flat_map f xs) a b
loop-ends places d f xs i a b past so_far = subst (λ all. AddsRows places d (flat_map f all) a b) (take-past xs i past) so_far

-- ---- loops over a range

pub range-adds : (places : ℕ) (d : Data) (f : ℕ → List RowName) (from i : ℕ) (a b c : MadeRows) → from ≤ i → AddsRows places d (flat_map f (range_with_len from (i - from))) a b → AddsRows places d (f i) b c
    → AddsRows places d (flat_map f (range_with_len from ((i + 1) - from))) a c
range-adds places d f from i a b c low so_far turn =
    subst (λ earlier. AddsRows places d (flat_map f earlier) a c) (sym (range-last from i low)) (turn-adds places d f (range_with_len from (i - from)) i a b c so_far turn)

pub range-stops : (places : ℕ) (d : Data) (f : ℕ → List RowName) (from n i : ℕ) (a b : MadeRows) (fail : BookFail) → from ≤ i → i < from + n
    → AddsRows places d (flat_map f (range_with_len from (i - from))) a b → HasStopped places d b.entries (f i) fail → HasStopped places d a.entries (flat_map f (range_with_len from n)) fail
range-stops places d f from n i a b fail low high so_far stops =
    subst (λ all. HasStopped places d a.entries (flat_map f all) fail) (sym (range-middle from n i low high))
    (turn-stops places d f (range_with_len from (i - from)) i (range_with_len (i + 1) ((from + n) - (i + 1))) a b fail so_far stops)

-- ---- one row

-- where there is an instance, and where there is none
listed_where : (stands : Bool) (name : RowName) → stands ≡ true → (if stands then name ∷ [] else []) ≡ name ∷ []
listed_where true name e = refl
listed_where false name e = absurd (cc e)

pub instance-listed : (d : Data) (name : RowName) → stands_at d name.eq name.index ≡ true → instance_at d name.eq name.index ≡ name ∷ []
instance-listed d name stands = listed_where (stands_at d name.eq name.index) name stands

none_where : (stands : Bool) (name : RowName) → stands ≡ false → (if stands then name ∷ [] else []) ≡ []
none_where true name e = absurd (cc e)
none_where false name e = refl

pub nothing-listed : (places : ℕ) (d : Data) (name : RowName) (old : MadeRows) → stands_at d name.eq name.index ≡ false → AddsRows places d (instance_at d name.eq name.index) old old
nothing-listed places d name old none = subst (λ names. AddsRows places d names old old) (sym (none_where (stands_at d name.eq name.index) name none)) (adds-nothing places d old)

pub entries-counted : (places : ℕ) (d : Data) (name : RowName) (row : Row) → IsNamedRow places d name (terms_at places d name) row → length row.entries.items ≡ entry_count places d name
entries-counted places d name row is = ap length is.written.entries

-- a row after others
pub adds-one : (places : ℕ) (d : Data) (name : RowName) (row : Row) (n : ℕ) (old new : MadeRows) → stands_at d name.eq name.index ≡ true → IsNamedRow places d name (terms_at places d name) row → row_fits places d name ≡ true
    → n ≡ length row.entries.items → new.rows.items ≡ old.rows.items ++ row ∷ [] → new.entries ≡ old.entries + n → AddsRows places d (instance_at d name.eq name.index) old new
adds-one places d name row n old new stands is fits count later counted =
    subst (λ names. AddsRows places d names old new) (sym (instance-listed d name stands))
    (record {
      added = row ∷ [];
      later = later;
      rows = (is, tt);
      fit = ap (λ b. b && true) fits;
      counted = omega (arith, counted, count, entries-counted places d name row is);
    })

first-stop : (places : ℕ) (d : Data) (n : ℕ) (name : RowName) → n ≤ entry_limit → StopsAt places d n (name ∷ []) name
first-stop places d n name few = record { earlier = []; later = []; split = refl; made = record { fit = refl; few = omega (arith, few) } }

-- a row with a number that doesn't fit
wide_parts : (stands fits : Bool) → (not stands || fits) ≡ false → (stands ≡ true) × (fits ≡ false)
wide_parts true fits e = (refl, e)
wide_parts false fits e = absurd (cc e)

pub stops-wide : (places : ℕ) (d : Data) (n : ℕ) (name : RowName) (place : Place) → n ≤ entry_limit
    → IsStop (Place.Row name) (not (stands_at d name.eq name.index) || row_fits places d name) (Stopped.Width place) → HasStopped places d n (instance_at d name.eq name.index) (Width place)
stops-wide places d n name place few is =
    let parts = wide_parts (stands_at d name.eq name.index) (row_fits places d name) is.1 in
    subst (λ names. HasStopped places d n names (Width place)) (sym (instance-listed d name parts.0))
    (name, is.0, record { stops = first-stop places d n name few; wide = parts.1 })

-- a row with which the limit is passed
pub stops-many : (places : ℕ) (d : Data) (name : RowName) (row : Row) (n count : ℕ) → n ≤ entry_limit → stands_at d name.eq name.index ≡ true → IsNamedRow places d name (terms_at places d name) row → row_fits places d name ≡ true
    → count ≡ length row.entries.items → entry_limit - n < count → HasStopped places d n (instance_at d name.eq name.index) TooManyEntries
unfolding first-stop
stops-many places d name row n count few stands is fits counted above =
    subst (λ names. HasStopped places d n names TooManyEntries) (sym (instance-listed d name stands))
    (name, record { stops = first-stop places d n name few; fits = fits; many = omega (arith, above, few, counted, entries-counted places d name row is) })
