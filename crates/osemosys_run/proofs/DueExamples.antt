-- What is due for worked examples: the words, the files, the status and the text; and what isn't.
use Rattle.osemosys_run.proofs.Common.{plain, Mps, Check, Ok, Err, Result, Request, Question, WordFault, ◌≡◌, ℕ, zero, suc, ◌+◌, ◌<◌, ◌≤◌, ◌-◌, ◌^◌, List, [], ◌∷◌, ◌++◌, length, take, refl, sym, ap, subst, arith, inl, inr, Bool, true, false, MatchBool, nat_lt, Status, Done, Refused, Words, ReadFault, WriteFault, Memory, Rejected, Rose, output, asked, most_bytes, DueForText, too_long_line, Stops, StopsAt, BeganOne, HasFailed, part_of_file, refused_file, whole_file, Sight, ReadEnd, Completes, AskForEquations, Due, DueForFile, DueForEquations, Caused, TellsEnd, IsReadToEnd, Delivers, Sent}
use Rattle.std.specs.Prelude.{codes, Option, Some, None, ⊤}
use Rattle.std.specs.Fmt.{digits}
use Rattle.mathprog_data.specs.declared.fault.DataFault.{DataFault}
use Rattle.command_answers.specs.declared.status.Refusal.TheVariants as refusals
use Rattle.command_words.specs.declared.fault.WordFault.TheVariants as faults
use Rattle.command_answers.specs.declared.status.ReadStop.TheVariants as stops
use Rattle.io_edges.specs.Moved.{MovedFile}
use Rattle.certificate_checker.specs.declared.verdicts.Rejection.{Rejection}
use Rattle.request_files.specs.declared.whole.ReadEnd.TheVariants as ends
use Rattle.osemosys_run.proofs.RunLaws.{read-all}

-- ---- what is due

-- the words `mps FILE`, and this one file of that name
abbrev mps_file : List (List ℕ)
mps_file = codes "mps" ∷ codes "FILE" ∷ []

abbrev with_file : List ℕ → List (List ℕ × List ℕ)
with_file bytes = (codes "FILE", bytes) ∷ []

-- no file of that name
missing_due : Due mps_file ((codes "FILES", []) ∷ (codes "FIL", []) ∷ []) (ReadFault (stops.NoFile 1)) (codes "no such file 1\n")
unfolding digits
missing_due = (refl, refl)

missing_not_refused : (line : List ℕ) → Due mps_file [] (Refused (refusals.TooLong 1)) line → ⊥
missing_not_refused line h = cc h.0

second_file_missing : (line : List ℕ) → Due mps_file [] (ReadFault (stops.NoFile 2)) line → ⊥
second_file_missing line h = cc h.0

-- words that ask for nothing, whatever the files are
words_due : Due (codes "mps" ∷ []) (with_file []) (Words faults.BadForm) (codes "words refused BadForm\n")
words_due = (refl, refl)

other_fault : (line : List ℕ) → Due (codes "mps" ∷ []) (with_file []) (Words faults.BadCommand) line → ⊥
other_fault line h = cc h.0

-- what is due for `mps` over the bytes of a data file
abbrev equations_due : List ℕ → Status → List ℕ → Type 0
equations_due bytes = DueForText (λ rounded. DueForEquations 6) (plain bytes)

-- a file of 64 MiB and a byte is too long, and one of 64 MiB isn't
too_long_due : (bytes : List ℕ) → length bytes ≡ 67108865 → DueForFile equations_due 1 (Some bytes) (Refused (refusals.TooLong 1)) (codes "refused too long file 1\n")
unfolding digits
too_long_due bytes e =
    let longer : nat_lt most_bytes (length bytes) ≡ true = ap (nat_lt most_bytes) e in
    subst (λ (b : Bool). MatchBool b ((Refused (refusals.TooLong 1) ≡ Refused (refusals.TooLong 1)) × (codes "refused too long file 1\n" ≡ too_long_line 1)) (equations_due bytes (Refused (refusals.TooLong 1)) (codes "refused too long file 1\n")))
    (sym longer) (refl, refl)

not_too_long : (bytes line : List ℕ) → length bytes ≡ 67108864 → DueForFile equations_due 1 (Some bytes) (Refused (refusals.TooLong 1)) line → equations_due bytes (Refused (refusals.TooLong 1)) line
not_too_long bytes line e h = rw e at h

-- ---- what is due of several files

-- the words `check FILE PLAN` and `check FILE PLAN BOUND`
abbrev check_plan : List (List ℕ)
check_plan = codes "check" ∷ codes "FILE" ∷ codes "PLAN" ∷ []

abbrev check_bound : List (List ℕ)
check_bound = codes "check" ∷ codes "FILE" ∷ codes "PLAN" ∷ codes "BOUND" ∷ []

-- the files are looked at in order, and all of them before what the first one says
first_of_two : Due check_plan [] (ReadFault (stops.NoFile 1)) (codes "no such file 1\n")
unfolding digits
first_of_two = (refl, refl)

second_before_the_text : Due check_plan (with_file (codes "no data")) (ReadFault (stops.NoFile 2)) (codes "no such file 2\n")
unfolding digits
second_before_the_text = (refl, refl)

text_not_before_the_second : (fault : DataFault) (line : List ℕ) → Due check_plan (with_file (codes "no data")) (Refused (refusals.Text fault)) line → ⊥
text_not_before_the_second fault line h = cc h.0

third_before_the_plan : Due check_bound ((codes "FILE", codes "no data") ∷ (codes "PLAN", codes "no plan") ∷ []) (ReadFault (stops.NoFile 3)) (codes "no such file 3\n")
unfolding digits
third_before_the_plan = (refl, refl)

-- ---- what a call may leave

-- a status and a text that are due for the words `mps`
abbrev form_due : Status → List ℕ → Type 0
form_due = Due (codes "mps" ∷ []) []

-- a sink that tells its bytes, and one that tells nothing; both tell what they took and how many faults there were
abbrev told : List ℕ → List ℕ → ℕ → Sent
told written accepted faults = record { output = output (Some written) accepted; faults = faults }

abbrev untold : List ℕ → Sent
untold accepted = record { output = output None accepted; faults = 0 }

-- bytes that are told are the ones that were
after_them : (before written bytes : List ℕ) → Some before ≡ Some bytes → Some (before ++ written) ≡ Some (bytes ++ written)
after_them before written bytes is = ap (λ (all : Option (List ℕ)). elim all as (λ _. Option (List ℕ)) [ None ↦ None | Some b ↦ Some (b ++ written) ]) is

-- the whole line comes after what was written and taken before
delivered : Delivers ⊥ form_due (Words faults.BadForm) (told (codes "before ") [] 0) (told (codes "before words refused BadForm\n") (codes "words refused BadForm\n") 0)
delivered = inl (record { text = codes "words refused BadForm\n"; due = (refl, refl); told = tt; took = record { accepted = refl; written = after_them (codes "before ") (codes "words refused BadForm\n") } })

-- also into a sink that tells nothing
delivered_untold : Delivers ⊥ form_due (Words faults.BadForm) (untold []) (untold (codes "words refused BadForm\n"))
delivered_untold = inl (record { text = codes "words refused BadForm\n"; due = (refl, refl); told = tt; took = record { accepted = refl; written = λ bytes is. absurd (cc is) } })

-- a failed write leaves a prefix of the line, and the sink counted it
prefix_left : Delivers ⊥ form_due WriteFault (told [] [] 0) (told (codes "words ref") (codes "words ref") 1)
prefix_left =
    inr (inl (record {
      status_is = refl;
      rose = omega arith;
      said = Words faults.BadForm;
      text = codes "words refused BadForm\n";
      due = (refl, refl);
      took = (9, omega arith, record { accepted = refl; written = after_them [] (codes "words ref") });
    }))

-- without a fault that the sink counted there is no write fault
no_fault : (written accepted : List ℕ) → Delivers ⊥ form_due WriteFault (told [] [] 0) (told written accepted 0) → ⊥
no_fault written accepted (inl d) = d.told
no_fault written accepted (inr (inl cut)) = let rose : Rose 0 0 = cut.rose in omega (arith, rose)
no_fault written accepted (inr (inr lost)) = cc lost.status_is

-- where memory ran out nothing is written
nothing_written : Delivers ⊥ form_due Memory (told (codes "before") [] 0) (told (codes "before") [] 0)
nothing_written = inr (inr (record { status_is = refl; left = inl refl }))

something_written : Delivers ⊥ form_due Memory (untold []) (untold (codes "w")) → ⊥
something_written (inl d) = d.told
something_written (inr (inl cut)) = cc cut.status_is
something_written (inr (inr lost)) = elim lost.left [
  | inl nothing ↦ let same : codes "w" ≡ [] = ap (λ o. o.accepted) nothing in cc same
  | inr begun ↦ begun.0
]

-- a text that is due with status 0
abbrev name_due : Status → List ℕ → Type 0
name_due status text = (status ≡ Done) × (text ≡ codes "NAME")

-- a text of which a part was taken wasn't written with status 0, whether or not the sink tells its bytes
cut_in_the_middle : (before after : Option (List ℕ)) → Delivers ⊤ name_due Done (record { output = output before []; faults = 0 }) (record { output = output after (codes "NA"); faults = 0 }) → ⊥
cut_in_the_middle before after (inl d) =
    let whole : d.text ≡ codes "NAME" = d.due.1 in
    let there : codes "NA" ≡ d.text = d.took.accepted in
    cc (whole, there)
cut_in_the_middle before after (inr (inl cut)) = cc cut.status_is
cut_in_the_middle before after (inr (inr lost)) = cc lost.status_is

-- where it is written as it is made, and memory runs out, a prefix of it may be written
begun_as_made : Delivers ⊤ name_due Memory (told [] [] 0) (told (codes "NA") (codes "NA") 0)
begun_as_made = inr (inr (record { status_is = refl; left = inr (tt, record { text = codes "NAME"; due = (refl, refl); took = (2, omega arith, record { accepted = refl; written = after_them [] (codes "NA") }) }) }))

-- but what was written before stays
lost_as_made : Delivers ⊤ name_due Memory (told (codes "before") [] 0) (told [] [] 0) → ⊥
lost_as_made (inl d) = d.told
lost_as_made (inr (inl cut)) = cc cut.status_is
lost_as_made (inr (inr lost)) = elim lost.left [
  | inl nothing ↦ let same : Some [] ≡ Some (codes "before") = ap (λ o. o.written) nothing in cc same
  | inr begun ↦ let part = begun.1.took in
      let e : Some [] ≡ Some (codes "before" ++ take part.0 begun.1.text) = part.2.written (codes "before") refl in
      cc e
]

-- a question, and what words ask, is `check`
abbrev is_check : Question → Type 0
is_check (Check name plan multipliers gap places) = ⊤
is_check question = ⊥

abbrev asks_check : Result Request WordFault → Type 0
asks_check (Ok request) = is_check request.question
asks_check (Err fault) = ⊤

-- the words that ask for it
equations_asked : AskForEquations (codes "mps" ∷ codes "FILE" ∷ [])
equations_asked = record { name = codes "FILE"; places = 6; request = record { question = Mps (codes "FILE") 6; changes = None; changes2 = None }; asks = refl; is = refl }

plan_asked : AskForEquations check_plan → ⊥
plan_asked asks =
    let same : Ok (record { question = Check (codes "FILE") (codes "PLAN") None 0 6; changes = None; changes2 = None }) ≡ Ok asks.request = asks.asks in
    subst is_check asks.is (subst asks_check same tt)

-- ---- causes, also over a shelf that tells nothing

-- a shelf of which only counts are seen, and what was moved
abbrev counts : ℕ → ℕ → ℕ → List MovedFile → Sight
counts faults begins taken moved = record { files = None; rest = None; faults = faults; begins = begins; taken = taken; moved = moved }

-- before any call, and after a call of `begin` that failed
abbrev unread : Sight
unread = counts 0 0 0 []

abbrev unopened : ℕ → ℕ → Sight
unopened faults begins = counts faults begins 0 (refused_file (codes "FILE") ∷ [])

-- after one file was read to its end, and after a part of it was
abbrev after_whole : List ℕ → Sight
after_whole bytes = counts 0 1 (length bytes) (whole_file (codes "FILE") bytes ∷ [])

abbrev after_part : List ℕ → Sight
after_part bytes = counts 0 1 (length bytes) (part_of_file (codes "FILE") bytes ∷ [])

-- a fault of the words touches no file
words_caused : Caused [] (counts 3 4 5 []) (counts 3 4 5 []) (Words faults.NoCommand) (codes "words refused NoCommand\n")
words_caused = inl (record { contents = []; read = refl; due = (refl, refl); own = tt })

-- a read fault where the count rose
failed_caused : Caused mps_file unread (unopened 1 1) (ReadFault (stops.Failed 1)) (codes "read fault file 1\n")
unfolding digits
failed_caused =
    inr (record {
      place = 0;
      end = ends.Failed;
      stops = (record { files = refl; begins = refl; faults = omega arith }, record { file = refused_file (codes "FILE"); moved = refl; name_is = refl; not_ended = refl; rose = omega arith });
      told = (refl, refl);
    })

-- counters at their last value show no rise
failed_at_last : Caused mps_file (counts (2 ^ 64 - 1) (2 ^ 64 - 1) 0 []) (unopened (2 ^ 64 - 1) (2 ^ 64 - 1)) (ReadFault (stops.Failed 1)) (codes "read fault file 1\n")
unfolding digits
failed_at_last =
    inr (record {
      place = 0;
      end = ends.Failed;
      stops = (record { files = refl; begins = refl; faults = omega arith }, record { file = refused_file (codes "FILE"); moved = refl; name_is = refl; not_ended = refl; rose = omega arith });
      told = (refl, refl);
    })

-- where the reading of one file stopped
one_stop : (place : ℕ) (end : ReadEnd) (before after : Sight) → StopsAt (codes "FILE" ∷ []) place end before after → BeganOne before after × Stops end before after (codes "FILE")
one_stop zero end before after at = at
one_stop (suc place) end before after at = absurd at.4

-- no read fault where it didn't rise, nor without a call of `begin`, or with two
failed_so : (number place : ℕ) (end : ReadEnd) (before after : Sight) (line : List ℕ) → TellsEnd number end (ReadFault (stops.Failed 1)) line → StopsAt (codes "FILE" ∷ []) place end before after → BeganOne before after × HasFailed before after (codes "FILE")
failed_so number place ends.NoFile before after line tells at = let same : ReadFault (stops.Failed 1) ≡ ReadFault (stops.NoFile number) = tells.0 in absurd (cc same)
failed_so number place ends.Failed before after line tells at = one_stop place ends.Failed before after at
failed_so number place ends.TooLong before after line tells at = let same : ReadFault (stops.Failed 1) ≡ Refused (refusals.TooLong number) = tells.0 in absurd (cc same)
failed_so number place ends.Memory before after line tells at = absurd tells

rose_at_failure : (line : List ℕ) (before after : Sight) → Caused mps_file before after (ReadFault (stops.Failed 1)) line → BeganOne before after × HasFailed before after (codes "FILE")
rose_at_failure line before after (inl answered) = absurd answered.own
rose_at_failure line before after (inr stopped) = failed_so _ stopped.place stopped.end before after line stopped.told stopped.stops

failed_for_nothing : (line : List ℕ) → Caused mps_file unread (unopened 0 1) (ReadFault (stops.Failed 1)) line → ⊥
failed_for_nothing line h = let rose : Rose 0 0 = (rose_at_failure line unread (unopened 0 1) h).1.rose in omega (arith, rose)

failed_unbegun : (line : List ℕ) → Caused mps_file unread (unopened 1 0) (ReadFault (stops.Failed 1)) line → ⊥
failed_unbegun line h = let once : 0 ≡ 1 = (rose_at_failure line unread (unopened 1 0) h).0.begins in omega (arith, once)

failed_begun_twice : (line : List ℕ) → Caused mps_file unread (unopened 1 2) (ReadFault (stops.Failed 1)) line → ⊥
failed_begun_twice line h = let once : 2 ≡ 1 = (rose_at_failure line unread (unopened 1 2) h).0.begins in omega (arith, once)

-- a shelf that doesn't tell its files has no missing file
missing_untold : (line : List ℕ) → Caused mps_file unread (unopened 0 1) (ReadFault (stops.NoFile 1)) line → ⊥
missing_untold line (inl answered) = answered.own
missing_untold line (inr stopped) = lacking stopped.end stopped.told (one_stop stopped.place stopped.end unread (unopened 0 1) stopped.stops).1
  where
    lacking : (end : ReadEnd) → TellsEnd (stopped.place + 1) end (ReadFault (stops.NoFile 1)) line → Stops end unread (unopened 0 1) (codes "FILE") → ⊥
    lacking ends.NoFile tells missing = missing.lacks
    lacking ends.Failed tells failed = let same : ReadFault (stops.NoFile 1) ≡ ReadFault (stops.Failed (stopped.place + 1)) = tells.0 in cc same
    lacking ends.TooLong tells long = let same : ReadFault (stops.NoFile 1) ≡ Refused (refusals.TooLong (stopped.place + 1)) = tells.0 in cc same
    lacking ends.Memory tells at = tells

-- more than 64 MiB were moved, by up to one room
too_long_caused : (bytes : List ℕ) → 67108864 < length bytes → length bytes ≤ 67174400 → Caused mps_file unread (after_part bytes) (Refused (refusals.TooLong 1)) (codes "refused too long file 1\n")
unfolding digits
too_long_caused bytes more within =
    inr (record {
      place = 0;
      end = ends.TooLong;
      stops = (record { files = refl; begins = refl; faults = omega arith }, record { bytes = bytes; moved = refl; many = more; at_once = within; all_taken = refl; longer = λ all is. absurd (cc is) });
      told = (refl, refl);
    })

-- the bytes that were moved of the newest file, and whether its end was seen
abbrev newest_bytes : List MovedFile → List ℕ
newest_bytes [] = []
newest_bytes (file ∷ files) = file.bytes

abbrev newest_ended : List MovedFile → Bool
newest_ended [] = true
newest_ended (file ∷ files) = file.ended

-- an answer on what a file says has no cause where its end wasn't seen
unended : (bytes line : List ℕ) → Caused mps_file unread (after_part bytes) Done line → ⊥
unended bytes line h =
    let all = read-all unread (after_part bytes) (asked mps_file) Done line h tt in
    let ends : false ≡ true = ap newest_ended all.each.2 in
    cc ends

-- nor has one of `check` on the plan where that of the data file wasn't
abbrev oldest_ended : List MovedFile → Bool
oldest_ended [] = true
oldest_ended (file ∷ []) = file.ended
oldest_ended (file ∷ other ∷ files) = oldest_ended (other ∷ files)

plan_before_the_end : (bytes plan line : List ℕ) (taken : ℕ) (rejection : Rejection)
    → Caused check_plan unread (counts 0 2 taken (whole_file (codes "PLAN") plan ∷ part_of_file (codes "FILE") bytes ∷ [])) (Rejected rejection) line → ⊥
plan_before_the_end bytes plan line taken rejection h =
    let all = read-all unread (counts 0 2 taken (whole_file (codes "PLAN") plan ∷ part_of_file (codes "FILE") bytes ∷ [])) (asked check_plan) (Rejected rejection) line h tt in
    let ends : false ≡ true = ap oldest_ended all.each.2.2 in
    cc ends

-- nor where the plan was never begun
plan_unread : (bytes line : List ℕ) (rejection : Rejection) → Caused check_plan unread (after_whole bytes) (Rejected rejection) line → ⊥
plan_unread bytes line rejection h =
    let all = read-all unread (after_whole bytes) (asked check_plan) (Rejected rejection) line h tt in
    let two : 1 ≡ 2 = ap length all.each.2.2 in
    omega (arith, two)

-- ---- that files are read to their ends

-- a sight with this rest, after so many faults and bytes, and with what was moved
abbrev left : Option (List ℕ) → ℕ → ℕ → List MovedFile → Sight
left rest faults taken moved = record { files = None; rest = rest; faults = faults; begins = 0; taken = taken; moved = moved }

-- the text was written after the whole file was read
read_out : IsReadToEnd mps_file (left (Some (codes "old")) 0 0 []) (left (Some []) 0 4 (whole_file (codes "FILE") (codes "end;") ∷ [])) Done
read_out = record { answered = λ speaks. record { each = (codes "end;", omega arith, refl); none_left = λ names is. refl }; cut_off = λ is. absurd (cc is) }

-- and not where the shelf tells that something is left of it
stopped_early : IsReadToEnd mps_file (left (Some (codes "old")) 0 0 []) (left (Some (codes "end;")) 0 4 (whole_file (codes "FILE") (codes "end;") ∷ [])) Done → ⊥
stopped_early h = let none : Some (codes "end;") ≡ Some [] = (h.answered tt).none_left (λ e. cc e) refl in cc none

-- also where the rest isn't told
part_read : IsReadToEnd mps_file (left None 0 0 []) (left None 0 4 (part_of_file (codes "FILE") (codes "end;") ∷ [])) (Refused refusals.TooManyEntries) → ⊥
part_read h = let ends : false ≡ true = ap newest_ended (h.answered tt).each.2 in cc ends

-- a failed write where a part of the file was read has a cause in a fault of the shelf or in the length of the file
cut_after_fault : IsReadToEnd mps_file (left (Some []) 0 0 []) (left (Some (codes "end;")) 1 9 (part_of_file (codes "FILE") (codes "set YEAR ") ∷ [])) WriteFault
cut_after_fault = record { answered = λ speaks. absurd speaks; cut_off = λ is. inr (inr (inl (omega arith))) }

cut_for_nothing : IsReadToEnd mps_file (left None 0 0 []) (left None 0 9 (part_of_file (codes "FILE") (codes "end;") ∷ [])) WriteFault → ⊥
cut_for_nothing h = elim (h.cut_off refl) [
  | inl all ↦ let ends : false ≡ true = ap newest_ended all.each.2 in cc ends
  | inr (inl missing) ↦ missing.lacks
  | inr (inr (inl rose)) ↦ omega (arith, rose)
  | inr (inr (inr many)) ↦ omega (arith, many)
]

-- ---- what must be done

-- words that ask for nothing may have any status
no_claim : (status : Status) → Completes [] [] status
no_claim status request contents asks there can = absurd (cc asks)
