-- What follows from what was delivered and from its cause.
use Rattle.osemosys_run.proofs.Common.{source_in, source2_in, ◌≡◌, ◌⊎◌, ◌<◌, ◌+◌, ℕ, inl, inr, List, [], Option, Some, IsSome, Result, Ok, sym, ◌∙◌, subst, arith, Contains-from_Has, Rose, Lacks, Status, Done, Refused, ReadFault, WriteFault, Memory, WordFault, Request, asked, names_of, AreMoved, Stops, Sight, ReadEnd, moved-read, AreThere, CanBeDone, Completes, IsEndOf, Due, DueForRequest, DueOverAsked, names_asked, CanBeTold, IsOwn, Caused, CausedByRequest, IsAnswered, TellsEnd, HasReadAll, IsReadAtWriteFault, IsReadToEnd, ReadsWhole, SpeaksOfFiles, Delivers, IsBegun, Sent}
use Rattle.command_answers.specs.declared.status.Refusal.TheVariants as refusals
use Rattle.command_answers.specs.declared.status.ReadStop.TheVariants as stops
use Rattle.request_files.specs.Reading.{most_bytes}
use Rattle.request_files.specs.declared.whole.ReadEnd.TheVariants as ends
use Rattle.osemosys_run.proofs.ReadLaws.{StopsAtOne, due-read, due-stopped, never-stops, none-left, rose-since, stops-one}

-- ---- what is delivered

-- what is delivered of one thing that is due is delivered of another that is due wherever the first is
pub delivers-weaker : (A B : Type 0) (P Q : Status → List ℕ → Type 0) (status : Status) (before after : Sent) → (A → B) → ((s : Status) (text : List ℕ) → P s text → Q s text)
    → Delivers A P status before after → Delivers B Q status before after
delivers-weaker A B P Q status before after made more (inl d) = inl (record { text = d.text; due = more status d.text d.due; told = d.told; took = d.took })
delivers-weaker A B P Q status before after made more (inr (inl cut)) =
    inr (inl (record { status_is = cut.status_is; rose = cut.rose; said = cut.said; text = cut.text; due = more cut.said cut.text cut.due; took = cut.took }))
delivers-weaker A B P Q status before after made more (inr (inr lost)) = inr (inr (record { status_is = lost.status_is; left = left lost.left }))
  where
    left : (after.output ≡ before.output) ⊎ (A × IsBegun P before after) → (after.output ≡ before.output) ⊎ (B × IsBegun Q before after)
    left (inl none) = inl none
    left (inr begun) = inr (made begun.0, record { text = begun.1.text; due = more Done begun.1.text begun.1.due; took = begun.1.took })

told-fault : (status : Status) → CanBeTold status → status ≡ WriteFault → ⊥
told-fault status told is = subst CanBeTold is told

pub delivered-failed_write : (A : Type 0) (P : Status → List ℕ → Type 0) (status : Status) (before after : Sent) → Delivers A P status before after → status ≡ WriteFault → Rose before.faults after.faults
delivered-failed_write A P status before after (inl d) is = absurd (told-fault status d.told is)
delivered-failed_write A P status before after (inr (inl cut)) is = cut.rose
delivered-failed_write A P status before after (inr (inr lost)) is = let no : Memory ≡ WriteFault = sym lost.status_is ∙ is in cc no

-- over a sink without a fault, a request whose end is due comes to it, unless memory ran out
pub delivered-complete : (A : Type 0) (words : List (List ℕ)) (files : List (List ℕ × List ℕ)) (status : Status) (before after : Sent)
    → ((s : Status) (text : List ℕ) → Due words files s text → (request : Request) (contents : List (List ℕ)) → asked words ≡ Ok request → AreThere files (names_of request) contents → CanBeDone request.question (source_in request contents) (source2_in request contents) contents → IsEndOf request.question s)
    → Delivers A (Due words files) status before after → ¬ Rose before.faults after.faults → Completes words files status
delivered-complete A words files status before after ends (inl d) calm request contents asks there can = inl (ends status d.text d.due request contents asks there can)
delivered-complete A words files status before after ends (inr (inl cut)) calm request contents asks there can = absurd (calm cut.rose)
delivered-complete A words files status before after ends (inr (inr lost)) calm request contents asks there can = inr lost.status_is

-- ---- what follows from the cause

module _ (before after : Sight) where
  -- over a shelf that tells its files and had no fault, the status and the text are those that are due
  pub due-caused : (request : Result Request WordFault) (files : List (List ℕ × List ℕ)) (status : Status) (text : List ℕ) → before.files ≡ Some files → ¬ Rose before.faults after.faults
      → CausedByRequest request before after status text → DueForRequest request files status text
  due-caused request files status text told calm (inl answered) = due-read files status text (DueOverAsked request) 1 (names_asked request) answered.contents before after told answered.read answered.due
  due-caused request files status text told calm (inr stopped) =
      let same : stopped.place + 1 ≡ 1 + stopped.place = omega arith in
      due-stopped files status text (DueOverAsked request) 1 (names_asked request) stopped.place stopped.end before after told calm stopped.stops (subst (λ (n : ℕ). TellsEnd n stopped.end status text) same stopped.told)

  all-read : (request : Result Request WordFault) (status : Status) (text : List ℕ) → IsAnswered request before after status text → HasReadAll request before after
  all-read request status text answered = record {
    each = moved-read (names_asked request) answered.contents before after answered.read;
    none_left = λ names told. none-left (names_asked request) answered.contents before after answered.read told (inr names);
  }

  -- an end that is told is no answer on what files say
  end-speaks : (number : ℕ) (end : ReadEnd) (status : Status) (text : List ℕ) → TellsEnd number end status text → SpeaksOfFiles status → ⊥
  end-speaks number ends.NoFile status text tells speaks = subst SpeaksOfFiles tells.0 speaks
  end-speaks number ends.Failed status text tells speaks = subst SpeaksOfFiles tells.0 speaks
  end-speaks number ends.TooLong status text tells speaks = subst SpeaksOfFiles tells.0 speaks
  end-speaks number ends.Memory status text tells speaks = tells

  -- where the text of an answer met a failed write
  read-cut_off : (request : Result Request WordFault) (status : Status) (text : List ℕ) → CausedByRequest request before after status text → IsReadAtWriteFault request before after
  read-cut_off request status text (inl answered) = inl (all-read request status text answered)
  read-cut_off request status text (inr stopped) = at stopped.end one.stops
    where
      one : StopsAtOne (names_asked request) stopped.end before after
      one = stops-one (names_asked request) stopped.place stopped.end before after stopped.stops

      at : (end : ReadEnd) → Stops end one.there after one.name → IsReadAtWriteFault request before after
      at ends.NoFile missing =
          inr (inl (record {
            name = one.name;
            asked_for = Contains-from_Has (names_asked request) one.name one.among;
            lacks = subst (λ (files : Option (List (List ℕ × List ℕ))). Lacks files one.name) one.reached.files missing.lacks;
            none_left = λ told. missing.none_left (one.reached.tells told);
          }))
      at ends.Failed failed = inr (inr (inl (rose-since before one.there after one.reached.faults failed.rose)))
      at ends.TooLong long = let more : most_bytes < after.taken = omega (arith, long.many, long.all_taken) in inr (inr (inr more))
      at ends.Memory stops = absurd stops

  -- all files were read at an answer on what they say
  pub read-all : (request : Result Request WordFault) (status : Status) (text : List ℕ) → CausedByRequest request before after status text → SpeaksOfFiles status → HasReadAll request before after
  read-all request status text (inl answered) speaks = all-read request status text answered
  read-all request status text (inr stopped) speaks = absurd (end-speaks (stopped.place + 1) stopped.end status text stopped.told speaks)

  module _ (A : Type 0) (words : List (List ℕ)) (status : Status) (b a : Sent) where
    pub delivered-read : Delivers A (Caused words before after) status b a → IsReadToEnd words before after status
    delivered-read (inl d) = record { answered = λ speaks. read-all (asked words) status d.text d.due speaks; cut_off = λ is. absurd (told-fault status d.told is) }
    delivered-read (inr (inl cut)) = record { answered = λ speaks. absurd (subst SpeaksOfFiles cut.status_is speaks); cut_off = λ is. read-cut_off (asked words) cut.said cut.text cut.due }
    delivered-read (inr (inr lost)) =
        record { answered = λ speaks. absurd (subst SpeaksOfFiles lost.status_is speaks); cut_off = λ is. let no : Memory ≡ WriteFault = sym lost.status_is ∙ is in absurd (cc no) }

    pub delivered-failed_read : Delivers A (Caused words before after) status b a → (number : ℕ) → status ≡ ReadFault (stops.Failed number) → Rose before.faults after.faults
    delivered-failed_read (inl d) number is = by_cause d.due
      where
        by_cause : Caused words before after status d.text → Rose before.faults after.faults
        by_cause (inl answered) = absurd (subst IsOwn is answered.own)
        by_cause (inr stopped) = at stopped.end stopped.told (stops-one (names_asked (asked words)) stopped.place stopped.end before after stopped.stops)
          where
            at : (end : ReadEnd) → TellsEnd (stopped.place + 1) end status d.text → StopsAtOne (names_asked (asked words)) end before after → Rose before.faults after.faults
            at ends.NoFile tells one = let no : ReadFault (stops.NoFile (stopped.place + 1)) ≡ ReadFault (stops.Failed number) = sym tells.0 ∙ is in absurd (cc no)
            at ends.Failed tells one = rose-since before one.there after one.reached.faults one.stops.rose
            at ends.TooLong tells one = let no : Refused (refusals.TooLong (stopped.place + 1)) ≡ ReadFault (stops.Failed number) = sym tells.0 ∙ is in absurd (cc no)
            at ends.Memory tells one = absurd tells
    delivered-failed_read (inr (inl cut)) number is = let no : WriteFault ≡ ReadFault (stops.Failed number) = sym cut.status_is ∙ is in absurd (cc no)
    delivered-failed_read (inr (inr lost)) number is = let no : Memory ≡ ReadFault (stops.Failed number) = sym lost.status_is ∙ is in absurd (cc no)

    pub delivered-whole : (files : List (List ℕ × List ℕ)) → Delivers A (Caused words before after) status b a → before.files ≡ Some files → IsSome before.rest → ¬ Rose before.faults after.faults
        → ReadsWhole words files status before after
    delivered-whole files d told rest calm request contents asks names there other = elim d [
      | inl whole ↦ by_cause status whole.text (subst (λ (r : Result Request WordFault). CausedByRequest r before after status whole.text) asks whole.due)
      | inr (inl cut) ↦ by_cause cut.said cut.text (subst (λ (r : Result Request WordFault). CausedByRequest r before after cut.said cut.text) asks cut.due)
      | inr (inr lost) ↦ absurd (other lost.status_is)
    ]
      where
        by_cause : (s : Status) (text : List ℕ) → CausedByRequest (Ok request) before after s text → AreMoved (names_of request) before.moved after.moved × (after.rest ≡ Some [])
        by_cause s text (inl answered) =
            (moved-read (names_of request) answered.contents before after answered.read, none-left (names_of request) answered.contents before after answered.read rest (inr names))
        by_cause s text (inr stopped) =
            absurd (never-stops files (names_of request) contents stopped.end before after told calm there (stops-one (names_of request) stopped.place stopped.end before after stopped.stops))
