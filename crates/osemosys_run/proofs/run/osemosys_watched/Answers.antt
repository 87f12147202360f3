use Rattle.osemosys_run.proofs.Common.{◌≡◌, IsSome, Some, arith, map, List, ℕ, Ok, inl, inr, refl, subst, sym, string_bytes, Request, asked, Sight, seen, AskForEquations, Due, Rose, DueForReply, IsAsMade, IsForEquations, Caused, Sent, sent}
use Rattle.osemosys_run.proofs.RunLaws.{delivered-complete, delivered-failed_read, delivered-failed_write, delivered-read, delivered-whole, delivers-weaker, due-caused}
use Rattle.osemosys_run.proofs.run.osemosys_watched.Goals as goal

pub deliver-requires : goal.deliver-requires
deliver-requires g c = c.in-Ok.ensures.reply.can_be_sent

pub returns-in-Ok : goal.returns-in-Ok
returns-in-Ok g c =
    let words = map string_bytes c.args.words.now in
    let old = c.args.shelf.now in
    let before : Sight = seen g.S.Shelf old in
    let after : Sight = seen g.S.Shelf c.perform.new.shelf in
    let b : Sent = sent g.K.Sink c.args.out.now in
    let a : Sent = sent g.K.Sink c.deliver.new.out in
    let reply = c.in-Ok.ensures.reply in
    let as_made = λ (made : IsAsMade c.in-Ok.reply). let asked_for = reply.as_made made in asks words asked_for.0 asked_for.1 asked_for.2 in
    let caused = delivers-weaker (IsAsMade c.in-Ok.reply) (AskForEquations words) (DueForReply c.in-Ok.reply) (Caused words before after) c.deliver.result b a as_made reply.caused c.deliver.ensures.delivers in
    let due = λ (files : List (List ℕ × List ℕ)) (told : before.files ≡ Some files) (calm : ¬ Rose before.faults after.faults).
    delivers-weaker (IsAsMade c.in-Ok.reply) (AskForEquations words) (DueForReply c.in-Ok.reply) (Due words files) c.deliver.result b a as_made
    (λ status text said. due-caused before after (asked words) files status text told calm (reply.caused status text said)) c.deliver.ensures.delivers in
    record {
      due = λ files told calm. due files told calm;
      caused = caused;
      read_whole = λ files told calm request contents asks_for names there other.
          delivered-whole before after (AskForEquations words) words c.deliver.result b a files caused told (g.met.S.Shelf.tells_rest old (subst IsSome (sym told) refl)) calm request contents asks_for names there other;
      complete = λ files told calm unfailing request contents asks_for there can.
          delivered-complete (AskForEquations words) words files c.deliver.result b a (c.completing_laws.ensures words files) (due files told calm) unfailing request contents asks_for there can;
      read_to_end = delivered-read before after (AskForEquations words) words c.deliver.result b a caused;
      failed_read = delivered-failed_read before after (AskForEquations words) words c.deliver.result b a caused;
      failed_write = delivered-failed_write (AskForEquations words) (Caused words before after) c.deliver.result b a caused;
      files = c.perform.ensures.same.files;
      read_faults = c.perform.ensures.same.faults;
      write_faults = c.deliver.ensures.faults;
    }
  where
    asks : (words : List (List ℕ)) (request : Request) → asked words ≡ Ok request → IsForEquations request → AskForEquations words
    asks words request is for_equations = record { name = for_equations.name; places = for_equations.places; request = request; asks = is; is = for_equations.is }

pub returns-in-Err : goal.returns-in-Err
returns-in-Err g c = record {
  due = λ files told calm. inr (inr (record { status_is = refl; left = inl refl }));
  caused = inr (inr (record { status_is = refl; left = inl refl }));
  read_whole = λ files told calm request contents asks names there other. absurd (other refl);
  complete = λ files told calm unfailing request contents asks there can. inr refl;
  read_to_end = record { answered = λ speaks. absurd speaks; cut_off = λ is. absurd (cc is) };
  failed_read = λ file is. absurd (cc is);
  failed_write = λ is. absurd (cc is);
  files = c.perform.ensures.same.files;
  read_faults = c.perform.ensures.same.faults;
  write_faults = omega arith;
}
