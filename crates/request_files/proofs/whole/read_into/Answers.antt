use Rattle.std.proofs.Common.{◌≡◌, ◌+◌, ◌<◌, ◌≤◌, ◌∙◌, ◌++◌, List, ℕ, ap, length, take, subst, rules, arith}
use Rattle.std.proofs.lemmas.List.{length-append, length-take-le}
use Rattle.std.proofs.lemmas.Grind.{common_steps}
use Rattle.io_edges.specs.Moved.{MovedFile, with_read}
use Rattle.request_files.specs.Reading.{most_bytes}
use Rattle.request_files.specs.Sights.{seen}
use Rattle.request_files.proofs.Parts.{moved, moved_all, moved_on, ended, none_left, still_told, front_of_both}
use Rattle.request_files.proofs.whole.read_into.Goals as goal

pub returns-then-count-eq0-clause-whole : goal.returns-then-count-eq0-clause-whole
returns-then-count-eq0-clause-whole g c =
    let room_there : 0 < length c.read.new.room = omega (arith, c.read.auto.room, c.deref_mut.ensures.value, c.deref_mut.ensures.len, c.rooms.invariant.room) in
    let read = c.rooms.invariant.read in (
      read.0,
      record {
        moved =
            c.in-Ok.ensures.moved ∙ ap (λ (m : List MovedFile). with_read m c.in-Ok.count c.read.new.room) read.3
            ∙ moved_all c.args.name.now read.0 c.read.new.room c.in-Ok.count (seen g.S.Shelf c.args.shelf.now).moved c.if-count-eq0.true room_there;
        short = omega (arith, read.2, c.rooms.invariant.short);
        all_taken = omega (arith, c.in-Ok.ensures.taken, c.rooms.invariant.all_taken, c.rooms.invariant.short, c.if-count-eq0.true, read.2);
        named = λ all told. ended _ _ _ _ _ _ (read.4 all told) c.in-Ok.ensures.moves c.if-count-eq0.true room_there;
        none_left = λ told. none_left _ _ c.read.new.room _ (c.rooms.invariant.told told) c.in-Ok.ensures.moves c.if-count-eq0.true room_there;
      },
      read.1,
    )

pub returns-then-count-size-clause-stops : goal.returns-then-count-size-clause-stops
returns-then-count-size-clause-stops g c =
    let read = c.rooms.invariant.read in
    let many : most_bytes < c.rooms.size + c.in-Ok.count = omega (arith, c.rooms.invariant.short, c.if-count-size.true) in
    let fits : c.in-Ok.count ≤ length c.read.new.room = c.in-Ok.ensures.fits in
    let size : length (read.0 ++ take c.in-Ok.count c.read.new.room) ≡ c.rooms.size + c.in-Ok.count =
    length-append read.0 (take c.in-Ok.count c.read.new.room) ∙ omega (arith, read.2, length-take-le c.in-Ok.count c.read.new.room fits) in record {
      bytes = read.0 ++ take c.in-Ok.count c.read.new.room;
      moved =
          c.in-Ok.ensures.moved ∙ ap (λ (m : List MovedFile). with_read m c.in-Ok.count c.read.new.room) read.3
          ∙ moved_on c.args.name.now read.0 c.read.new.room c.in-Ok.count (seen g.S.Shelf c.args.shelf.now).moved (omega (arith, many, c.rooms.invariant.short));
      many = omega (arith, many, size);
      at_once = omega (arith, size, fits, c.rooms.invariant.short, c.read.auto.room, c.deref_mut.ensures.value, c.deref_mut.ensures.len, c.rooms.invariant.room);
      all_taken = omega (arith, size, c.in-Ok.ensures.taken, fits, c.rooms.invariant.all_taken, c.rooms.invariant.short, c.read.auto.room, c.deref_mut.ensures.value, c.deref_mut.ensures.len, c.rooms.invariant.room);
      longer = λ all told.
          let parts = read.4 all told in
          let within : c.in-Ok.count ≤ length parts.0 = (c.in-Ok.ensures.moves parts.0 parts.1).within in
          (read.0 ++ parts.0, parts.2, omega (arith, many, within, read.2, length-append read.0 parts.0));
    }

pub rooms-preserved : goal.rooms-preserved
rooms-preserved g c =
    let len : c.rooms.room.len ≡ length c.read.new.room = omega (arith, c.read.auto.room, c.deref_mut.ensures.value, c.deref_mut.ensures.len) in
    let same : c.deref.result.now ≡ c.read.new.room = c.deref.ensures.value ∙ front_of_both c.rooms.room.len c.read.new.room _ len in
    let fits : c.in-Ok.count ≤ length c.read.new.room = c.in-Ok.ensures.fits in
    let read = c.rooms.invariant.read in record {
      room = search rules;
      short = grind (arith, common_steps);
      all_taken = grind (arith, common_steps);
      read = (
        read.0 ++ take c.in-Ok.count c.read.new.room,
        subst (λ (room : List ℕ). g.T.Taker.holds c.take_piece.new.self (read.0 ++ take c.in-Ok.count room)) same (c.in_ok-take_piece.ensures read.0 read.1),
        length-append read.0 (take c.in-Ok.count c.read.new.room) ∙ omega (arith, read.2, length-take-le c.in-Ok.count c.read.new.room fits),
        c.in-Ok.ensures.moved ∙ ap (λ (m : List MovedFile). with_read m c.in-Ok.count c.read.new.room) read.3
            ∙ moved_on c.args.name.now read.0 c.read.new.room c.in-Ok.count (seen g.S.Shelf c.args.shelf.now).moved (omega arith),
        λ all told. moved _ _ _ _ _ _ (read.4 all told) c.in-Ok.ensures.moves,
      );
      told = λ told. still_told _ _ c.read.new.room _ (c.rooms.invariant.told told) c.in-Ok.ensures.moves;
      began = record { files = search rules; begins = search rules; faults = search rules };
    }
