use Rattle.command_answers.proofs.accepting.accept.Goals as goal

pub accept_read-requires : goal.accept_read-requires
accept_read-requires c = (c.args.text.items, c.in_ok-reader.ensures)

pub returns : goal.returns
returns c = c.accept_read.ensures c.args.text.items c.in_ok-reader.ensures c.requires
