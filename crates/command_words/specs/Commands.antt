-- What a command of the code stands for.
use Rattle.std.specs.Prelude.{Result, Ok, Err, option_map}
use Rattle.command_words.specs.declared.command.Command.{Command}
use Rattle.command_words.specs.declared.command.Command.TheVariants as code
use Rattle.command_words.specs.declared.command.Request.{Request as WithChanges}
use Rattle.command_words.specs.declared.fault.WordFault.{WordFault}
use Rattle.command_words.specs.Words.{Question, Request, Mps, Check, CheckProof, Solve, SolveFrom, Explain, Curve, Span, Make, Table, Page, Warn, Compare, Reduce}

-- the question of a command, without where the names of its files lie in memory
abbrev pub question_of : Command → Question
question_of (code.Mps file places) = Mps file.now places
question_of (code.Check file plan multipliers gap places) = Check file.now plan.now (option_map (λ name. name.now) multipliers) gap places
question_of (code.CheckProof file proof gap places) = CheckProof file.now proof.now gap places
question_of (code.Solve file gap pivots places show method) = Solve file.now gap pivots places show method
question_of (code.SolveFrom file start gap pivots places show) = SolveFrom file.now start.now gap pivots places show
question_of (code.Explain file pivots places method) = Explain file.now pivots places method
question_of (code.Curve file region emission limits gap pivots places method) = Curve file.now region.now emission.now limits.items gap pivots places method
question_of (code.Span file region technology year slack gap pivots places method) = Span file.now region.now technology.now year.now slack gap pivots places method
question_of (code.Make size show) = Make size show
question_of (code.Table file proof name exact gap places) = Table file.now proof.now name.now exact gap places
question_of (code.Page file proof gap places) = Page file.now proof.now gap places
question_of (code.Warn file) = Warn file.now
question_of (code.Compare first first_proof second second_proof gap places show) = Compare first.now first_proof.now second.now second_proof.now gap places show
question_of (code.Reduce file places) = Reduce file.now places

-- the same where the words may be at fault
abbrev pub question_of_result : Result Command WordFault → Result Question WordFault
question_of_result (Ok command) = Ok (question_of command)
question_of_result (Err fault) = Err fault

-- the request that a command stands for with its files of changes
abbrev pub request_of : WithChanges → Request
request_of asked_for = record { question = question_of asked_for.command; changes = option_map (λ name. name.now) asked_for.changes; changes2 = option_map (λ name. name.now) asked_for.changes2 }

-- the same where the words may be at fault
abbrev pub request_of_result : Result WithChanges WordFault → Result Request WordFault
request_of_result (Ok request) = Ok (request_of request)
request_of_result (Err fault) = Err fault
