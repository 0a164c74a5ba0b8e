use Rattle.std.proofs.Common.{ap}
use Rattle.plan_book.specs.Books.{story_of}
use Rattle.response_program.proofs.Books.{ground_of}
use Rattle.response_program.proofs.in_rounds.serve_at_office.Goals as goal

pub begin-requires-clause-blank : goal.begin-requires-clause-blank
begin-requires-clause-blank g c = ap story_of c.requires.empty

pub run_rounds-requires-clause-begun : goal.run_rounds-requires-clause-begun
run_rounds-requires-clause-begun g c κs within = record { first = 0; faults = 0; ground = ground_of c.args.book; is = c.in-Ok.ensures.pass }
