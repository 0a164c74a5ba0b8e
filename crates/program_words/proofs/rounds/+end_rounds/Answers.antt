use Rattle.std.proofs.Common.{sym}
use Rattle.program_words.proofs.OneEach.{one_alone_of}
use Rattle.program_words.proofs.rounds.+end_rounds.Goals as goal

pub returns-in-len1 : goal.returns-in-len1
returns-in-len1 t c = sym (one_alone_of c.args.pairs.now c.in-len1.len_at_least c.in-len1.len_below)
