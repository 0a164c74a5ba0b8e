use Rattle.std.proofs.Common.{◌∙◌, rules, tests}
use Rattle.std.specs.Prelude.{◌==◌, bytes_eq, codes}
use Rattle.std.specs.List.{slice_split}
use Rattle.std.proofs.lemmas.Iterator.Splits.{YieldsList-from_slice_split}
use Rattle.std.proofs.lemmas.Iterator.Consumers.{YieldsList-at, YieldsList-from_filter, count_from_yields_List}
use Rattle.std.proofs.lemmas.List.Sums.{length-filter}
use Rattle.response_program.specs.Tried.{mem_lines}
use Rattle.response_program.proofs.trial.mem_lines.Goals as goal

pub returns : goal.returns
unfolding mem_lines
returns c =
    count_from_yields_List _ c.count.result c.count.ensures.ran
    (YieldsList-from_filter _ (λ line. bytes_eq line (codes "MEM"))
    (YieldsList-at c.filter.ensures.source
    (YieldsList-from_slice_split _ (λ byte. byte == 10) c.args.output.now c.split.ensures.rest c.split.ensures.done c.split.ensures.closure (λ x r q k. search (rules, tests))))
    c.filter.ensures.closure (λ x r q k. search (rules, tests)))
    ∙ length-filter (λ line. bytes_eq line (codes "MEM")) (slice_split (λ byte. byte == 10) c.args.output.now)
