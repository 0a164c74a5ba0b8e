use Rattle.std.proofs.Common.{rules, ◌∙◌, map, string_bytes, ap, sym}
use Rattle.clap.specs.Words.{fault_of, matches_of, app_of, App, is_simple, is_simple_and_free}
use Rattle.program_words.proofs.Built.{bare_from, app_from, app-simple, app-free, has-fault}
use Rattle.program_words.proofs.Cuts.{cut-accepted, cut-refused}
use Rattle.program_words.proofs.cut.cut_words.Goals as goal

pub returns-in-Ok-try_get_matches_from-clause-ok : goal.returns-in-Ok-try_get_matches_from-clause-ok
returns-in-Ok-try_get_matches_from-clause-ok c =
    let bare = bare_from c.new-3.result c.no_binary_name.result c.disable_help_flag-command.result c.new-3.ensures.app c.no_binary_name.ensures c.disable_help_flag-command.ensures in
    let is = app_from _ c.in-Ok.command c.in-Ok-arg.command c.action-memo.result c.action-names.result bare (search rules) (search rules) (search rules) (search rules) c.in-Ok.ensures c.in-Ok-arg.ensures in
    cut-accepted c.args.words.now _
    (ap (λ (a : App). fault_of a (map string_bytes c.args.words.now)) (sym is) ∙ c.in-Ok-try_get_matches_from.ensures.kinds (ap is_simple_and_free is ∙ app-free))
    ((c.in-Ok-try_get_matches_from.ensures.matches (ap is_simple is ∙ app-simple)).0 ∙ ap (λ (a : App). matches_of a (map string_bytes c.args.words.now)) is)

pub returns : goal.returns
returns c =
    let bare = bare_from c.new-3.result c.no_binary_name.result c.disable_help_flag-command.result c.new-3.ensures.app c.no_binary_name.ensures c.disable_help_flag-command.ensures in
    let is = app_from _ c.in-Ok.command c.in-Ok-arg.command c.action-memo.result c.action-names.result bare (search rules) (search rules) (search rules) (search rules) c.in-Ok.ensures c.in-Ok-arg.ensures in
    let why = c.in-Err.ensures.kinds (ap is_simple_and_free is ∙ app-free) in
    record {
      ok = tt;
      err = λ _. cut-refused c.args.words.now (λ none. has-fault (fault_of (app_of c.in-Ok-arg.command) (map string_bytes c.args.words.now)) c.in-Err.error why (λ memory. c.in_default-kind.not-OutOfMemory (c.kind.ensures ∙ memory))
          (ap (λ (a : App). fault_of a (map string_bytes c.args.words.now)) is ∙ none));
    }
