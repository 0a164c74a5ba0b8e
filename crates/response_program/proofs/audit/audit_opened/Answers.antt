use Rattle.std.proofs.Common.{sym, ap, subst, ◌∙◌}
use Rattle.std.specs.Prelude.{option_map, IfSome}
use Rattle.byte_lines.specs.Desks.{all_desks}
use Rattle.response_program.specs.Audited.{HasAuditedFiles}
use Rattle.response_program.specs.Names.{files_of}
use Rattle.response_program.specs.Outcomes.{of_audit}
use Rattle.response_program.specs.Views.{view}
use Rattle.response_program.specs.Written.{AllCanGoBack, IsUnreadOf}
use Rattle.response_program.proofs.Audits.{audit_stops, comes_to, audit_cause, told_name}
use Rattle.response_program.proofs.Histories.{holds_base, holds_journal}
use Rattle.response_program.proofs.Queues.{same_pairs}
use Rattle.response_program.proofs.ToRead.{few_seated, seated_desks, seated_back, texts_of, told_seated, held_rounds}
use Rattle.response_program.proofs.audit.audit_opened.Goals as goal

pub audit-found-requires-clause-few : goal.audit-found-requires-clause-few
audit-found-requires-clause-few g c =
    let old = view g.H.Shelf.held g.H.Shelf.open_faults g.H.Shelf.read_faults g.H.Shelf.write_faults c.args.shelf.now in
    let seated = c.requires.seated in
    few_seated g.H.In.Source.left g.H.In.Source.faults g.H.In.Source.label old c.args.rounds.now seated.placed c.args.files.now.rounds.now seated.rounds_are c.requires.pairs seated.seated

pub close_written-unread-requires : goal.close_written-unread-requires
close_written-unread-requires g c =
    let old = view g.H.Shelf.held g.H.Shelf.open_faults g.H.Shelf.read_faults g.H.Shelf.write_faults c.args.shelf.now in
    let seated = c.requires.seated in
    let rounds = c.args.files.now.rounds.now in
    let back = seated_back g.H.In.Source.left g.H.In.Source.faults g.H.In.Source.label old c.args.rounds.now c.audit-found.new.rounds seated.placed seated.seated.desks (seated_desks g.H.In.Source.left g.H.In.Source.faults g.H.In.Source.label old c.args.rounds.now seated.placed seated.seated)
    seated.seated.opened c.audit-found.ensures.gone in
    subst (λ pairs. AllCanGoBack g.H.In.Source.left g.H.In.Source.faults g.H.In.Source.label pairs (all_desks c.audit-found.new.rounds))
    (same_pairs seated.placed rounds seated.rounds_are ∙ sym (same_pairs c.pairs.result.now rounds c.pairs.ensures)) back

pub returns : goal.returns
returns g c =
    let old = view g.H.Shelf.held g.H.Shelf.open_faults g.H.Shelf.read_faults g.H.Shelf.write_faults c.args.shelf.now in
    let new = view g.H.Shelf.held g.H.Shelf.open_faults g.H.Shelf.read_faults g.H.Shelf.write_faults c.close_written-unread.new.shelf in
    let names = files_of c.args.files.now in
    let contents = c.args.history.now.contents in
    let entries = c.args.history.now.journal.entries in
    let seated = c.requires.seated in
    let found = c.audit-found.result in
    let unread = option_map (λ name. name.now) c.close_written-unread.result in
    let which = told_name (λ name. name.now) c.close_written-unread.result (IsUnreadOf old new names.pairs)
    (subst (λ pairs. IfSome c.close_written-unread.result (λ name. IsUnreadOf old new pairs name.now)) (same_pairs c.pairs.result.now names.rounds c.pairs.ensures) c.close_written-unread.ensures.which) in
    subst (HasAuditedFiles old new names) (sym (c.of_audit.ensures ∙ ap (λ count. of_audit found count unread) c.len.ensures))
    (audit_stops old new names _ c.close_written-unread.ensures.fell c.close_written-unread.ensures.held (audit_cause old new names found _ unread which) (λ tells.
    comes_to old new names contents entries (texts_of old tells names.rounds) found unread c.judged_legal_is_legal.ensures c.requires.journal.sound
    (record {
      base = holds_base old names.base contents c.requires.reads_base tells;
      journal = holds_journal old names.journal entries c.requires.reads_journal tells;
      held = held_rounds old tells names.rounds;
    })
    (c.audit-found.ensures.verdict (texts_of old tells names.rounds) (told_seated g.H.In.Source.left g.H.In.Source.faults g.H.In.Source.label old tells c.args.rounds.now seated.placed names.rounds seated.rounds_are seated.seated)) which))
