use Rattle.std.proofs.Common.{◌≡◌, ◌-◌, Some, option_map, subst, sym, ap, ◌∙◌, take, length}
use Rattle.command_words.specs.Forms.{form_of_line, lines_cut}
use Rattle.plan_audit.specs.Ahead.{still, LineTaken, LinesTaken}
use Rattle.plan_audit.specs.Buffers.{ahead_of}
use Rattle.plan_audit.specs.Replies.{form_for}
use Rattle.plan_audit.proofs.Wholes.{no_first_line, no_form_told, lines_missing, whole_taken, line_in}
use Rattle.plan_audit.proofs.replies.take_reply.Goals as goal

pub returns-then-not-branch-clause-reply : goal.returns-then-not-branch-clause-reply
returns-then-not-branch-clause-reply g c = λ all is some.
    let first = subst (λ b. LineTaken all (still (ahead_of c.take_line.new.self) (g.S.Source.left c.take_line.new.source)) c.args.text.now.items c.take_line.new.text.items b) c.if-not-branch.true (c.in_ok-take_line.ensures.line all is) in
    (some, no_first_line all first)

pub returns-in_default-clause-reply : goal.returns-in_default-clause-reply
returns-in_default-clause-reply g c = λ all is some.
    let items = c.take_line.new.text.items in
    let k = subst (λ b. LineTaken all (still (ahead_of c.take_line.new.self) (g.S.Source.left c.take_line.new.source)) c.args.text.now.items c.take_line.new.text.items b) c.if-not-branch.false (c.in_ok-take_line.ensures.line all is) in
    let len : c.len.result ≡ length items = c.len.ensures ∙ sym c.deref.ensures.len ∙ ap length c.deref.ensures.value in
    let line : take (c.len.result - 1) c.deref.result.now ≡ k.line =
    ap (λ t. take (c.len.result - 1) t) c.deref.ensures.value ∙ ap (λ n. take (n - 1) items) len ∙ line_in all _ c.args.text.now.items items c.requires k in
    (some, no_form_told all k.line k.behind k.cut (ap form_of_line (sym line) ∙ sym c.form_of_line.ensures ∙ ap (option_map form_for) c.in_default.is))

pub returns-then-not-branch-2-clause-reply : goal.returns-then-not-branch-2-clause-reply
returns-then-not-branch-2-clause-reply g c = λ all is some.
    let items = c.take_line.new.text.items in
    let k = subst (λ b. LineTaken all (still (ahead_of c.take_line.new.self) (g.S.Source.left c.take_line.new.source)) c.args.text.now.items c.take_line.new.text.items b) c.if-not-branch.false (c.in_ok-take_line.ensures.line all is) in
    let len : c.len.result ≡ length items = c.len.ensures ∙ sym c.deref.ensures.len ∙ ap length c.deref.ensures.value in
    let line : take (c.len.result - 1) c.deref.result.now ≡ k.line =
    ap (λ t. take (c.len.result - 1) t) c.deref.ensures.value ∙ ap (λ n. take (n - 1) items) len ∙ line_in all _ c.args.text.now.items items c.requires k in
    let told : form_of_line k.line ≡ Some (form_for c.in-Some.form) = ap form_of_line (sym line) ∙ sym c.form_of_line.ensures ∙ ap (option_map form_for) c.in-Some.is in
    let none = subst (λ b. LinesTaken c.lines.result k.behind (still (ahead_of c.take_lines.new.ahead) (g.S.Source.left c.take_lines.new.source)) items c.take_lines.new.text.items b) c.if-not-branch-2.true (c.in_ok-take_lines.ensures.lines k.behind k.left) in
    (some, lines_missing all k.line k.behind (form_for c.in-Some.form) k.cut told (ap (λ n. lines_cut n k.behind) (sym c.lines.ensures) ∙ none))

pub returns-clause-reply : goal.returns-clause-reply
returns-clause-reply g c = λ all is some.
    let items = c.take_line.new.text.items in
    let k = subst (λ b. LineTaken all (still (ahead_of c.take_line.new.self) (g.S.Source.left c.take_line.new.source)) c.args.text.now.items c.take_line.new.text.items b) c.if-not-branch.false (c.in_ok-take_line.ensures.line all is) in
    let len : c.len.result ≡ length items = c.len.ensures ∙ sym c.deref.ensures.len ∙ ap length c.deref.ensures.value in
    let line : take (c.len.result - 1) c.deref.result.now ≡ k.line =
    ap (λ t. take (c.len.result - 1) t) c.deref.ensures.value ∙ ap (λ n. take (n - 1) items) len ∙ line_in all _ c.args.text.now.items items c.requires k in
    let told : form_of_line k.line ≡ Some (form_for c.in-Some.form) = ap form_of_line (sym line) ∙ sym c.form_of_line.ensures ∙ ap (option_map form_for) c.in-Some.is in
    let more = subst (λ b. LinesTaken c.lines.result k.behind (still (ahead_of c.take_lines.new.ahead) (g.S.Source.left c.take_lines.new.source)) items c.take_lines.new.text.items b) c.if-not-branch-2.false (c.in_ok-take_lines.ensures.lines k.behind k.left) in
    whole_taken all _ _ c.args.text.now.items items c.take_lines.new.text.items c.in-Some.form c.lines.result c.requires k told c.lines.ensures more
