-- The command that the builders make is the one of the specification.
use Rattle.std.proofs.Common.{◌≡◌, ◌≢◌, ◌∙◌, [], ap, ap₂, refl, codes, true, false, inl, inr}
use Rattle.clap.specs.Words.{rule_of, app_of, with_rule, new_app, is_simple, is_simple_and_free, HasKind, Kinds, kind_of, AddsArg}
use Rattle.clap.specs.Simple.{app_of_fields, on_top}
use Rattle.clap.specs.declared.builder.arg.Arg.{Arg}
use Rattle.clap.specs.declared.builder.command.Command.{Command}
use Rattle.clap.specs.declared.builder.command.Command.TheViews.{out-Command}
use Rattle.clap.specs.declared.builder.command.Command.TheOpen.{Command-F}
use Rattle.clap.specs.declared.error.Error.{Error}
use Rattle.clap.specs.declared.error.kind.ErrorKind.TheVariants.{OutOfMemory}
use Rattle.clap.proofs.OnLiterals.{clap_on_literals}
use Rattle.program_words.specs.Parser.{app, bare_app, memo_rule, names_rule}

pub bare_from : (a b d : Command) → app_of a ≡ new_app (codes "response")
    → out-Command b ≡ record (out-Command a) { no_binary_name = true }
    → out-Command d ≡ record (out-Command b) { disable_help_flag = true }
    → app_of d ≡ bare_app
bare_from a b d named bare helpless =
    ap app_of_fields helpless
    ∙ ap (λ (f : Command-F Command). app_of_fields (record f { disable_help_flag = true })) bare
    ∙ ap (on_top (λ s. record s { no_binary_name = true; disable_help_flag = true })) named

pub app_from : (bare c1 c2 : Command) (m f : Arg) → app_of bare ≡ bare_app → rule_of m ≡ memo_rule → m.global ≡ false
    → rule_of f ≡ names_rule → f.global ≡ false → AddsArg bare m c1 → AddsArg c1 f c2 → app_of c2 ≡ app
app_from bare c1 c2 m f is rm gm rf gf one two =
    two.shape gf ∙ ap₂ with_rule (one.shape gm ∙ ap₂ with_rule is rm) rf

-- the command is one of which clap's clauses are exact
pub app-simple : is_simple app ≡ true
unfolding clap_on_literals
app-simple = refl

pub app-free : is_simple_and_free app ≡ true
unfolding clap_on_literals
app-free = refl

-- an error that is not for memory comes only where the words have a fault
pub has-fault : (kinds : Kinds) (e : Error) → HasKind kinds e → kind_of e ≢ OutOfMemory → kinds ≢ []
has-fault kinds e (inl memory) other none = other memory
has-fault kinds e (inr among) other none = rw none at among
