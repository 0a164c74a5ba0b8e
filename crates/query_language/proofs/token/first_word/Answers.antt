use Rattle.std.proofs.Common.{subst, sym, take}
use Rattle.query_language.specs.Tokens.{BeginsWithToken}
use Rattle.query_language.specs.declared.token.Token.TheVariants as token
use Rattle.query_language.proofs.Cuts.{begins_word}
use Rattle.query_language.proofs.token.first_word.Goals as goal

pub returns : goal.returns
returns c =
    subst (λ n. BeginsWithToken c.args.text.now (token.Word (take n c.args.text.now)) n) (sym c.word_len-count.ensures.value) (begins_word c.args.text.now c.requires.word)
