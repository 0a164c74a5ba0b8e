use Rattle.std.proofs.Common.{◌+◌, ap, sym, ◌∙◌}
use Rattle.query_language.specs.Tokens.{tokens_from}
use Rattle.query_language.proofs.Cuts.{rest_no_space, behind_spaces, behind_token}
use Rattle.query_language.proofs.token.Tokens.next.Goals as goal

pub first_token-requires : goal.first_token-requires
first_token-requires c = rest_no_space _ c.self.inside.rest.now c.behind-rest.result.now c.spaces_before-spaces.ensures.value c.behind-rest.ensures.value

pub returns-in-None : goal.returns-in-None
returns-in-None c =
    sym c.self.view_is ∙ behind_spaces c.self.inside.place c.spaces_before-spaces.result c.self.inside.rest.now c.behind-rest.result.now c.spaces_before-spaces.ensures.value c.behind-rest.ensures.value
    ∙ ap (tokens_from (c.self.inside.place + c.spaces_before-spaces.result)) c.in-None.ensures.value

pub returns-in-Some : goal.returns-in-Some
returns-in-Some c =
    sym c.self.view_is ∙ behind_spaces c.self.inside.place c.spaces_before-spaces.result c.self.inside.rest.now c.behind-rest.result.now c.spaces_before-spaces.ensures.value c.behind-rest.ensures.value
    ∙ behind_token (c.self.inside.place + c.spaces_before-spaces.result) c.in-Some.count c.in-Some.token c.behind-rest.result.now c.behind-self-inside.result.now c.in-Some.ensures.value c.behind-self-inside.ensures.value
