-- The words that commands begin with.
use Rattle.std.specs.Prelude.{ℕ, nat_eq, List, [], ◌∷◌, Option, codes}
use Rattle.std.specs.List.{find}
use Rattle.std.specs.Cmp.Lexicographic.{pointwise}
use Rattle.command_words.specs.declared.verb.Verb.{Verb}
use Rattle.command_words.specs.declared.verb.Verb.TheVariants as verbs

-- the word of each verb
abbrev pub verb_word : Verb → List ℕ
verb_word verbs.Hello = codes "HELLO"
verb_word verbs.Point = codes "POINT"
verb_word verbs.Put = codes "PUT"
verb_word verbs.Del = codes "DEL"
verb_word verbs.Load = codes "LOAD"
verb_word verbs.Branch = codes "BRANCH"
verb_word verbs.Share = codes "SHARE"
verb_word verbs.Update = codes "UPDATE"
verb_word verbs.Commit = codes "COMMIT"
verb_word verbs.Drop = codes "DROP"
verb_word verbs.Tree = codes "TREE"
verb_word verbs.Show = codes "SHOW"
verb_word verbs.Level = codes "LEVEL"
verb_word verbs.Plan = codes "PLAN"
verb_word verbs.Peg = codes "PEG"
verb_word verbs.Trace = codes "TRACE"
verb_word verbs.Atp = codes "ATP"
verb_word verbs.Cost = codes "COST"
verb_word verbs.Select = codes "SELECT"
verb_word verbs.Reclaim = codes "RECLAIM"
verb_word verbs.Quit = codes "QUIT"

-- all verbs
abbrev pub all_verbs : List Verb
all_verbs =
    verbs.Hello ∷ verbs.Point ∷ verbs.Put ∷ verbs.Del ∷ verbs.Load ∷ verbs.Branch ∷ verbs.Share ∷ verbs.Update ∷ verbs.Commit
    ∷ verbs.Drop ∷ verbs.Tree ∷ verbs.Show ∷ verbs.Level ∷ verbs.Plan ∷ verbs.Peg ∷ verbs.Trace ∷ verbs.Atp ∷ verbs.Cost ∷ verbs.Select ∷ verbs.Reclaim
    ∷ verbs.Quit ∷ []

-- the verb that a word is, letter by letter
unfoldable pub verb_of : List ℕ → Option Verb
verb_of word = find (λ verb. pointwise nat_eq word (verb_word verb)) all_verbs
