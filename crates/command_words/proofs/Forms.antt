-- The text of a reply is a whole reply in form.
use Rattle.std.proofs.Common.{◌≡◌, ℕ, suc, ◌+◌, ◌^◌, ◌<◌, ◌≤◌, Bool, true, false, not, ◌&&◌, cond, nat_eq, nat_lt, nat_le, List, [], ◌∷◌, ◌++◌, length, take, drop, Some, None, refl, ap, ◌∙◌, append_assoc, append-nil, arith, length-append}
use Rattle.std.specs.Prelude.{codes, decimal, option_map}
use Rattle.std.specs.List.{list_all, flat_map}
use Rattle.std.proofs.lemmas.Bool.{and_parts}
use Rattle.std.proofs.lemmas.Bool.Decides.{nat_tests}
use Rattle.std.proofs.lemmas.Fmt.{length-decimal-le}
use Rattle.std.proofs.Math.Seq.{take-append_seam, take-length}
use Rattle.plan_schema.specs.declared.fault.Rule.{Rule}
use Rattle.plan_schema.specs.declared.fault.Rule.TheVariants as rule
use Rattle.plan_schema.specs.declared.refusal.Room.{Room}
use Rattle.plan_schema.specs.declared.refusal.Room.TheVariants as room
use Rattle.plan_schema.specs.declared.refusal.Refusal.{Refusal}
use Rattle.plan_schema.specs.declared.refusal.Refusal.TheVariants as refusal
use Rattle.plan_schema.specs.Name.{is_name}
use Rattle.plan_schema.specs.Day.{day_text}
use Rattle.query_language.specs.declared.fault.QueryRule.{QueryRule}
use Rattle.query_language.specs.declared.fault.QueryRule.TheVariants as query_rule
use Rattle.row_text.specs.Spelling.{spaced, words_text, key_fields}
use Rattle.row_text.proofs.Fields.{and_true, le_true, number_again}
use Rattle.command_words.specs.Replies.{ended, room_word, refusal_words, rule_word, query_rule_word, bad_words, point_word, head_words, more_lines, reply_text}
use Rattle.command_words.specs.Forms.{Done, Listed, Refused, Faulty, form, lines_in, most_point, most_lines, longest_line, if_read_on, place_of, line_cut, lines_cut, if_read, point_of, count_of, listed, counted, ok_form, reasoned, no_form, form_of_line, whole_reply, refusal_has_names, is_small, bad_is_small, is_line, is_within_limits}
use Rattle.command_words.specs.declared.reply.Bad.{Bad}
use Rattle.command_words.specs.declared.reply.Bad.TheVariants as bad
use Rattle.command_words.specs.declared.reply.Reply.{Reply}
use Rattle.command_words.specs.declared.reply.Reply.TheVariants as reply
use Rattle.command_words.proofs.Seen.{is_seen, is_seen_word, all_more, number_seen, all-append}
use Rattle.command_words.proofs.ShortWords.{is_short_word, AreShort, no_words, short, with_word, more_short, name_short, number_short, day_short, one_short, two_short, three_short, key_short, all_seen, text_short}

-- the words of the first line -----------------------------------------------------------------------------------------------

room_short : (what : Room) → is_short_word (room_word what) ≡ true
room_short room.Bytes = refl
room_short room.Scenarios = refl
room_short room.Parts = refl
room_short room.Records = refl
room_short room.Journal = refl

-- a refusal has a word for its rule, and one to three for what it is about
about : (rule : List ℕ) (words : List (List ℕ)) (n : ℕ) → n ≤ 3 → is_short_word rule ≡ true → AreShort words n → AreShort (rule ∷ words) 4
about rule words n le h k = more_short (rule ∷ words) (suc n) 4 (omega arith) (with_word rule words n h k)

about_name : (rule name : List ℕ) → is_short_word rule ≡ true → is_name name ≡ true → AreShort (rule ∷ name ∷ []) 4
about_name rule name h k = about rule (name ∷ []) 1 (omega arith) h (one_short name (name_short name k))

refusal_short : (why : Refusal) → refusal_has_names why ≡ true → AreShort (refusal_words why) 4
unfolding refusal_words
refusal_short (refusal.NoScenario name) h = about_name (codes "no-scenario") name refl h
refusal_short (refusal.Denied name) h = about_name (codes "denied") name refl h
refusal_short (refusal.Taken name) h = about_name (codes "taken") name refl h
refusal_short (refusal.Root name) h = about_name (codes "root") name refl h
refusal_short (refusal.HasChildren name) h = about_name (codes "has-children") name refl h
refusal_short (refusal.Depth name) h = about_name (codes "depth") name refl h
refusal_short (refusal.Full what) h = about (codes "full") (room_word what ∷ []) 1 (omega arith) refl (one_short (room_word what) (room_short what))
refusal_short (refusal.NoRecord key) h = about (codes "no-record") (key_fields key) 3 (omega arith) refl (key_short key h)
refusal_short (refusal.Conflict key) h = about (codes "conflict") (key_fields key) 3 (omega arith) refl (key_short key h)
refusal_short (refusal.NoPart name) h = about_name (codes "no-part") name refl h
refusal_short (refusal.MissingPart name) h = about_name (codes "missing-part") name refl h
refusal_short (refusal.MissingCalendar name) h = about_name (codes "missing-calendar") name refl h
refusal_short (refusal.Cyclic name) h = about_name (codes "cyclic") name refl h
refusal_short (refusal.TooLarge name) h = about_name (codes "too-large") name refl h
refusal_short (refusal.NoDay day) h = about (codes "no-day") (day_text day ∷ []) 1 (omega arith) refl (one_short (day_text day) (day_short day))
refusal_short (refusal.NoCosts name) h = about_name (codes "no-costs") name refl h
refusal_short refusal.ReadOnly h = about (codes "read-only") [] 0 (omega arith) refl no_words

rule_short : (broken : Rule) → is_short_word (rule_word broken) ≡ true
rule_short rule.Shape = refl
rule_short rule.Range = refl
rule_short rule.Date = refl
rule_short rule.Own = refl

query_rule_short : (broken : QueryRule) → is_short_word (query_rule_word broken) ≡ true
query_rule_short query_rule.Word = refl
query_rule_short query_rule.End = refl
query_rule_short query_rule.Deep = refl
query_rule_short query_rule.Many = refl

small_short : (n : ℕ) → is_small n ≡ true → is_short_word (decimal n) ≡ true
small_short n h = number_short n (let below : n < 2 ^ 32 = grind (arith, nat_tests) in below)

bad_short : (why : Bad) → bad_is_small why ≡ true → AreShort (bad_words why) 4
unfolding bad_words
bad_short bad.Long h = about (codes "long") [] 0 (omega arith) refl no_words
bad_short bad.Word h = about (codes "word") [] 0 (omega arith) refl no_words
bad_short (bad.Field fault) h = about (codes "field") (decimal fault.field ∷ rule_word fault.rule ∷ []) 2 (omega arith) refl (two_short (decimal fault.field) (rule_word fault.rule) (small_short fault.field h) (rule_short fault.rule))
bad_short (bad.Query fault) h = about (codes "query") (decimal fault.place ∷ query_rule_word fault.rule ∷ []) 2 (omega arith) refl (two_short (decimal fault.place) (query_rule_word fault.rule) (small_short fault.place h) (query_rule_short fault.rule))
bad_short (bad.Row row fault) h =
    let p = and_parts (is_small row) (is_small fault.field) h in
    about (codes "row") (decimal row ∷ decimal fault.field ∷ rule_word fault.rule ∷ []) 3 (omega arith) refl
    (three_short (decimal row) (decimal fault.field) (rule_word fault.rule) (small_short row p.0) (small_short fault.field p.1) (rule_short fault.rule))
bad_short (bad.RowLong row) h = about (codes "row") (decimal row ∷ codes "long" ∷ []) 2 (omega arith) refl (two_short (decimal row) (codes "long") (small_short row h) refl)
bad_short bad.Short h = about (codes "short") [] 0 (omega arith) refl no_words

most_is : (n most : ℕ) → nat_le n most ≡ true → n ≤ most
most_is n most h = grind (arith, nat_tests)

point_short : (point : ℕ) → nat_le point most_point ≡ true → is_short_word (point_word point) ≡ true
point_short point h =
    let most = most_is point most_point h in
    let few : length (decimal point) ≤ 20 = length-decimal-le 20 point (omega arith) (omega arith) (omega arith) in
    let p = and_parts (nat_lt 0 (length (decimal point))) (list_all is_seen (decimal point)) (number_seen point (omega arith)) in
    short (point_word point) (omega arith) (and_true (let t : nat_lt 0 (length (point_word point)) ≡ true = grind (arith, nat_tests) in t) p.1)

head_short : (answer : Reply) → is_within_limits answer ≡ true → AreShort (head_words answer) 6
unfolding head_words
head_short (reply.Ok point) h = more_short (codes "OK" ∷ point_word point ∷ []) 2 6 (omega arith) (two_short (codes "OK") (point_word point) refl (point_short point h))
head_short (reply.Rows point lines) h =
    let q = and_parts (nat_le point most_point && nat_le (length lines) most_lines) (list_all is_line lines) h in
    let p = and_parts (nat_le point most_point) (nat_le (length lines) most_lines) q.0 in
    let few = most_is (length lines) most_lines p.1 in
    more_short (codes "OK" ∷ point_word point ∷ decimal (length lines) ∷ []) 3 6 (omega arith)
    (three_short (codes "OK") (point_word point) (decimal (length lines)) refl (point_short point p.0) (number_short (length lines) (omega arith)))
head_short (reply.No point why) h =
    let p = and_parts (nat_le point most_point) (refusal_has_names why) h in
    with_word (codes "NO") (point_word point ∷ refusal_words why) 5 refl (with_word (point_word point) (refusal_words why) 4 (point_short point p.0) (refusal_short why p.1))
head_short (reply.Bad why) h = more_short (codes "BAD" ∷ bad_words why) 5 6 (omega arith) (with_word (codes "BAD") (bad_words why) 4 refl (bad_short why h))
head_short reply.Mem h = more_short (codes "MEM" ∷ []) 1 6 (omega arith) (one_short (codes "MEM") refl)

-- where a byte stands first ---------------------------------------------------------------------------------------------------

abbrev is_other : ℕ → ℕ → Bool
is_other byte x = not (nat_eq x byte)

placed : (byte : ℕ) (text rest : List ℕ) → list_all (is_other byte) text ≡ true → place_of byte (text ++ byte ∷ rest) ≡ length text
placed byte [] rest h =
    let here : not (nat_eq byte byte) ≡ false = grind (arith, nat_tests) in
    ap (λ t. cond t (1 + place_of byte rest) 0) here
placed byte (x ∷ text) rest h =
    let p = and_parts (is_other byte x) (list_all (is_other byte) text) h in
    let later = placed byte text rest p.1 in
    ap (λ t. cond t (1 + place_of byte (text ++ byte ∷ rest)) 0) p.0 ∙ omega arith

nowhere : (byte : ℕ) (text : List ℕ) → list_all (is_other byte) text ≡ true → place_of byte text ≡ length text
nowhere byte [] h = refl
nowhere byte (x ∷ text) h =
    let p = and_parts (is_other byte x) (list_all (is_other byte) text) h in
    let later = nowhere byte text p.1 in
    ap (λ t. cond t (1 + place_of byte text) 0) p.0 ∙ omega arith

-- what stands behind the byte
behind_byte : (byte : ℕ) (text rest : List ℕ) → drop (length text + 1) (text ++ byte ∷ rest) ≡ rest
behind_byte byte text rest = ap (λ n. drop n (text ++ byte ∷ rest)) (let n : length text + 1 ≡ suc (length text) = omega arith in n) ∙ past text
  where
    past : (text : List ℕ) → drop (suc (length text)) (text ++ byte ∷ rest) ≡ rest
    past [] = refl
    past (x ∷ text) = past text

from_byte : (byte : ℕ) (text rest : List ℕ) → drop (length text) (text ++ byte ∷ rest) ≡ byte ∷ rest
from_byte byte [] rest = refl
from_byte byte (x ∷ text) rest = from_byte byte text rest

whole_text : (text : List ℕ) → drop (length text) text ≡ []
whole_text [] = refl
whole_text (x ∷ text) = whole_text text

seen_is_other : (x : ℕ) → is_seen x ≡ true → is_other 32 x ≡ true
seen_is_other x h = grind (arith, nat_tests)

seen_is_no_feed : (x : ℕ) → is_seen x ≡ true → is_other 10 x ≡ true
seen_is_no_feed x h = grind (arith, nat_tests)

-- lines -------------------------------------------------------------------------------------------------------------------------

-- a line without a line feed, and not too long, is cut off
line_told : (line rest : List ℕ) → list_all (is_other 10) line ≡ true → length line ≤ longest_line → line_cut (line ++ 10 ∷ rest) ≡ Some (line, rest)
line_told line rest h few =
    let at = placed 10 line rest h in
    let long : length (line ++ 10 ∷ rest) ≡ length line + suc (length rest) = length-append line (10 ∷ rest) in
    let ended_there : nat_lt (length line) (length (line ++ 10 ∷ rest)) ≡ true = grind (arith, nat_tests) in
    let fits : nat_le (length line) longest_line ≡ true = le_true (length line) longest_line few in
    ap (λ k. cond (nat_lt k (length (line ++ 10 ∷ rest)) && nat_le k longest_line) (Some (take k (line ++ 10 ∷ rest), drop (k + 1) (line ++ 10 ∷ rest))) None) at
    ∙ ap (λ t. cond t (Some (take (length line) (line ++ 10 ∷ rest), drop (length line + 1) (line ++ 10 ∷ rest))) None) (and_true ended_there fits)
    ∙ (λ i. Some (take-append_seam line (10 ∷ rest) i, behind_byte 10 line rest i))

lines_told : (lines : List (List ℕ)) (behind : List ℕ) → list_all is_line lines ≡ true → lines_cut (length lines) (flat_map ended lines ++ behind) ≡ Some behind
lines_told [] behind h = refl
lines_told (line ∷ lines) behind h =
    let p = and_parts (is_line line) (list_all is_line lines) h in
    let q = and_parts (nat_le (length line) longest_line) (list_all (λ byte. not (nat_eq byte 10)) line) p.0 in
    let shape : flat_map ended (line ∷ lines) ++ behind ≡ line ++ 10 ∷ (flat_map ended lines ++ behind) =
    append_assoc (ended line) (flat_map ended lines) behind ∙ append_assoc line (10 ∷ []) (flat_map ended lines ++ behind) in
    ap (λ text. if_read_on (line_cut text) (λ cut. lines_cut (length lines) cut.1)) shape
    ∙ ap (λ o. if_read_on o (λ cut. lines_cut (length lines) cut.1)) (line_told line (flat_map ended lines ++ behind) q.1 (most_is (length line) longest_line q.0))
    ∙ lines_told lines behind p.1

no_feed : (words : List (List ℕ)) → list_all is_seen_word words ≡ true → list_all (is_other 10) (words_text words) ≡ true
no_feed [] h = refl
no_feed (word ∷ words) h =
    let p = and_parts (is_seen_word word) (list_all is_seen_word words) h in
    all-append (is_other 10) word (spaced words) (bytes word p.0) (more words p.1)
  where
    bytes : (word : List ℕ) → is_seen_word word ≡ true → list_all (is_other 10) word ≡ true
    bytes word e = all_more is_seen (is_other 10) seen_is_no_feed word (and_parts (nat_lt 0 (length word)) (list_all is_seen word) e).1

    more : (words : List (List ℕ)) → list_all is_seen_word words ≡ true → list_all (is_other 10) (spaced words) ≡ true
    more [] e = refl
    more (word ∷ words) e =
        let p = and_parts (is_seen_word word) (list_all is_seen_word words) e in
        all-append (is_other 10) (32 ∷ word) (spaced words) (and_true refl (bytes word p.0)) (more words p.1)

-- the form ----------------------------------------------------------------------------------------------------------------------

point_again : (point : ℕ) → nat_le point most_point ≡ true → point_of (decimal point) ≡ Some point
point_again point h = ap if_read (number_again 0 most_point point (omega arith) (omega arith) (most_is point most_point h))

count_again : (count : ℕ) → nat_le count most_lines ≡ true → count_of (decimal count) ≡ Some count
count_again count h = ap if_read (number_again 0 most_lines count (omega arith) (omega arith) (most_is count most_lines h))

digits_other : (point : ℕ) → nat_le point most_point ≡ true → list_all (is_other 32) (decimal point) ≡ true
digits_other point h =
    let most = most_is point most_point h in
    all_more is_seen (is_other 32) seen_is_other (decimal point) (and_parts (nat_lt 0 (length (decimal point))) (list_all is_seen (decimal point)) (number_seen point (omega arith))).1

done_told : (point : ℕ) → nat_le point most_point ≡ true → ok_form (decimal point) ≡ Some (Done point)
done_told point h =
    let digits = decimal point in
    ap (λ k. counted (take k digits) (drop k digits)) (nowhere 32 digits (digits_other point h))
    ∙ (λ i. counted (take-length digits i) (whole_text digits i))
    ∙ ap (option_map Done) (point_again point h)

listed_told : (point count : ℕ) → nat_le point most_point ≡ true → nat_le count most_lines ≡ true → ok_form (decimal point ++ 32 ∷ decimal count) ≡ Some (Listed point count)
listed_told point count h k =
    let digits = decimal point in
    let text = digits ++ 32 ∷ decimal count in
    ap (λ n. counted (take n text) (drop n text)) (placed 32 digits (decimal count) (digits_other point h))
    ∙ (λ i. counted (take-append_seam digits (32 ∷ decimal count) i) (from_byte 32 digits (decimal count) i))
    ∙ (λ i. listed (point_again point h i) (count_again count k i))

refused_told : (point byte : ℕ) (why : List ℕ) → nat_le point most_point ≡ true → no_form (decimal point ++ 32 ∷ byte ∷ why) ≡ Some (Refused point)
refused_told point byte why h =
    let digits = decimal point in
    let text = digits ++ 32 ∷ byte ∷ why in
    ap (λ n. reasoned (take n text) (drop (n + 1) text)) (placed 32 digits (byte ∷ why) (digits_other point h))
    ∙ (λ i. reasoned (take-append_seam digits (32 ∷ byte ∷ why) i) (behind_byte 32 digits (byte ∷ why) i))
    ∙ ap (option_map Refused) (point_again point h)

no_told : (point : ℕ) (why : Refusal) → nat_le point most_point ≡ true → no_form (decimal point ++ spaced (refusal_words why)) ≡ Some (Refused point)
unfolding refusal_words
no_told point (refusal.NoScenario name) h = refused_told point _ _ h
no_told point (refusal.Denied name) h = refused_told point _ _ h
no_told point (refusal.Taken name) h = refused_told point _ _ h
no_told point (refusal.Root name) h = refused_told point _ _ h
no_told point (refusal.HasChildren name) h = refused_told point _ _ h
no_told point (refusal.Depth name) h = refused_told point _ _ h
no_told point (refusal.Full what) h = refused_told point _ _ h
no_told point (refusal.NoRecord key) h = refused_told point _ _ h
no_told point (refusal.Conflict key) h = refused_told point _ _ h
no_told point (refusal.NoPart name) h = refused_told point _ _ h
no_told point (refusal.MissingPart name) h = refused_told point _ _ h
no_told point (refusal.MissingCalendar name) h = refused_told point _ _ h
no_told point (refusal.Cyclic name) h = refused_told point _ _ h
no_told point (refusal.TooLarge name) h = refused_told point _ _ h
no_told point (refusal.NoDay day) h = refused_told point _ _ h
no_told point (refusal.NoCosts name) h = refused_told point _ _ h
no_told point refusal.ReadOnly h = refused_told point _ _ h

bad_told : (why : Bad) → form_of_line (words_text (codes "BAD" ∷ bad_words why)) ≡ Some Faulty
unfolding bad_words
bad_told bad.Long = refl
bad_told bad.Word = refl
bad_told (bad.Field fault) = refl
bad_told (bad.Query fault) = refl
bad_told (bad.Row row fault) = refl
bad_told (bad.RowLong row) = refl
bad_told bad.Short = refl

head_told : (answer : Reply) → is_within_limits answer ≡ true → form_of_line (words_text (head_words answer)) ≡ Some (form answer)
unfolding head_words
head_told (reply.Ok point) h = ap ok_form (append-nil (decimal point)) ∙ done_told point h
head_told (reply.Rows point lines) h =
    let q = and_parts (nat_le point most_point && nat_le (length lines) most_lines) (list_all is_line lines) h in
    let p = and_parts (nat_le point most_point) (nat_le (length lines) most_lines) q.0 in
    ap (λ t. ok_form (decimal point ++ 32 ∷ t)) (append-nil (decimal (length lines))) ∙ listed_told point (length lines) p.0 p.1
head_told (reply.No point why) h = no_told point why (and_parts (nat_le point most_point) (refusal_has_names why) h).0
head_told (reply.Bad why) h = bad_told why
head_told reply.Mem h = refl

-- the lines behind the first are as many as the form tells
more_told : (answer : Reply) (behind : List ℕ) → is_within_limits answer ≡ true → lines_cut (lines_in (form answer)) (flat_map ended (more_lines answer) ++ behind) ≡ Some behind
more_told (reply.Ok point) behind h = refl
more_told (reply.Rows point lines) behind h = lines_told lines behind (and_parts (nat_le point most_point && nat_le (length lines) most_lines) (list_all is_line lines) h).1
more_told (reply.No point why) behind h = refl
more_told (reply.Bad why) behind h = refl
more_told reply.Mem behind h = refl

pub form_told : (answer : Reply) (behind : List ℕ) → is_within_limits answer ≡ true → whole_reply (reply_text answer ++ behind) ≡ Some (form answer, behind)
unfolding whole_reply reply_text
form_told answer behind h =
    let line = words_text (head_words answer) in
    let more = flat_map ended (more_lines answer) ++ behind in
    let words = head_short answer h in
    let few = text_short (head_words answer) 6 words in
    let parts : (ended line ++ flat_map ended (more_lines answer)) ++ behind ≡ line ++ 10 ∷ more =
    append_assoc (ended line) (flat_map ended (more_lines answer)) behind ∙ append_assoc line (10 ∷ []) more in
    let first : line_cut ((ended line ++ flat_map ended (more_lines answer)) ++ behind) ≡ Some (line, more) =
    ap line_cut parts ∙ line_told line more (no_feed (head_words answer) (all_seen (head_words answer) words.short)) (omega arith) in
    ap (λ o. if_read_on o (λ first. if_read_on (form_of_line first.0) (λ told. option_map (λ rest. (told, rest)) (lines_cut (lines_in told) first.1)))) first
    ∙ ap (λ o. if_read_on o (λ told. option_map (λ rest. (told, rest)) (lines_cut (lines_in told) more))) (head_told answer h)
    ∙ ap (option_map (λ rest. (form answer, rest))) (more_told answer behind h)
