-- Key forms: what is read is a sound key and spelled so, and a sound key is read as it is spelled.
use Rattle.std.proofs.Common.{◌≡◌, ℕ, true, false, not, ◌&&◌, List, [], ◌∷◌, Result, Ok, Err, refl, subst, sym}
use Rattle.std.specs.Prelude.{codes, IfOk}
use Rattle.std.proofs.lemmas.Bool.{and_parts}
use Rattle.plan_schema.specs.declared.fault.FieldFault.{FieldFault}
use Rattle.plan_schema.specs.declared.key.Key.{Key}
use Rattle.plan_schema.specs.declared.key.Key.TheVariants as keys
use Rattle.plan_schema.specs.Name.{is_name}
use Rattle.plan_schema.specs.Day.{is_day, day_text}
use Rattle.plan_schema.specs.Key.{name_eq, key_eq}
use Rattle.plan_schema.specs.Sound.{is_sound_key}
use Rattle.plan_schema.proofs.DayLaws.{day_read_again}
use Rattle.row_text.specs.Row.{text_at, end_at, name_in, name_at, day_at, component_at, one_name, two_names, holiday_key_of, bill_key_of, key_of_table, key_of}
use Rattle.row_text.specs.Spelling.{key_fields}
use Rattle.row_text.proofs.Fields.{and_true, bind_ok, text_at_ok, name_at_takes, day_at_takes, end_at_takes, component_at_takes, fields_are}
use Rattle.row_text.proofs.Lots.{chosen_from}
use Rattle.row_text.proofs.Rows.{Heads, headed, apart_again}

-- the fields are the key form of the key, which is sound and not the horizon's
abbrev pub IsKeyOf : List (List ℕ) → Key → Type 0
IsKeyOf fields key = (fields ≡ key_fields key) × (is_sound_key key ≡ true) × (key_eq key keys.Plan ≡ false)

abbrev read_key : Key → Result Key FieldFault
read_key key = Ok key

same_key : (a b : Key) → read_key a ≡ read_key b → a ≡ b
same_key a b h = cc

cal_takes : (fields : List (List ℕ)) (key : Key) → Heads fields (codes "CAL") → one_name fields keys.Cal ≡ Ok key → IsKeyOf fields key
unfolding one_name key_fields
cal_takes fields key first h =
    let a = bind_ok (name_at fields 1) _ key h in
    let b = bind_ok (end_at fields 2) _ key a.2 in
    let name = name_at_takes fields 1 a.0 a.1 in
    subst (IsKeyOf fields) (same_key _ key b.2) (fields_are fields (codes "CAL" ∷ a.0 ∷ []) (end_at_takes fields 2 b.0 b.1) (first, (name.0, tt)), and_true name.1 refl, refl)

part_takes : (fields : List (List ℕ)) (key : Key) → Heads fields (codes "PART") → one_name fields keys.Part ≡ Ok key → IsKeyOf fields key
unfolding one_name key_fields
part_takes fields key first h =
    let a = bind_ok (name_at fields 1) _ key h in
    let b = bind_ok (end_at fields 2) _ key a.2 in
    let name = name_at_takes fields 1 a.0 a.1 in
    subst (IsKeyOf fields) (same_key _ key b.2) (fields_are fields (codes "PART" ∷ a.0 ∷ []) (end_at_takes fields 2 b.0 b.1) (first, (name.0, tt)), and_true name.1 refl, refl)

stock_takes : (fields : List (List ℕ)) (key : Key) → Heads fields (codes "STOCK") → one_name fields keys.Stock ≡ Ok key → IsKeyOf fields key
unfolding one_name key_fields
stock_takes fields key first h =
    let a = bind_ok (name_at fields 1) _ key h in
    let b = bind_ok (end_at fields 2) _ key a.2 in
    let name = name_at_takes fields 1 a.0 a.1 in
    subst (IsKeyOf fields) (same_key _ key b.2) (fields_are fields (codes "STOCK" ∷ a.0 ∷ []) (end_at_takes fields 2 b.0 b.1) (first, (name.0, tt)), and_true name.1 refl, refl)

demand_takes : (fields : List (List ℕ)) (key : Key) → Heads fields (codes "DEMAND") → two_names fields keys.Demand ≡ Ok key → IsKeyOf fields key
unfolding two_names key_fields
demand_takes fields key first h =
    let a = bind_ok (name_at fields 1) _ key h in
    let b = bind_ok (name_at fields 2) _ key a.2 in
    let c = bind_ok (end_at fields 3) _ key b.2 in
    let part = name_at_takes fields 1 a.0 a.1 in
    let order = name_at_takes fields 2 b.0 b.1 in
    subst (IsKeyOf fields) (same_key _ key c.2)
    (fields_are fields (codes "DEMAND" ∷ a.0 ∷ b.0 ∷ []) (end_at_takes fields 3 c.0 c.1) (first, (part.0, (order.0, tt))), and_true (and_true part.1 order.1) refl, refl)

receipt_takes : (fields : List (List ℕ)) (key : Key) → Heads fields (codes "RECEIPT") → two_names fields keys.Receipt ≡ Ok key → IsKeyOf fields key
unfolding two_names key_fields
receipt_takes fields key first h =
    let a = bind_ok (name_at fields 1) _ key h in
    let b = bind_ok (name_at fields 2) _ key a.2 in
    let c = bind_ok (end_at fields 3) _ key b.2 in
    let part = name_at_takes fields 1 a.0 a.1 in
    let order = name_at_takes fields 2 b.0 b.1 in
    subst (IsKeyOf fields) (same_key _ key c.2)
    (fields_are fields (codes "RECEIPT" ∷ a.0 ∷ b.0 ∷ []) (end_at_takes fields 3 c.0 c.1) (first, (part.0, (order.0, tt))), and_true (and_true part.1 order.1) refl, refl)

holiday_takes : (fields : List (List ℕ)) (key : Key) → Heads fields (codes "HOLIDAY") → holiday_key_of fields ≡ Ok key → IsKeyOf fields key
unfolding holiday_key_of key_fields
holiday_takes fields key first h =
    let a = bind_ok (name_at fields 1) _ key h in
    let b = bind_ok (day_at fields 2) _ key a.2 in
    let c = bind_ok (end_at fields 3) _ key b.2 in
    let calendar = name_at_takes fields 1 a.0 a.1 in
    let day = day_at_takes fields 2 b.0 b.1 in
    subst (IsKeyOf fields) (same_key _ key c.2)
    (fields_are fields (codes "HOLIDAY" ∷ a.0 ∷ day_text b.0 ∷ []) (end_at_takes fields 3 c.0 c.1) (first, (calendar.0, (day.0, tt))), and_true (and_true calendar.1 day.1) refl, refl)

bill_takes : (fields : List (List ℕ)) (key : Key) → Heads fields (codes "BILL") → bill_key_of fields ≡ Ok key → IsKeyOf fields key
unfolding bill_key_of key_fields
bill_takes fields key first h =
    let a = bind_ok (name_at fields 1) _ key h in
    let b = bind_ok (component_at fields 2 a.0) _ key a.2 in
    let c = bind_ok (end_at fields 3) _ key b.2 in
    let parent = name_at_takes fields 1 a.0 a.1 in
    let component = component_at_takes fields 2 a.0 b.0 b.1 in
    subst (IsKeyOf fields) (same_key _ key c.2)
    (fields_are fields (codes "BILL" ∷ a.0 ∷ b.0 ∷ []) (end_at_takes fields 3 c.0 c.1) (first, (parent.0, (component.0, tt))), and_true (and_true parent.1 component.1) component.2, refl)

table_takes : (word : List ℕ) (fields : List (List ℕ)) (key : Key) → Heads fields word → key_of_table word fields ≡ Ok key → IsKeyOf fields key
unfolding key_of_table
table_takes word fields key first h =
    chosen_from (IsKeyOf fields key) _ _ _ _ (λ is e. cal_takes fields key (headed fields word (codes "CAL") first is) e) (λ _.
    chosen_from (IsKeyOf fields key) _ _ _ _ (λ is e. holiday_takes fields key (headed fields word (codes "HOLIDAY") first is) e) (λ _.
    chosen_from (IsKeyOf fields key) _ _ _ _ (λ is e. part_takes fields key (headed fields word (codes "PART") first is) e) (λ _.
    chosen_from (IsKeyOf fields key) _ _ _ _ (λ is e. stock_takes fields key (headed fields word (codes "STOCK") first is) e) (λ _.
    chosen_from (IsKeyOf fields key) _ _ _ _ (λ is e. demand_takes fields key (headed fields word (codes "DEMAND") first is) e) (λ _.
    chosen_from (IsKeyOf fields key) _ _ _ _ (λ is e. receipt_takes fields key (headed fields word (codes "RECEIPT") first is) e) (λ _.
    chosen_from (IsKeyOf fields key) _ _ _ _ (λ is e. bill_takes fields key (headed fields word (codes "BILL") first is) e) (λ _ e. cc))))))) h

pub key_alone : (fields : List (List ℕ)) (key : Key) → key_of fields ≡ Ok key → IsKeyOf fields key
unfolding key_of
key_alone fields key h =
    let word = bind_ok (text_at fields 0) _ key h in
    table_takes word.0 fields key (text_at_ok fields 0 word.0 word.1) word.2

pub key_again : (key : Key) → is_sound_key key ≡ true → key_eq key keys.Plan ≡ false → key_of (key_fields key) ≡ Ok key
unfolding key_of key_of_table one_name two_names holiday_key_of bill_key_of component_at name_at name_in day_at text_at end_at key_fields
key_again keys.Plan h other = cc
key_again (keys.Cal n) h other = let p = and_parts (is_name n) true h in rw p.0
key_again (keys.Holiday n d) h other =
    let p = and_parts (is_name n && is_day d) true h in
    let names = and_parts (is_name n) (is_day d) p.0 in
    rw (names.0, day_read_again d names.1)
key_again (keys.Part n) h other = let p = and_parts (is_name n) true h in rw p.0
key_again (keys.Stock n) h other = let p = and_parts (is_name n) true h in rw p.0
key_again (keys.Demand n o) h other =
    let p = and_parts (is_name n && is_name o) true h in
    let names = and_parts (is_name n) (is_name o) p.0 in
    rw (names.0, names.1)
key_again (keys.Receipt n o) h other =
    let p = and_parts (is_name n && is_name o) true h in
    let names = and_parts (is_name n) (is_name o) p.0 in
    rw (names.0, names.1)
key_again (keys.Bill parent component) h other =
    let p = and_parts (is_name parent && is_name component) (not (name_eq parent component)) h in
    let names = and_parts (is_name parent) (is_name component) p.0 in
    rw (names.0, names.1, apart_again parent component p.1)

pub sound_if_read : (fields : List (List ℕ)) (r : Result Key FieldFault) → r ≡ key_of fields → IfOk r (λ key. (is_sound_key key ≡ true) × (key_eq key keys.Plan ≡ false))
sound_if_read fields (Ok key) e = let is = key_alone fields key (sym e) in (is.1, is.2)
sound_if_read fields (Err fault) e = tt
