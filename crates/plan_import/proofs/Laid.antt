-- Records laid one after another.
use Rattle.std.proofs.Common.{◌≡◌, ℕ, ◌+◌, ◌<◌, ◌≤◌, Bool, true, false, cond, nat_lt, List, [], ◌∷◌, ◌++◌, length, Result, Ok, Err, refl, sym, ap, ◌∙◌, arith}
use Rattle.plan_schema.specs.Contents.{Contents}
use Rattle.row_text.specs.Row.{◌>>=◌}
use Rattle.plan_import.specs.declared.ImportFault.{ImportFault}
use Rattle.plan_import.specs.declared.ImportFault.TheVariants.{Read, Full, Row, Twice, NoPlan, Memory}
use Rattle.plan_import.specs.BaseFile.{base_records, with_numbered, with_records, within_limits, base_of_records, base_of}
use Rattle.plan_import.specs.Imported.{Imported}
use Rattle.plan_schema.specs.Base.{is_base, part_count, has_horizon}
use Rattle.plan_schema.specs.declared.limits.TheConstants.{PART_LIMIT, RECORD_LIMIT}
use Rattle.plan_import.specs.declared.TheConstants.{BASE_BYTE_LIMIT}
use Rattle.plan_schema.specs.declared.refusal.Room.TheVariants as room
use Rattle.byte_lines.specs.ReadAll.{ReadAll}
use Rattle.byte_lines.specs.declared.reading.ReadAllFault.TheVariants as large
use Rattle.std.specs.Prelude.{◌≢◌, IfOk, IfErr, Option, Some}
use Rattle.std.proofs.lemmas.Bool.Decides.{nat_tests}
use Rattle.plan_import.specs.Told.{Tells, TellsFault}

abbrev Answer : Type 0
Answer = Result Contents ImportFault

-- what comes of a list of records in two parts
pub with_records-append : (k : ℕ) (c : Contents) (xs ys : List (List (List ℕ))) → with_records k c (xs ++ ys) ≡ (with_records k c xs >>= (λ d. with_records (k + length xs) d ys))
unfolding with_records
with_records-append k c [] ys = let e : k ≡ k + 0 = omega arith in ap (λ n. with_records n c ys) e
with_records-append k c (x ∷ xs) ys = by_first (λ d. with_records-append (k + 1) d xs ys) (with_numbered k c x)
  where
    by_first : ((d : Contents) → with_records (k + 1) d (xs ++ ys) ≡ (with_records (k + 1) d xs >>= (λ e. with_records (k + 1 + length xs) e ys))) → (r : Answer) → (r >>= (λ d. with_records (k + 1) d (xs ++ ys))) ≡ ((r >>= (λ d. with_records (k + 1) d xs)) >>= (λ d. with_records (k + length (x ∷ xs)) d ys))
    by_first again (Err fault) = refl
    by_first again (Ok d) =
        let next : k + 1 + length xs ≡ k + length (x ∷ xs) = omega arith in
        again d ∙ ap (λ n. with_records (k + 1) d xs >>= (λ e. with_records n e ys)) next

-- one more record
pub laid_more : (seen : List (List (List ℕ))) (fields : List (List ℕ)) (c d : Contents) → with_records 1 [] seen ≡ Ok c → with_numbered (length seen + 1) c fields ≡ Ok d → with_records 1 [] (seen ++ fields ∷ []) ≡ Ok d
unfolding with_records
laid_more seen fields c d h e =
    let number : 1 + length seen ≡ length seen + 1 = omega arith in
    with_records-append 1 [] seen (fields ∷ []) ∙ ap (λ (r : Answer). r >>= (λ d. with_records (1 + length seen) d (fields ∷ []))) h
    ∙ ap (λ n. with_numbered n c fields >>= (λ d. with_records (n + 1) d [])) number ∙ ap (λ (r : Answer). r >>= (λ d. with_records (length seen + 1 + 1) d [])) e

-- the first record that can't be laid ends the reading, whatever comes behind it
pub laid_short : (seen more : List (List (List ℕ))) (fields : List (List ℕ)) (c : Contents) (fault : ImportFault) → with_records 1 [] seen ≡ Ok c → with_numbered (length seen + 1) c fields ≡ Err fault
    → with_records 1 [] ((seen ++ fields ∷ []) ++ more) ≡ Err fault
unfolding with_records
laid_short seen more fields c fault h e =
    let number : 1 + length seen ≡ length seen + 1 = omega arith in
    let one : with_records 1 [] (seen ++ fields ∷ []) ≡ Err fault =
    with_records-append 1 [] seen (fields ∷ []) ∙ ap (λ (r : Answer). r >>= (λ d. with_records (1 + length seen) d (fields ∷ []))) h
    ∙ ap (λ n. with_numbered n c fields >>= (λ d. with_records (n + 1) d [])) number ∙ ap (λ (r : Answer). r >>= (λ d. with_records (length seen + 1 + 1) d [])) e in
    with_records-append 1 [] (seen ++ fields ∷ []) more ∙ ap (λ (r : Answer). r >>= (λ d. with_records (1 + length (seen ++ fields ∷ [])) d more)) one

pub tells_short : (seen more : List (List (List ℕ))) (fields : List (List ℕ)) (c : Contents) (fault : ImportFault) → with_records 1 [] seen ≡ Ok c → TellsFault (with_numbered (length seen + 1) c fields) fault
    → TellsFault (with_records 1 [] ((seen ++ fields ∷ []) ++ more)) fault
tells_short seen more fields c Read h e = e
tells_short seen more fields c (Full room) h e = laid_short seen more fields c (Full room) h e
tells_short seen more fields c (Row k fault) h e = laid_short seen more fields c (Row k fault) h e
tells_short seen more fields c (Twice k) h e = laid_short seen more fields c (Twice k) h e
tells_short seen more fields c NoPlan h e = laid_short seen more fields c NoPlan h e
tells_short seen more fields c Memory h e = tt

tells_itself : (told r : Answer) → r ≡ told → (told ≡ Err Read → ⊥) → Tells told r
tells_itself told (Ok c) e never = sym e
tells_itself told (Err Read) e never = never (sym e)
tells_itself told (Err (Full room)) e never = sym e
tells_itself told (Err (Row k fault)) e never = sym e
tells_itself told (Err (Twice k)) e never = sym e
tells_itself told (Err NoPlan) e never = sym e
tells_itself told (Err Memory) e never = tt

limits_read : (c : Contents) → within_limits c ≡ Err Read → ⊥
unfolding within_limits
limits_read c h = one (nat_lt PART_LIMIT (part_count c)) (nat_lt RECORD_LIMIT (length c)) (has_horizon c) h
  where
    one : (a b d : Bool) → cond a (Err (Full room.Parts)) (cond b (Err (Full room.Records)) (cond d (Ok c) (Err NoPlan))) ≡ Err Read → ⊥
    one true b d h = cc
    one false true d h = cc
    one false false true h = cc
    one false false false h = cc

-- contents that were laid, held against the limits
pub tells_limits : (all : List (List (List ℕ))) (c : Contents) (r : Answer) → with_records 1 [] all ≡ Ok c → r ≡ within_limits c → Tells (base_of_records all) r
unfolding base_of_records
tells_limits all c r h e =
    let told : (with_records 1 [] all >>= within_limits) ≡ within_limits c = ap (λ (a : Answer). a >>= within_limits) h in
    tells_itself (with_records 1 [] all >>= within_limits) r (e ∙ sym told) (λ no. limits_read c (sym told ∙ no))

-- a fault of laying is one of the whole
pub tells_fault : (all : List (List (List ℕ))) (fault : ImportFault) → TellsFault (with_records 1 [] all) fault → TellsFault (base_of_records all) fault
unfolding base_of_records
tells_fault all Read e = e
tells_fault all (Full room) e = ap (λ (a : Answer). a >>= within_limits) e
tells_fault all (Row k fault) e = ap (λ (a : Answer). a >>= within_limits) e
tells_fault all (Twice k) e = ap (λ (a : Answer). a >>= within_limits) e
tells_fault all NoPlan e = ap (λ (a : Answer). a >>= within_limits) e
tells_fault all Memory e = tt

-- the whole import -----------------------------------------------------------------------------------------------------------

small_is : (n : ℕ) → n ≤ BASE_BYTE_LIMIT → nat_lt BASE_BYTE_LIMIT n ≡ false
small_is n h = grind (arith, nat_tests)

large_is : (n : ℕ) → BASE_BYTE_LIMIT < n → nat_lt BASE_BYTE_LIMIT n ≡ true
large_is n h = grind (arith, nat_tests)

pub base_of-small : (bytes : List ℕ) → length bytes ≤ BASE_BYTE_LIMIT → base_of bytes ≡ base_of_records (base_records bytes)
unfolding base_of
base_of-small bytes h = ap (λ t. cond t (Err (Full room.Bytes)) (base_of_records (base_records bytes))) (small_is (length bytes) h)

pub base_of-large : (bytes : List ℕ) → BASE_BYTE_LIMIT < length bytes → base_of bytes ≡ Err (Full room.Bytes)
unfolding base_of
base_of-large bytes h = ap (λ t. cond t (Err (Full room.Bytes)) (base_of_records (base_records bytes))) (large_is (length bytes) h)

never_read : (told r : Answer) → Tells told r → r ≡ Err Read → ⊥
never_read told (Ok c) h e = cc
never_read told (Err Read) h e = h
never_read told (Err (Full room)) h e = cc
never_read told (Err (Row k fault)) h e = cc
never_read told (Err (Twice k)) h e = cc
never_read told (Err NoPlan) h e = cc
never_read told (Err Memory) h e = cc

ok_told : (told want r : Answer) → want ≡ told → Tells told r → IfOk r (λ c. want ≡ Ok c)
ok_told told want (Ok c) e h = e ∙ h
ok_told told want (Err fault) e h = tt

err_told : (told want r : Answer) → want ≡ told → Tells told r → IfErr r (λ fault. fault ≢ Read → fault ≢ Memory → want ≡ Err fault)
err_told told want (Ok c) e h = tt
err_told told want (Err Read) e h = λ a b. absurd h
err_told told want (Err (Full room)) e h = λ a b. e ∙ h
err_told told want (Err (Row k fault)) e h = λ a b. e ∙ h
err_told told want (Err (Twice k)) e h = λ a b. e ∙ h
err_told told want (Err NoPlan) e h = λ a b. e ∙ h
err_told told want (Err Memory) e h = λ a b. absurd (b refl)

module _ {S : Type 0} (left : S → Option (List ℕ)) (faults : S → ℕ) (label : S → List ℕ) where
  pub imported_text : (old new : S) (bytes : List ℕ) (r : Answer) → ReadAll left faults label BASE_BYTE_LIMIT old new (Ok bytes) → Tells (base_of_records (base_records bytes)) r
      → IfOk r (λ c. is_base c ≡ true) → Imported left faults label old new r
  imported_text old new bytes r read told base =
      record {
        ok = λ before e. ok_told (base_of_records (base_records bytes)) (base_of before) r (wanted before e) told;
        err = λ before e. err_told (base_of_records (base_records bytes)) (base_of before) r (wanted before e) told;
        base = base;
        later = read.later;
        failed = λ e. absurd (never_read (base_of_records (base_records bytes)) r told e);
        same = read.same;
      }
    where
      wanted : (before : List ℕ) → left old ≡ Some before → base_of before ≡ base_of_records (base_records bytes)
      wanted before e = ap base_of (sym (read.whole before e).same) ∙ base_of-small bytes read.fits

  pub imported_large : (old new : S) → ReadAll left faults label BASE_BYTE_LIMIT old new (Err large.Large) → Imported left faults label old new (Err (Full room.Bytes))
  imported_large old new read =
      record {
        ok = λ before e. tt;
        err = λ before e a b. base_of-large before (read.large before e refl);
        base = tt;
        later = read.later;
        failed = λ e. absurd (let no : ⊥ = cc in no);
        same = read.same;
      }
