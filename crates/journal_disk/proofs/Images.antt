-- What a write leaves of the images of a store.
use Rattle.std.proofs.Common.{◌≡◌, ◌≢◌, inl, inr, ℕ, zero, suc, ◌+◌, ◌≤◌, true, List, [], ◌∷◌, ◌++◌, length, take, drop, refl, sym, ap, subst, ◌∙◌, append_assoc, arith, length-append, take-append-drop}
use Rattle.std.proofs.lemmas.List.{take_at, drop_at, drop-drop, length-drop}
use Rattle.std.specs.Int.{w32, to_be_bytes}
use Rattle.plan_schema.specs.declared.change.Entry.{Entry}
use Rattle.plan_schema.specs.declared.limits.TheConstants.{BYTE_LIMIT}
use Rattle.plan_schema.specs.Sound.{is_sound_entry}
use Rattle.plan_journal.specs.Entries.{entry_text}
use Rattle.journal_disk.specs.Disks.{with_piece, Torn}
use Rattle.journal_disk.specs.Stores.{store_head, AreBlocks, Reaches, StandsFor}
use Rattle.journal_disk.specs.Images.{block_bytes, end_behind, behind_gate, IsNext, IsImageOf, Leads, IsGated, IsImageAround}
use Rattle.journal_disk.proofs.OneBlock.{block_length}
use Rattle.journal_disk.proofs.Chains.{reaches_more}
use Rattle.journal_disk.proofs.CutShort.{blocks_front, cut_short}

-- bytes up to the closed gate, and behind it
pub record Fronted (bytes : List ℕ) (entries : List Entry) (end : ℕ) : Type 0 where
  pub front : List ℕ
  pub leads : Leads entries front
  pub behind : List ℕ
  pub is : bytes ≡ front ++ 0 ∷ behind
  pub long : length front ≡ end

pub fronted : (bytes : List ℕ) (entries : List Entry) (end : ℕ) → StandsFor bytes entries end → Fronted bytes entries end
fronted bytes entries end stands =
    let reach = stands.1 in
    let found = blocks_front 1 entries reach.blocks (0 ∷ stands.0) reach.blocks_are in
    let front : List ℕ = store_head ++ found.front in
    let whole : bytes ≡ front ++ 0 ∷ stands.0 = reach.head ∙ ap (λ (l : List ℕ). store_head ++ l) found.is in
    record {
      front = front;
      leads = λ rest. record {
        sound = reach.sound;
        blocks = found.front ++ rest;
        head = refl;
        blocks_are = found.before rest;
        place_is = sym (length-append front rest);
      };
      behind = stands.0;
      is = whole;
      long = omega (arith, reach.place_is, ap length whole, length-append front (0 ∷ stands.0));
    }

-- how long blocks are
blocks_length : (number : ℕ) (entries : List Entry) (bytes rest : List ℕ) → AreBlocks number entries bytes rest → length bytes ≡ block_bytes number entries + length rest
blocks_length number [] bytes rest blocks = omega (arith, ap length blocks)
blocks_length number (entry ∷ entries) bytes rest blocks =
    omega (arith, block_length (entry_text number entry) bytes blocks.0 blocks.1, blocks_length (number + 1) entries blocks.0 rest blocks.2)

pub leads_length : (entries : List Entry) (front : List ℕ) → Leads entries front → length front ≡ end_behind entries
unfolding end_behind
leads_length entries front leads =
    let reach = leads [] in
    omega (arith, ap length reach.head, length-append front [], blocks_length 1 entries reach.blocks [] reach.blocks_are)

pub stands_end : (bytes : List ℕ) (entries : List Entry) (end : ℕ) → StandsFor bytes entries end → end ≡ end_behind entries
stands_end bytes entries end stands = let f = fronted bytes entries end stands in sym f.long ∙ leads_length entries f.front f.leads

stands_by : (entries : List Entry) (front behind : List ℕ) → Leads entries front → StandsFor (front ++ 0 ∷ behind) entries (end_behind entries)
stands_by entries front behind leads = subst (λ (end : ℕ). StandsFor (front ++ 0 ∷ behind) entries end) (leads_length entries front leads) (behind, leads (0 ∷ behind))

-- the block of an entry
abbrev block : List Entry → Entry → List ℕ
block entries entry = behind_gate (entry_text (length entries + 1) entry)

-- blocks and one more
leads_more : (entries : List Entry) (entry : Entry) (front : List ℕ) (gate : ℕ) → Leads entries front → is_sound_entry entry ≡ true → gate ≢ 0
    → Leads (entries ++ entry ∷ []) (front ++ gate ∷ (to_be_bytes w32 (length (entry_text (length entries + 1) entry)) ++ entry_text (length entries + 1) entry))
leads_more entries entry front gate leads sound open_gate rest =
    let text : List ℕ = entry_text (length entries + 1) entry in
    let four : List ℕ = to_be_bytes w32 (length text) in
    let more : List ℕ = gate ∷ (four ++ (text ++ rest)) in
    let joined : front ++ more ≡ (front ++ gate ∷ (four ++ text)) ++ rest =
    ap (λ (l : List ℕ). front ++ gate ∷ l) (sym (append_assoc four text rest)) ∙ sym (append_assoc front (gate ∷ (four ++ text)) rest) in
    let next : ℕ = length (front ++ gate ∷ (four ++ text)) in
    let long : next + length rest ≡ length (front ++ more) = sym (ap length joined ∙ length-append (front ++ gate ∷ (four ++ text)) rest) in
    subst (λ (bytes : List ℕ). Reaches bytes (entries ++ entry ∷ []) rest next) joined
    (reaches_more (front ++ more) entries entry more rest (length front) next (length entries + 1) (leads more) refl sound (record { gate = gate; open_gate = open_gate; is = refl }) long)

-- with the gate closed, and with it open
pub gated_closed : (entries : List Entry) (entry : Entry) (image : List ℕ) → IsGated entries entry 0 image → IsImageOf entries image
gated_closed entries entry image g = record {
  stands = subst (λ (bytes : List ℕ). StandsFor bytes entries (end_behind entries)) (sym g.is) (stands_by entries g.front (block entries entry ++ g.behind) g.leads);
  fits = g.fits;
}

pub gated_open : (entries : List Entry) (entry : Entry) (gate : ℕ) (image : List ℕ) → gate ≢ 0 → IsGated entries entry gate image → IsImageOf (entries ++ entry ∷ []) image
gated_open entries entry gate image open_gate g =
    let text : List ℕ = entry_text (length entries + 1) entry in
    let four : List ℕ = to_be_bytes w32 (length text) in
    let front : List ℕ = g.front ++ gate ∷ (four ++ text) in
    let inner : (four ++ (text ++ 0 ∷ [])) ++ g.behind ≡ (four ++ text) ++ 0 ∷ g.behind =
    append_assoc four (text ++ 0 ∷ []) g.behind ∙ ap (λ (l : List ℕ). four ++ l) (append_assoc text (0 ∷ []) g.behind) ∙ sym (append_assoc four text (0 ∷ g.behind)) in
    let is : image ≡ front ++ 0 ∷ g.behind = g.is ∙ ap (λ (l : List ℕ). g.front ++ gate ∷ l) inner ∙ sym (append_assoc g.front (gate ∷ (four ++ text)) (0 ∷ g.behind)) in
    record {
      stands = subst (λ (bytes : List ℕ). StandsFor bytes (entries ++ entry ∷ []) (end_behind (entries ++ entry ∷ []))) (sym is) (stands_by (entries ++ entry ∷ []) front g.behind (leads_more entries entry g.front gate g.leads g.sound open_gate));
      fits = g.fits;
    }

pub gated_around : (entries : List Entry) (entry : Entry) (gate : ℕ) (image : List ℕ) → IsGated entries entry gate image → IsImageAround entries entry image
gated_around entries entry zero image g = inl (gated_closed entries entry image g)
gated_around entries entry (suc gate) image g = inr (gated_open entries entry (suc gate) image (λ none. absurd (omega arith)) g)

-- the bytes in front of a place stay, whatever stands there
pub gated_place : (entries : List Entry) (entry : Entry) (gate : ℕ) (image : List ℕ) → IsGated entries entry gate image → end_behind entries + 1 ≤ length image
gated_place entries entry gate image g =
    omega (arith, ap length g.is, length-append g.front (gate ∷ (block entries entry ++ g.behind)), leads_length entries g.front g.leads)

first_is : (bytes : List ℕ) → 1 ≤ length bytes → (first : ℕ) × (bytes ≡ first ∷ drop 1 bytes)
first_is [] some = absurd (omega arith)
first_is (first ∷ bytes) some = (first, refl)

-- what stands behind a gate
behind_of : (front rest : List ℕ) (gate place : ℕ) → length front ≡ place → drop (place + 1) (front ++ gate ∷ rest) ≡ rest
behind_of front rest gate place long =
    ap (drop (place + 1)) (sym (append_assoc front (gate ∷ []) rest)) ∙ drop_at (front ++ gate ∷ []) rest (place + 1) (omega (arith, length-append front (gate ∷ []), long))

-- a gate that was torn
torn_at : (front rest before image : List ℕ) (gate place : ℕ) → length front ≡ place → before ≡ front ++ gate ∷ rest → Torn place 1 before image → (now : ℕ) × (image ≡ front ++ now ∷ rest)
torn_at front rest before image gate place long is tears =
    let same : take place image ≡ front = tears.before ∙ ap (take place) is ∙ take_at front (gate ∷ rest) place long in
    let size : length before ≡ place + (1 + length rest) = omega (arith, ap length is, length-append front (gate ∷ rest), long) in
    let found = first_is (drop place image) (omega (arith, length-drop place image, tears.no_shorter, size)) in
    let after : drop (place + 1) image ≡ rest = tears.after ∙ ap (drop (place + 1)) is ∙ behind_of front rest gate place long in
    let back : drop place image ≡ found.0 ∷ rest = found.1 ∙ ap (λ (l : List ℕ). found.0 ∷ l) (drop-drop 1 place image ∙ after) in
    (found.0, sym (take-append-drop place image) ∙ ap (λ (l : List ℕ). l ++ drop place image) same ∙ ap (λ (l : List ℕ). front ++ l) back)

-- a gate that was written
written_at : (front rest bytes : List ℕ) (gate now place : ℕ) → length front ≡ place → bytes ≡ front ++ gate ∷ rest → with_piece place (now ∷ []) bytes ≡ front ++ now ∷ rest
written_at front rest bytes gate now place long is =
    let same : take place bytes ≡ front = ap (take place) is ∙ take_at front (gate ∷ rest) place long in
    let back : drop (place + 1) bytes ≡ rest = ap (drop (place + 1)) is ∙ behind_of front rest gate place long in
    ap (λ (l : List ℕ). (l ++ now ∷ []) ++ drop (place + 1) bytes) same ∙ ap (λ (l : List ℕ). (front ++ now ∷ []) ++ l) back ∙ append_assoc front (now ∷ []) rest

module _ (entries : List Entry) (entry : Entry) (gate : ℕ) where
  gate_place : (place : ℕ) (image : List ℕ) → place ≡ end_behind entries → (g : IsGated entries entry gate image) → length g.front ≡ place
  gate_place place image place_is g = leads_length entries g.front g.leads ∙ sym place_is

  -- the same with another gate
  other_gate : (before image : List ℕ) (now : ℕ) → (g : IsGated entries entry gate before) → image ≡ g.front ++ now ∷ (block entries entry ++ g.behind) → IsGated entries entry now image
  other_gate before image now g is =
      let long : length image ≡ length before =
      omega (arith, ap length is, ap length g.is, length-append g.front (now ∷ (block entries entry ++ g.behind)), length-append g.front (gate ∷ (block entries entry ++ g.behind))) in
      record { front = g.front; leads = g.leads; sound = g.sound; behind = g.behind; is = is; fits = omega (arith, long, g.fits) }

  -- a torn gate is a gate
  pub torn_gate : (place : ℕ) (before image : List ℕ) → place ≡ end_behind entries → IsGated entries entry gate before → Torn place 1 before image → (now : ℕ) × IsGated entries entry now image
  torn_gate place before image place_is g tears =
      let torn = torn_at g.front (block entries entry ++ g.behind) before image gate place (gate_place place before place_is g) g.is tears in
      (torn.0, other_gate before image torn.0 g torn.1)

  -- an opened gate is open
  pub opened_gate : (place : ℕ) (bytes : List ℕ) → place ≡ end_behind entries → IsGated entries entry gate bytes → IsGated entries entry 1 (with_piece place (1 ∷ []) bytes)
  opened_gate place bytes place_is g =
      other_gate bytes (with_piece place (1 ∷ []) bytes) 1 g (written_at g.front (block entries entry ++ g.behind) bytes gate 1 place (gate_place place bytes place_is g) g.is)

pub image_place : (entries : List Entry) (image : List ℕ) → IsImageOf entries image → end_behind entries + 1 ≤ length image
image_place entries image i =
    let f = fronted image entries (end_behind entries) i.stands in
    omega (arith, ap length f.is, length-append f.front (0 ∷ f.behind), f.long)

-- a block that was torn
pub torn_block : (entries : List Entry) (end n : ℕ) (before image : List ℕ) → end ≡ end_behind entries → end + 1 + n ≤ BYTE_LIMIT → IsImageOf entries before → Torn (end + 1) n before image → IsImageOf entries image
torn_block entries end n before image end_is room i tears = record {
  stands = subst (λ (place : ℕ). StandsFor image entries place) end_is (cut_short before image entries end n (subst (λ (place : ℕ). StandsFor before entries place) (sym end_is) i.stands) tears);
  fits = omega (arith, tears.no_longer, i.fits, room);
}

-- a block that was written
pub written_block : (entries : List Entry) (entry : Entry) (end : ℕ) (bytes piece : List ℕ) → end ≡ end_behind entries → end + 1 + length piece ≤ BYTE_LIMIT → IsNext entries entry piece → IsImageOf entries bytes
    → IsGated entries entry 0 (with_piece (end + 1) piece bytes)
written_block entries entry end bytes piece end_is room next i =
    let f = fronted bytes entries (end_behind entries) i.stands in
    let gated : List ℕ = f.front ++ 0 ∷ [] in
    let long : length gated ≡ end + 1 = omega (arith, length-append f.front (0 ∷ []), f.long) in
    let rest : List ℕ = drop (end + 1 + length piece) bytes in
    let front : take (end + 1) bytes ≡ gated = ap (take (end + 1)) (f.is ∙ sym (append_assoc f.front (0 ∷ []) f.behind)) ∙ take_at gated f.behind (end + 1) long in
    let is : with_piece (end + 1) piece bytes ≡ f.front ++ 0 ∷ (block entries entry ++ rest) =
    ap (λ (l : List ℕ). (l ++ piece) ++ rest) front ∙ ap (λ (l : List ℕ). (gated ++ l) ++ rest) next.is ∙ append_assoc gated (block entries entry) rest ∙ append_assoc f.front (0 ∷ []) (block entries entry ++ rest) in
    record {
      front = f.front;
      leads = f.leads;
      sound = next.sound;
      behind = rest;
      is = is;
      fits = omega (arith, ap length is, ap length next.is, length-append f.front (0 ∷ (block entries entry ++ rest)), length-append (block entries entry) rest, length-drop (end + 1 + length piece) bytes, f.long, i.fits, room);
    }
