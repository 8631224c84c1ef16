-- What is kept of the disk, and what a read adds to it.
use Rattle.std.proofs.Common.{◌≡◌, ℕ, inl, inr, List, length, true, false, cond, Option, Some, None, IfSome, IsSome, is_some, Bool, nat_eq, get_or, set, get_or-set_same, get_or-set_other, ◌<◌, replicate, Box, Global, ap, sym, subst, ◌∙◌, refl, arith}
use Rattle.std.specs.Prelude.{slice_index_or, map as list_map}
use Rattle.std.specs.Option.{unwrap_or, option_or, option_map}
use Rattle.std.specs.FinMap as map
use Rattle.f2_disk.specs.Contents.{Contents, list_at, last_of}
use Rattle.f2_format.specs.Journal.{JournalList, journal_find}
use Rattle.f2_format.specs.Geometry.{nat_address}
use Rattle.f2_format.specs.Nat.{is_second_copy, nat_entry, nat_block_of, nat_place_of}
use Rattle.f2_nat_block.specs.declared.entries.NatEntry.{NatEntry}
use Rattle.f2_nat_block.specs.NatEntry.{entry_of}
use Rattle.f2_nat_cache.specs.Entries.{Entries, MayAdd}
use Rattle.f2_nat_cache.specs.Plan.{held_with_pending}
use Rattle.f2_nat_cache.specs.Table.{Table, IsKept, known, pending, entry_at, entry_in, copy_in, copy_address, held_block, with_pending}
use Rattle.std.proofs.lemmas.Bool.{cases_eq, cases_lt}
use Rattle.std.proofs.lemmas.List.{map-set, get_or-map, length-map, get_or-replicate, get_or_past, length-replicate}
use Rattle.f2_nat_cache.proofs.Tables.{get-insert, get-remove}

-- the entry of a nid that is known
pub entry_known : (t : Table) (told : Option Contents) (nid : ℕ) (e : NatEntry) → known t nid ≡ Some e → IfSome told (λ lists. e ≡ entry_at t lists nid)
entry_known t None nid e is = tt
entry_known t (Some lists) nid e is = sym (ap (λ o. unwrap_or o (entry_in (copy_in t lists (nat_block_of nid)) nid)) is)

-- the clean entry of a nid of which nothing else is kept
pub entry_clean : (t : Table) (told : Option Contents) (nid : ℕ) (e : NatEntry) → known t nid ≡ None → map.get t.clean nid ≡ Some e → IfSome told (IsKept t) → IfSome told (λ lists. e ≡ entry_at t lists nid)
entry_clean t None nid e none found kept = tt
entry_clean t (Some lists) nid e none found kept = kept.clean nid e found ∙ sym (ap (λ o. unwrap_or o (entry_in (copy_in t lists (nat_block_of nid)) nid)) none)

-- the entry that is read
pub entry_read : (t : Table) (told : Option Contents) (nid : ℕ) (e : NatEntry) → known t nid ≡ None → IfSome told (λ lists. e ≡ entry_in (copy_in t lists (nat_block_of nid)) nid) → IfSome told (λ lists. e ≡ entry_at t lists nid)
entry_read t None nid e none read = tt
entry_read t (Some lists) nid e none read = read ∙ sym (ap (λ o. unwrap_or o (entry_in (copy_in t lists (nat_block_of nid)) nid)) none)

-- the same copies count
same_copy : (t t' : Table) (lists : Contents) (block : ℕ) → t'.geom ≡ t.geom → t'.bitmap ≡ t.bitmap → copy_in t' lists block ≡ copy_in t lists block
same_copy t t' lists block geom bitmap = λ i. last_of (list_at lists (nat_address (geom i) block (is_second_copy (bitmap i) block)))

-- one clean entry more, which was read
pub kept_more : (t t' : Table) (told : Option Contents) (nid : ℕ) (e : NatEntry) → t'.geom ≡ t.geom → t'.bitmap ≡ t.bitmap → t'.held ≡ t.held
    → IfSome told (IsKept t) → IfSome told (λ lists. e ≡ entry_in (copy_in t lists (nat_block_of nid)) nid) → MayAdd nid e t.clean t'.clean → IfSome told (IsKept t')
kept_more t t' None nid e geom bitmap held kept read more = tt
kept_more t t' (Some lists) nid e geom bitmap held kept read more =
    record {
      held = λ block content found. kept.held block content (ap (λ h. slice_index_or h block None) (sym held) ∙ found) ∙ sym (same_copy t t' lists block geom bitmap);
      clean = λ other entry found.
          let here = ap (λ block. entry_in block other) (sym (same_copy t t' lists (nat_block_of other) geom bitmap)) in
          elim (more other entry found) [
            | inl before ↦ kept.clean other entry before ∙ here
            | inr new ↦ new.1 ∙ read ∙ ap (λ n. entry_in (copy_in t lists (nat_block_of n)) n) (sym new.0) ∙ here
          ];
    }

-- what was read at the copy's address
pub read_at : (t : Table) (told : Option Contents) (nid at : ℕ) (place : ℕ) (e : NatEntry) → at ≡ copy_address t (nat_block_of nid) → place ≡ nat_place_of nid
    → IfSome told (λ lists. e ≡ entry_of (nat_entry (last_of (list_at lists at)) place)) → IfSome told (λ lists. e ≡ entry_in (copy_in t lists (nat_block_of nid)) nid)
read_at t None nid at place e here there read = tt
read_at t (Some lists) nid at place e here there read = read ∙ (λ i. entry_of (nat_entry (last_of (list_at lists (here i))) (there i)))

-- what is told of the disk is told again
pub told_same : (P : Contents → Type 0) (old new : Option Contents) → new ≡ old → IfSome old P → IfSome new P
told_same P old new e h = subst (λ o. IfSome o P) (sym e) h

-- ---- clean entries stand apart from pending ones

pub none_pending : (dirty : Entries) (journal : JournalList) (nid : ℕ) (o : Option NatEntry) → option_or (pending dirty journal nid) o ≡ None → pending dirty journal nid ≡ None
none_pending dirty journal nid o e = at (pending dirty journal nid) e
  where
    at : (p : Option NatEntry) → option_or p o ≡ None → p ≡ None
    at None e = refl
    at (Some x) e = e

-- after an entry was put and its clean one is gone
pub apart_put : (dirty clean : Entries) (journal : JournalList) (k : ℕ) (v : NatEntry) → ((nid : ℕ) → IsSome (map.get clean nid) → pending dirty journal nid ≡ None)
    → (nid : ℕ) → IsSome (map.get (map.remove clean k) nid) → pending (map.insert dirty k v) journal nid ≡ None
apart_put dirty clean journal k v apart nid there = at (nat_eq nid k) refl
  where
    at : (b : Bool) → nat_eq nid k ≡ b → pending (map.insert dirty k v) journal nid ≡ None
    at true here = let wrong : ◌≡◌ false true = sym (ap is_some (get-remove clean k nid ∙ ap (λ b. cond b None (map.get clean nid)) here)) ∙ there in cc
    at false other =
        let was = apart nid (sym (ap is_some (get-remove clean k nid ∙ ap (λ b. cond b None (map.get clean nid)) other)) ∙ there) in
        ap (λ o. option_or o (option_map entry_of (journal_find journal nid))) (get-insert dirty k v nid ∙ ap (λ b. cond b (Some v) (map.get dirty nid)) other) ∙ was

-- after one clean entry more of a nid with no pending one
pub apart_more : (dirty old new : Entries) (journal : JournalList) (k : ℕ) (v : NatEntry) → pending dirty journal k ≡ None → MayAdd k v old new → ((nid : ℕ) → IsSome (map.get old nid) → pending dirty journal nid ≡ None)
    → (nid : ℕ) → IsSome (map.get new nid) → pending dirty journal nid ≡ None
apart_more dirty old new journal k v none more apart nid there = at (map.get new nid) refl there
  where
    at : (o : Option NatEntry) → map.get new nid ≡ o → IsSome o → pending dirty journal nid ≡ None
    at None e s = let wrong : ◌≡◌ false true = s in cc
    at (Some entry) e s = elim (more nid entry e) [
      | inl before ↦ apart nid (ap is_some before)
      | inr here ↦ ap (λ n. pending dirty journal n) here.0 ∙ none
    ]

-- nids below a limit, and one more
pub below_more : (limit : ℕ) (old new : Entries) (k : ℕ) (v : NatEntry) → k < limit → MayAdd k v old new → ((nid : ℕ) → IsSome (map.get old nid) → nid < limit)
    → (nid : ℕ) → IsSome (map.get new nid) → nid < limit
below_more limit old new k v low more below nid there = at (map.get new nid) refl there
  where
    at : (o : Option NatEntry) → map.get new nid ≡ o → IsSome o → nid < limit
    at None e s = let wrong : ◌≡◌ false true = s in cc
    at (Some entry) e s = elim (more nid entry e) [
      | inl before ↦ below nid (ap is_some before)
      | inr here ↦ subst (λ (n : ℕ). n < limit) (sym here.0) low
    ]

-- ---- a block that is held

-- a block more that was read
pub kept_held : (t t' : Table) (told : Option Contents) (block : ℕ) (content : List ℕ) → block < length t.held → t'.geom ≡ t.geom → t'.bitmap ≡ t.bitmap → t'.clean ≡ t.clean → t'.held ≡ set t.held block (Some content)
    → IfSome told (IsKept t) → IfSome told (λ lists. content ≡ copy_in t lists block) → IfSome told (IsKept t')
kept_held t t' None block content within geom bitmap clean held kept read = tt
kept_held t t' (Some lists) block content within geom bitmap clean held kept read =
    record {
      held = λ other found there.
          let here = sym (same_copy t t' lists other geom bitmap) in
          elim (cases_eq other block) [
            | inl one ↦
                let stands : ◌≡◌ {A = Option (List ℕ)} (Some content) (Some found) = sym (get_or-set_same t.held block (Some content) None within) ∙ ap (λ b. get_or (set t.held block (Some content)) b None) (sym one) ∙ ap (λ h. get_or h other None) (sym held) ∙ there in
                let same : found ≡ content = cc in
                same ∙ read ∙ ap (copy_in t lists) (sym one) ∙ here
            | inr apart ↦ kept.held other found (sym (get_or-set_other t.held block other (Some content) None apart) ∙ ap (λ h. get_or h other None) (sym held) ∙ there) ∙ here
          ];
      clean = λ nid entry found. kept.clean nid entry (ap (λ m. map.get m nid) (sym clean) ∙ found) ∙ ap (λ block. entry_in block nid) (sym (same_copy t t' lists (nat_block_of nid) geom bitmap));
    }

-- what was read at the copy's address
pub block_at : (t : Table) (told : Option Contents) (block at : ℕ) (content : List ℕ) → at ≡ copy_address t block → IfSome told (λ lists. content ≡ last_of (list_at lists at)) → IfSome told (λ lists. content ≡ copy_in t lists block)
block_at t None block at content here read = tt
block_at t (Some lists) block at content here read = read ∙ ap (λ a. last_of (list_at lists a)) here

-- the held blocks as contents, after one more is held
pub held_more : (items : List (Option (Box (List ℕ) Global))) (block : ℕ) (b : Box (List ℕ) Global)
    → list_map (option_map (λ (c : Box (List ℕ) Global). c.value)) (set items block (Some b)) ≡ set (list_map (option_map (λ (c : Box (List ℕ) Global). c.value)) items) block (Some b.value)
held_more items block b = map-set (option_map (λ (c : Box (List ℕ) Global). c.value)) items block (Some b)

pub held_itself : (items : List (Option (Box (List ℕ) Global))) (block : ℕ) (b : Box (List ℕ) Global) (old : List (Option (List ℕ))) → list_map (option_map (λ (c : Box (List ℕ) Global). c.value)) items ≡ old → block < length old
    → list_map (option_map (λ (c : Box (List ℕ) Global). c.value)) (set items block (Some b)) ≡ set old block (get_or (list_map (option_map (λ (c : Box (List ℕ) Global). c.value)) (set items block (Some b))) block None)
held_itself items block b old is within =
    let more = held_more items block b ∙ ap (λ h. set h block (Some b.value)) is in
    let here = ap (λ (h : List (Option (List ℕ))). get_or h block None) more ∙ get_or-set_same old block (Some b.value) None within in
    more ∙ ap (set old block) (sym here)

-- ---- no read in between

-- no clean entry more, and the same copies
pub kept_fewer : (t t' : Table) (told : Option Contents) → t'.geom ≡ t.geom → t'.bitmap ≡ t.bitmap → t'.held ≡ t.held → ((nid : ℕ) (e : NatEntry) → map.get t'.clean nid ≡ Some e → map.get t.clean nid ≡ Some e)
    → IfSome told (IsKept t) → IfSome told (IsKept t')
kept_fewer t t' None geom bitmap held fewer kept = tt
kept_fewer t t' (Some lists) geom bitmap held fewer kept =
    record {
      held = λ block content found. kept.held block content (ap (λ h. slice_index_or h block None) (sym held) ∙ found) ∙ sym (same_copy t t' lists block geom bitmap);
      clean = λ nid entry found. kept.clean nid entry (fewer nid entry found) ∙ ap (λ block. entry_in block nid) (sym (same_copy t t' lists (nat_block_of nid) geom bitmap));
    }

pub fewer_without : (old new : Entries) (k : ℕ) → new ≡ map.remove old k → (nid : ℕ) (e : NatEntry) → map.get new nid ≡ Some e → map.get old nid ≡ Some e
fewer_without old new k is nid e found = at (nat_eq nid k) (sym (ap (λ m. map.get m nid) is ∙ get-remove old k nid) ∙ found)
  where
    at : (b : Bool) → cond b None (map.get old nid) ≡ Some e → map.get old nid ≡ Some e
    at true h = cc
    at false h = h

-- what is there without a nid was there before
pub there_before : (m : Entries) (k nid : ℕ) → IsSome (map.get (map.remove m k) nid) → IsSome (map.get m nid)
there_before m k nid there = at (map.get (map.remove m k) nid) refl there
  where
    at : (o : Option NatEntry) → map.get (map.remove m k) nid ≡ o → IsSome o → IsSome (map.get m nid)
    at None e s = let wrong : ◌≡◌ false true = s in cc
    at (Some e) is s = ap is_some (fewer_without m (map.remove m k) k refl nid e is)

-- nothing is kept
pub kept_none : (t : Table) (told : Option Contents) → ((block : ℕ) → held_block t block ≡ None) → ((nid : ℕ) → map.get t.clean nid ≡ None) → IfSome told (IsKept t)
kept_none t None held clean = tt
kept_none t (Some lists) held clean =
    record {
      held = λ block content found. let wrong = sym (held block) ∙ found in cc;
      clean = λ nid entry found. let wrong = sym (clean nid) ∙ found in cc;
    }

pub none_held : (n block : ℕ) → get_or (replicate n (let none : Option (List ℕ) = None in none)) block None ≡ None
none_held n block = elim (cases_lt block n) [
  | inl within ↦ get_or-replicate n block None None within
  | inr past ↦ get_or_past (replicate n None) block None (omega (arith, length-replicate {A = Option (List ℕ)} n None))
]

pub same_fewer : (old new : Entries) → new ≡ old → (nid : ℕ) (e : NatEntry) → map.get new nid ≡ Some e → map.get old nid ≡ Some e
same_fewer old new is nid e found = ap (λ m. map.get m nid) (sym is) ∙ found

-- ---- a held block with its pending entries

-- what is held of a block whose box was read
pub held_read : (items : List (Option (Box (List ℕ) Global))) (block : ℕ) (o : Option (Box (List ℕ) Global)) (held : List (Option (List ℕ))) → list_map (option_map (λ (c : Box (List ℕ) Global). c.value)) items ≡ held → block < length held → o ≡ get_or items block o
    → get_or held block None ≡ option_map (λ (c : Box (List ℕ) Global). c.value) o
held_read items block o held is within read =
    let long = ap (λ (h : List (Option (List ℕ))). length h) is in
    let inside : block < length items = omega (arith, long, length-map items (option_map (λ (c : Box (List ℕ) Global). c.value))) in
    ap (λ h. get_or h block None) (sym is) ∙ get_or-map (option_map (λ (c : Box (List ℕ) Global). c.value)) items block o None inside ∙ ap (option_map (λ (c : Box (List ℕ) Global). c.value)) (sym read)

-- what is read is what it is found to be
pub read_as : {A : Type 0} (items : List A) (i : ℕ) (read found : A) → read ≡ get_or items i read → read ≡ found → found ≡ get_or items i found
read_as items i read found is same = subst (λ x. x ≡ get_or items i x) same is

-- what is held once the block has its pending entries
pub held_written : (t : Table) (items : List (Option (Box (List ℕ) Global))) (block : ℕ) (new : Box (List ℕ) Global) (old : List ℕ) → list_map (option_map (λ (c : Box (List ℕ) Global). c.value)) items ≡ t.held → held_block t block ≡ Some old → new.value ≡ with_pending t.dirty t.journal block old
    → list_map (option_map (λ (c : Box (List ℕ) Global). c.value)) (set items block (Some new)) ≡ set t.held block (held_with_pending t block)
held_written t items block new old is here written =
    held_more items block new ∙ ap (λ h. set h block (Some new.value)) is
    ∙ ap (λ o. set t.held block o) (ap (λ b. Some b) written ∙ sym (ap (option_map (with_pending t.dirty t.journal block)) here))

-- only blocks that there are are held
pub some_within : (held : List (Option (List ℕ))) (block : ℕ) → IsSome (get_or held block None) → block < length held
some_within held block there = elim (cases_lt block (length held)) [
  | inl within ↦ within
  | inr past ↦ let wrong : ◌≡◌ false true = ap is_some (sym (get_or_past held block None past)) ∙ there in cc
]
