-- The map of a table after a checkpoint, and what is kept of the disk then.
use Rattle.std.proofs.Common.{◌≡◌, ◌≢◌, ℕ, ◌*◌, ◌/◌, ◌<◌, inl, inr, List, [], ◌∷◌, length, true, false, cond, not, ◌&&◌, ◌||◌, Bool, Option, Some, None, IsSome, IsTrue, is_some, nat_eq, get_or, ap, sym, ◌∙◌, refl, arith, nat_cmp}
use Rattle.std.specs.Prelude.{filter, map as list_map, nat_lt}
use Rattle.std.specs.List.{list_any, range_with_len}
use Rattle.std.specs.Option.{option_map, option_or, unwrap_or}
use Rattle.std.specs.FinMap as map
use Rattle.std.proofs.lemmas.Bool.{cases_lt}
use Rattle.std.proofs.lemmas.Bool.Decides.{nat_tests}
use Rattle.std.proofs.lemmas.List.{set_past}
use Rattle.std.proofs.lemmas.List.FromFn.{get_or-map-range_with_len}
use Rattle.f2_disk.specs.Contents.{Contents, list_at, last_of}
use Rattle.f2_format.specs.Geometry.{nat_address}
use Rattle.f2_format.specs.Journal.{JournalList, journal_find}
use Rattle.f2_format.specs.Nat.{is_second_copy, with_other_copy, nat_block_of, nat_place_of}
use Rattle.f2_nat_block.proofs.BitmapLemmas.{is_second_copy-with_other_copy_other}
use Rattle.f2_nat_block.specs.declared.entries.NatEntry.{NatEntry}
use Rattle.f2_nat_block.specs.NatEntry.{entry_of}
use Rattle.f2_nat_cache.specs.Entries.{EachOnce, nids_of, count_in}
use Rattle.f2_nat_cache.specs.Plan.{HasWritten, bitmap_after, checkpointed, fits_journal, flipped, held_after, held_then, held_with_pending, is_pending_block, is_written, journal_after, merged, pending_blocks}
use Rattle.f2_nat_cache.specs.Table.{IsKept, Table, TellsPending, copy_in, entry_at, entry_in, held_block, known, nid_at, pending, with_pending}
use Rattle.f2_nat_cache.proofs.Kept.{some_within}
use Rattle.f2_nat_cache.proofs.Merged.{merged_once, none_counted, pending-merged}
use Rattle.f2_nat_cache.proofs.Tables.{eq_same, eq_itself}

-- ---- blocks without a pending entry

-- a nid of a block that the journal has no nid of isn't found in it
not_listed : (journal : JournalList) (nid : ℕ) → list_any (λ n. nat_eq (nat_block_of n) (nat_block_of nid)) (nids_of journal) ≡ false → journal_find journal nid ≡ None
not_listed [] nid none = refl
not_listed (e ∷ journal) nid none =
    (elim (nat_eq e.0 nid) as (λ b. nat_eq e.0 nid ≡ b → cond b (Some e.1) (journal_find journal nid) ≡ None) [
      | true ↦ λ here. let wrong : ◌≡◌ false true = sym (first _ (list_any (λ n. nat_eq (nat_block_of n) (nat_block_of nid)) (nids_of journal)) none) ∙ ap (λ n. nat_eq (nat_block_of n) (nat_block_of nid)) (eq_same e.0 nid here) ∙ eq_itself (nat_block_of nid) in cc
      | false ↦ λ other. not_listed journal nid (rest (nat_eq (nat_block_of e.0) (nat_block_of nid)) _ none)
    ]) refl
  where
    first : (a b : Bool) → (a || b) ≡ false → a ≡ false
    first true b h = h
    first false b h = refl

    rest : (a b : Bool) → (a || b) ≡ false → b ≡ false
    rest true b h = let wrong : ◌≡◌ true false = h in cc
    rest false b h = h

-- so a nid of a block without a pending entry has none
pub not_pending : (t : Table) (nid : ℕ) → is_pending_block t (nat_block_of nid) ≡ false → pending t.dirty t.journal nid ≡ None
not_pending t nid none = at (nat_lt 0 (count_in t.dirty (nat_block_of nid))) (list_any (λ n. nat_eq (nat_block_of n) (nat_block_of nid)) (nids_of t.journal)) refl refl none
  where
    at : (a b : Bool) → nat_lt 0 (count_in t.dirty (nat_block_of nid)) ≡ a → list_any (λ n. nat_eq (nat_block_of n) (nat_block_of nid)) (nids_of t.journal) ≡ b → (a || b) ≡ false → pending t.dirty t.journal nid ≡ None
    at true b counted listed h = let wrong : ◌≡◌ true false = h in cc
    at false true counted listed h = let wrong : ◌≡◌ true false = h in cc
    at false false counted listed h =
        let nothing : count_in t.dirty (nat_block_of nid) ≡ 0 = grind (arith, nat_tests, counted) in
        λ i. option_or (none_counted t.dirty (nat_block_of nid) nid nothing (λ _. nat_block_of nid) i) (option_map entry_of (not_listed t.journal nid listed i))

-- ---- bits of blocks that aren't written

flip_other : (bitmap : List ℕ) (block other : ℕ) → other ≢ block → is_second_copy (with_other_copy bitmap block) other ≡ is_second_copy bitmap other
flip_other bitmap block other apart = elim (cases_lt (block / 8) (length bitmap)) [
  | inl within ↦ is_second_copy-with_other_copy_other bitmap block other within apart
  | inr past ↦ ap (λ bytes. is_second_copy bytes other) (set_past bitmap (block / 8) _ past)
]

flips_other : (p : ℕ → Bool) (blocks bitmap : List ℕ) (other : ℕ) → p other ≡ false → is_second_copy (flipped bitmap (filter p blocks)) other ≡ is_second_copy bitmap other
flips_other p [] bitmap other fails = refl
flips_other p (block ∷ blocks) bitmap other fails =
    (elim (p block) as (λ b. p block ≡ b → is_second_copy (flipped bitmap (cond b (block ∷ filter p blocks) (filter p blocks))) other ≡ is_second_copy bitmap other) [
      | true ↦ λ passes.
          let apart : other ≢ block = λ same. let wrong : ◌≡◌ false true = sym fails ∙ ap p same ∙ passes in cc in
          flips_other p blocks (with_other_copy bitmap block) other fails ∙ flip_other bitmap block other apart
      | false ↦ λ _. flips_other p blocks bitmap other fails
    ]) refl

pub same_bit : (t : Table) (block : ℕ) → is_written t block ≡ false → is_second_copy (bitmap_after t) block ≡ is_second_copy t.bitmap block
same_bit t block other = at (fits_journal t) other
  where
    at : (fits : Bool) → (not fits && is_pending_block t block) ≡ false → is_second_copy (cond fits t.bitmap (flipped t.bitmap (pending_blocks t))) block ≡ is_second_copy t.bitmap block
    at true h = refl
    at false h = flips_other (is_pending_block t) (range_with_len 0 t.geom.nat) t.bitmap block h

same_copy_after : (t : Table) (lists : Contents) (block : ℕ) → is_written t block ≡ false → copy_in (checkpointed t) lists block ≡ copy_in t lists block
same_copy_after t lists block other = ap (λ second. last_of (list_at lists (nat_address t.geom block second))) (same_bit t block other)

-- ---- the journal

nothing_pending : (nid : ℕ) → pending map.empty [] nid ≡ None
nothing_pending nid = ap (λ o. option_or o None) (map.get-empty nat_cmp nid)

-- what isn't pending isn't pending after the checkpoint
pub apart_after : (t : Table) (nid : ℕ) → pending t.dirty t.journal nid ≡ None → pending map.empty (journal_after t) nid ≡ None
apart_after t nid none = at (fits_journal t)
  where
    at : (fits : Bool) → pending map.empty (cond fits (merged t.dirty t.journal) []) nid ≡ None
    at true = pending-merged t.dirty t.journal nid ∙ none
    at false = nothing_pending nid

pub once_after : (t : Table) (n : ℕ) → ((nid : ℕ) → IsSome (map.get t.dirty nid) → nid < n) → EachOnce t.journal → EachOnce (journal_after t)
once_after t n within once = at (fits_journal t)
  where
    at : (fits : Bool) → EachOnce (cond fits (merged t.dirty t.journal) [])
    at true = merged_once t.dirty t.journal n within once
    at false = λ nid. omega arith

-- ---- what is held

-- what is held of a block after the checkpoint
pub held_after_at : (t : Table) (block : ℕ) → block < t.geom.nat → held_block (checkpointed t) block ≡ cond (is_written t block) (held_with_pending t block) (held_block t block)
held_after_at t block within = at (fits_journal t)
  where
    at : (fits : Bool) → get_or (cond fits t.held (list_map (held_then t) (range_with_len 0 t.geom.nat))) block None ≡ cond (not fits && is_pending_block t block) (held_with_pending t block) (held_block t block)
    at true = refl
    at false = get_or-map-range_with_len (held_then t) 0 t.geom.nat block block None within (omega arith)

-- the entry of a nid in its block with all its pending entries
tells_nid : (t : Table) (nid : ℕ) (content : List ℕ) → TellsPending t (nat_block_of nid) content → entry_in (with_pending t.dirty t.journal (nat_block_of nid) content) nid ≡ unwrap_or (pending t.dirty t.journal nid) (entry_in content nid)
tells_nid t nid content tells =
    let here : nid_at (nat_block_of nid) (nat_place_of nid) ≡ nid = omega arith in
    tells.told (nat_place_of nid) (omega arith) ∙ ap (λ n. unwrap_or (pending t.dirty t.journal n) (entry_in content nid)) here

-- ---- the map

module _ (t : Table)
    (held : (block : ℕ) → block < t.geom.nat → IsTrue (is_written t block) → IsSome (held_block t block))
    (tells : (block : ℕ) (content : List ℕ) → block < t.geom.nat → IsTrue (is_written t block) → held_block t block ≡ Some content → TellsPending t block content) where
  -- what is known of a nid in a block that is written: its pending entry, or that of its block
  known_written : (nid : ℕ) → nat_block_of nid < t.geom.nat → IsTrue (is_written t (nat_block_of nid)) → (o : Option (List ℕ)) → held_block t (nat_block_of nid) ≡ o → IsSome o
      → option_map (λ content. entry_in content nid) (option_map (with_pending t.dirty t.journal (nat_block_of nid)) o) ≡ option_or (pending t.dirty t.journal nid) (option_map (λ content. entry_in content nid) o)
  known_written nid within written None here there = let wrong : ◌≡◌ false true = there in cc
  known_written nid within written (Some content) here there =
      ap (λ e. Some e) (tells_nid t nid content (tells (nat_block_of nid) content within written here)) ∙ either (pending t.dirty t.journal nid) (entry_in content nid)
    where
      either : (o : Option NatEntry) (e : NatEntry) → ◌≡◌ {A = Option NatEntry} (Some (unwrap_or o e)) (option_or o (Some e))
      either None e = refl
      either (Some x) e = refl

  -- the same entries are known as before
  pub known_after : (nid : ℕ) → nid < 455 * t.geom.nat → known (checkpointed t) nid ≡ known t nid
  known_after nid below =
      let block = nat_block_of nid in
      let within : block < t.geom.nat = omega arith in
      ap (λ o. option_or (pending map.empty (journal_after t) nid) (option_map (λ content. entry_in content nid) o)) (held_after_at t block within)
      ∙ at (fits_journal t) (is_pending_block t block) refl refl
    where
      at : (fits some : Bool) → fits_journal t ≡ fits → is_pending_block t (nat_block_of nid) ≡ some
          → option_or (pending map.empty (journal_after t) nid) (option_map (λ content. entry_in content nid) (cond (is_written t (nat_block_of nid)) (held_with_pending t (nat_block_of nid)) (held_block t (nat_block_of nid)))) ≡ known t nid
      at true some journaled pends =
          (λ i. option_or (pending map.empty (cond (journaled i) (merged t.dirty t.journal) []) nid) (option_map (λ content. entry_in content nid) (cond (not (journaled i) && is_pending_block t (nat_block_of nid)) (held_with_pending t (nat_block_of nid)) (held_block t (nat_block_of nid)))))
          ∙ ap (λ o. option_or o (option_map (λ content. entry_in content nid) (held_block t (nat_block_of nid)))) (pending-merged t.dirty t.journal nid)
      at false true written pends =
          let is : is_written t (nat_block_of nid) ≡ true = λ i. not (written i) && pends i in
          (λ i. option_or (pending map.empty (cond (written i) (merged t.dirty t.journal) []) nid) (option_map (λ content. entry_in content nid) (cond (is i) (held_with_pending t (nat_block_of nid)) (held_block t (nat_block_of nid)))))
          ∙ ap (λ o. option_or o (option_map (λ content. entry_in content nid) (held_with_pending t (nat_block_of nid)))) (nothing_pending nid)
          ∙ known_written nid (omega arith) is (held_block t (nat_block_of nid)) refl (held (nat_block_of nid) (omega arith) is)
      at false false written pends =
          let is : is_written t (nat_block_of nid) ≡ false = λ i. not (written i) && pends i in
          (λ i. option_or (pending map.empty (cond (written i) (merged t.dirty t.journal) []) nid) (option_map (λ content. entry_in content nid) (cond (is i) (held_with_pending t (nat_block_of nid)) (held_block t (nat_block_of nid)))))
          ∙ ap (λ o. option_or o (option_map (λ content. entry_in content nid) (held_block t (nat_block_of nid)))) (nothing_pending nid ∙ sym (not_pending t nid pends))

  -- a block of which nothing is held isn't written
  unwritten : (block : ℕ) → block < t.geom.nat → held_block t block ≡ None → is_written t block ≡ false
  unwritten block within none = at (is_written t block) refl
    where
      at : (b : Bool) → is_written t block ≡ b → is_written t block ≡ false
      at true is = let wrong : ◌≡◌ false true = sym (ap is_some none) ∙ held block within is in cc
      at false is = is

  module _ (before after : Contents) (wrote : HasWritten t before after) where
    copy_other : (block : ℕ) → block < t.geom.nat → is_written t block ≡ false → copy_in (checkpointed t) after block ≡ copy_in t before block
    copy_other block within other = same_copy_after t after block other ∙ wrote.others block within other

    -- the map stays
    pub entry_after : (nid : ℕ) → nid < 455 * t.geom.nat → entry_at (checkpointed t) after nid ≡ entry_at t before nid
    entry_after nid below =
        ap (λ o. unwrap_or o (entry_in (copy_in (checkpointed t) after (nat_block_of nid)) nid)) (known_after nid below)
        ∙ at (pending t.dirty t.journal nid) (held_block t (nat_block_of nid)) refl
      where
        at : (p : Option NatEntry) (o : Option (List ℕ)) → held_block t (nat_block_of nid) ≡ o
            → unwrap_or (option_or p (option_map (λ content. entry_in content nid) o)) (entry_in (copy_in (checkpointed t) after (nat_block_of nid)) nid)
            ≡ unwrap_or (option_or p (option_map (λ content. entry_in content nid) o)) (entry_in (copy_in t before (nat_block_of nid)) nid)
        at (Some e) o here = refl
        at None (Some content) here = refl
        at None None here = ap (λ content. entry_in content nid) (copy_other (nat_block_of nid) (omega arith) (unwritten (nat_block_of nid) (omega arith) here))

    module _ (kept : IsKept t before) where
      held_kept : (block : ℕ) (content : List ℕ) → block < t.geom.nat → held_block (checkpointed t) block ≡ Some content → content ≡ copy_in (checkpointed t) after block
      held_kept block content within found = at (is_written t block) (held_block t block) refl refl (sym (held_after_at t block within) ∙ found)
        where
          at : (written : Bool) (o : Option (List ℕ)) → is_written t block ≡ written → held_block t block ≡ o
              → cond (is_written t block) (held_with_pending t block) (held_block t block) ≡ Some content → content ≡ copy_in (checkpointed t) after block
          at true None is here there = let wrong : ◌≡◌ false true = sym (ap is_some here) ∙ held block within is in cc
          at true (Some old) is here there =
              let same : ◌≡◌ {A = Option (List ℕ)} (Some (with_pending t.dirty t.journal block old)) (Some content) = sym (λ i. cond (is i) (option_map (with_pending t.dirty t.journal block) (here i)) (held_block t block)) ∙ there in
              let one : content ≡ with_pending t.dirty t.journal block old = cc in
              one ∙ sym (wrote.written block old within is here)
          at false o is here there =
              kept.held block content (sym (ap (λ b. cond b (held_with_pending t block) (held_block t block)) is) ∙ there) ∙ sym (copy_other block within is)

      clean_kept : (nid : ℕ) (entry : NatEntry) → nid < 455 * t.geom.nat → pending t.dirty t.journal nid ≡ None → map.get t.clean nid ≡ Some entry → entry ≡ entry_in (copy_in (checkpointed t) after (nat_block_of nid)) nid
      clean_kept nid entry below apart found = at (is_written t (nat_block_of nid)) (held_block t (nat_block_of nid)) refl refl
        where
          at : (written : Bool) (o : Option (List ℕ)) → is_written t (nat_block_of nid) ≡ written → held_block t (nat_block_of nid) ≡ o → entry ≡ entry_in (copy_in (checkpointed t) after (nat_block_of nid)) nid
          at true None is here = let wrong : ◌≡◌ false true = sym (ap is_some here) ∙ held (nat_block_of nid) (omega arith) is in cc
          at true (Some old) is here =
              let within : nat_block_of nid < t.geom.nat = omega arith in
              kept.clean nid entry found
              ∙ ap (λ content. entry_in content nid) (sym (kept.held (nat_block_of nid) old here))
              ∙ sym (tells_nid t nid old (tells (nat_block_of nid) old within is here) ∙ ap (λ o. unwrap_or o (entry_in old nid)) apart)
              ∙ ap (λ content. entry_in content nid) (sym (wrote.written (nat_block_of nid) old within is here))
          at false o is here = kept.clean nid entry found ∙ ap (λ content. entry_in content nid) (sym (copy_other (nat_block_of nid) (omega arith) is))

      -- what is kept stays what the copies that count are
      pub kept_after : length (held_after t) ≡ t.geom.nat → ((nid : ℕ) → IsSome (map.get t.clean nid) → nid < 455 * t.geom.nat) → ((nid : ℕ) → IsSome (map.get t.clean nid) → pending t.dirty t.journal nid ≡ None) → IsKept (checkpointed t) after
      kept_after long within apart =
          record {
            held = λ block content found. held_kept block content (let there = some_within (held_after t) block (ap is_some found) in omega (arith, there, long)) found;
            clean = λ nid entry found. clean_kept nid entry (within nid (ap is_some found)) (apart nid (ap is_some found)) found;
          }
