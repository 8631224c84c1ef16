-- The names of a directory's blocks are those that were packed.
use Rattle.std.proofs.Common.{◌≡◌, ℕ, suc, ◌+◌, ◌-◌, ◌<◌, ◌≤◌, List, [], ◌∷◌, ◌++◌, None, length, get_or, set, refl, sym, ap, ◌∙◌, arith, inl, inr, subst, append_assoc}
use Rattle.std.specs.List.{All, flat_map}
use Rattle.std.proofs.lemmas.Bool.{cases_lt}
use Rattle.std.proofs.lemmas.Grind.{flat_map-append}
use Rattle.std.proofs.lemmas.List.{append-nil, get_or_at, set_at, length-append}
use Rattle.std.proofs.lemmas.List.Elements.{All-append, All-cons, All-nil}
use Rattle.f2_format.specs.Bytes.{zeros}
use Rattle.f2_format.specs.Dentry.{Dentry, dentries_of, dentry_fault, with_dentry}
use Rattle.f2_format.specs.Packing.{place_reached, slots_of_name}
use Rattle.f2_dentry_block.specs.Packed.{IsFitting, names_of, packed_blocks}
use Rattle.f2_dentry_block.proofs.Filled.{IsFilled, IsFilled-more, IsFilled-zeros, dentries_of-filled, dentry_fault-filled}
use Rattle.f2_dentry_block.proofs.PackedBlocks.{IsPackedTo, IsPackedTo-fits, IsPackedTo-next, IsPackedTo-nothing, begun, packed_blocks-fits, packed_blocks-next}

-- a block without a fault
abbrev NoFault : List ℕ → Type 0
NoFault block = dentry_fault block ≡ None

-- the blocks so far: those that are full, and a last one that has room
record HasLast (dentries : List Dentry) (count taken : ℕ) : Type 0 where
  front : List (List ℕ)
  last : List ℕ
  before : List Dentry
  behind : List Dentry
  size : length front + 1 ≡ count
  blocks : packed_blocks dentries ≡ front ++ last ∷ []
  read : flat_map dentries_of front ≡ before
  sound : All NoFault front
  filled : IsFilled last taken behind
  parts : before ++ behind ≡ dentries

-- nothing was packed, or there is a last block
data IsRead (dentries : List Dentry) (count taken : ℕ) : Type 0 where
  nothing : dentries ≡ [] → IsRead dentries count taken
  some : HasLast dentries count taken → IsRead dentries count taken

-- one dentry more where it fits into the last block
read-fits : (dentries : List Dentry) (count taken : ℕ) (dentry : Dentry) → IsPackedTo dentries count taken → IsFitting dentry → taken + slots_of_name dentry.name ≤ 214
    → HasLast dentries count taken → HasLast (dentries ++ dentry ∷ []) count (taken + slots_of_name dentry.name)
read-fits dentries count taken dentry packed fitting fits has =
    let place : length has.front ≡ count - 1 = let size = has.size in omega arith in
    let last = with_dentry has.last taken dentry in
    let was : get_or (packed_blocks dentries) (count - 1) [] ≡ has.last =
    ap (λ (bs : List (List ℕ)). get_or bs (count - 1) []) has.blocks ∙ get_or_at has.front has.last [] [] (count - 1) place in
    record {
      front = has.front;
      last = last;
      before = has.before;
      behind = has.behind ++ dentry ∷ [];
      size = has.size;
      blocks =
          packed_blocks-fits dentries count taken dentry packed fitting.name fits
          ∙ ap (λ (b : List ℕ). set (packed_blocks dentries) (count - 1) (with_dentry b taken dentry)) was
          ∙ ap (λ (bs : List (List ℕ)). set bs (count - 1) last) has.blocks
          ∙ set_at has.front has.last [] last (count - 1) place;
      read = has.read;
      sound = has.sound;
      filled = IsFilled-more has.last taken dentry has.behind has.filled fitting fits;
      parts = sym (append_assoc has.before has.behind (dentry ∷ [])) ∙ ap (λ (ds : List Dentry). ds ++ dentry ∷ []) has.parts;
    }

-- a block with one dentry
filled-alone : (dentry : Dentry) → IsFitting dentry → IsFilled (with_dentry (zeros 4096) 0 dentry) (slots_of_name dentry.name) (dentry ∷ [])
filled-alone dentry fitting =
    let most = fitting.name.most in
    let start : 0 + slots_of_name dentry.name ≡ slots_of_name dentry.name = omega arith in
    subst (λ (n : ℕ). IsFilled (with_dentry (zeros 4096) 0 dentry) n (dentry ∷ [])) start
    (IsFilled-more (zeros 4096) 0 dentry [] IsFilled-zeros fitting (omega arith))

-- one dentry more that begins a block
read-next : (dentries : List Dentry) (count taken : ℕ) (dentry : Dentry) → IsPackedTo dentries count taken → IsFitting dentry → 214 < taken + slots_of_name dentry.name
    → HasLast dentries count taken → HasLast (dentries ++ dentry ∷ []) (count + 1) (slots_of_name dentry.name)
read-next dentries count taken dentry packed fitting full has = record {
  front = has.front ++ has.last ∷ [];
  last = with_dentry (zeros 4096) 0 dentry;
  before = dentries;
  behind = dentry ∷ [];
  size = let size = has.size in omega (arith, length-append has.front (has.last ∷ []));
  blocks =
      packed_blocks-next dentries count taken dentry packed fitting.name full
      ∙ ap (λ (bs : List (List ℕ)). bs ++ with_dentry (zeros 4096) 0 dentry ∷ []) has.blocks;
  read =
      flat_map-append dentries_of has.front (has.last ∷ [])
      ∙ ap (λ (ds : List Dentry). ds ++ (dentries_of has.last ++ [])) has.read
      ∙ ap (λ (ds : List Dentry). has.before ++ ds) (append-nil (dentries_of has.last) ∙ dentries_of-filled has.last taken has.behind has.filled packed.room)
      ∙ has.parts;
  sound = All-append NoFault has.front (has.last ∷ []) has.sound
      (All-cons NoFault has.last [] (dentry_fault-filled has.last taken has.behind has.filled packed.room) (All-nil NoFault));
  filled = filled-alone dentry fitting;
  parts = refl;
}

-- the first dentry
read-first : (count taken : ℕ) (dentry : Dentry) → IsPackedTo [] count taken → IsFitting dentry → 214 < taken + slots_of_name dentry.name
    → HasLast (dentry ∷ []) (count + 1) (slots_of_name dentry.name)
read-first count taken dentry packed fitting full = record {
  front = [];
  last = with_dentry (zeros 4096) 0 dentry;
  before = [];
  behind = dentry ∷ [];
  size = let reach = ap (λ (r : ℕ × ℕ). r.0) packed.reach in omega arith;
  blocks = packed_blocks-next [] count taken dentry packed fitting.name full;
  read = refl;
  sound = All-nil NoFault;
  filled = filled-alone dentry fitting;
  parts = refl;
}

-- what is claimed of the blocks of a directory
pub record ReadsBack (dentries : List Dentry) : Type 0 where
  pub names : flat_map dentries_of (packed_blocks dentries) ≡ dentries
  pub sound : All NoFault (packed_blocks dentries)

-- the end
reads-back : (dentries : List Dentry) (count taken : ℕ) → IsPackedTo dentries count taken → IsRead dentries count taken → ReadsBack dentries
reads-back dentries count taken packed (nothing none) =
    subst ReadsBack (sym none) (record { names = refl; sound = All-nil NoFault })
reads-back dentries count taken packed (some has) = record {
  names =
      ap (flat_map dentries_of) has.blocks
      ∙ flat_map-append dentries_of has.front (has.last ∷ [])
      ∙ ap (λ (ds : List Dentry). ds ++ (dentries_of has.last ++ [])) has.read
      ∙ ap (λ (ds : List Dentry). has.before ++ ds) (append-nil (dentries_of has.last) ∙ dentries_of-filled has.last taken has.behind has.filled packed.room)
      ∙ has.parts;
  sound = subst (λ (bs : List (List ℕ)). All NoFault bs) (sym has.blocks)
      (All-append NoFault has.front (has.last ∷ []) has.sound
      (All-cons NoFault has.last [] (dentry_fault-filled has.last taken has.behind has.filled packed.room) (All-nil NoFault)));
}

-- one dentry more
step-fits : (dentries : List Dentry) (count taken : ℕ) (dentry : Dentry) → IsPackedTo dentries count taken → IsFitting dentry → taken + slots_of_name dentry.name ≤ 214
    → IsRead dentries count taken → IsRead (dentries ++ dentry ∷ []) count (taken + slots_of_name dentry.name)
step-fits dentries count taken dentry packed fitting fits (some has) = some (read-fits dentries count taken dentry packed fitting fits has)
step-fits dentries count taken dentry packed fitting fits (nothing none) =
    let some_block = begun dentries count taken dentry packed fitting.name fits in
    let reach : 0 ≡ count = sym (ap (λ (ds : List Dentry). (place_reached (names_of ds)).0) none) ∙ ap (λ (r : ℕ × ℕ). r.0) packed.reach in
    absurd (omega arith)

step-next : (dentries : List Dentry) (count taken : ℕ) (dentry : Dentry) → IsPackedTo dentries count taken → IsFitting dentry → 214 < taken + slots_of_name dentry.name
    → IsRead dentries count taken → IsRead (dentries ++ dentry ∷ []) (count + 1) (slots_of_name dentry.name)
step-next dentries count taken dentry packed fitting full (some has) = some (read-next dentries count taken dentry packed fitting full has)
step-next dentries count taken dentry packed fitting full (nothing none) =
    subst (λ (ds : List Dentry). IsRead (ds ++ dentry ∷ []) (count + 1) (slots_of_name dentry.name)) (sym none)
    (some (read-first count taken dentry (subst (λ (ds : List Dentry). IsPackedTo ds count taken) none packed) fitting full))

-- all of them
all-read : (dentries rest : List Dentry) (count taken : ℕ) → All IsFitting rest → IsPackedTo dentries count taken → IsRead dentries count taken → ReadsBack (dentries ++ rest)
all-read dentries [] count taken fitting packed read = subst ReadsBack (sym (append-nil dentries)) (reads-back dentries count taken packed read)
all-read dentries (dentry ∷ rest) count taken fitting packed read =
    let here : IsFitting dentry = fitting 0 dentry (omega arith) in
    let others : All IsFitting rest = λ k d h. fitting (suc k) d (omega arith) in
    subst ReadsBack (append_assoc dentries (dentry ∷ []) rest) (elim (cases_lt 214 (taken + slots_of_name dentry.name)) [
      | inl full ↦ all-read (dentries ++ dentry ∷ []) rest (count + 1) (slots_of_name dentry.name) others
          (IsPackedTo-next dentries count taken dentry packed here.name full) (step-next dentries count taken dentry packed here full read)
      | inr fits ↦ all-read (dentries ++ dentry ∷ []) rest count (taken + slots_of_name dentry.name) others
          (IsPackedTo-fits dentries count taken dentry packed here.name fits) (step-fits dentries count taken dentry packed here fits read)
    ])

pub packed-reads_back : (dentries : List Dentry) → All IsFitting dentries → ReadsBack dentries
packed-reads_back dentries fitting = all-read [] dentries 0 214 fitting IsPackedTo-nothing (nothing refl)
