-- Inodes are planned one after another, and what the bytes of one say.
use Rattle.std.proofs.Common.{◌≡◌, ℕ, ◌+◌, ◌-◌, ◌<◌, ◌≤◌, Bool, true, false, cond, List, [], ◌∷◌, ◌++◌, map as map_list, length, take, drop, get_or, refl, sym, ap, subst, ◌∙◌, arith, Some, None, Option, Result, Ok, Err, inl, inr}
use Rattle.std.specs.Prelude.{nat_lt}
use Rattle.std.specs.FinMap as map
use Rattle.std.proofs.lemmas.Bool.{cases_lt, lt-ltb, true≢false}
use Rattle.std.proofs.lemmas.List.{map-append, append_assoc, length-append, length-drop, take_more, get_or-drop, get_or_past}
use Rattle.std.proofs.Math.Seq.{get_or-append_right}
use Rattle.std.proofs.lemmas.List.Elements.{All-more, All-weaker, Contains-push, Contains-append_left}
use Rattle.f2_format.specs.Bytes.{number_at, zeros}
use Rattle.f2_format.specs.Footer.{footer_version}
use Rattle.f2_format.specs.Inode.{InodeFields, NAME_BYTES, SIZE_LIMIT}
use Rattle.f2_format.proofs.BytesLemmas.{number_at-same}
use Rattle.f2_model.specs.declared.rows.Kind.{Kind}
use Rattle.f2_model.specs.declared.rows.Row.{Row}
use Rattle.f2_node_block.specs.Inodes.{checked_inode, checked_with, inode_with, known_kind}
use Rattle.f2_node_block.specs.declared.inodes.Inode.{Inode}
use Rattle.f2_node_block.specs.declared.inodes.InodeFault.{InodeFault}
use Rattle.f2_node_block.proofs.Pieces.{get_or-zeros, length-zeros}
use Rattle.f2_laid.specs.Laid.{PlaceMap, at_of, IsInodeOf}
use Rattle.f2_laid.specs.declared.places.Place.{Place}
use Rattle.f2_laid.specs.declared.planned.Planned.{Planned}
use Rattle.f2_plain_plan.specs.Inodes.{AddsInodes, WritesInode}

-- behind a name stand zeros
pub zero_behind : (name : List ℕ) (n k : ℕ) → length name ≤ k → get_or (name ++ zeros n) k 0 ≡ 0
zero_behind name n k h =
    get_or-append_right name (zeros n) k 0 h
    ∙ elim (cases_lt (k - length name) n) [ inl low ↦ get_or-zeros n (k - length name) low | inr past ↦ get_or_past (zeros n) (k - length name) 0 (omega (arith, length-zeros n)) ]

-- a number behind the bytes that were written stays
pub number_behind : (start n at : ℕ) (front block after : List ℕ) → after ≡ front ++ drop start block → length after ≡ length block → start ≤ length block → start ≤ at → number_at n after at ≡ number_at n block at
number_behind start n at front block after is long within past =
    number_at-same n after block at at (λ k h.
    ap (λ b. get_or b (at + k) 0) is
    ∙ get_or-append_right front (drop start block) (at + k) 0 (omega (arith, front_long))
    ∙ get_or-drop start block (at + k - length front) 0
    ∙ ap (λ i. get_or block i 0) (omega (arith, front_long)))
  where
    front_long : length front ≡ start
    front_long = omega (arith, ap length is, length-append front (drop start block), length-drop start block)

-- the fields of an inode that was read as one
pub record Says (fields : InodeFields) (inode : Inode) : Type 0 where
  pub kind : known_kind fields.mode ≡ Some inode.kind
  pub size : fields.size ≡ inode.size
  pub name_length : fields.name_length ≤ NAME_BYTES
  pub addresses : fields.addresses ≡ inode.addr
  pub nids : fields.nids ≡ inode.nid

abbrev ok_of : Inode → Result Inode InodeFault
ok_of inode = Ok inode

pub read_says : (fields : InodeFields) (inode : Inode) → checked_inode fields ≡ Ok inode → Says fields inode
read_says fields inode e = by_kind (known_kind fields.mode) refl e
  where
    same_ok : (a b : Inode) → ok_of a ≡ ok_of b → a ≡ b
    same_ok a b e = cc

    no_ok : (a : Inode) (x : InodeFault) → Err x ≡ ok_of a → ⊥
    no_ok a x e = cc

    by_tests : (long big : Bool) (x y : InodeFault) (told : Inode) → cond long (Err x) (cond big (Err y) (ok_of told)) ≡ ok_of inode → (long ≡ false) × (told ≡ inode)
    by_tests true big x y told e = absurd (no_ok inode x e)
    by_tests false true x y told e = absurd (no_ok inode y e)
    by_tests false false x y told e = (refl, same_ok told inode e)

    short : (n : ℕ) → nat_lt NAME_BYTES n ≡ false → n ≤ NAME_BYTES
    short n t = elim (cases_lt NAME_BYTES n) [ inl l ↦ absurd (true≢false (sym (lt-ltb NAME_BYTES n l) ∙ t)) | inr g ↦ g ]

    by_kind : (o : Option Kind) → known_kind fields.mode ≡ o → checked_with o fields ≡ Ok inode → Says fields inode
    by_kind None k e = absurd (no_ok inode _ e)
    by_kind (Some kind) k e =
        let tests = by_tests (nat_lt NAME_BYTES fields.name_length) (nat_lt SIZE_LIMIT fields.size) _ _ (inode_with kind fields) e in
        record {
          kind = k ∙ ap (λ (told : Inode). Some told.kind) tests.1;
          size = ap (λ (told : Inode). told.size) tests.1;
          name_length = short fields.name_length tests.0;
          addresses = ap (λ (told : Inode). told.addr) tests.1;
          nids = ap (λ (told : Inode). told.nid) tests.1;
        }

pub inode_more : (rows : List Row) (end : ℕ) (row : Row) (places : PlaceMap) (place : Place) (blocks after : List Planned) (block : List ℕ) → end < length rows → get_or rows end row ≡ row
    → map.get places row.ino ≡ Some place → IsInodeOf row place block → footer_version block ≡ 0 → AddsInodes (take end rows) places blocks after
    → AddsInodes (take (end + 1) rows) places blocks (after ++ record { at = place.at; block = block } ∷ [])
inode_more rows end row places place blocks after block low is there inode unlogged so_far =
    let one : Planned = record { at = place.at; block = block } in
    let f : Row → ℕ = λ row. at_of (map.get places row.ino) in
    let here : f (get_or rows end row) ≡ place.at = ap f is ∙ ap at_of there in
    record {
      more = so_far.more ++ one ∷ [];
      added = ap (λ l. l ++ one ∷ []) so_far.added ∙ append_assoc blocks so_far.more (one ∷ []);
      ats = map-append (λ (some : Planned). some.at) so_far.more (one ∷ [])
          ∙ ap (λ l. l ++ place.at ∷ []) so_far.ats
          ∙ ap (λ n. map_list f (take end rows) ++ n ∷ []) (sym here)
          ∙ sym (ap (map_list f) (take_more rows end row low) ∙ map-append f (take end rows) (get_or rows end row ∷ []));
      inodes = All-more (WritesInode places (so_far.more ++ one ∷ [])) rows end row low
          (All-weaker (WritesInode places so_far.more) (WritesInode places (so_far.more ++ one ∷ [])) (λ other w. record { place = w.place; there = w.there; block = w.block; inode = w.inode; unlogged = w.unlogged; written = Contains-append_left so_far.more (one ∷ []) _ w.written }) (take end rows) so_far.inodes)
          (subst (WritesInode places (so_far.more ++ one ∷ [])) (sym is) (record { place = place; there = there; block = block; inode = inode; unlogged = unlogged; written = Contains-push so_far.more one }));
    }
