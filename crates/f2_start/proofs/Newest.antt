-- The newest pack of an image is its checkpoint's.
use Rattle.std.proofs.Common.{◌≡◌, ℕ, ◌+◌, ◌<◌, ◌≤◌, Bool, true, false, IsTrue, refl, sym, ap, ◌∙◌, subst, arith}
use Rattle.std.specs.Prelude.{Option, Some, None, nat_lt, if◌then◌else◌}
use Rattle.std.proofs.lemmas.Bool.{ltb-true, ltb-false}
use Rattle.f2_format.specs.Geometry.{ImageGeometry, is_in_node}
use Rattle.f2_format.specs.Pack.{HeadFields, head_of}
use Rattle.f2_image.specs.Images.{Image, block_at, IsSized}
use Rattle.f2_image.specs.Packs.{IsValid, GoesBefore, Checkpoint, IsCheckpoint, head_address, summary_address, other_side}
use Rattle.f2_image.specs.Faults.{HasNoCheckpoint}
use Rattle.f2_pack.specs.Packs.{IsPackOf, IsValid as pack_valid, fields_of, newest_of, pack_at, pack_start}
use Rattle.f2_pack.specs.declared.packs.Pack.{Pack}
use Rattle.f2_pack.specs.declared.packs.Side.{Side}
use Rattle.f2_pack.specs.declared.packs.Side.TheVariants.{A, B}
use Rattle.f2_start.specs.Starts.{side_of, IsNewestPack, IsStartOf}
use Rattle.f2_start.specs.declared.reading.Start.{Start}

-- options that are equal
parts : {X Y : Type 0} (a b : X × Y) → Some a ≡ Some b → (a.0 ≡ b.0) × (a.1 ≡ b.1)
parts a b e = (ap (λ p. p.0) (same a b e), ap (λ p. p.1) (same a b e))
  where
    same : {Z : Type 0} (a b : Z) → Some a ≡ Some b → a ≡ b
    same a b e = cc

module _ (geom : ImageGeometry) (image : Image) where
  -- a side in both ways to name it
  valid_on : (one : Side) → pack_valid geom image (pack_start one) → IsValid geom image (side_of one)
  valid_on A h = h
  valid_on B h = h

  head_on : (one : Side) → head_of (block_at image (pack_start one)) ≡ head_of (block_at image (head_address (side_of one)))
  head_on A = refl
  head_on B = refl

  summary_on : (one : Side) → block_at image (pack_start one + 1) ≡ block_at image (summary_address (side_of one))
  summary_on A = refl
  summary_on B = refl

  -- a pack as it stands on a side
  version_there : (one : Side) (p : Pack) → p ≡ pack_at image (pack_start one) → p.head.version ≡ (head_of (block_at image (pack_start one))).version
  version_there one p e = ap (λ (q : Pack). q.head.version) e

  head_there : (one : Side) (p : Pack) → p ≡ pack_at image (pack_start one) → pack_valid geom image (pack_start one)
      → fields_of p.head geom.nat ≡ head_of (block_at image (head_address (side_of one)))
  head_there one p e valid =
      let head = head_of (block_at image (pack_start one)) in
      ap (λ (q : Pack). fields_of q.head geom.nat) e
      ∙ ap (λ (n : ℕ). record { version = head.version; nat = n; log_start = head.log_start; flags = head.flags; bitmap = head.bitmap }) (sym valid.nat)
      ∙ head_on one

  -- a pack that goes before the one of the other side
  with_pack : (p q : Pack) (one other : Side) → p ≡ q → one ≡ other → IsPackOf geom image other (Some q)
      → (IsValid geom image (other_side (side_of other)) → GoesBefore image (side_of other)) → IsNewestPack geom image p one
  with_pack p q one other pack_is side_is there before =
      subst (λ (s : Side). IsNewestPack geom image p s) (sym side_is) (record {
        newest = record { valid = valid_on other there.0; newest = before };
        head = head_there other p (pack_is ∙ there.1) there.0;
        summary = ap (λ (k : Pack). k.summary) (pack_is ∙ there.1) ∙ summary_on other;
      })

  pub newest_pack : (a b : Option Pack) (p : Pack) (one : Side) → IsPackOf geom image A a → IsPackOf geom image B b → Some (p, one) ≡ newest_of a b → IsNewestPack geom image p one
  newest_pack None None p one in_a in_b e = absurd (cc)
  newest_pack (Some a) None p one in_a in_b e =
      let same = parts (p, one) (a, A) e in
      with_pack p a one A same.0 same.1 in_a (λ valid. absurd (in_b valid))
  newest_pack None (Some b) p one in_a in_b e =
      let same = parts (p, one) (b, B) e in
      with_pack p b one B same.0 same.1 in_b (λ valid. absurd (in_a valid))
  newest_pack (Some a) (Some b) p one in_a in_b e = by_version (p, one) (a, A) (b, B) (nat_lt a.head.version b.head.version) refl e
      (λ same less. with_pack p b one B same.0 same.1 in_b (λ _. omega (arith, less, version_there A a in_a.1, version_there B b in_b.1)))
      (λ same less. with_pack p a one A same.0 same.1 in_a (λ _. omega (arith, less, version_there A a in_a.1, version_there B b in_b.1)))
    where
      by_version : (x y z : Pack × Side) (t : Bool) → nat_lt a.head.version b.head.version ≡ t → Some x ≡ (if t then Some z else Some y)
          → ((x.0 ≡ z.0) × (x.1 ≡ z.1) → a.head.version < b.head.version → IsNewestPack geom image p one) → ((x.0 ≡ y.0) × (x.1 ≡ y.1) → b.head.version ≤ a.head.version → IsNewestPack geom image p one)
          → IsNewestPack geom image p one
      by_version x y z true t e second first = second (parts x z e) (ltb-true a.head.version b.head.version t)
      by_version x y z false t e second first = first (parts x y e) (ltb-false a.head.version b.head.version t)

  -- its log begins in the node zone
  pub log_there : (p : Pack) (one : Side) → IsNewestPack geom image p one → IsTrue (is_in_node geom p.head.log_start)
  log_there p one is = subst (λ (h : HeadFields). IsTrue (is_in_node geom h.log_start)) (sym is.head) is.newest.valid.log_start

  -- where there is none, neither side has one
  pub no_pack : (a b : Option Pack) → IsPackOf geom image A a → IsPackOf geom image B b → newest_of a b ≡ None → IsSized image geom → HasNoCheckpoint image 0
  no_pack None None in_a in_b e sized = record { none = refl; geom = geom; sized = sized; first = in_a; second = in_b }
  no_pack (Some a) None in_a in_b e sized = absurd (cc)
  no_pack None (Some b) in_a in_b e sized = absurd (cc)
  no_pack (Some a) (Some b) in_a in_b e sized = by_version (nat_lt a.head.version b.head.version) (b, B) (a, A) e
    where
      by_version : (t : Bool) (x y : Pack × Side) → (if t then Some x else Some y) ≡ None → HasNoCheckpoint image 0
      by_version true x y e = absurd (cc)
      by_version false x y e = absurd (cc)

-- the checkpoint of which it was read
pub is_start : (image : Image) (start : Start) → IsSized image start.geometry → IsNewestPack start.geometry image start.pack start.side
    → (ckpt : Checkpoint) × (IsCheckpoint image ckpt × IsStartOf start ckpt)
is_start image start sized is =
    let side = side_of start.side in (
      record { geom = start.geometry; side = side; head = head_of (block_at image (head_address side)); summary = block_at image (summary_address side) },
      (
        record { sized = sized; newest = is.newest; head = refl; summary = refl },
        record { geom_is = refl; side_is = refl; head_is = sym is.head; summary_is = sym is.summary },
      ),
    )
