-- The newest pack of an image is its checkpoint's.
use Rattle.std.proofs.Common.{◌≡◌, ℕ, ◌+◌, ◌<◌, ◌≤◌, Bool, true, false, List, refl, sym, ap, ◌∙◌, subst, arith}
use Rattle.std.specs.Prelude.{Option, Some, None, nat_lt, if◌then◌else◌}
use Rattle.std.proofs.lemmas.Bool.{ltb-true, ltb-false}
use Rattle.f2_format.specs.Geometry.{ImageGeometry}
use Rattle.f2_format.specs.Nat.{is_second_copy}
use Rattle.f2_format.specs.Journal.{journal_count}
use Rattle.f2_format.specs.Pack.{HeadFields, head_of}
use Rattle.f2_image.specs.Images.{Image, block_at, IsSized, by_first, by_second}
use Rattle.f2_image.specs.Packs.{Side, A, B, IsValid, IsNewest, Checkpoint, head_address, summary_address, other_side, GoesBefore}
use Rattle.f2_image.specs.Faults.{MOST_VERSION}
use Rattle.f2_model.specs.Tree.{Rows}
use Rattle.f2_pack.specs.Packs.{IsPackOf, IsValid as pack_valid, newest_of, pack_at, pack_start, value_of}
use Rattle.f2_pack.specs.declared.heads.Head.{Head}
use Rattle.f2_pack.specs.declared.packs.Pack.{Pack}
use Rattle.f2_pack.specs.declared.packs.Side as pack
use Rattle.f2_pack.specs.declared.packs.Side.TheVariants as side
use Rattle.f2_laid.specs.Laid.{side_of, IsLaid}
use Rattle.f2_laid.specs.declared.stored.Stored.{Stored}
use Rattle.f2_plain_read.proofs.Telling.{parts}
use Rattle.f2_plain_read.specs.Points.{IsNewestPack, IsPointOf, IsPlain}
use Rattle.f2_plain_read.specs.declared.ckpt.Point.{Point}

module _ (geom : ImageGeometry) (image : Image) where
  -- a pack as it stands on a side
  version_there : (one : pack.Side) (p : Pack) → p ≡ pack_at image (pack_start one) → p.head.version ≡ (head_of (block_at image (pack_start one))).version
  version_there one p e = ap (λ (q : Pack). q.head.version) e

  -- a side in both ways to name it
  valid_on : (one : pack.Side) → pack_valid geom image (pack_start one) → IsValid geom image (side_of one)
  valid_on side.A h = h
  valid_on side.B h = h

  head_on : (one : pack.Side) → value_of (head_of (block_at image (pack_start one))) ≡ value_of (head_of (block_at image (head_address (side_of one))))
  head_on side.A = refl
  head_on side.B = refl

  summary_on : (one : pack.Side) → block_at image (pack_start one + 1) ≡ block_at image (summary_address (side_of one))
  summary_on side.A = refl
  summary_on side.B = refl

  pub newest_pack : (a b : Option Pack) (p : Pack) (one : pack.Side) → IsPackOf geom image side.A a → IsPackOf geom image side.B b → Some (p, one) ≡ newest_of a b
      → IsNewestPack geom image p one
  newest_pack None None p one in_a in_b e = absurd (cc)
  newest_pack (Some a) None p one in_a in_b e =
      let same = parts (p, one) (a, side.A) e in
      let pack_is = same.0 in
      let side_is = same.1 in
      subst (λ (s : pack.Side). IsNewestPack geom image p s) (sym side_is) (record {
        newest = record { valid = in_a.0; newest = λ valid. absurd (in_b valid) };
        head = ap (λ (q : Pack). q.head) (pack_is ∙ in_a.1);
        summary = ap (λ (q : Pack). q.summary) (pack_is ∙ in_a.1);
      })
  newest_pack None (Some b) p one in_a in_b e =
      let same = parts (p, one) (b, side.B) e in
      let pack_is = same.0 in
      let side_is = same.1 in
      subst (λ (s : pack.Side). IsNewestPack geom image p s) (sym side_is) (record {
        newest = record { valid = in_b.0; newest = λ valid. absurd (in_a valid) };
        head = ap (λ (q : Pack). q.head) (pack_is ∙ in_b.1);
        summary = ap (λ (q : Pack). q.summary) (pack_is ∙ in_b.1);
      })
  newest_pack (Some a) (Some b) p one in_a in_b e = by_version (p, one) (a, side.A) (b, side.B) (nat_lt a.head.version b.head.version) refl e
      (λ same less. with_pack b side.B same.0 same.1 in_b (λ _. omega (arith, less, version_there side.A a in_a.1, version_there side.B b in_b.1)))
      (λ same less. with_pack a side.A same.0 same.1 in_a (λ _. omega (arith, less, version_there side.A a in_a.1, version_there side.B b in_b.1)))
    where
      with_pack : (q : Pack) (other : pack.Side) → p ≡ q → one ≡ other → IsPackOf geom image other (Some q) → (IsValid geom image (other_side (side_of other)) → GoesBefore image (side_of other)) → IsNewestPack geom image p one
      with_pack q other pack_is side_is there before =
          subst (λ (s : pack.Side). IsNewestPack geom image p s) (sym side_is) (record {
            newest = record { valid = valid_on other there.0; newest = before };
            head = ap (λ (k : Pack). k.head) (pack_is ∙ there.1) ∙ head_on other;
            summary = ap (λ (k : Pack). k.summary) (pack_is ∙ there.1) ∙ summary_on other;
          })

      by_version : (x y z : Pack × pack.Side) (t : Bool) → nat_lt a.head.version b.head.version ≡ t → Some x ≡ (if t then Some z else Some y)
          → ((x.0 ≡ z.0) × (x.1 ≡ z.1) → a.head.version < b.head.version → IsNewestPack geom image p one) → ((x.0 ≡ y.0) × (x.1 ≡ y.1) → b.head.version ≤ a.head.version → IsNewestPack geom image p one)
          → IsNewestPack geom image p one
      by_version x y z true t e second first = second (parts x z e) (ltb-true a.head.version b.head.version t)
      by_version x y z false t e second first = first (parts x y e) (ltb-false a.head.version b.head.version t)

  pub no_pack : (a b : Option Pack) → IsPackOf geom image side.A a → IsPackOf geom image side.B b → newest_of a b ≡ None → (one : Side) → ¬ (IsValid geom image one)
  no_pack None None in_a in_b e A = in_a
  no_pack None None in_a in_b e B = in_b
  no_pack (Some a) None in_a in_b e one = absurd (cc)
  no_pack None (Some b) in_a in_b e one = absurd (cc)
  no_pack (Some a) (Some b) in_a in_b e one = by_version (nat_lt a.head.version b.head.version) (b, side.B) (a, side.A) e
    where
      by_version : (t : Bool) (x y : Pack × pack.Side) → (if t then Some x else Some y) ≡ None → ¬ (IsValid geom image one)
      by_version true x y e = absurd (cc)
      by_version false x y e = absurd (cc)

-- an image has one size
pub one_size : (image : Image) (a b : ImageGeometry) → IsSized image a → IsSized image b → a ≡ b
one_size image a b (by_first p e) (by_first q f) = e ∙ sym f
one_size image a b (by_first p e) (by_second n q f) = absurd (n p)
one_size image a b (by_second n p e) (by_first q f) = absurd (n q)
one_size image a b (by_second n p e) (by_second m q f) = e ∙ sym f

one_newest : (geom : ImageGeometry) (image : Image) (a b : Side) → IsNewest geom image a → IsNewest geom image b → a ≡ b
one_newest geom image A A p q = refl
one_newest geom image B B p q = refl
one_newest geom image A B p q = absurd (omega (arith, p.newest q.valid, q.newest p.valid))
one_newest geom image B A p q = absurd (omega (arith, p.newest q.valid, q.newest p.valid))

one_side : (a b : pack.Side) → side_of a ≡ side_of b → a ≡ b
one_side side.A side.A e = refl
one_side side.B side.B e = refl
one_side side.A side.B e = absurd (cc)
one_side side.B side.A e = absurd (cc)

module _ (image : Image) (geom : ImageGeometry) (p : Pack) (one : pack.Side) (sized : IsSized image geom) (newest : IsNewestPack geom image p one)
    (tree : Rows) (stored : Stored) (laid : IsLaid image tree stored) where
  abbrev ckpt : Checkpoint
  ckpt = laid.0

  geom_is : geom ≡ ckpt.geom
  geom_is = one_size image geom ckpt.geom sized laid.1.checkpoint.sized

  there : IsNewest geom image ckpt.side
  there = subst (λ (x : ImageGeometry). IsNewest x image ckpt.side) (sym geom_is) laid.1.checkpoint.newest

  side_is : side_of one ≡ ckpt.side
  side_is = one_newest geom image (side_of one) ckpt.side newest.newest there

  head_is : head_of (block_at image (head_address (side_of one))) ≡ ckpt.head
  head_is = ap (λ (s : Side). head_of (block_at image (head_address s))) side_is ∙ sym laid.1.checkpoint.head

  summary_is : p.summary ≡ ckpt.summary
  summary_is = newest.summary ∙ ap (λ (s : Side). block_at image (summary_address s)) side_is ∙ sym laid.1.checkpoint.summary

  bitmap_is : p.head.bitmap ≡ ckpt.head.bitmap
  bitmap_is = ap (λ (h : Head). h.bitmap) newest.head ∙ ap (λ (h : HeadFields). h.bitmap) head_is

  version_is : p.head.version ≡ stored.version
  version_is = ap (λ (h : Head). h.version) newest.head ∙ ap (λ (h : HeadFields). h.version) head_is ∙ laid.1.version

  geometry_is : geom ≡ stored.geometry
  geometry_is = geom_is ∙ laid.1.geom

  -- each block of its table counts in the copy that is told
  one_copy : (block : ℕ) → block < geom.nat → is_second_copy p.head.bitmap block ≡ stored.second
  one_copy block h = ap (λ (bits : List ℕ). is_second_copy bits block) bitmap_is ∙ laid.1.copies block (subst (λ (x : ImageGeometry). block < x.nat) geometry_is h)

  pub plain_pack : (second : Bool) → second ≡ is_second_copy p.head.bitmap 0 → 1 ≤ geom.nat → stored.version ≤ MOST_VERSION → IsPlain p geom.nat second
  plain_pack second first some few =
      record {
        journal = ap journal_count summary_is ∙ laid.1.journal;
        version = omega (arith, version_is);
        copies = λ block h. one_copy block h ∙ sym (first ∙ one_copy 0 (omega arith));
      }

  pub ckpt_is : (got : Point) → got.geometry ≡ geom → got.side ≡ one → got.version ≡ p.head.version → got.second ≡ is_second_copy p.head.bitmap 0 → 1 ≤ geom.nat → IsPointOf stored got
  ckpt_is got geometry side version second some =
      record {
        geometry = geometry ∙ geometry_is;
        side = side ∙ one_side one stored.side (side_is ∙ laid.1.side);
        version = version ∙ version_is;
        second = second ∙ one_copy 0 (omega arith);
      }
